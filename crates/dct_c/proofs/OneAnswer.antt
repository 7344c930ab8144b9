-- No second answer fits the contract of a function that C calls: it says what `dct`'s says, and so `dct`'s theorems hold of it. `Learnt` is
-- what a caller learns of the contract, which the toolchain reads from the function's clauses.
use Rattle.std.proofs.Common.{◌≡◌, List, ℕ, ℤ}
use Rattle.payload.specs.Payload.{Payload, payload_of}
use Rattle.no_second_answer.proofs.Unique as unique
use Rattle.dct_c.proofs.dct_decode.Reads as dct-decode
use Rattle.dct_c.proofs.dct_encode.Reads as dct-encode
use Rattle.dct_c.proofs.dct_clear.Reads as dct-clear
use Rattle.dct_c.proofs.dct_read.Reads as dct-read
use Rattle.dct_c.proofs.dct_fetch.Reads as dct-fetch
use Rattle.dct_c.proofs.dct_value_read.Reads as dct-value-read
use Rattle.dct_c.proofs.dct_value_write.Reads as dct-value-write
use Rattle.dct_c.proofs.dct_class.Reads as dct-class

pub dct_decode_one : (κs : _) (args : _) (r r' : _) (e e' : _) → dct-decode.Learnt κs args r e → dct-decode.Learnt κs args r' e' → ◌≡◌ {A = ℕ × List ℕ × List ℕ} (r, e.1.1.1.1.1.1.0.now, e.1.1.1.1.1.0.now) (r', e'.1.1.1.1.1.1.0.now, e'.1.1.1.1.1.0.now)
dct_decode_one = unique.dct_decode_one

pub dct_encode_one : (κs : _) (args : _) (r r' : _) (e e' : _) → dct-encode.Learnt κs args r e → dct-encode.Learnt κs args r' e' → ◌≡◌ {A = ℕ × List ℕ × Payload} (r, e.1.1.1.1.1.1.1.0.now, payload_of e.1.1.1.0.now e.1.1.1.1.0.now) (r', e'.1.1.1.1.1.1.1.0.now, payload_of e'.1.1.1.0.now e'.1.1.1.1.0.now)
dct_encode_one = unique.dct_encode_one

pub dct_clear_one : (κs : _) (args : _) (r r' : _) (e e' : _) → dct-clear.Learnt κs args r e → dct-clear.Learnt κs args r' e' → ◌≡◌ {A = ℕ × List ℕ × Payload} (r, e.1.1.1.1.1.1.0.now, payload_of e.1.1.0.now args.1.1.1.0) (r', e'.1.1.1.1.1.1.0.now, payload_of e'.1.1.0.now args.1.1.1.0)
dct_clear_one = unique.dct_clear_one

pub dct_read_one : (κs : _) (args : _) (r r' : _) (e e' : _) → dct-read.Learnt κs args r e → dct-read.Learnt κs args r' e' → ◌≡◌ {A = ℕ × List ℕ × ℕ} (r, e.1.1.1.1.1.1.0.now, e.1.1.1.1.1.0.now) (r', e'.1.1.1.1.1.1.0.now, e'.1.1.1.1.1.0.now)
dct_read_one = unique.dct_read_one

pub dct_fetch_one : (κs : _) (args : _) (r r' : _) (e e' : _) → dct-fetch.Learnt κs args r e → dct-fetch.Learnt κs args r' e' → ◌≡◌ {A = ℕ × List ℕ} (r, e.1.1.0.now) (r', e'.1.1.0.now)
dct_fetch_one = unique.dct_fetch_one

pub dct_value_read_one : (κs : _) (args : _) (r r' : _) (e e' : _) → dct-value-read.Learnt κs args r e → dct-value-read.Learnt κs args r' e' → ◌≡◌ {A = ℕ × ℤ} (r, e.1.1.1.0.now) (r', e'.1.1.1.0.now)
dct_value_read_one = unique.dct_value_read_one

pub dct_value_write_one : (κs : _) (args : _) (r r' : _) (e e' : _) → dct-value-write.Learnt κs args r e → dct-value-write.Learnt κs args r' e' → ◌≡◌ {A = ℕ × List ℕ} (r, e.1.1.1.0.now) (r', e'.1.1.1.0.now)
dct_value_write_one = unique.dct_value_write_one

pub dct_class_one : (κs : _) (args : _) (r r' : _) (e e' : _) → dct-class.Learnt κs args r e → dct-class.Learnt κs args r' e' → r ≡ r'
dct_class_one = unique.dct_class_one
