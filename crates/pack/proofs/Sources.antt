-- What the code reads by index is the source, with the same size and mask and the same bits below that size, and a field's packing keeps
-- its bounds.
use Rattle.std.proofs.Common.{◌≡◌, refl, sym, ap, ap₂, ◌∙◌, ⊎_elim, Bool, true, false, cond, not, ◌&&◌, List, ◌++◌, append-nil, ℕ, ◌+◌, ◌-◌, ◌*◌, ◌%◌, ◌≤◌, ◌<◌, min, arith, length, take, drop, replicate, length-append, length-take, length-drop, eqb, ltb, leb, lt-ltb, le-ltb}
use Rattle.std.proofs.lemmas.List.{length-replicate, take_min}
use Rattle.std.proofs.Math.Nat.{min_comm}
use lib.Seq.{take-length}
use Rattle.kinds.specs.declared.types.DataType.{DataType}
use Rattle.kinds.specs.Types.{is_byte_type, bytes_for}
use Rattle.kinds.proofs.Compare.{below}
use Rattle.bits.specs.Bits.{bit, bit_at, packed}
use Rattle.bits.proofs.Numbers.{bit-lt, bit_of_zero}
use Rattle.bits.proofs.Bytes.{bit_at_out, bit_at-packed, length-packed}
use Rattle.bits.proofs.Runs.{bit_at-append_low, bit_at-append_high, bit_at-replicate, bit_at-drop}
use Rattle.masks.specs.Mask.{Mask, no_mask, plain_mask, condensed_mask}
use Rattle.masks.specs.Plain.{bit_of_mask}
use Rattle.condensed.specs.Condensed.{replaced}
use Rattle.pack.specs.declared.Packing.{Packing}
use Rattle.pack.specs.Source.{Source, bytes_source, last_bytes, first_bytes, standard_bits, size_under, standard_source, behind_length, terminated}
use Rattle.pack.specs.CodePacking.{framed_bit, packed_bit, packed_source, framing, aligning, packing}

-- two sources that are written alike
abbrev pub Alike : Source → Source → Type 0
Alike s s' = (s.size ≡ s'.size) × (s.mask ≡ s'.mask) × ((i : ℕ) → i < s.size → s.bits i ≡ s'.bits i)

-- ---- the parts of what is framed

module _ (p : Packing) (xs : List ℕ) (i : ℕ) where
  -- the data and the tail
  pub framed_low : i < 8 * (length xs + p.tail_len.0) → framed_bit p xs i ≡ bit_at (xs ++ replicate p.tail_len.0 p.tail) i
  unfolding framed_bit
  framed_low h =
      let len = length-replicate p.tail_len.0 p.tail in
      let tail = replicate p.tail_len.0 p.tail in
      ⊎_elim
      (λ (l : i < 8 * p.tail_len.0). rw (lt-ltb i (8 * p.tail_len.0) l) (sym (bit_at-append_low xs tail i (omega arith) ∙ bit_at-replicate p.tail_len.0 p.tail i l)))
      (λ (l : 8 * p.tail_len.0 ≤ i).
      rw (le-ltb i (8 * p.tail_len.0) l, lt-ltb (i - 8 * p.tail_len.0) (8 * length xs) (omega arith)) (sym (bit_at-append_high xs tail i (omega arith) ∙ rw len)))
      (below i (8 * p.tail_len.0))

  -- the head, of which k bits are below
  pub framed_high : (k : ℕ) → i ≡ 8 * (length xs + p.tail_len.0) + k → framed_bit p xs i ≡ cond (ltb k 64) (bit p.head k) 0
  unfolding framed_bit
  framed_high k e =
      let above : i - 8 * p.tail_len.0 - 8 * length xs ≡ k = omega arith in
      rw (le-ltb i (8 * p.tail_len.0) (omega arith), le-ltb (i - 8 * p.tail_len.0) (8 * length xs) (omega arith), above)

-- ---- whole bytes

-- no bit of the last byte is above 7
none_above : (i : ℕ) → (ltb i 8 && leb 8 i) ≡ false
none_above i = grind arith

pub packed_whole : (p : Packing) (xs : List ℕ) (i : ℕ) → p.last_bits.0 ≡ 8 → packed_bit p xs i ≡ framed_bit p xs i
unfolding packed_bit
packed_whole p xs i e = rw (e, none_above i)

pub leading_alike : (bits : ℕ) (input : List ℕ) → bits ≤ 64
    → Alike (packed_source (framing (8 * (bytes_for bits + length input)) (length input) (length input) 0 0) no_mask input) (bytes_source (behind_length bits input))
leading_alike bits input h =
    let p = framing (8 * (bytes_for bits + length input)) (length input) (length input) 0 0 in
    let head = packed (bytes_for bits) (bit (length input)) in (
      rw (length-append, length-packed),
      refl,
      λ i l.
          let k = i - 8 * length input in
          packed_whole p input i refl ∙ ⊎_elim
          (λ (m : i < 8 * length input). framed_low p input i (omega arith) ∙ rw append-nil (sym (bit_at-append_low head input i m)))
          (λ (m : 8 * length input ≤ i).
          framed_high p input i k (omega arith)
          ∙ rw (lt-ltb k 64 (omega arith)) (sym (bit_at-append_high head input i m ∙ bit_at-packed (bytes_for bits) (bit (length input)) (bit-lt (length input)) k (omega arith))))
          (below i (8 * length input)),
    )

pub terminated_alike : (input : List ℕ) (n x : ℕ)
    → Alike (packed_source (framing (8 * (length input + n)) 0 (length input) x n) no_mask input) (bytes_source (terminated input n x))
terminated_alike input n x =
    let p = framing (8 * (length input + n)) 0 (length input) x n in
    (rw (length-append, length-replicate), refl, λ i l. packed_whole p input i refl ∙ framed_low p input i l)

-- ---- Standard

-- how the code tells which bits of the last byte are dropped
dropped : (r i : ℕ) → (ltb i 8 && leb (cond (eqb r 0) 8 r) i) ≡ (not (eqb r 0) && (leb r i && ltb i 8))
dropped r i = grind arith

-- the input's last bytes have its lowest bits, and the zeros in front are what it has no bits for
last_bytes_bits : (n : ℕ) (input : List ℕ) (i : ℕ) → i < 8 * n → bit_at (last_bytes n input) i ≡ bit_at input i
last_bytes_bits n input i h =
    let zeros : List ℕ = replicate (n - length input) 0 in
    let rest = drop (length input - n) input in
    let len = length-drop (length input - n) input in
    ⊎_elim
    (λ (l : i < 8 * length rest). bit_at-append_low zeros rest i l ∙ bit_at-drop (length input - n) input i (omega arith))
    (λ (l : 8 * length rest ≤ i).
    bit_at-append_high zeros rest i l
    ∙ bit_at-replicate (n - length input) 0 (i - 8 * length rest) (omega arith)
    ∙ bit_of_zero ((i - 8 * length rest) % 8)
    ∙ sym (bit_at_out input i (omega arith)))
    (below i (8 * length rest))

-- a head of 0 has no bits
headless : (t : Bool) (k : ℕ) → cond t (bit 0 k) 0 ≡ 0
headless t k = grind (arith, bit_of_zero)

module _ (len : ℕ) (input : List ℕ) (i : ℕ) (h : i < len) where
  framed_aligned : (byte_type : Bool) → framed_bit (aligning byte_type len (length input)) (take (aligning byte_type len (length input)).data_len.0 input) i
      ≡ bit_at (cond byte_type (first_bytes (bytes_for len) input) (last_bytes (bytes_for len) input)) i
  framed_aligned true =
      let given = ap (λ (n : ℕ). take n input) (min_comm (length input) (bytes_for len)) ∙ take_min (bytes_for len) input in
      rw given
      (framed_low (aligning true len (length input)) (take (bytes_for len) input) i (rw length-take (omega arith)))
  framed_aligned false =
      let p = aligning false len (length input) in
      let k = i - 8 * length input in
      rw (take-length, last_bytes_bits (bytes_for len) input i (omega arith))
      (⊎_elim (λ (l : i < 8 * length input). framed_low p input i (omega arith) ∙ rw append-nil)
      (λ (l : 8 * length input ≤ i). framed_high p input i k (omega arith) ∙ headless (ltb k 64) k ∙ sym (bit_at_out input i (omega arith)))
      (below i (8 * length input)))

  packed-aligned : (t : DataType) → packed_bit (aligning (is_byte_type t) len (length input)) (take (aligning (is_byte_type t) len (length input)).data_len.0 input) i
      ≡ standard_bits t len input i
  unfolding packed_bit standard_bits
  packed-aligned t = ap₂ (λ (d : Bool) (x : ℕ). cond d 0 x) (dropped (len % 8) i) (framed_aligned (is_byte_type t))

pub standard_alike : (t : DataType) (len : ℕ) (mask : Mask) (input : List ℕ)
    → Alike (packed_source (packing mask (is_byte_type t) len (length input)) mask (take (packing mask (is_byte_type t) len (length input)).data_len.0 input))
    (standard_source t len mask input)
standard_alike t len no_mask input = (refl, refl, λ i l. packed-aligned len input i l t)
standard_alike t len (plain_mask mask) input = (refl, refl, λ i l. ap (λ (x : ℕ). min x (bit_of_mask mask i)) (packed-aligned len input i l t))
standard_alike t len (condensed_mask mask) input = (refl, refl, λ i l. ap (λ (xs : List ℕ). replaced mask xs i) (take-length input))

-- ---- a field's packing

-- no more data than there is, and no more zeros behind them than the field has bytes
aligned-within : (byte_type : Bool) (len n : ℕ) → ((aligning byte_type len n).data_len.0 ≤ n) × ((aligning byte_type len n).tail_len.0 ≤ bytes_for len)
aligned-within true len n = (omega arith, omega arith)
aligned-within false len n = (omega arith, omega arith)

-- and the size is the one under the mask
pub packed-within : (p : Packing) (mask : Mask) (byte_type : Bool) (len n : ℕ) → p ≡ packing mask byte_type len n
    → (p.data_len.0 ≤ n) × (p.tail_len.0 ≤ bytes_for len) × (p.bit_len.0 ≡ size_under mask p.bit_len.0)
packed-within p no_mask byte_type len n e = let w = aligned-within byte_type len n in rw e (w.0, w.1, refl)
packed-within p (plain_mask mask) byte_type len n e = let w = aligned-within byte_type len n in rw e (w.0, w.1, refl)
packed-within p (condensed_mask mask) byte_type len n e = rw e (omega arith, omega arith, refl)

pub packing_size : (mask : Mask) (byte_type : Bool) (len n : ℕ) → (packing mask byte_type len n).bit_len.0 ≡ size_under mask len
packing_size no_mask byte_type len n = refl
packing_size (plain_mask mask) byte_type len n = refl
packing_size (condensed_mask mask) byte_type len n = refl
