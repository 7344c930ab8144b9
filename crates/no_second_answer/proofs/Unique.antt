-- No second answer fits the contract of a function that users call: what an answer shows decides it. `Learnt` is what a caller learns of the
-- contract, which the toolchain reads from the function's clauses and proves of them: of the lifetimes, of the arguments, of a result, and of
-- the parameters at exit. So a contract that leaves something open breaks its theorem here.
use Rattle.std.proofs.Common.{◌≡◌, refl, sym, ap, ◌∙◌, cond, true≢false, eq-eqb, List, ◌∷◌, ℕ, get_or, drop, eqb, ℤ, Option, Some, None, Result, Ok, Err, IfOk}
use Rattle.std.specs.Borrow.{Bor}
use Rattle.kinds.specs.declared.refusals.Refusal.{Refusal}
use Rattle.kinds.specs.declared.refusals.Refusal.TheVariants.{MalformedTable}
use Rattle.kinds.specs.declared.refusals.Counts.{Counts}
use Rattle.kinds.specs.Answers.{number_of, number_in, numbered, Check, Reading, Writing, no_counts, report_of_check, report_of_reading, report_of_writing}
use Rattle.kinds.specs.Slices.{place_behind}
use Rattle.kinds.specs.Outcomes.{Outcome, gives, lacks, refuses, outcome_of, Answer, answer}
use Rattle.kinds.proofs.Rows.{refusal_of, never_0, refusal_told}
use Rattle.kinds.proofs.Reports.{check_of, check_told, failure_of, failure_told, failure_seen}
use Rattle.parts.specs.Part.{place_or_start}
use Rattle.parts.proofs.OneAnswer.{One, one_part}
use Rattle.calls.specs.Calls.{by_type, name_answer, outcome_of_name, name_start}
use Rattle.payload.specs.Payload.{Payload, payload_of}
use Rattle.kinds.proofs.refusals.Refusal.number.Reads as refusal-number
use Rattle.kinds.proofs.report.Reads as report
use Rattle.classes.proofs.class_of.Reads as class_of
use Rattle.coded.proofs.coded_type.DiagCodedType.validate.Reads as validate
use Rattle.coded.proofs.variants.MinMaxLengthType.new.Reads as new_limits
use Rattle.coded.proofs.variants.MinMaxLengthType.min_length.Reads as min-length
use Rattle.coded.proofs.variants.MinMaxLengthType.max_length.Reads as max-length
use Rattle.coded.proofs.variants.MinMaxLengthType.termination.Reads as termination
use Rattle.coded.proofs.coded_type.DiagCodedType.new.Reads as new
use Rattle.coded.proofs.coded_type.DiagCodedType.new_high_low_byte_order.Reads as new-high-low
use Rattle.coded.proofs.coded_type.DiagCodedType.base_datatype.Reads as base-datatype
use Rattle.coded.proofs.coded_type.DiagCodedType.type_.Reads as type
use Rattle.coded.proofs.coded_type.DiagCodedType.bit_len.Reads as bit-len
use Rattle.coded.proofs.coded_type.DiagCodedType.length_key_place.Reads as length-key-place
use Rattle.record.proofs.coded_by_record.Reads as coded_by_record
use Rattle.storing.proofs.record_of.Reads as record_of
use Rattle.table.proofs.fetch.Reads as fetching
use Rattle.calls.proofs.decode.Reads as decode
use Rattle.calls.proofs.encode.Reads as encode
use Rattle.calls.proofs.clear.Reads as clear
use Rattle.calls.proofs.decode_with_runtime_byte_length.Reads as runtime-read
use Rattle.calls.proofs.length_key_name.Reads as length-key-name
use Rattle.encodings.proofs.forms.EncodingTryFromU32.try_from.Reads as encoding-of
use Rattle.values.proofs.read.Reads as value_read
use Rattle.values.proofs.read_by_code.Reads as value_read_by_code
use Rattle.values.proofs.write.Reads as value-write
use Rattle.values.proofs.write_by_code.Reads as value-write-by-code
use Rattle.dct.proofs.dct_class.Reads as dct-class
use Rattle.dct.proofs.dct_decode.Reads as dct-decode
use Rattle.dct.proofs.dct_encode.Reads as dct-encode
use Rattle.dct.proofs.dct_clear.Reads as dct-clear
use Rattle.dct.proofs.dct_read.Reads as dct-read
use Rattle.dct.proofs.dct_fetch.Reads as dct-fetch
use Rattle.dct.proofs.dct_value_read.Reads as dct-value-read
use Rattle.dct.proofs.dct_value_write.Reads as dct-value-write

-- the law: what an answer shows tells the answer, and so two answers that show the same are one
pub no_second : {A B : Type 0} (shows : A → B) (tells : B → A) {x : B} → ((a : A) → tells (shows a) ≡ a)
    → (a b : A) → shows a ≡ x → shows b ≡ x → a ≡ b
no_second shows tells told a b ea eb = sym (told a) ∙ ap tells (ea ∙ sym eb) ∙ told b

-- ---- what a report tells

abbrev reading_of : List ℕ → Reading
reading_of r =
    cond (eqb (number_in r) 0) (Ok (record { bit_count = record { 0 = get_or r 1 0 }; byte_count = record { 0 = get_or r 2 0 } })) (Err (failure_of r))

reading_told : (r : Reading) → reading_of (report_of_reading r) ≡ r
reading_told (Ok counts) = refl
reading_told (Err f) = rw (failure_seen (λ (counts : Counts). counts) f) (ap Err (failure_told (λ (counts : Counts). counts) f))

abbrev writing_of : List ℕ → Writing
writing_of r = cond (eqb (number_in r) 0) (Ok tt) (Err (failure_of r))

writing_told : (w : Writing) → writing_of (report_of_writing w) ≡ w
writing_told (Ok done) = refl
writing_told (Err f) = rw (failure_seen (λ (done : Unit {0}). no_counts) f) (ap Err (failure_told (λ (done : Unit {0}). no_counts) f))

-- ---- one answer for each kind

-- a result, and what is left
module _ {E A : Type 0} (shows : E → List ℕ) (tells : List ℕ → E) (told : (e : E) → tells (shows e) ≡ e) where
  one_reported : {x : Answer A} (a b : E × A) → answer (shows a.0) a.1 ≡ x → answer (shows b.0) b.1 ≡ x → a ≡ b
  one_reported =
      no_second (λ (a : E × A). answer (shows a.0) a.1) (λ d. (tells d.report, d.left)) (λ a. ap (λ (e : E). (e, a.1)) (told a.0))

-- a number, the counts that stand in an array, and what is left
one_counted : {A : Type 0} {x : Answer A} (a b : ℕ × List ℕ × A) → answer (a.0 ∷ a.1) a.2 ≡ x → answer (b.0 ∷ b.1) b.2 ≡ x → a ≡ b
one_counted {A} = no_second (λ (a : ℕ × List ℕ × A). answer (a.0 ∷ a.1) a.2) (λ s. (number_in s.report, drop 1 s.report, s.left)) (λ a. refl)

-- a number alone, and what is left
one_numbered : {A : Type 0} {x : Answer A} (a b : ℕ × A) → answer (numbered a.0) a.1 ≡ x → answer (numbered b.0) b.1 ≡ x → a ≡ b
one_numbered {A} = no_second (λ (a : ℕ × A). answer (numbered a.0) a.1) (λ s. (number_in s.report, s.left)) (λ a. refl)

-- what is made or refused
module _ {A : Type 0} where
  abbrev made_of : Outcome A → Result A Refusal
  made_of (gives a) = Ok a
  made_of (lacks e a) = Err MalformedTable
  made_of (refuses r) = Err r

  made_told : (r : Result A Refusal) → made_of (outcome_of r) ≡ r
  made_told (Ok a) = refl
  made_told (Err r) = refl

  one_made : {o : Outcome A} (a b : Result A Refusal) → outcome_of a ≡ o → outcome_of b ≡ o → a ≡ b
  one_made = no_second outcome_of made_of made_told

-- a name: the same refusal, or the same bytes at the same place
abbrev pub SameName : Result (Bor (List ℕ)) Refusal → Result (Bor (List ℕ)) Refusal → Type 0
SameName (Ok a) (Ok b) = (a.now ≡ b.now) × (a.ref_ptr ≡ b.ref_ptr)
SameName (Ok a) (Err r) = ⊥
SameName (Err r) (Ok b) = ⊥
SameName (Err r) (Err s) = r ≡ s

no_refusal : (r : Refusal) → number_of r ≡ 0 → ⊥
no_refusal r e = true≢false (sym (eq-eqb (number_of r) 0 e) ∙ never_0 r)

same_name : (place : ℕ × ℕ) (r r' : Result (Bor (List ℕ)) Refusal) → name_answer (outcome_of_name r) ≡ name_answer (outcome_of_name r') → IfOk r (λ n. n.ref_ptr ≡ place) → IfOk r' (λ n. n.ref_ptr ≡ place) → SameName r r'
same_name place (Ok a) (Ok b) e l l' = (ap (λ (s : Answer (List ℕ)). s.left) e, l ∙ sym l')
same_name place (Ok a) (Err r) e l l' = no_refusal r (sym (ap (λ (s : Answer (List ℕ)). number_in s.report) e))
same_name place (Err r) (Ok b) e l l' = no_refusal r (ap (λ (s : Answer (List ℕ)). number_in s.report) e)
same_name place (Err r) (Err s) e l l' = sym (refusal_told r) ∙ ap (λ (a : Answer (List ℕ)). refusal_of (number_in a.report)) e ∙ refusal_told s

-- the name that is handed back, if there is one
abbrev pub given_name : Result (Bor (List ℕ)) Refusal → Option (Bor (List ℕ))
given_name (Ok name) = Some name
given_name (Err refusal) = None

-- two answers of one store: number and bytes are the same, the refusal or the name is, and so is the place, which is that of the empty part where
-- there is a refusal
abbrev pub OneName : Bor (List ℕ) → Result (Bor (List ℕ)) Refusal → Result (Bor (List ℕ)) Refusal → Type 0
OneName store r r' =
    (name_answer (outcome_of_name r) ≡ name_answer (outcome_of_name r')) × SameName r r' × (place_or_start (given_name r) store ≡ place_or_start (given_name r') store)

one_start : (store : Bor (List ℕ)) (r r' : Result (Bor (List ℕ)) Refusal) → SameName r r' → place_or_start (given_name r) store ≡ place_or_start (given_name r') store
one_start store (Ok a) (Ok b) s = s.1
one_start store (Ok a) (Err q) s = absurd s
one_start store (Err q) (Ok b) s = absurd s
one_start store (Err q) (Err w) s = refl

one_name : (store : Bor (List ℕ)) (place : ℕ × ℕ) (r r' : Result (Bor (List ℕ)) Refusal) → name_answer (outcome_of_name r) ≡ name_answer (outcome_of_name r') → IfOk r (λ n. n.ref_ptr ≡ place) → IfOk r' (λ n. n.ref_ptr ≡ place) → OneName store r r'
one_name store place r r' e l l' =
    let same = same_name place r r' e l l' in (e, same, one_start store r r' same)

-- ---- what users call, one function after the other

-- a decode: the answer, and the output
pub decode_one : (T : _) (L : _) (G : _) (D : _) (κs : _) (args : _) (r r' : _) (e e' : _) → decode.Learnt T L G D κs args r e → decode.Learnt T L G D κs args r' e' → ◌≡◌ {A = Reading × List ℕ} (r, e.1.1.1.1.1.0.now) (r', e'.1.1.1.1.1.0.now)
decode_one T L G D κs args r r' e e' h h' = one_reported report_of_reading reading_of reading_told (r, e.1.1.1.1.1.0.now) (r', e'.1.1.1.1.1.0.now) h h'

-- an encode: the answer, the payload and the used length
pub encode_one : (T : _) (L : _) (G : _) (D : _) (κs : _) (args : _) (r r' : _) (e e' : _) → encode.Learnt T L G D κs args r e → encode.Learnt T L G D κs args r' e' → ◌≡◌ {A = Writing × Payload} (r, payload_of e.1.1.1.0.now e.1.1.1.1.0.now) (r', payload_of e'.1.1.1.0.now e'.1.1.1.1.0.now)
encode_one T L G D κs args r r' e e' h h' = one_reported report_of_writing writing_of writing_told (r, payload_of e.1.1.1.0.now e.1.1.1.1.0.now) (r', payload_of e'.1.1.1.0.now e'.1.1.1.1.0.now) h h'

-- a clear: the answer and the payload; the used length is not lent
pub clear_one : (T : _) (L : _) (G : _) (D : _) (κs : _) (args : _) (r r' : _) (e e' : _) → clear.Learnt T L G D κs args r e → clear.Learnt T L G D κs args r' e' → ◌≡◌ {A = Writing × Payload} (r, payload_of e.1.1.0.now args.1.1.1.0) (r', payload_of e'.1.1.0.now args.1.1.1.0)
clear_one T L G D κs args r r' e e' h h' = one_reported report_of_writing writing_of writing_told (r, payload_of e.1.1.0.now args.1.1.1.0) (r', payload_of e'.1.1.0.now args.1.1.1.0) h h'

-- a runtime read: number, report, bytes and place
pub runtime_read_one : (T : _) (L : _) (G : _) (D : _) (κs : _) (args : _) (r r' : _) (e e' : _) → runtime-read.Learnt T L G D κs args r e → runtime-read.Learnt T L G D κs args r' e' → One args.1.1.0 r r'
runtime_read_one T L G D κs args r r' e e' h h' = one_part args.1.1.1.0 args.1.1.0 r r' (h.0 ∙ sym h'.0) h.1 h'.1

-- a key name: number, bytes and place
pub length_key_name_one : (κs : _) (args : _) (r r' : _) (e e' : _) → length-key-name.Learnt κs args r e → length-key-name.Learnt κs args r' e' → OneName args.1.0 r r'
length_key_name_one κs args r r' e e' h h' = one_name args.1.0 (place_behind (name_start (by_type args.0) args.1.0.now) args.1.0.ref_ptr) r r' (h.0 ∙ sym h'.0) h.1 h'.1

-- what is made
pub new_limits_one : (κs : _) (args : _) (r r' : _) (e e' : _) → new_limits.Learnt κs args r e → new_limits.Learnt κs args r' e' → r ≡ r'
new_limits_one κs args r r' e e' h h' = one_made r r' h h'

pub new_one : (κs : _) (args : _) (r r' : _) (e e' : _) → new.Learnt κs args r e → new.Learnt κs args r' e' → r ≡ r'
new_one κs args r r' e e' h h' = one_made r r' h h'

pub new_high_low_one : (κs : _) (args : _) (r r' : _) (e e' : _) → new-high-low.Learnt κs args r e → new-high-low.Learnt κs args r' e' → r ≡ r'
new_high_low_one κs args r r' e e' h h' = one_made r r' h h'

pub coded_by_record_one : (κs : _) (args : _) (r r' : _) (e e' : _) → coded_by_record.Learnt κs args r e → coded_by_record.Learnt κs args r' e' → r ≡ r'
coded_by_record_one κs args r r' e e' h h' = one_made r r' h.0 h'.0

pub fetch_one : (κs : _) (args : _) (r r' : _) (e e' : _) → fetching.Learnt κs args r e → fetching.Learnt κs args r' e' → r ≡ r'
fetch_one κs args r r' e e' h h' = one_made r r' h h'

-- a record that is written: the answer and its bytes
pub record_of_one : (κs : _) (args : _) (r r' : _) (e e' : _) → record_of.Learnt κs args r e → record_of.Learnt κs args r' e' → ◌≡◌ {A = Check × List ℕ} (r, e.1.0.now) (r', e'.1.0.now)
record_of_one κs args r r' e e' h h' = one_reported report_of_check check_of check_told (r, e.1.0.now) (r', e'.1.0.now) h h'

-- a value that is read: the answer and the value; one that is written: the answer and the bytes
pub value_read_one : (κs : _) (args : _) (r r' : _) (e e' : _) → value_read.Learnt κs args r e → value_read.Learnt κs args r' e' → ◌≡◌ {A = Check × ℤ} (r, e.1.1.1.0.now) (r', e'.1.1.1.0.now)
value_read_one κs args r r' e e' h h' = one_reported report_of_check check_of check_told (r, e.1.1.1.0.now) (r', e'.1.1.1.0.now) h h'

pub value_read_by_code_one : (κs : _) (args : _) (r r' : _) (e e' : _) → value_read_by_code.Learnt κs args r e → value_read_by_code.Learnt κs args r' e' → ◌≡◌ {A = Check × ℤ} (r, e.1.1.1.0.now) (r', e'.1.1.1.0.now)
value_read_by_code_one κs args r r' e e' h h' = one_reported report_of_check check_of check_told (r, e.1.1.1.0.now) (r', e'.1.1.1.0.now) h h'

pub value_write_one : (κs : _) (args : _) (r r' : _) (e e' : _) → value-write.Learnt κs args r e → value-write.Learnt κs args r' e' → ◌≡◌ {A = Check × List ℕ} (r, e.1.1.1.0.now) (r', e'.1.1.1.0.now)
value_write_one κs args r r' e e' h h' = one_reported report_of_check check_of check_told (r, e.1.1.1.0.now) (r', e'.1.1.1.0.now) h h'

pub value_write_by_code_one : (κs : _) (args : _) (r r' : _) (e e' : _) → value-write-by-code.Learnt κs args r e → value-write-by-code.Learnt κs args r' e' → ◌≡◌ {A = Check × List ℕ} (r, e.1.1.1.0.now) (r', e'.1.1.1.0.now)
value_write_by_code_one κs args r r' e e' h h' = one_reported report_of_check check_of check_told (r, e.1.1.1.0.now) (r', e'.1.1.1.0.now) h h'

pub encoding_of_one : (κs : _) (args : _) (r r' : _) (e e' : _) → encoding-of.Learnt κs args r e → encoding-of.Learnt κs args r' e' → r ≡ r'
encoding_of_one κs args r r' e e' h h' = h ∙ sym h'

-- the getters
pub min_length_one : (κs : _) (args : _) (r r' : _) (e e' : _) → min-length.Learnt κs args r e → min-length.Learnt κs args r' e' → r ≡ r'
min_length_one κs args r r' e e' h h' = h ∙ sym h'

pub max_length_one : (κs : _) (args : _) (r r' : _) (e e' : _) → max-length.Learnt κs args r e → max-length.Learnt κs args r' e' → r ≡ r'
max_length_one κs args r r' e e' h h' = h ∙ sym h'

pub termination_one : (κs : _) (args : _) (r r' : _) (e e' : _) → termination.Learnt κs args r e → termination.Learnt κs args r' e' → r ≡ r'
termination_one κs args r r' e e' h h' = h ∙ sym h'

pub base_datatype_one : (κs : _) (args : _) (r r' : _) (e e' : _) → base-datatype.Learnt κs args r e → base-datatype.Learnt κs args r' e' → r ≡ r'
base_datatype_one κs args r r' e e' h h' = h ∙ sym h'

pub type_one : (κs : _) (args : _) (r r' : _) (e e' : _) → type.Learnt κs args r e → type.Learnt κs args r' e' → r ≡ r'
type_one κs args r r' e e' h h' = h ∙ sym h'

pub bit_len_one : (κs : _) (args : _) (r r' : _) (e e' : _) → bit-len.Learnt κs args r e → bit-len.Learnt κs args r' e' → r ≡ r'
bit_len_one κs args r r' e e' h h' = h ∙ sym h'

pub length_key_place_one : (κs : _) (args : _) (r r' : _) (e e' : _) → length-key-place.Learnt κs args r e → length-key-place.Learnt κs args r' e' → r ≡ r'
length_key_place_one κs args r r' e e' h h' = h ∙ sym h'

-- what C calls: the result, the report, and what is left
pub dct_decode_one : (κs : _) (args : _) (r r' : _) (e e' : _) → dct-decode.Learnt κs args r e → dct-decode.Learnt κs args r' e' → ◌≡◌ {A = ℕ × List ℕ × List ℕ} (r, e.1.1.1.1.1.1.0.now, e.1.1.1.1.1.0.now) (r', e'.1.1.1.1.1.1.0.now, e'.1.1.1.1.1.0.now)
dct_decode_one κs args r r' e e' h h' = one_counted (r, e.1.1.1.1.1.1.0.now, e.1.1.1.1.1.0.now) (r', e'.1.1.1.1.1.1.0.now, e'.1.1.1.1.1.0.now) h h'

pub dct_encode_one : (κs : _) (args : _) (r r' : _) (e e' : _) → dct-encode.Learnt κs args r e → dct-encode.Learnt κs args r' e' → ◌≡◌ {A = ℕ × List ℕ × Payload} (r, e.1.1.1.1.1.1.1.0.now, payload_of e.1.1.1.0.now e.1.1.1.1.0.now) (r', e'.1.1.1.1.1.1.1.0.now, payload_of e'.1.1.1.0.now e'.1.1.1.1.0.now)
dct_encode_one κs args r r' e e' h h' = one_counted (r, e.1.1.1.1.1.1.1.0.now, payload_of e.1.1.1.0.now e.1.1.1.1.0.now) (r', e'.1.1.1.1.1.1.1.0.now, payload_of e'.1.1.1.0.now e'.1.1.1.1.0.now) h h'

pub dct_clear_one : (κs : _) (args : _) (r r' : _) (e e' : _) → dct-clear.Learnt κs args r e → dct-clear.Learnt κs args r' e' → ◌≡◌ {A = ℕ × List ℕ × Payload} (r, e.1.1.1.1.1.1.0.now, payload_of e.1.1.0.now args.1.1.1.0) (r', e'.1.1.1.1.1.1.0.now, payload_of e'.1.1.0.now args.1.1.1.0)
dct_clear_one κs args r r' e e' h h' = one_counted (r, e.1.1.1.1.1.1.0.now, payload_of e.1.1.0.now args.1.1.1.0) (r', e'.1.1.1.1.1.1.0.now, payload_of e'.1.1.0.now args.1.1.1.0) h h'

pub dct_read_one : (κs : _) (args : _) (r r' : _) (e e' : _) → dct-read.Learnt κs args r e → dct-read.Learnt κs args r' e' → ◌≡◌ {A = ℕ × List ℕ × ℕ} (r, e.1.1.1.1.1.1.0.now, e.1.1.1.1.1.0.now) (r', e'.1.1.1.1.1.1.0.now, e'.1.1.1.1.1.0.now)
dct_read_one κs args r r' e e' h h' = one_counted (r, e.1.1.1.1.1.1.0.now, e.1.1.1.1.1.0.now) (r', e'.1.1.1.1.1.1.0.now, e'.1.1.1.1.1.0.now) h h'

pub dct_fetch_one : (κs : _) (args : _) (r r' : _) (e e' : _) → dct-fetch.Learnt κs args r e → dct-fetch.Learnt κs args r' e' → ◌≡◌ {A = ℕ × List ℕ} (r, e.1.1.0.now) (r', e'.1.1.0.now)
dct_fetch_one κs args r r' e e' h h' = one_numbered (r, e.1.1.0.now) (r', e'.1.1.0.now) h h'

pub dct_value_read_one : (κs : _) (args : _) (r r' : _) (e e' : _) → dct-value-read.Learnt κs args r e → dct-value-read.Learnt κs args r' e' → ◌≡◌ {A = ℕ × ℤ} (r, e.1.1.1.0.now) (r', e'.1.1.1.0.now)
dct_value_read_one κs args r r' e e' h h' = one_numbered (r, e.1.1.1.0.now) (r', e'.1.1.1.0.now) h h'

pub dct_value_write_one : (κs : _) (args : _) (r r' : _) (e e' : _) → dct-value-write.Learnt κs args r e → dct-value-write.Learnt κs args r' e' → ◌≡◌ {A = ℕ × List ℕ} (r, e.1.1.1.0.now) (r', e'.1.1.1.0.now)
dct_value_write_one κs args r r' e e' h h' = one_numbered (r, e.1.1.1.0.now) (r', e'.1.1.1.0.now) h h'

-- the class of a number
pub dct_class_one : (κs : _) (args : _) (r r' : _) (e e' : _) → dct-class.Learnt κs args r e → dct-class.Learnt κs args r' e' → r ≡ r'
dct_class_one κs args r r' e e' h h' = h ∙ sym h'

-- what an answer is told as: its number, and the report
pub refusal_number_one : (κs : _) (args : _) (r r' : _) (e e' : _) → refusal-number.Learnt κs args r e → refusal-number.Learnt κs args r' e' → r ≡ r'
refusal_number_one κs args r r' e e' h h' = h ∙ sym h'

pub report_one : (T : _) (L : _) (G : _) (D : _) (κs : _) (args : _) (r r' : _) (e e' : _) → report.Learnt T L G D κs args r e → report.Learnt T L G D κs args r' e' → ◌≡◌ {A = List ℕ} (r ∷ e.1.0.now) (r' ∷ e'.1.0.now)
report_one T L G D κs args r r' e e' h h' = h ∙ sym h'

pub validate_one : (κs : _) (args : _) (r r' : _) (e e' : _) → validate.Learnt κs args r e → validate.Learnt κs args r' e' → r ≡ r'
validate_one κs args r r' e e' h h' = h ∙ sym h'

pub class_of_one : (κs : _) (args : _) (r r' : _) (e e' : _) → class_of.Learnt κs args r e → class_of.Learnt κs args r' e' → r ≡ r'
class_of_one κs args r r' e e' h h' = h ∙ sym h'
