-- Each legal record has one coded type, and each coded type one record.
use Rattle.std.proofs.Common.{◌≡◌, sym, ap, ◌∙◌, ⊎_elim, List, [], ℕ, ◌≤◌, ◌<◌, ◌^◌, arith, length, ltb, eq-eqb, ne_eqb, ltb-false, le-ltb, None, Option, Some}
use Rattle.kinds.specs.declared.refusals.Refusal.TheVariants.{MalformedRecord}
use Rattle.kinds.specs.Answers.{wrote, passed}
use Rattle.kinds.specs.Outcomes.{answer}
use Rattle.kinds.proofs.Compare.{same}
use Rattle.kinds.proofs.Outcomes.{rule_passed}
use Rattle.bits.proofs.Bytes.{Bytes}
use Rattle.coded.specs.declared.variants.Place.{Place}
use Rattle.coded.specs.declared.coded_type.DiagCodedType.{DiagCodedType}
use Rattle.record.specs.Numbers.{be16, record_size, numbers_of}
use Rattle.record.specs.Parsing.{coded_of, coded_in}
use Rattle.storing.specs.Storing.{numbers_for, storing_refusal, stored_record}
use Rattle.storing.proofs.InBytes.{numbers_read, bytes_written}
use Rattle.storing.proofs.InNumbers.{numbers_say, no_others_say}

-- a place is refused unless 16 bits can say it
sayable : (p : Place) → storing_refusal p ≡ passed → (p.at < 65536) × (p.len.0 < 65536)
sayable p z =
    let at = rule_passed (ltb 65535 p.at) MalformedRecord _ z in
    let len = rule_passed (ltb 65535 p.len.0) MalformedRecord _ at.1 in
    let a = ltb-false 65535 p.at at.0 in
    let l = ltb-false 65535 p.len.0 len.0 in
    (omega arith, omega arith)

-- a coded type whose record can say it: lengths of 32 bits, and 42 is not given
pub record Storable (t : DiagCodedType) : Type 0 where
  pub length : (numbers_for t).length < 2 ^ 32
  pub most : (numbers_for t).most < 2 ^ 32
  pub place : storing_refusal (numbers_for t).place ≡ passed

-- the record of a coded type says it
pub stored_parses : (t : DiagCodedType) (old : List ℕ) → Storable t → coded_in (stored_record t old).left ≡ Some t
unfolding stored_record
stored_parses t old h =
    let s = sayable (numbers_for t).place h.place in
    rw (h.place, numbers_read (numbers_for t) h.length h.most s.0 s.1) (numbers_say t)

-- what says a coded type has the size of a record
sized : (s : List ℕ) (t : DiagCodedType) → coded_in s ≡ Some t → (length s ≡ record_size) × (coded_of (numbers_of s) ≡ Some t)
sized s t c =
    ⊎_elim (λ (e : length s ≡ record_size). (e, rw (eq-eqb (length s) record_size e) at c))
    (λ (h : length s ≡ record_size → ⊥).
    let malformed : None ≡ Some t = rw (ne_eqb (length s) record_size h) at c in
    let z : ◌≡◌ {A = ℕ} 0 1 = cc in
    absurd (omega arith))
    (same (length s) record_size)

-- a record that says a coded type is the record of that
pub parsed_stored : (s old : List ℕ) (t : DiagCodedType) → Bytes s → coded_in s ≡ Some t → stored_record t old ≡ answer wrote s
unfolding stored_record
parsed_stored s old t h c =
    let q = sized s t c in
    let n = no_others_say (numbers_of s) t q.1 in
    let at : be16 s 12 ≤ 65535 = omega (arith, h 12, h 13) in
    let len : be16 s 14 ≤ 65535 = omega (arith, h 14, h 15) in
    rw (n, le-ltb 65535 (be16 s 12) at, le-ltb 65535 (be16 s 14) len) (ap (answer wrote) (bytes_written s q.0 h))

-- no two records say one coded type
pub one_record : (s s' : List ℕ) (t : DiagCodedType) → Bytes s → Bytes s' → coded_in s ≡ Some t → coded_in s' ≡ Some t → s ≡ s'
one_record s s' t h h' c c' = ap (λ r. r.left) (sym (parsed_stored s [] t h c) ∙ parsed_stored s' [] t h' c')

-- the coded type, if there is one, or t
abbrev coded_or : DiagCodedType → Option DiagCodedType → DiagCodedType
coded_or t (Some u) = u
coded_or t None = t

-- no two coded types have one record
pub one_coded_type : (t u : DiagCodedType) (old old' : List ℕ) → Storable t → Storable u → (stored_record t old).left ≡ (stored_record u old').left → t ≡ u
one_coded_type t u old old' ht hu e = ap (coded_or t) (sym (stored_parses t old ht) ∙ ap coded_in e ∙ stored_parses u old' hu)
