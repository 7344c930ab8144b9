-- Demand 3 is proved: the three ways to call follow the field layer.
use Rattle.std.proofs.Common.{◌≡◌, refl, sym, ap, ◌∙◌, true, true≢false, List, [], ℕ, ◌≤◌, arith, length, ltb, ltb-false, le-ltb, leb-true}
use Rattle.std.proofs.lemmas.List.{length-replicate}
use Rattle.kinds.specs.declared.refusals.Refusal.TheVariants.{SliceTooLong}
use Rattle.kinds.specs.Answers.{passed}
use Rattle.kinds.specs.Outcomes.{Outcome, gives, lacks, refuses, following, after}
use Rattle.kinds.proofs.Outcomes.{rule_passed, following-after}
use Rattle.kinds.proofs.Rows.{never_0}
use Rattle.coded.specs.declared.variants.StandardLengthType.{StandardLengthType}
use Rattle.coded.specs.declared.variants.DiagCodedTypeVariant.{DiagCodedTypeVariant}
use Rattle.coded.specs.declared.variants.DiagCodedTypeVariant.TheVariants.{LeadingLengthInfo, MinMaxLength, StandardLength, ParamLengthInfo}
use Rattle.coded.specs.declared.coded_type.DiagCodedType.{DiagCodedType}
use Rattle.field.specs.Field.{field_of}
use Rattle.field.specs.Refusals.{slices_refusal, description_refusal}
use Rattle.field.proofs.Slices.{slices_fit}
use Rattle.payload.specs.Payload.{Payload, write_answer}
use Rattle.unpack.specs.Found.{read_answer}
use Rattle.readers.specs.Finding.{field_finding}
use Rattle.writers.specs.Shapes.{field_encoding}
use Rattle.clear.specs.Clear.{field_clearing}
use Rattle.described.specs.Described.{described}
use Rattle.calls.specs.Calls.{Description, by_type, by_record, record_bytes, called, decoded, encoded, cleared_field}
use Rattle.demand_three.specs.Changing.{Placed, field_way, standard_length, placed_as, coded_as, Located, call_way, type_way, record_way, zeros, accepted, Demand3}
use Rattle.demand_three.proofs.Calls.{fine, none_before, accepted_parts}
use Rattle.demand_three.proofs.Following.{Lent, Follows}
use Rattle.demand_three.proofs.Changed.{demand_3_of}

field_follows : Follows field_way
field_follows =
    record { accepts = λ n f e. e; writes = λ n f e v l p h. refl; clears = λ n f e p h. refl; reads = λ n f e payload output h l. refl }

-- ---- calls that are told a description

called_as : {A : Type 0} (d : Description) (store : List ℕ) (a b used : ℕ) (own : DiagCodedType → Outcome A)
    → called d store a b used own ≡ after (slices_refusal (record_bytes d) (length store) a b used) (following (coded_as d) (λ t. described t store own))
called_as {A} d store a b used own =
    following-after (slices_refusal (record_bytes d) (length store) a b used) (coded_as d) (λ t. described t store own)

slices_pass : (bytes store a b used : ℕ) → bytes ≤ 65535 → store ≤ 32768 → a ≤ 65535 → b ≤ 65535 → used ≤ b → slices_refusal bytes store a b used ≡ passed
slices_pass bytes store a b used g h i j k = rw (le-ltb 65535 bytes g, le-ltb 32768 store h, le-ltb 65535 a i, le-ltb 65535 b j, le-ltb b used k)

-- a description of StandardLength that is refused for nothing of its own
record Legal (d : Description) (store : List ℕ) : Type 0 where
  pub coded : DiagCodedType
  pub standard : StandardLengthType
  pub says : coded_as d ≡ gives coded
  pub is_standard : coded.type_ ≡ StandardLength standard
  pub passes : description_refusal coded (length store) ≡ passed
  pub record_size_lem : record_bytes d ≤ 65535
  pub store_size : length store ≤ 32768

module _ (d : Description) (store : List ℕ) (g : Legal d store) where
  called_legal : {A : Type 0} (a b used : ℕ) (own : DiagCodedType → Outcome A) → a ≤ 65535 → b ≤ 65535 → used ≤ b → called d store a b used own ≡ own g.coded
  called_legal a b used own i j k =
      called_as d store a b used own ∙ rw (slices_pass (record_bytes d) (length store) a b used g.record_size_lem g.store_size i j k, g.says, g.passes)

  module _ (at pos : ℕ) where
    abbrev said : Placed
    said = placed_as (coded_as d) store at pos

    write_legal : (v : List ℕ) → length v ≤ 65535 → (p : Payload) → Lent p → encoded d store v p at pos ≡ field_way.write said v p
    unfolding encoded
    write_legal v l p h =
        ap (write_answer p) (called_legal (length v) (length p.bytes) p.used (λ t. field_encoding (field_of t store) v p at pos) l h.limit h.used)
        ∙ rw (g.says, g.is_standard)

    clear_legal : (p : Payload) → Lent p → cleared_field d store p at pos ≡ field_way.clear said p
    unfolding cleared_field
    clear_legal p h =
        ap (write_answer p) (called_legal 0 (length p.bytes) p.used (λ t. field_clearing (field_of t store) p at pos) (omega arith) h.limit h.used)
        ∙ rw (g.says, g.is_standard)

    read_legal : (payload output : List ℕ) → length payload ≤ 65535 → length output ≤ 65535 → decoded d store payload at pos output ≡ field_way.read_back said payload output
    unfolding decoded
    read_legal payload output l h =
        ap (read_answer output) (called_legal (length payload) (length output) 0 (λ t. field_finding (field_of t store) payload at pos) l h (omega arith))
        ∙ rw (g.says, g.is_standard)

-- ---- what an acceptance tells

-- a coded type was found, and its description is refused for nothing
record Coded (o : Outcome DiagCodedType) (store : List ℕ) : Type 0 where
  pub coded : DiagCodedType
  pub says : o ≡ gives coded
  pub passes : description_refusal coded (length store) ≡ passed

coded_fine : (o : Outcome DiagCodedType) (store : List ℕ) (own : DiagCodedType → Outcome Payload) (p : Payload)
    → fine p (following o (λ t. described t store own)) ≡ true → Coded o store
coded_fine (gives t) store own p e = record { coded = t; says = refl; passes = (none_before (description_refusal t (length store)) p (own t) e).0 }
coded_fine (lacks m a) store own p e = absurd (true≢false (sym e))
coded_fine (refuses r) store own p e = absurd (true≢false (sym e ∙ never_0 r))

record IsStandard (v : DiagCodedTypeVariant) : Type 0 where
  pub standard : StandardLengthType
  pub is_standard : v ≡ StandardLength standard

has_length : (v : DiagCodedTypeVariant) → ltb 0 (standard_length v) ≡ true → IsStandard v
has_length (LeadingLengthInfo bits) e = absurd (true≢false (sym e))
has_length (MinMaxLength m) e = absurd (true≢false (sym e))
has_length (StandardLength s) e = record { standard = s; is_standard = refl }
has_length (ParamLengthInfo name) e = absurd (true≢false (sym e))

module _ {A : Type 0} (by : A → Description) (store : List ℕ) where
  accepted_legal : (n : ℕ) (x : Located A) → accepted (call_way by store) n x ≡ true → Legal (by x.description) store × (n ≤ 65535)
  unfolding encoded
  accepted_legal n x e =
      let d : Description = by x.description in
      let size = length-replicate {A = ℕ} n 0 in
      let m : ℕ = length (zeros n).bytes in
      let own : DiagCodedType → Outcome Payload = λ t. field_encoding (field_of t store) [] (zeros n) x.at x.pos in
      let parts = accepted_parts (call_way by store) n x e in
      let next : Outcome Payload = following (coded_as d) (λ t. described t store own) in
      let whole : fine (zeros n) (after (slices_refusal (record_bytes d) (length store) 0 m n) next) ≡ true =
      rw (called_as d store 0 m n own) at parts.number in
      let h = none_before (slices_refusal (record_bytes d) (length store) 0 m n) (zeros n) next whole in
      let fit = slices_fit (record_bytes d) (length store) 0 m n h.0 in
      let c = coded_fine (coded_as d) store own (zeros n) h.1 in
      let some : ltb 0 (standard_length c.coded.type_) ≡ true = rw c.says at parts.some in
      let s = has_length c.coded.type_ some in (
        record {
          coded = c.coded;
          standard = s.standard;
          says = c.says;
          is_standard = s.is_standard;
          passes = c.passes;
          record_size_lem = ltb-false 65535 (record_bytes d) (rule_passed (ltb 65535 (record_bytes d)) SliceTooLong _ h.0).0;
          store_size = fit.0;
        },
        omega (arith, fit.2, size),
      )

  blank_lent : (n : ℕ) → n ≤ 65535 → Lent (zeros n)
  blank_lent n small = let size = length-replicate {A = ℕ} n 0 in record { limit = omega arith; used = omega arith }

  pub call_follows : Follows (call_way by store)
  call_follows =
      record {
        accepts = λ n x e.
            let g = accepted_legal n x e in
            rw (write_legal (by x.description) store g.0 x.at x.pos [] (omega arith) (zeros n) (blank_lent n g.1)) at e;
        writes = λ n x e v l p h. write_legal (by x.description) store (accepted_legal n x e).0 x.at x.pos v (leb-true (length v) 65535 l) p h;
        clears = λ n x e p h. clear_legal (by x.description) store (accepted_legal n x e).0 x.at x.pos p h;
        reads = λ n x e payload output h l. read_legal (by x.description) store (accepted_legal n x e).0 x.at x.pos payload output h (leb-true (length output) 65535 l);
      }

pub demand_3 : Demand3
demand_3 =
    record {
      by_field = demand_3_of field_way field_follows;
      by_type = λ store. demand_3_of (type_way store) (call_follows by_type store);
      by_record = λ store. demand_3_of (record_way store) (call_follows by_record store);
    }
