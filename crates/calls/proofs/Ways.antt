-- What holds of whatever a call makes of its own, holds of whatever the call gives.
use Rattle.std.proofs.Common.{◌≡◌, sym, ap, subst, ◌∙◌, List, ℕ, length, Option, Some}
use Rattle.kinds.specs.Outcomes.{Outcome, gives, after, following}
use Rattle.kinds.proofs.Outcomes.{following-after}
use Rattle.kinds.proofs.Holding.{Holds, holds_after, holds_following}
use Rattle.coded.specs.declared.coded_type.DiagCodedType.{DiagCodedType}
use Rattle.field.specs.Refusals.{slices_refusal, description_refusal}
use Rattle.record.specs.Recorded.{well_formed}
use Rattle.described.specs.Described.{described}
use Rattle.calls.specs.Calls.{Description, coded_said, record_bytes, coded_by, called}

module _ {A : Type 0} (P : A → Type 0) (d : Description) (store : List ℕ) (a b used : ℕ) (own : DiagCodedType → Outcome A) where
  -- what holds of whatever a call makes of its own, holds of whatever the call gives
  pub holds_called : ((t : DiagCodedType) → Holds P (own t)) → Holds P (called d store a b used own)
  holds_called h =
      holds_following P (coded_by d (length store) a b used) (λ t. described t store own) (λ t. holds_after P (description_refusal t (length store)) (own t) (h t))

  -- the same of the one coded type that the description says
  pub holds_said : (t : DiagCodedType) → coded_said d ≡ Some t → Holds P (own t) → Holds P (called d store a b used own)
  holds_said t e h =
      let slices = slices_refusal (record_bytes d) (length store) a b used in
      let next : DiagCodedType → Outcome A = λ s. described s store own in
      subst (λ (o : Outcome A). Holds P o)
      (sym
      (ap (λ (o : Option DiagCodedType). following (after slices (well_formed o)) next) e ∙ following-after slices (gives t) next))
      (holds_after P slices (next t) (holds_after P (description_refusal t (length store)) (own t) h))
