-- What is known of the slices of a call that is not refused for their sake.
use Rattle.std.proofs.Common.{◌≡◌, ℕ, ◌≤◌, ltb, ltb-false}
use Rattle.kinds.specs.declared.refusals.Refusal.TheVariants.{SliceTooLong, UsedPastSlice}
use Rattle.kinds.proofs.Outcomes.{rule_passed}
use Rattle.field.specs.Refusals.{slices_refusal}
use Rattle.kinds.specs.Answers.{passed}

pub slices_fit : (bytes store a b used : ℕ) → slices_refusal bytes store a b used ≡ passed → (store ≤ 32768) × (a ≤ 65535) × (b ≤ 65535) × (used ≤ b)
slices_fit bytes store a b used e =
    let r = rule_passed (ltb 65535 bytes) SliceTooLong _ e in
    let s = rule_passed (ltb 32768 store) SliceTooLong _ r.1 in
    let x = rule_passed (ltb 65535 a) SliceTooLong _ s.1 in
    let y = rule_passed (ltb 65535 b) SliceTooLong _ x.1 in
    let u = rule_passed (ltb b used) UsedPastSlice _ y.1 in
    (ltb-false 32768 store s.0, ltb-false 65535 a x.0, ltb-false 65535 b y.0, ltb-false b used u.0)
