-- Calls that are lent nothing to change: they make something, or refuse with a number, and never with 30.
use Rattle.std.proofs.Common.{◌≡◌, refl, inl, inr, List, [], ◌∷◌, ℕ, ◌+◌, length, ltb, leb, Option, Some, None, Ok, Err}
use Rattle.std.proofs.lemmas.Bool.{eqb-false}
use Rattle.kinds.specs.declared.refusals.Refusal.{Refusal}
use Rattle.kinds.specs.declared.refusals.Refusal.TheVariants.{MalformedRecord, SliceTooLong, MalformedTable}
use Rattle.kinds.specs.Slices.{cut}
use Rattle.kinds.specs.Answers.{Check, number_of}
use Rattle.kinds.specs.Outcomes.{rule, first_among, Outcome, gives, refuses, after, following}
use Rattle.kinds.proofs.Rows.{never_0, never_30}
use Rattle.coded.specs.declared.coded_type.DiagCodedType.{DiagCodedType}
use Rattle.field.specs.Refusals.{description_refusal}
use Rattle.record.specs.Numbers.{record_size}
use Rattle.record.specs.Parsing.{coded_in}
use Rattle.record.specs.Recorded.{well_formed}
use Rattle.table.specs.declared.Header.{Header}
use Rattle.table.specs.declared.Entry.{Entry}
use Rattle.table.specs.Table.{record_place, total_size, header_of, entry, fetched_under, fetched}
use Rattle.table.proofs.Headers.{total_size_lem}
use Rattle.demand_one.specs.Refusing.{TurnsDown, Makes}

turns_down : {A : Type 0} (r : Refusal) → TurnsDown {A = A} (refuses r)
turns_down r = record { refusal = r; is = refl; not_0 = eqb-false (number_of r) 0 (never_0 r); not_30 = eqb-false (number_of r) 30 (never_30 r) }

module _ {A : Type 0} (Good : A → Type 0) where
  pub makes : (a : A) → Good a → Makes Good (gives a)
  makes a h = inl (record { made = a; good = h; is = refl })

  pub makes_after : (c : Check) (o : Outcome A) → Makes Good o → Makes Good (after c o)
  makes_after (Ok done) o m = m
  makes_after (Err r) o m = inr (turns_down r)

  -- what a record says, and what is made of it
  makes_said : (said : Option DiagCodedType) (next : DiagCodedType → Outcome A) → ((t : DiagCodedType) → Makes Good (next t))
      → Makes Good (following (well_formed said) next)
  makes_said (Some t) next f = f t
  makes_said None next f = inr (turns_down MalformedRecord)

pub said_makes : (said : Option DiagCodedType) → Makes (λ t. said ≡ Some t) (well_formed said)
said_makes (Some t) = makes _ t refl
said_makes None = inr (turns_down MalformedRecord)

module _ (table : List ℕ) (number : ℕ) where
  abbrev StoreLast : Entry → Type 0
  StoreLast e = e.store_at + e.store_len.0 ≡ length table

  fetch_under : (o : Option Header) → ((h : Header) → Some h ≡ o → total_size h ≡ length table) → Makes StoreLast (fetched_under table number o)
  fetch_under (Some h) f =
      makes_after StoreLast (first_among (rule (leb h.count number) MalformedRecord ∷ [])) _
      (makes_said StoreLast (coded_in (cut (record_place number) record_size table)) _ (λ t. makes_after StoreLast (description_refusal t h.store_len.0) _ (makes StoreLast (entry h number t) (f h refl))))
  fetch_under None f = inr (turns_down MalformedTable)

  pub fetch_makes : Makes StoreLast (fetched table number)
  unfolding fetched
  fetch_makes = makes_after StoreLast (first_among (rule (ltb 65535 (length table)) SliceTooLong ∷ [])) _ (fetch_under (header_of table) (total_size_lem table))
