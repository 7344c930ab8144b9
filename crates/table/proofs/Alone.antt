-- A fetch looks at the size of a table, its header and one record: tables that agree there give the same.
use Rattle.std.proofs.Common.{◌≡◌, refl, ap, ap₂, ◌∙◌, List, [], ◌∷◌, ℕ, ◌<◌, length, get_or, arith, ltb, None, Option, Some}
use Rattle.kinds.specs.declared.refusals.Refusal.TheVariants.{SliceTooLong}
use Rattle.kinds.specs.Outcomes.{rule, first_among, Outcome, after}
use Rattle.record.specs.Numbers.{record_size}
use Rattle.kinds.specs.Slices.{cut}
use Rattle.table.specs.declared.Entry.{Entry}
use Rattle.table.specs.Table.{header_size, record_place, header_of, fetched_under, fetched}
use Rattle.table.specs.declared.Header.{Header}

-- under one header
under : (s t : List ℕ) (number : ℕ) (h : Option Header) → cut (record_place number) record_size s ≡ cut (record_place number) record_size t
    → fetched_under s number h ≡ fetched_under t number h
under s t number (Some h) one = rw one
under s t number None one = refl

pub that_record_alone : (s t : List ℕ) (number : ℕ) → length s ≡ length t → ((i : ℕ) → i < header_size → get_or s i 0 ≡ get_or t i 0)
    → cut (record_place number) record_size s ≡ cut (record_place number) record_size t → fetched s number ≡ fetched t number
unfolding fetched
that_record_alone s t number size head one =
    let header : header_of s ≡ header_of t = simp (size, head 0 (omega arith), head 1 (omega arith), head 2 (omega arith), head 3 (omega arith), head 4 (omega arith), head 5 (omega arith), head 6 (omega arith), head 7 (omega arith), head 8 (omega arith)) in
    ap₂ (λ (n : ℕ) (o : Outcome Entry). after (first_among (rule (ltb 65535 n) SliceTooLong ∷ [])) o) size (under s t number (header_of s) one ∙ ap (fetched_under t number) header)
