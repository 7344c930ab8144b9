-- What a valid header says of its table.
use Rattle.std.proofs.Common.{◌≡◌, refl, sym, subst, Bool, true, false, cond, not, ◌||◌, List, ℕ, length, eqb, ltb, eqb-true, None, Option, Some}
use Rattle.std.proofs.lemmas.Bool.{not-false}
use Rattle.kinds.proofs.Outcomes.{neither}
use Rattle.table.specs.declared.Header.{Header}
use Rattle.table.specs.Table.{header_size, is_marked, said_by, total_size, is_wrong, header_of}

-- the total size that a valid header says
abbrev Total : ℕ → Option Header → Type 0
Total size (Some h) = total_size h ≡ size
Total size None = Unit {0}

total_if : (size : ℕ) (wrong : Bool) (h : Header) → (wrong ≡ false → total_size h ≡ size) → Total size (cond wrong None (Some h))
total_if size true h f = tt
total_if size false h f = f refl

right_size : (table : List ℕ) (h : Header) → is_wrong table h ≡ false → total_size h ≡ length table
right_size table h e =
    let total = eqb (length table) (total_size h) in
    let others = ltb (length table) header_size || not (is_marked table) || ltb 1024 h.count || ltb 32768 h.store_len.0 in
    sym (eqb-true (length table) (total_size h) (not-false total (neither others (not total) e).1))

pub total_size_lem : (table : List ℕ) (h : Header) → Some h ≡ header_of table → total_size h ≡ length table
total_size_lem table h e =
    subst (Total (length table)) (sym e) (total_if (length table) (is_wrong table (said_by table)) (said_by table) (right_size table (said_by table)))
