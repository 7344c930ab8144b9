-- Whether a part ends past a store, told without a sum that could wrap, and how long a part is.
use Rattle.std.proofs.Common.{◌≡◌, sym, ◌∙◌, ⊎_elim, List, ℕ, ◌+◌, ◌-◌, ◌<◌, ◌≤◌, arith, length, length-take, length-drop, ltb, lt-ltb, le-ltb, Option, Some, None}
use Rattle.kinds.proofs.Compare.{below}
use Rattle.coded.specs.declared.variants.Place.{Place}
use Rattle.field.specs.Field.{part_at}

pub less_room : (n at len : ℕ) → at ≤ n → ltb (n - at) len ≡ ltb n (at + len)
less_room n at len h =
    ⊎_elim (λ l. lt-ltb (n - at) len l ∙ sym (lt-ltb n (at + len) (omega arith))) (λ l. le-ltb (n - at) len l ∙ sym (le-ltb n (at + len) (omega arith)))
    (below (n - at) len)

-- a part of a store is not longer than the store
pub part_le : (store : List ℕ) (p : Option Place) {n : ℕ} → length store ≤ n → length (part_at store p) ≤ n
part_le store None h = omega arith
part_le store (Some p) h =
    ⊎_elim (λ (l : length store < p.at + p.len.0). rw (lt-ltb (length store) (p.at + p.len.0) l) (omega arith))
    (λ (l : p.at + p.len.0 ≤ length store). rw (le-ltb (length store) (p.at + p.len.0) l) (simp (length-take, length-drop) (omega arith)))
    (below (length store) (p.at + p.len.0))
