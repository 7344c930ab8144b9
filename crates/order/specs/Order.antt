-- RULES 3.5: the ordered form of a run of bytes.
use Rattle.std.specs.Prelude.{ℕ, List, [], ◌∷◌, reverse}
use Rattle.kinds.specs.declared.types.ByteOrder.{ByteOrder}
use Rattle.kinds.specs.declared.types.ByteOrder.TheVariants.{Keep, ReorderPairs, Reverse}

-- bytes swapped in pairs, an odd last byte staying
unfoldable pub swap_pairs : List ℕ → List ℕ
swap_pairs [] = []
swap_pairs (x ∷ []) = x ∷ []
swap_pairs (x ∷ y ∷ rest) = y ∷ x ∷ swap_pairs rest

-- the ordered form: unchanged, swapped in pairs, or reversed
unfoldable pub ordered : ByteOrder → List ℕ → List ℕ
ordered Keep xs = xs
ordered ReorderPairs xs = swap_pairs xs
ordered Reverse xs = reverse xs
