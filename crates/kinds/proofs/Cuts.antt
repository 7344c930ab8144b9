-- Bytes that are cut out of a payload, where they end within it.
use Rattle.std.proofs.Common.{◌≡◌, List, ℕ, ◌≤◌, arith, length, length-take, length-drop}
use Rattle.kinds.specs.Slices.{saturating_sum, cut}

module _ (payload : List ℕ) (few : length payload ≤ 65535) (start n : ℕ) (inside : saturating_sum start n ≤ length payload) where
  pub length_cut : length (cut start n payload) ≡ n
  length_cut = simp (length-take, length-drop) (omega arith)
