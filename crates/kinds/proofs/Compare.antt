-- Two numbers compared: the ways to take a proof apart.
use Rattle.std.proofs.Common.{◌≡◌, ◌⊎◌, inl, inr, ℕ, ◌≤◌, ◌<◌, arith}
use native.Mathlib.Decide.{dec_lt, ℕ_discrete}

-- a is below b, or not
pub below : (a b : ℕ) → (a < b) ⊎ (b ≤ a)
below a b = elim (dec_lt a b) [ yes h ↦ inl h | no h ↦ inr (omega arith) ]

-- a is b, or not
pub same : (a b : ℕ) → (a ≡ b) ⊎ (a ≡ b → ⊥)
same a b = elim (ℕ_discrete a b) [ yes h ↦ inl h | no h ↦ inr h ]
