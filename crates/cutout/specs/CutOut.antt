-- RULES 7.11, 7.12, 8.1: bits of an ordered cut-out, and those that a field owns.
use Rattle.std.specs.Prelude.{ℕ, ◌-◌, min, List}
use Rattle.bits.specs.Bits.{bit_at}
use Rattle.bits.specs.Moves.{within, overlaid, injected}
use Rattle.masks.specs.Mask.{Mask, no_mask, plain_mask, condensed_mask}
use Rattle.masks.specs.Plain.{bit_of_mask}
use Rattle.pack.specs.Source.{Source}

-- a field owns all bits of its length, or those under mask ones
abbrev pub owned_bit : Mask → ℕ → ℕ
owned_bit no_mask i = 1
owned_bit (plain_mask mask) i = bit_of_mask mask i
owned_bit (condensed_mask mask) i = bit_of_mask mask i

-- bit pos+i is cleared where bit i is owned, for i below the length
unfoldable pub cleared : Mask → ℕ → ℕ → List ℕ → List ℕ
cleared mask len pos xs = overlaid (within len pos) (λ k. min (bit_at xs k) (1 - owned_bit mask (k - pos))) xs

-- before a write they are cleared with a mask, and an unmasked write clears nothing
unfoldable pub readied : Mask → ℕ → ℕ → List ℕ → List ℕ
readied no_mask len pos xs = xs
readied (plain_mask mask) len pos xs = cleared (plain_mask mask) len pos xs
readied (condensed_mask mask) len pos xs = cleared (condensed_mask mask) len pos xs

-- then source bit i is ORed into bit pos+i, for i below the source's length
abbrev pub put : Source → ℕ → List ℕ → List ℕ
put s pos xs = injected s.size pos s.bits (readied s.mask s.size pos xs)
