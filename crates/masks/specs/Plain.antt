-- RULES 4.1, 4.2: a mask in plain use.
use Rattle.std.specs.Prelude.{ℕ, ◌-◌, ◌/◌, ◌%◌, min, List, length, get_or}
use Rattle.bits.specs.Bits.{bit, bit_at}
use Rattle.bits.specs.Moves.{within, overlaid}
use Rattle.masks.specs.declared.plain.Kept.{Kept}
use Rattle.masks.specs.declared.plain.Kept.TheVariants.{UnderOnes, UnderZeros}

-- mask bit i of m bytes is bit i mod 8 of byte max(0, m-1-floor(i/8)): a short mask repeats its first byte, an empty one is zeros
unfoldable pub bit_of_mask : List ℕ → ℕ → ℕ
bit_of_mask mask i = bit (get_or mask (length mask - 1 - i / 8) 0) (i % 8)

-- whether a bit is kept (1) or cleared (0) at a mask bit
abbrev pub keeps : Kept → ℕ → ℕ
keeps UnderOnes m = m
keeps UnderZeros m = 1 - m

-- what is left of bit k of the bytes xs under a mask that begins at pos
abbrev pub kept_bit : Kept → ℕ → List ℕ → List ℕ → ℕ → ℕ
kept_bit kept pos mask xs k = min (bit_at xs k) (keeps kept (bit_of_mask mask (k - pos)))

-- the bytes xs after bit pos+i is kept or cleared by mask bit i, for i below len and up to the end of the bytes
abbrev pub masked : Kept → ℕ → ℕ → List ℕ → List ℕ → List ℕ
masked kept len pos mask xs = overlaid (within len pos) (kept_bit kept pos mask xs) xs
