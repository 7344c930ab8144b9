-- RULES 4.3 to 4.7: a condensed mask, read from its front and written from its end.
use Rattle.std.specs.Prelude.{ℕ, zero, suc, ◌+◌, ◌-◌, ◌*◌, ◌/◌, ◌%◌, min, cond, List, [], ◌∷◌, ◌++◌, length, get_or, drop, ltb, eqb, sum_by}
use Rattle.std.specs.Int.Count.{ones}
use Rattle.kinds.specs.Types.{bytes_for}
use Rattle.bits.specs.Bits.{bit, bit_at, packed}

-- ---- reading

-- a mask that is indexed from its front, as it meets a result of n bytes: result byte j meets mask byte j, a missing one is zero
unfoldable pub front_bit : List ℕ → ℕ → ℕ → ℕ
front_bit mask n i = bit (get_or mask (n - 1 - i / 8) 0) (i % 8)

-- how many ones m has below place n
unfoldable pub ones_below : (ℕ → ℕ) → ℕ → ℕ
ones_below m zero = 0
ones_below m (suc n) = ones_below m n + m n

-- of the first n bits of f those at which m is one, lowest first
unfoldable pub gathered : (ℕ → ℕ) → (ℕ → ℕ) → ℕ → List ℕ
gathered m f zero = []
gathered m f (suc n) = gathered m f n ++ cond (eqb (m n) 1) (f n ∷ []) []

-- the bits that a condensed mask gathers of a field of len bits
abbrev pub picked : List ℕ → ℕ → (ℕ → ℕ) → List ℕ
picked mask len field = gathered (front_bit mask (bytes_for len)) field len

-- a list of bits as a function: 0 past its end
abbrev pub bits_of : List ℕ → ℕ → ℕ
bits_of l k = get_or l k 0

-- the ones in each byte, counted over the entire mask
abbrev pub ones_of : List ℕ → ℕ
ones_of = sum_by ones

-- the bit count t: the smaller of the length and the ones in the mask
abbrev pub condensed_count : List ℕ → ℕ → ℕ
condensed_count mask len = min len (ones_of mask)

-- of r bytes the first e are dropped, if e is below r
abbrev pub drop_below : ℕ → ℕ → List ℕ → List ℕ
drop_below r e xs = cond (ltb e r) (drop e xs) xs

-- what a condensed reading gives: r bytes for t bits hold the gathered bits right-aligned, less e bytes for the bits gathered
-- (for no bits no bytes: r is then 0)
unfoldable pub condensed : List ℕ → ℕ → (ℕ → ℕ) → List ℕ
condensed mask len field =
    drop_below (bytes_for (condensed_count mask len)) (bytes_for (length (picked mask len field)))
    (packed (bytes_for (condensed_count mask len)) (bits_of (picked mask len field)))

-- how many bytes that is, of a field whose bits are not looked at
abbrev pub condensed_bytes : List ℕ → ℕ → ℕ
condensed_bytes mask len = length (condensed mask len (λ k. 0))

-- ---- writing

-- what replaces the one that has k ones below it: bit k of the input, and a one where the input has no such bit
unfoldable pub replacement : List ℕ → ℕ → ℕ
replacement input k = cond (ltb k (8 * length input)) (bit_at input k) 1

-- the source of a condensed write: the mask with each one replaced in turn, from the lowest
unfoldable pub replaced : List ℕ → List ℕ → ℕ → ℕ
replaced mask input i = cond (eqb (bit_at mask i) 1) (replacement input (ones_below (bit_at mask) i)) 0
