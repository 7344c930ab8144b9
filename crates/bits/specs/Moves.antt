-- Bits that are taken from bytes, ORed into bytes, or put in place of others.
use Rattle.std.specs.Prelude.{ℕ, ◌+◌, ◌-◌, max, Bool, cond, ◌&&◌, List, length, ltb, leb}
use Rattle.kinds.specs.Types.{bytes_for}
use Rattle.bits.specs.Bits.{bit_at, packed}

-- Bits are a function from places to 0 or 1, such as `bit_at xs`. The first n of them, and zeros
abbrev pub first : ℕ → (ℕ → ℕ) → ℕ → ℕ
first n f k = cond (ltb k n) (f k) 0

-- the bits from pos on
abbrev pub from : ℕ → (ℕ → ℕ) → ℕ → ℕ
from pos f k = f (pos + k)

-- the bits moved up by pos, over zeros
abbrev pub raised : ℕ → (ℕ → ℕ) → ℕ → ℕ
raised pos f k = cond (leb pos k) (f (k - pos)) 0

-- the OR of two
abbrev pub either : (ℕ → ℕ) → (ℕ → ℕ) → ℕ → ℕ
either f g k = max (f k) (g k)

-- len bits of xs from bit pos on, right-aligned in as few bytes as hold them
unfoldable pub extracted : ℕ → ℕ → List ℕ → List ℕ
extracted len pos xs = packed (bytes_for len) (first len (from pos (bit_at xs)))

-- the bytes xs after len bits of the source are ORed in from bit pos on
unfoldable pub injected : ℕ → ℕ → (ℕ → ℕ) → List ℕ → List ℕ
injected len pos source xs = packed (length xs) (either (bit_at xs) (raised pos (first len source)))

-- the places of len bits from bit pos on
abbrev pub within : ℕ → ℕ → ℕ → Bool
within len pos k = leb pos k && ltb k (pos + len)

-- the bytes xs with new bits at the places that are owned, and all others as they were
unfoldable pub overlaid : (ℕ → Bool) → (ℕ → ℕ) → List ℕ → List ℕ
overlaid own new xs = packed (length xs) (λ k. cond (own k) (new k) (bit_at xs k))
