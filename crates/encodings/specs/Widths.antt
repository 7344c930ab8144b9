-- RULES 14.1, 14.2: the codes of the encodings, and the widths and sizes that each allows.
use Rattle.std.specs.Prelude.{ℕ, ◌%◌, Bool, true, cond, ◌&&◌, eqb, leb, Option, Some, None}
use Rattle.kinds.specs.Types.{bytes_for}
use Rattle.encodings.specs.declared.forms.Encoding.{Encoding}
use Rattle.encodings.specs.declared.forms.Encoding.TheVariants.{TwosComplement, OnesComplement, SignMagnitude, PackedDecimal}

-- the encoding that a code tells
abbrev pub encoding_of : ℕ → Option Encoding
encoding_of code =
    cond (eqb code 1) (Some TwosComplement)
    (cond (eqb code 2) (Some OnesComplement)
    (cond (eqb code 3) (Some SignMagnitude)
    (cond (eqb code 4) (Some PackedDecimal) None)))

-- a decimal digit has four bits, and the widths of packed decimal are whole digits
abbrev pub whole_digits : Encoding → ℕ → Bool
whole_digits TwosComplement width = true
whole_digits OnesComplement width = true
whole_digits SignMagnitude width = true
whole_digits PackedDecimal width = eqb (width % 4) 0

abbrev pub allowed : Encoding → ℕ → Bool
allowed e width = leb 2 width && (leb width 64 && whole_digits e width)

-- a width that is allowed, and as many bytes as it takes
abbrev pub fits : Encoding → ℕ → ℕ → Bool
fits e width size = allowed e width && eqb size (bytes_for width)
