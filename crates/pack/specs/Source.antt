-- RULES 7.1 to 7.7: the input becomes a source.
use Rattle.std.specs.Prelude.{ℕ, ◌-◌, ◌*◌, ◌%◌, min, cond, not, ◌&&◌, List, ◌++◌, length, take, drop, replicate, eqb, ltb, leb}
use Rattle.kinds.specs.declared.types.DataType.{DataType}
use Rattle.kinds.specs.Types.{is_byte_type, bytes_for}
use Rattle.bits.specs.Bits.{bit, bit_at, packed}
use Rattle.masks.specs.Mask.{Mask, no_mask, plain_mask, condensed_mask}
use Rattle.masks.specs.Plain.{bit_of_mask}
use Rattle.condensed.specs.Condensed.{replaced}

-- what is written: how many bits, which, from the lowest, and the mask under which they are written
pub record Source : Type 0 where
  pub size : ℕ
  pub bits : ℕ → ℕ
  pub mask : Mask

-- all bits of these bytes, without a mask
abbrev pub bytes_source : List ℕ → Source
bytes_source xs = record { size = 8 * length xs; bits = bit_at xs; mask = no_mask }

-- ---- Standard

-- n bytes from the input's last, zeros in front
abbrev pub last_bytes : ℕ → List ℕ → List ℕ
last_bytes n input = replicate (n - length input) 0 ++ drop (length input - n) input

-- n bytes from its first, zeros behind
abbrev pub first_bytes : ℕ → List ℕ → List ℕ
first_bytes n input = take n input ++ replicate (n - length input) 0

-- from the last for numeric types, from the first for byte types
abbrev pub aligned : DataType → ℕ → List ℕ → List ℕ
aligned t n input = cond (is_byte_type t) (first_bytes n input) (last_bytes n input)

-- if r is not 0, the last byte, that of the bits 0 to 7, keeps its low r bits
abbrev pub trimmed : ℕ → (ℕ → ℕ) → ℕ → ℕ
trimmed r f i = cond (not (eqb r 0) && (leb r i && ltb i 8)) 0 (f i)

-- ceil(length/8) bytes, trimmed by r = length mod 8
unfoldable pub standard_bits : DataType → ℕ → List ℕ → ℕ → ℕ
standard_bits t len input = trimmed (len % 8) (bit_at (aligned t (bytes_for len) input))

-- an empty mask counts as none
abbrev pub effective_mask : Mask → Mask
effective_mask no_mask = no_mask
effective_mask (plain_mask mask) = cond (eqb (length mask) 0) no_mask (plain_mask mask)
effective_mask (condensed_mask mask) = cond (eqb (length mask) 0) no_mask (condensed_mask mask)

-- a condensed mask sets the length: 8 x mask bytes
abbrev pub size_under : Mask → ℕ → ℕ
size_under no_mask len = len
size_under (plain_mask mask) len = len
size_under (condensed_mask mask) len = 8 * length mask

-- a plain mask is applied from bit 0; under a condensed one the source is the mask, its ones replaced by the input's bits
abbrev pub standard_bits_under : Mask → DataType → ℕ → List ℕ → ℕ → ℕ
standard_bits_under no_mask t len input i = standard_bits t len input i
standard_bits_under (plain_mask mask) t len input i = min (standard_bits t len input i) (bit_of_mask mask i)
standard_bits_under (condensed_mask mask) t len input i = replaced mask input i

abbrev pub standard_source : DataType → ℕ → Mask → List ℕ → Source
standard_source t len mask input = record { size = size_under mask len; bits = standard_bits_under mask t len input; mask = mask }

-- ---- the other variants

-- the length field big-endian in ceil(bits/8) bytes, then the input
abbrev pub behind_length : ℕ → List ℕ → List ℕ
behind_length bits input = packed (bytes_for bits) (bit (length input)) ++ input

-- the input, then a terminator's bytes
abbrev pub terminated : List ℕ → ℕ → ℕ → List ℕ
terminated input n x = input ++ replicate n x
