-- RULES 2.1, 3.4, 9.2: the byte types, what becomes of the order of bytes, and the codes of data types.
use Rattle.std.specs.Prelude.{ℕ, ◌+◌, ◌/◌, Bool, false, cond, not, ◌||◌, List, [], ◌∷◌, eqb, Option, Some, None}
use Rattle.kinds.specs.declared.types.DataType.{DataType}
use Rattle.kinds.specs.declared.types.DataType.TheVariants.{Int32, UInt32, Float32, AsciiString, Utf8String, Unicode2String, ByteField, Float64}
use Rattle.kinds.specs.declared.types.ByteOrder.{ByteOrder}
use Rattle.kinds.specs.declared.types.ByteOrder.TheVariants.{Keep, ReorderPairs, Reverse}

-- a data type's code: 1 to 8 in the order of RULES 2.1
abbrev pub type_code_of : DataType → ℕ
type_code_of Int32 = 1
type_code_of UInt32 = 2
type_code_of Float32 = 3
type_code_of AsciiString = 4
type_code_of Utf8String = 5
type_code_of Unicode2String = 6
type_code_of ByteField = 7
type_code_of Float64 = 8

-- type 1 to 8 in the order of RULES 2.1
abbrev pub type_of : ℕ → Option DataType
type_of code =
    cond (eqb code 1) (Some Int32)
    (cond (eqb code 2) (Some UInt32)
    (cond (eqb code 3) (Some Float32)
    (cond (eqb code 4) (Some AsciiString)
    (cond (eqb code 5) (Some Utf8String)
    (cond (eqb code 6) (Some Unicode2String)
    (cond (eqb code 7) (Some ByteField)
    (cond (eqb code 8) (Some Float64) None)))))))

-- t is one of these types
abbrev pub among : DataType → List DataType → Bool
among t [] = false
among t (u ∷ us) = eqb (type_code_of t) (type_code_of u) || among t us

abbrev pub is_byte_type : DataType → Bool
is_byte_type t = among t (ByteField ∷ AsciiString ∷ Utf8String ∷ Unicode2String ∷ [])

-- the other four are numeric
abbrev pub is_numeric : DataType → Bool
is_numeric t = not (is_byte_type t)

abbrev pub is_unicode_type : DataType → Bool
is_unicode_type t = among t (Unicode2String ∷ [])

-- the byte order of a type, high-low or not
abbrev pub byte_order_of : DataType → Bool → ByteOrder
byte_order_of t high_low =
    cond (high_low || among t (ByteField ∷ AsciiString ∷ Utf8String ∷ [])) Keep
    (cond (is_unicode_type t) ReorderPairs Reverse)

-- the bytes that n bits take
abbrev pub bytes_for : ℕ → ℕ
bytes_for n = (n + 7) / 8
