-- RULES 10: the class of each refusal, and what a number tells of it.
use Rattle.std.specs.Prelude.{ℕ, Bool, cond, ◌&&◌, ◌||◌, eqb, leb, Option, Some, None}
use Rattle.classes.specs.declared.Class.{Class}
use Rattle.classes.specs.declared.Class.TheVariants.{BadPayload, NotEnoughData, InvalidDatabase, Ours}
use Rattle.kinds.specs.declared.refusals.Refusal.{Refusal}
use Rattle.kinds.specs.declared.refusals.Refusal.TheVariants.{NumericWithVariableLength, OddUnicodeLimits, ZeroMaximum, MaximumBelowMinimum, ByteTypeAtBitPosition, ZeroBitLength, IntegerTooLong, Float32Length, Float64Length, UnicodeLength, BitPositionAboveSeven, BitsPastCut, LengthFieldPastPayload, LengthFieldTooWide, CountTooLarge, ScanPastPayload, EmptyUntilEndOfPdu, MaskLongerThanLength, RuntimeLengthNeeded, EmptyLengthField, NotClearable, PayloadLacksRoom, OutputLacksRoom, MalformedRecord, SliceTooLong, UsedPastSlice, MalformedTable, WidthNotAllowed, ValueOutOfRange, DigitAboveNine}

-- BadPayload, NotEnoughData and InvalidDatabase of the Rust, and ours: B, N, D and P, as ASCII has them
abbrev pub letter : Class → ℕ
letter BadPayload = 66
letter NotEnoughData = 78
letter InvalidDatabase = 68
letter Ours = 80

-- the column of classes; the row of 30, which is no `Refusal`, has NotEnoughData
abbrev pub class_of : Refusal → Class
class_of NumericWithVariableLength = InvalidDatabase
class_of OddUnicodeLimits = BadPayload
class_of ZeroMaximum = BadPayload
class_of MaximumBelowMinimum = BadPayload
class_of ByteTypeAtBitPosition = BadPayload
class_of ZeroBitLength = BadPayload
class_of IntegerTooLong = BadPayload
class_of Float32Length = BadPayload
class_of Float64Length = BadPayload
class_of UnicodeLength = BadPayload
class_of BitPositionAboveSeven = BadPayload
class_of BitsPastCut = BadPayload
class_of LengthFieldPastPayload = BadPayload
class_of LengthFieldTooWide = BadPayload
class_of CountTooLarge = BadPayload
class_of ScanPastPayload = BadPayload
class_of EmptyUntilEndOfPdu = BadPayload
class_of MaskLongerThanLength = BadPayload
class_of RuntimeLengthNeeded = InvalidDatabase
class_of EmptyLengthField = BadPayload
class_of NotClearable = Ours
class_of PayloadLacksRoom = Ours
class_of OutputLacksRoom = Ours
class_of MalformedRecord = Ours
class_of SliceTooLong = Ours
class_of UsedPastSlice = Ours
class_of MalformedTable = Ours
class_of WidthNotAllowed = Ours
class_of ValueOutOfRange = Ours
class_of DigitAboveNine = Ours

-- from a to b
abbrev from_to : ℕ → ℕ → ℕ → Bool
from_to a b n = leb a n && leb n b

-- the class of a number, if a row has that number
abbrev pub class_with : ℕ → Option Class
class_with n =
    cond (eqb n 30) (Some NotEnoughData)
    (cond (eqb n 10 || eqb n 37) (Some InvalidDatabase)
    (cond (from_to 11 13 n || from_to 20 27 n || from_to 31 36 n || eqb n 38) (Some BadPayload)
    (cond (from_to 39 45 n || from_to 58 60 n) (Some Ours) None)))

abbrev pub letter_or_zero : Option Class → ℕ
letter_or_zero (Some class) = letter class
letter_or_zero None = 0

-- the letter of the class of a number, and 0 where no row has that number
abbrev pub class_letter : ℕ → ℕ
class_letter n = letter_or_zero (class_with n)
