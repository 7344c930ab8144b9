-- RULES 10: the number of each refusal, and what each answer reports.
use Rattle.std.specs.Prelude.{ℕ, ◌*◌, List, [], ◌∷◌, length, Result, Ok, Err}
use Rattle.kinds.specs.declared.refusals.Refusal.{Refusal}
use Rattle.kinds.specs.declared.refusals.Refusal.TheVariants.{NumericWithVariableLength, OddUnicodeLimits, ZeroMaximum, MaximumBelowMinimum, ByteTypeAtBitPosition, ZeroBitLength, IntegerTooLong, Float32Length, Float64Length, UnicodeLength, BitPositionAboveSeven, BitsPastCut, LengthFieldPastPayload, LengthFieldTooWide, CountTooLarge, ScanPastPayload, EmptyUntilEndOfPdu, MaskLongerThanLength, RuntimeLengthNeeded, EmptyLengthField, NotClearable, PayloadLacksRoom, OutputLacksRoom, MalformedRecord, SliceTooLong, UsedPastSlice, MalformedTable, WidthNotAllowed, ValueOutOfRange, DigitAboveNine}
use Rattle.kinds.specs.declared.refusals.Failure.{Failure}
use Rattle.kinds.specs.declared.refusals.Failure.TheVariants as failure
use Rattle.kinds.specs.declared.refusals.Counts.{Counts}
use Rattle.kinds.specs.declared.lent.Lent.{Lent}

-- the table of refusals, but for 30
abbrev pub number_of : Refusal → ℕ
number_of NumericWithVariableLength = 10
number_of OddUnicodeLimits = 11
number_of ZeroMaximum = 12
number_of MaximumBelowMinimum = 13
number_of ByteTypeAtBitPosition = 20
number_of ZeroBitLength = 21
number_of IntegerTooLong = 22
number_of Float32Length = 23
number_of Float64Length = 24
number_of UnicodeLength = 25
number_of BitPositionAboveSeven = 26
number_of BitsPastCut = 27
number_of LengthFieldPastPayload = 31
number_of LengthFieldTooWide = 32
number_of CountTooLarge = 33
number_of ScanPastPayload = 34
number_of EmptyUntilEndOfPdu = 35
number_of MaskLongerThanLength = 36
number_of RuntimeLengthNeeded = 37
number_of EmptyLengthField = 38
number_of NotClearable = 39
number_of PayloadLacksRoom = 40
number_of OutputLacksRoom = 41
number_of MalformedRecord = 42
number_of SliceTooLong = 43
number_of UsedPastSlice = 44
number_of MalformedTable = 45
number_of WidthNotAllowed = 58
number_of ValueOutOfRange = 59
number_of DigitAboveNine = 60

-- A report is five numbers in a row: number, bit count, byte count, expected, actual. Here the number is alone: that of a refusal, or 0,
-- with which encode and clear report their success
abbrev pub numbered : ℕ → List ℕ
numbered n = n ∷ 0 ∷ 0 ∷ 0 ∷ 0 ∷ []

-- the number of a report
abbrev pub number_in : List ℕ → ℕ
number_in [] = 0
number_in (n ∷ counts) = n

abbrev pub refused : Refusal → List ℕ
refused r = numbered (number_of r)

-- 30 alone says what was expected and what there is
abbrev pub short : ℕ → ℕ → List ℕ
short e a = 30 ∷ 0 ∷ 0 ∷ e ∷ a ∷ []

-- a successful reading: how many bits and bytes it gives
abbrev pub read : ℕ → ℕ → List ℕ
read bits bytes = 0 ∷ bits ∷ bytes ∷ 0 ∷ 0 ∷ []

-- a success that reads nothing
abbrev pub wrote : List ℕ
wrote = numbered 0

-- the answer of a check, of a reading, and of a writing or a clearing
abbrev pub Check : Type 0
Check = Result (Unit {0}) Refusal

abbrev pub Reading : Type 0
Reading = Result Counts Failure

abbrev pub Writing : Type 0
Writing = Result (Unit {0}) Failure

abbrev pub passed : Check
passed = Ok tt

abbrev pub report_of_check : Check → List ℕ
report_of_check (Ok done) = wrote
report_of_check (Err r) = refused r

-- what a success has counted is read off it
abbrev pub report_by : {A : Type 0} → (A → Counts) → Result A Failure → List ℕ
report_by counts (Ok given) = read (counts given).bit_count.0 (counts given).byte_count.0
report_by counts (Err (failure.NotEnoughData e a)) = short e a
report_by counts (Err (failure.Refused r)) = refused r

abbrev pub report_of_reading : Reading → List ℕ
report_of_reading = report_by (λ counts. counts)

-- of a part of a payload that is handed back
abbrev pub counts_of_lent : Lent → Counts
counts_of_lent part = record { bit_count = record { 0 = 8 * length part.bytes.now }; byte_count = record { 0 = length part.bytes.now } }

abbrev pub report_of_part : Result Lent Failure → List ℕ
report_of_part = report_by counts_of_lent

abbrev pub no_counts : Counts
no_counts = record { bit_count = record { 0 = 0 }; byte_count = record { 0 = 0 } }

abbrev pub report_of_writing : Writing → List ℕ
report_of_writing = report_by (λ done. no_counts)
