-- Records and tables that are refused and those that are not, as one table that the checker computes.
use Rattle.std.proofs.Common.{◌≡◌, refl, true, List, [], ◌∷◌, ◌++◌, ℕ, set, replicate}
use Rattle.kinds.proofs.Examples.{Example, hold, ◌is◌}
use Rattle.kinds.specs.Answers.{number_in}
use Rattle.kinds.specs.Outcomes.{Answer}
use Rattle.record.specs.Parsing.{coded_of}
use Rattle.table.specs.Table.{fetched}
use Rattle.calls.specs.Calls.{by_record, runtime_read}
use Rattle.dct.specs.Boundary.{places_fetched}

-- type, flags, variant, termination; 32-bit bit length or min; 32-bit max; 16-bit place and length
abbrev record16 : ℕ → ℕ → ℕ → ℕ → ℕ → ℕ → ℕ → ℕ → List ℕ
record16 type flags variant termination length most at size = type ∷ flags ∷ variant ∷ termination ∷ 0 ∷ 0 ∷ 0 ∷ length ∷ 0 ∷ 0 ∷ 0 ∷ most ∷ 0 ∷ at ∷ 0 ∷ size ∷ []

-- what a read of no bytes says of a record with a store of four bytes: every refusal up to 11, and no other
abbrev number_only : Answer (List ℕ) → List ℕ
number_only a = number_in a.report ∷ []

abbrev under : List ℕ → List ℕ → List ℕ → List ℕ
under store payload bytes = number_only (runtime_read (by_record bytes) store payload 0 0)

abbrev asked : List ℕ → List ℕ
asked bytes = under (0 ∷ 0 ∷ 0 ∷ 0 ∷ []) [] bytes

abbrev legal : List ℕ
legal = 0 ∷ []

abbrev refused : ℕ → List ℕ
refused n = n ∷ []

-- a table of two records with a store of two bytes, the second record malformed
abbrev table : List ℕ
table = 0x44 ∷ 0x43 ∷ 0x54 ∷ 0 ∷ 1 ∷ 0 ∷ 2 ∷ 0 ∷ 2 ∷ record16 2 3 3 0 8 0 1 1 ++ (record16 0 0 0 0 0 0 0 0 ++ (0xF0 ∷ 0x0F ∷ []))

-- what a fetch leaves, with its number in front
abbrev fetches : List ℕ → ℕ → List ℕ
fetches s number = number_in (places_fetched s number).report ∷ (places_fetched s number).left

abbrev places : ℕ → ℕ → ℕ → List ℕ
places at store size = 0 ∷ at ∷ store ∷ size ∷ []

abbrev no_places : ℕ → List ℕ
no_places n = n ∷ 0 ∷ 0 ∷ 0 ∷ []

unfoldable examples : List Example
examples =
    -- the four variants, each flag that one may have, and condensed without a mask
    (asked (record16 7 1 1 0 8 0 0 0) is legal)
    ∷ (asked (record16 4 9 2 1 0 4 0 0) is legal)
    ∷ (asked (record16 5 0 2 3 0 0 0 0) is legal)
    ∷ (asked (record16 2 0 3 0 8 0 0 0) is legal)
    ∷ (asked (record16 8 7 3 0 8 0 3 1) is legal)
    ∷ (asked (record16 1 4 3 0 8 0 0 0) is legal)
    ∷ (asked (record16 3 1 4 0 0 0 1 3) is legal)
    -- 42: another size than 16
    ∷ (asked [] is refused 42)
    ∷ (asked (replicate 15 0) is refused 42)
    ∷ (asked (record16 2 0 3 0 8 0 0 0 ++ (0 ∷ [])) is refused 42)
    -- unknown type, variant or termination
    ∷ (asked (record16 0 0 3 0 8 0 0 0) is refused 42)
    ∷ (asked (record16 9 0 3 0 8 0 0 0) is refused 42)
    ∷ (asked (record16 2 0 0 0 8 0 0 0) is refused 42)
    ∷ (asked (record16 2 0 5 0 8 0 0 0) is refused 42)
    ∷ (asked (record16 4 0 2 4 0 0 0 0) is refused 42)
    -- a termination off MinMax, or none on it
    ∷ (asked (record16 2 0 3 1 8 0 0 0) is refused 42)
    ∷ (asked (record16 7 0 1 1 8 0 0 0) is refused 42)
    ∷ (asked (record16 2 0 4 1 0 0 0 0) is refused 42)
    ∷ (asked (record16 4 0 2 0 0 0 0 0) is refused 42)
    -- mask or condensed flag off Standard, max flag off MinMax, and other flag bits
    ∷ (asked (record16 7 2 1 0 8 0 0 0) is refused 42)
    ∷ (asked (record16 4 4 2 1 0 0 0 0) is refused 42)
    ∷ (asked (record16 2 2 4 0 0 0 0 0) is refused 42)
    ∷ (asked (record16 2 8 3 0 8 0 0 0) is refused 42)
    ∷ (asked (record16 7 8 1 0 8 0 0 0) is refused 42)
    ∷ (asked (record16 2 16 3 0 8 0 0 0) is refused 42)
    ∷ (asked (record16 2 129 3 0 8 0 0 0) is refused 42)
    -- a max without its flag, or off MinMax
    ∷ (asked (record16 4 0 2 1 0 4 0 0) is refused 42)
    ∷ (asked (record16 2 0 3 0 8 4 0 0) is refused 42)
    -- a place or a length where there is no part, and a length on Param
    ∷ (asked (record16 7 0 1 0 8 0 1 0) is refused 42)
    ∷ (asked (record16 4 0 2 1 0 0 0 1) is refused 42)
    ∷ (asked (record16 2 0 3 0 8 0 0 1) is refused 42)
    ∷ (asked (record16 2 0 4 0 8 0 0 1) is refused 42)
    -- a part outside the store, an empty one too
    ∷ (asked (record16 2 2 3 0 8 0 4 0) is legal)
    ∷ (asked (record16 2 2 3 0 8 0 5 0) is refused 42)
    ∷ (asked (record16 2 2 3 0 8 0 2 3) is refused 42)
    ∷ (asked (record16 2 0 4 0 0 0 0 5) is refused 42)
    -- 43 before 42 before 12 before 13 before 10 before 11
    ∷ (under (replicate 32769 0) [] [] is refused 43)
    ∷ (under [] (replicate 65536 0) [] is refused 43)
    ∷ (asked (replicate 65536 0) is refused 43)
    ∷ (asked (record16 2 8 2 1 1 0 0 0) is refused 12)
    ∷ (asked (record16 2 8 2 1 2 1 0 0) is refused 13)
    ∷ (asked (record16 2 0 2 1 1 0 0 0) is refused 10)
    ∷ (asked (record16 2 0 1 0 8 0 0 0) is refused 10)
    ∷ (asked (record16 6 8 2 1 1 2 0 0) is refused 11)
    -- the table: that record alone is looked at
    ∷ (fetches table 0 is places 9 41 2)
    ∷ (fetches table 1 is no_places 42)
    ∷ (fetches table 2 is no_places 42)
    ∷ (fetches table 0xFFFFFFFFFFFFFFFF is no_places 42)
    -- a part outside the store, a numeric type that looks for its end
    ∷ (fetches (set table 22 2) 0 is no_places 42)
    ∷ (fetches (set (set (set (set table 11 1) 10 1) 22 0) 24 0) 0 is no_places 10)
    -- 45: mark, version, count, store length, total size
    ∷ (fetches [] 0 is no_places 45)
    ∷ (fetches (0x44 ∷ 0x43 ∷ 0x54 ∷ 0 ∷ 1 ∷ 0 ∷ 0 ∷ 0 ∷ []) 0 is no_places 45)
    ∷ (fetches (0x44 ∷ 0x43 ∷ 0x54 ∷ 0 ∷ 1 ∷ 0 ∷ 0 ∷ 0 ∷ 0 ∷ []) 0 is no_places 42)
    ∷ (fetches (set table 2 0) 0 is no_places 45)
    ∷ (fetches (set table 4 2) 0 is no_places 45)
    ∷ (fetches (set table 6 1) 0 is no_places 45)
    ∷ (fetches (table ++ (0 ∷ [])) 0 is no_places 45)
    ∷ (fetches (set (set table 5 4) 6 1 ++ replicate 16368 0) 0 is no_places 45)
    ∷ (fetches (set (set table 7 128) 8 1 ++ replicate 32767 0) 0 is no_places 45)
    ∷ (fetches (replicate 65536 0) 0 is no_places 43)
    ∷ []

all_hold : hold examples ≡ true
unfolding examples coded_of runtime_read fetched places_fetched
all_hold = refl
