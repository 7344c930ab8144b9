-- RULES 9.6 to 9.8: the header, and the record with a number.
use Rattle.std.specs.Prelude.{ℕ, ◌+◌, ◌*◌, Bool, cond, not, ◌&&◌, ◌||◌, List, [], ◌∷◌, length, get_or, eqb, ltb, leb}
use Rattle.kinds.specs.declared.refusals.Refusal.TheVariants.{MalformedRecord, SliceTooLong, MalformedTable}
use Rattle.kinds.specs.Outcomes.{rule, first_among, Outcome, gives, refuses, after, following}
use Rattle.kinds.specs.Slices.{slice_limit, store_limit, cut}
use Rattle.coded.specs.declared.coded_type.DiagCodedType.{DiagCodedType}
use Rattle.field.specs.Refusals.{description_refusal}
use Rattle.record.specs.Numbers.{be16, record_size}
use Rattle.record.specs.Parsing.{coded_in}
use Rattle.record.specs.Recorded.{well_formed}
use Rattle.table.specs.declared.Header.{Header}
use Rattle.table.specs.declared.Entry.{Entry}
use Rattle.std.specs.Prelude.{None, Option, Some}

-- mark `DCT`, version 1 in 16 bits
abbrev pub is_marked : List ℕ → Bool
is_marked table = eqb (get_or table 0 0) 0x44 && eqb (get_or table 1 0) 0x43 && eqb (get_or table 2 0) 0x54 && eqb (be16 table 3) 1

-- count and store length in 16 bits each
abbrev pub said_by : List ℕ → Header
said_by table = record { count = be16 table 5; store_len = record { 0 = be16 table 7 } }

-- a header of 9 bytes, 16-byte records, the store
abbrev pub header_size : ℕ
header_size = 9

abbrev pub record_place : ℕ → ℕ
record_place number = header_size + record_size * number

abbrev pub total_size : Header → ℕ
total_size h = record_place h.count + h.store_len.0

-- 45: mark, version or total size wrong, count above 1,024, store length above 32,768
abbrev pub is_wrong : List ℕ → Header → Bool
is_wrong table h =
    ltb (length table) header_size
    || not (is_marked table)
    || ltb 1024 h.count
    || ltb store_limit h.store_len.0
    || not (eqb (length table) (total_size h))

abbrev pub header_of : List ℕ → Option Header
header_of table = cond (is_wrong table (said_by table)) None (Some (said_by table))

-- the coded type, where the record starts, where the store starts, and the store's length
abbrev pub entry : Header → ℕ → DiagCodedType → Entry
entry h number t =
    record { coded_type = t; record_at = record_place number; store_at = record_place h.count; store_len = h.store_len }

-- 42 of an absent record, of a malformed one and of its part outside the store, then 12, 13, 10, 11; that record alone is looked at
abbrev pub record_fetched : List ℕ → Header → ℕ → Outcome Entry
record_fetched table h number =
    after (first_among (rule (leb h.count number) MalformedRecord ∷ []))
    (following (well_formed (coded_in (cut (record_place number) record_size table)))
    (λ t. after (description_refusal t h.store_len.0) (gives (entry h number t))))

-- 45
abbrev pub fetched_under : List ℕ → ℕ → Option Header → Outcome Entry
fetched_under table number (Some h) = record_fetched table h number
fetched_under table number None = refuses MalformedTable

-- 43, 45, then the record's own
unfoldable pub fetched : List ℕ → ℕ → Outcome Entry
fetched table number = after (first_among (rule (ltb slice_limit (length table)) SliceTooLong ∷ [])) (fetched_under table number (header_of table))
