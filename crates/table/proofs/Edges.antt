-- The theorem of `Alone` at tables that agree in just what it asks for, so that a stronger premise is refused here.
use Rattle.std.proofs.Common.{◌≡◌, refl, sym, ◌∙◌, List, [], ◌∷◌, ◌++◌, ℕ, ◌<◌, get_or, replicate}
use lib.ListN.{get_or-append}
use Rattle.table.specs.Table.{header_size, fetched}
use Rattle.table.proofs.Alone.{that_record_alone}

-- a header of three records and a store of one byte, and a record
abbrev head : List ℕ
head = 0x44 ∷ 0x43 ∷ 0x54 ∷ 0 ∷ 1 ∷ 0 ∷ 3 ∷ 0 ∷ 1 ∷ []

abbrev one : List ℕ
one = 2 ∷ 1 ∷ 3 ∷ 0 ∷ 0 ∷ 0 ∷ 0 ∷ 12 ∷ 0 ∷ 0 ∷ 0 ∷ 0 ∷ 0 ∷ 0 ∷ 0 ∷ 0 ∷ []

-- that record, and all before and after it of the byte x; and before it the header
abbrev rest : ℕ → ℕ → ℕ → List ℕ
rest before behind x = replicate before x ++ (one ++ replicate behind x)

abbrev table : ℕ → ℕ → ℕ → List ℕ
table before behind x = head ++ rest before behind x

same_head : (before behind : ℕ) (i : ℕ) → i < header_size → get_or (table before behind 0) i 0 ≡ get_or (table before behind 255) i 0
same_head before behind i l = get_or-append head (rest before behind 0) 0 i l ∙ sym (get_or-append head (rest before behind 255) 0 i l)

-- Two tables that differ in every byte but those of the header and the record: the first record, right behind the header; the second, between
-- two others; and the last, right before the store.
pub first_alone : fetched (table 0 33 0) 0 ≡ fetched (table 0 33 255) 0
first_alone = that_record_alone (table 0 33 0) (table 0 33 255) 0 refl (same_head 0 33) refl

pub second_alone : fetched (table 16 17 0) 1 ≡ fetched (table 16 17 255) 1
second_alone = that_record_alone (table 16 17 0) (table 16 17 255) 1 refl (same_head 16 17) refl

pub last_alone : fetched (table 32 1 0) 2 ≡ fetched (table 32 1 255) 2
last_alone = that_record_alone (table 32 1 0) (table 32 1 255) 2 refl (same_head 32 1) refl
