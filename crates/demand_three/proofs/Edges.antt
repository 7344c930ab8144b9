-- Demand 3 at the edges of its premises, by records: each is met here by an input that only just meets it, so that a narrower premise
-- breaks an example.
use Rattle.std.proofs.Common.{◌≡◌, refl, ⊎_elim, true, cond, List, [], ◌∷◌, ◌++◌, ℕ, zero, suc, ◌<◌, arith, get_or, drop, replicate}
use Rattle.std.proofs.lemmas.List.{length-replicate}
use Rattle.kinds.specs.Answers.{read}
use Rattle.kinds.specs.Outcomes.{answer}
use Rattle.kinds.proofs.Compare.{same}
use Rattle.order.specs.Order.{ordered}
use Rattle.bits.specs.Bits.{bit, bit_at, number, packed}
use Rattle.bits.specs.Moves.{injected, overlaid}
use Rattle.bits.proofs.Bytes.{bit_at_out}
use Rattle.bits.proofs.Runs.{bytes_replicate}
use Rattle.masks.specs.Plain.{bit_of_mask}
use Rattle.record.specs.Parsing.{coded_of}
use Rattle.pack.specs.Source.{standard_bits}
use Rattle.cutout.specs.CutOut.{cleared, readied}
use Rattle.payload.specs.Writing.{spliced, in_cut_out, grown, writing}
use Rattle.calls.specs.Calls.{by_record, encoded}
use Rattle.ownership.specs.Ownership.{footprint, owns}
use Rattle.demand_three.specs.Changing.{Exact, whole_or_short, apart_below, field_way, placed_as, coded_as, Located, record_way, message, Assignment, with, all_accepted, all_lent, apart_from, disjoint, Premises, Changed, changed}
use Rattle.demand_three.proofs.Ways.{demand_3}
use mathlib.Core.List.Permᴰ

-- a record of StandardLength: type, flags, bit length, and place and length of its mask
abbrev standard_record : ℕ → ℕ → ℕ → ℕ → ℕ → List ℕ
standard_record type flags bits place size = type ∷ flags ∷ 3 ∷ 0 ∷ 0 ∷ 0 ∷ 0 ∷ bits ∷ 0 ∷ 0 ∷ 0 ∷ 0 ∷ 0 ∷ place ∷ 0 ∷ size ∷ []

-- an unmasked number of so many bits, high-low, at a byte and a bit position
abbrev bare : ℕ → ℕ → ℕ → Located (List ℕ)
bare bits at pos = record { description = standard_record 2 1 bits 0 0; at = at; pos = pos }

-- the same low-high
abbrev turned : ℕ → ℕ → ℕ → Located (List ℕ)
turned bits at pos = record { description = standard_record 2 0 bits 0 0; at = at; pos = pos }

-- one field alone, without a mask
module _ (n : ℕ) (behind : List ℕ) (x : Located (List ℕ)) (v v' : List ℕ) where
  abbrev AloneMeets : Type 0
  AloneMeets = Premises (record_way []) n behind [] [] x v v' (with (record_way []) x v ∷ []) (with (record_way []) x v' ∷ [])

  abbrev AloneChanges : Type 0
  AloneChanges = Changed (record_way []) n behind [] [] x v v' (with (record_way []) x v ∷ []) (with (record_way []) x v' ∷ [])

  alone : AloneMeets → AloneChanges
  alone = demand_3.by_record [] n behind [] [] x v v' (with (record_way []) x v ∷ []) (with (record_way []) x v' ∷ [])

-- ---- how long a message may be, with what is behind it, and what may be lent

-- 65,535 bytes, all used, with a field in the last one
largest : AloneChanges 65535 [] (bare 8 65534 0) [] []
unfolding coded_of encoded writing grown in_cut_out spliced all_accepted all_lent apart_from disjoint
largest =
    alone 65535 [] (bare 8 65534 0) [] []
    (record { small = omega arith; all_accepted = refl; all_lent = refl; new_lent = refl; own_disjoint = refl; one_order = Permᴰ.refl _; other_order = Permᴰ.refl _ })

-- one byte, with 65,534 others behind it
most_behind : AloneChanges 1 (replicate 65534 0xEE) (bare 8 0 0) [] []
unfolding coded_of encoded writing grown in_cut_out spliced all_accepted all_lent apart_from disjoint
most_behind =
    alone 1 (replicate 65534 0xEE) (bare 8 0 0) [] []
    (record { small = omega arith; all_accepted = refl; all_lent = refl; new_lent = refl; own_disjoint = refl; one_order = Permᴰ.refl _; other_order = Permᴰ.refl _ })

-- values of 65,535 bytes
longest_values : AloneChanges 1 [] (bare 8 0 0) (replicate 65535 0x12) (replicate 65535 0x34)
unfolding coded_of encoded writing grown in_cut_out spliced all_accepted all_lent apart_from disjoint
longest_values =
    alone 1 [] (bare 8 0 0) (replicate 65535 0x12) (replicate 65535 0x34)
    (record { small = omega arith; all_accepted = refl; all_lent = refl; new_lent = refl; own_disjoint = refl; one_order = Permᴰ.refl _; other_order = Permᴰ.refl _ })

-- in the field layer values of any size
any_size : (m : ℕ) → field_way.lends m ≡ true
any_size m = refl

-- so one more byte too
longest_value_of_a_field : Changed field_way 1 [] [] [] (placed_as (coded_as (by_record (bare 8 0 0).description)) [] 0 0) [] (replicate 65536 0x34) (with field_way (placed_as (coded_as (by_record (bare 8 0 0).description)) [] 0 0) [] ∷ []) (with field_way (placed_as (coded_as (by_record (bare 8 0 0).description)) [] 0 0) (replicate 65536 0x34) ∷ [])
unfolding coded_of writing grown in_cut_out spliced all_accepted all_lent apart_from disjoint
longest_value_of_a_field =
    demand_3.by_field 1 [] [] [] (placed_as (coded_as (by_record (bare 8 0 0).description)) [] 0 0) [] (replicate 65536 0x34) _ _
    (record { small = omega arith; all_accepted = refl; all_lent = refl; new_lent = refl; own_disjoint = refl; one_order = Permᴰ.refl _; other_order = Permᴰ.refl _ })

-- ---- which fields: a single bit at bit position 7, the other numeric types, two fields side by side in one byte, a mask at the store's end

one_bit : AloneChanges 1 [] (bare 1 0 7) [] (0x01 ∷ [])
unfolding coded_of encoded writing grown in_cut_out spliced all_accepted all_lent apart_from disjoint
one_bit =
    alone 1 [] (bare 1 0 7) [] (0x01 ∷ [])
    (record { small = omega arith; all_accepted = refl; all_lent = refl; new_lent = refl; own_disjoint = refl; one_order = Permᴰ.refl _; other_order = Permᴰ.refl _ })

-- Int32 of 64 bits across nine bytes, Float32 and Float64
abbrev three_types : List (Assignment (record_way []))
three_types =
    with (record_way []) (record { description = standard_record 1 0 64 0 0; at = 0; pos = 7 }) []
    ∷ with (record_way []) (record { description = standard_record 3 0 32 0 0; at = 9; pos = 0 }) []
    ∷ with (record_way []) (record { description = standard_record 8 1 64 0 0; at = 13; pos = 0 }) []
    ∷ []

types_accepted : all_accepted (record_way []) 21 three_types ≡ true
unfolding coded_of encoded writing grown in_cut_out spliced all_accepted
types_accepted = refl

-- the halves of a byte, one under the plain mask F0 and one under the condensed mask 0F, which end a store of 32,768 bytes; the new value
-- is built anew in the other order
abbrev store : List ℕ
store = replicate 32766 0 ++ (0xF0 ∷ 0x0F ∷ [])

abbrev last_mask : ℕ → ℕ → Located (List ℕ)
last_mask flags place = record { description = 2 ∷ flags ∷ 3 ∷ 0 ∷ 0 ∷ 0 ∷ 0 ∷ 8 ∷ 0 ∷ 0 ∷ 0 ∷ 0 ∷ 0x7F ∷ place ∷ 0 ∷ 1 ∷ []; at = 0; pos = 0 }

abbrev lower : List (Assignment (record_way store))
lower = with (record_way store) (last_mask 7 0xFF) (0x05 ∷ []) ∷ []

-- that field first, changed in the other order: what is built of l' has the second field first
other_order : Changed (record_way store) 1 [] lower [] (last_mask 3 0xFE) (0xA0 ∷ []) (0x30 ∷ []) (with (record_way store) (last_mask 3 0xFE) (0xA0 ∷ []) ∷ lower) (with (record_way store) (last_mask 7 0xFF) (0x05 ∷ []) ∷ with (record_way store) (last_mask 3 0xFE) (0x30 ∷ []) ∷ [])
unfolding coded_of ordered bit bit_at number packed injected overlaid bit_of_mask standard_bits cleared readied spliced in_cut_out grown encoded writing footprint owns all_accepted all_lent apart_below apart_from disjoint
other_order =
    demand_3.by_record store 1 [] lower [] (last_mask 3 0xFE) (0xA0 ∷ []) (0x30 ∷ []) (with (record_way store) (last_mask 3 0xFE) (0xA0 ∷ []) ∷ lower) (with (record_way store) (last_mask 7 0xFF) (0x05 ∷ []) ∷ with (record_way store) (last_mask 3 0xFE) (0x30 ∷ []) ∷ [])
    (record { small = omega arith; all_accepted = refl; all_lent = refl; new_lent = refl; own_disjoint = refl; one_order = Permᴰ.swap refl refl; other_order = Permᴰ.refl _ })

side_by_side : Changed (record_way store) 1 [] [] lower (last_mask 3 0xFE) (0xA0 ∷ []) (0x30 ∷ []) (with (record_way store) (last_mask 3 0xFE) (0xA0 ∷ []) ∷ lower) (with (record_way store) (last_mask 7 0xFF) (0x05 ∷ []) ∷ with (record_way store) (last_mask 3 0xFE) (0x30 ∷ []) ∷ [])
unfolding coded_of ordered bit bit_at number packed injected overlaid bit_of_mask standard_bits cleared readied spliced in_cut_out grown encoded writing footprint owns all_accepted all_lent apart_below apart_from disjoint
side_by_side =
    demand_3.by_record store 1 [] [] lower (last_mask 3 0xFE) (0xA0 ∷ []) (0x30 ∷ []) (with (record_way store) (last_mask 3 0xFE) (0xA0 ∷ []) ∷ lower) (with (record_way store) (last_mask 7 0xFF) (0x05 ∷ []) ∷ with (record_way store) (last_mask 3 0xFE) (0x30 ∷ []) ∷ [])
    (record { small = omega arith; all_accepted = refl; all_lent = refl; new_lent = refl; own_disjoint = refl; one_order = Permᴰ.refl _; other_order = Permᴰ.swap refl refl })

-- ---- what is read back

-- of the lengths from 1 to 64 bits
abbrev read_back_of : ℕ → ℕ → List ℕ
read_back_of len zero = []
read_back_of len (suc k) = cond (whole_or_short len) (len ∷ read_back_of (suc len) k) (read_back_of (suc len) k)

lengths_back : read_back_of 1 64 ≡ 1 ∷ 2 ∷ 3 ∷ 4 ∷ 5 ∷ 6 ∷ 7 ∷ 8 ∷ 16 ∷ 24 ∷ 32 ∷ 40 ∷ 48 ∷ 56 ∷ 64 ∷ []
lengths_back = refl

-- a field alone in its bytes, read into as many bytes as it takes, from 65,535 bytes of which those behind the message may be any
module _ (x : Located (List ℕ)) (n bits : ℕ) (v : List ℕ) (rest output : List ℕ) where
  abbrev Back : Type 0
  Back =
      (record_way []).read_back x (message (changed (record_way []) n [] [] [] x [] v (with (record_way []) x [] ∷ []) (with (record_way []) x v ∷ [])) ++ rest) output
      ≡ answer (read bits n) (v ++ drop n output)

one_byte : (b : ℕ) → b < 256 → (j : ℕ) → get_or (b ∷ []) j 0 < 256
one_byte b l zero = l
one_byte b l (suc j) = omega arith

-- 7 bits at bit 1, which just end inside their byte, and all of them set
seven_exact : Exact 7 (0x7F ∷ [])
unfolding bit bit_at
seven_exact =
    record {
      fills = refl;
      bytes = one_byte 0x7F (omega arith);
      fits = λ i l. ⊎_elim (λ (e : i ≡ 7). rw e refl) (λ (e : i ≡ 7 → ⊥). bit_at_out (0x7F ∷ []) i (omega arith)) (same i 7);
    }

seven_back : Back (bare 7 0 1) 1 7 (0x7F ∷ []) (replicate 65534 0xEE) (0xDD ∷ [])
unfolding coded_of encoded writing grown in_cut_out spliced all_accepted all_lent apart_from disjoint
seven_back =
    (alone 1 [] (bare 7 0 1) [] (0x7F ∷ [])
    (record { small = omega arith; all_accepted = refl; all_lent = refl; new_lent = refl; own_disjoint = refl; one_order = Permᴰ.refl _; other_order = Permᴰ.refl _ })
    ).d refl refl refl seven_exact (replicate 65534 0xEE) (omega arith) (0xDD ∷ []) (omega arith) refl

-- 8 bits, and a byte that could not be larger
eight_exact : Exact 8 (0xFF ∷ [])
eight_exact = record { fills = refl; bytes = one_byte 0xFF (omega arith); fits = λ i l. bit_at_out (0xFF ∷ []) i (omega arith) }

eight_back : Back (bare 8 0 0) 1 8 (0xFF ∷ []) [] (replicate 65535 0xDD)
unfolding coded_of encoded writing grown in_cut_out spliced all_accepted all_lent apart_from disjoint
eight_back =
    (alone 1 [] (bare 8 0 0) [] (0xFF ∷ [])
    (record { small = omega arith; all_accepted = refl; all_lent = refl; new_lent = refl; own_disjoint = refl; one_order = Permᴰ.refl _; other_order = Permᴰ.refl _ })
    ).d refl refl refl eight_exact [] (omega arith) (replicate 65535 0xDD) (rw (length-replicate {A = ℕ} 65535 0xDD) (omega arith)) refl

-- 64 bits, low-high
longest_exact : Exact 64 (replicate 8 0xFF)
longest_exact = record { fills = refl; bytes = bytes_replicate 8 0xFF (omega arith); fits = λ i l. bit_at_out (replicate 8 0xFF) i (omega arith) }

longest_back : Back (turned 64 0 0) 8 64 (replicate 8 0xFF) [] (replicate 8 0xDD)
unfolding coded_of encoded writing grown in_cut_out spliced all_accepted all_lent apart_from disjoint
longest_back =
    (alone 8 [] (turned 64 0 0) [] (replicate 8 0xFF)
    (record { small = omega arith; all_accepted = refl; all_lent = refl; new_lent = refl; own_disjoint = refl; one_order = Permᴰ.refl _; other_order = Permᴰ.refl _ })
    ).d refl refl refl longest_exact [] (omega arith) (replicate 8 0xDD) (omega arith) refl
