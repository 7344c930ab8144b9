-- The laws of writes and clears at inputs that only just meet their premises, so that a stronger premise is refused here.
use Rattle.std.proofs.Common.{◌≡◌, refl, sym, true, cond, true≢false, List, [], ◌∷◌, ℕ, zero, suc, ◌<◌, arith, eqb}
use Rattle.kinds.specs.declared.types.DataType.TheVariants.{UInt32}
use Rattle.kinds.specs.declared.types.ByteOrder.TheVariants.{Keep}
use Rattle.order.specs.Order.{ordered}
use Rattle.bits.specs.Bits.{bit, bit_at, number, packed}
use Rattle.bits.proofs.Bytes.{Bytes}
use Rattle.bits.proofs.Moves.{bits_cond}
use Rattle.masks.specs.Mask.{Mask, no_mask, plain_mask, condensed_mask}
use Rattle.masks.specs.Plain.{bit_of_mask}
use Rattle.pack.specs.Source.{standard_bits_under}
use Rattle.payload.specs.Writing.{spliced, in_cut_out}
use Rattle.ownership.specs.Ownership.{Cut, footprint, owns}
use Rattle.ownership.proofs.Effects.{written_in, cleared_in, after_write, after_clear}
use Rattle.ownership.proofs.Clears.{clear_law}
use Rattle.ownership.proofs.Writes.{Writable, write_law, write_outside}
use Rattle.ownership.proofs.Sources.{standard_writable}
use Rattle.ownership.proofs.Commuting.{writes_commute}

abbrev cut : ℕ → ℕ → ℕ → Mask → Cut
cut at pos size mask = record { order = Keep; at = at; pos = pos; size = size; mask = mask }

-- three bytes of the highest value
abbrev three : List ℕ
three = 255 ∷ 255 ∷ 255 ∷ []

-- ---- a cut-out that ends with the payload, and its last bit; the source's bits are all 1

abbrev last : Cut
last = cut 1 4 12 no_mask

pub last_written : bit_at (written_in last (λ i. 1) three) 23 ≡ after_write last (λ i. 1) 3 three 23
last_written = write_law last (λ i. 1) (λ i. omega arith) three (omega arith) 23 (omega arith)

pub last_cleared : bit_at (cleared_in last three) 23 ≡ after_clear last 3 three 23
last_cleared = clear_law last three (omega arith) 23 (omega arith)

-- ---- a source that has ones where the field ends, and zeros only under mask zeros inside it

-- one bit, and the mask has a zero there
abbrev masked : Cut
masked = cut 0 0 1 (plain_mask (0xFE ∷ []))

abbrev past : ℕ → ℕ
past i = cond (eqb i 0) 0 1

masked_writable : Writable masked past
masked_writable = record { zero_one = λ i. bits_cond (eqb i 0) (omega arith) (omega arith); under_zeros = λ i l e. let z : i ≡ 0 = omega arith in rw z refl }

pub masked_left : bit_at (written_in masked past (255 ∷ [])) 0 ≡ bit_at (255 ∷ []) 0
unfolding owns footprint in_cut_out spliced ordered packed number bit bit_at bit_of_mask
masked_left = write_outside masked past masked_writable (255 ∷ []) (omega arith) 0 (omega arith) refl

-- and at the last bit of the payload, which is not owned either
pub last_left : bit_at (written_in masked past (255 ∷ [])) 7 ≡ bit_at (255 ∷ []) 7
unfolding owns footprint in_cut_out spliced ordered packed number bit bit_at bit_of_mask
last_left = write_outside masked past masked_writable (255 ∷ []) (omega arith) 7 (omega arith) refl

-- ---- two fields in one cut-out, whose masks have no one in common

abbrev upper : Cut
upper = cut 0 0 8 (plain_mask (0xF0 ∷ []))

abbrev lower : Cut
lower = cut 0 0 8 (plain_mask (0x0F ∷ []))

-- what a Standard field of 8 bits writes there
abbrev ones : Cut → ℕ → ℕ
ones c = standard_bits_under c.mask UInt32 8 (255 ∷ [])

upper_writable : Writable upper (ones upper)
upper_writable = standard_writable upper UInt32 8 (255 ∷ []) refl

lower_writable : Writable lower (ones lower)
lower_writable = standard_writable lower UInt32 8 (255 ∷ []) refl

one_byte : Bytes (255 ∷ [])
one_byte zero = omega arith
one_byte (suc j) = omega arith

-- each bit of the byte is owned by one of them
apart : (k : ℕ) → k < 8 → owns upper 1 k ≡ true → owns lower 1 k ≡ true → ⊥
unfolding owns footprint in_cut_out spliced ordered packed number bit bit_at bit_of_mask
apart zero l = λ e f. absurd (true≢false (sym e))
apart (suc zero) l = λ e f. absurd (true≢false (sym e))
apart (suc (suc zero)) l = λ e f. absurd (true≢false (sym e))
apart (suc (suc (suc zero))) l = λ e f. absurd (true≢false (sym e))
apart (suc (suc (suc (suc zero)))) l = λ e f. absurd (true≢false (sym f))
apart (suc (suc (suc (suc (suc zero))))) l = λ e f. absurd (true≢false (sym f))
apart (suc (suc (suc (suc (suc (suc zero)))))) l = λ e f. absurd (true≢false (sym f))
apart (suc (suc (suc (suc (suc (suc (suc zero))))))) l = λ e f. absurd (true≢false (sym f))
apart (suc (suc (suc (suc (suc (suc (suc (suc k)))))))) l = absurd (omega arith)

pub halves_commute : written_in upper (ones upper) (written_in lower (ones lower) (255 ∷ [])) ≡ written_in lower (ones lower) (written_in upper (ones upper) (255 ∷ []))
halves_commute = writes_commute upper lower (ones upper) (ones lower) (255 ∷ []) one_byte upper_writable lower_writable (omega arith) (omega arith) apart

-- ---- a condensed mask sets the size, whatever the length is
pub condensed_writable : Writable (cut 0 0 8 (condensed_mask (0xF0 ∷ []))) (standard_bits_under (condensed_mask (0xF0 ∷ [])) UInt32 0 [])
condensed_writable = standard_writable (cut 0 0 8 (condensed_mask (0xF0 ∷ []))) UInt32 0 [] refl
