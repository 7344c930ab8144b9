-- Bits that are laid into zero bytes through a cut-out stand each at its place in the payload, the owned ones and a source's.
use Rattle.std.proofs.Common.{◌≡◌, refl, ◌∙◌, Bool, cond, List, ℕ, ◌+◌, ◌-◌, ◌*◌, ◌%◌, ◌≤◌, ◌<◌, arith, length, replicate}
use Rattle.std.proofs.lemmas.List.{length-replicate}
use Rattle.bits.specs.Bits.{bit_at, packed}
use Rattle.bits.specs.Moves.{first, within}
use Rattle.bits.proofs.Numbers.{Bits, bit_of_zero}
use Rattle.bits.proofs.Runs.{bit_at-replicate}
use Rattle.bits.proofs.Moves.{bits_cond, bits_first, bits_raised}
use Rattle.masks.specs.Mask.{Mask, no_mask, plain_mask, condensed_mask}
use Rattle.masks.proofs.Masked.{mask_bit-lt}
use Rattle.cutout.specs.CutOut.{owned_bit}
use Rattle.payload.specs.Writing.{cut_bytes}
use Rattle.ownership.specs.Ownership.{Cut, in_cut, laid, owned_at, footprint}
use Rattle.ownership.proofs.Effects.{source_at, imprint}
use Rattle.ownership.proofs.Places.{Pointwise, pointwise_packed, in_run, place_in_run, bit_at-in_cut_out}

-- the cut-out ends inside n bytes
abbrev pub Inside : Cut → ℕ → Type 0
Inside c n = c.at + cut_bytes c.pos c.size ≤ n

-- bit k of n bytes is in the cut-out, and which bit of its ordered form it is
abbrev pub holds : Cut → ℕ → ℕ → Bool
holds c n k = in_run c.at (cut_bytes c.pos c.size) n k

abbrev pub stands_at : Cut → ℕ → ℕ → ℕ
stands_at c n k = place_in_run c.order c.at (cut_bytes c.pos c.size) n k

pub bit_at-in_cut : (c : Cut) (f : List ℕ → List ℕ) (g : ℕ → ℕ → ℕ) → Pointwise (cut_bytes c.pos c.size) f g → (xs : List ℕ) → Inside c (length xs)
    → (k : ℕ) → k < 8 * length xs → bit_at (in_cut c f xs) k ≡ cond (holds c (length xs) k) (g (stands_at c (length xs) k) (bit_at xs k)) (bit_at xs k)
bit_at-in_cut c f g p xs h k l = bit_at-in_cut_out c.order c.at (cut_bytes c.pos c.size) f g p xs h k l

pub bit_at-zeros : (n k : ℕ) → k < 8 * n → bit_at (replicate n 0) k ≡ 0
bit_at-zeros n k l = bit_at-replicate n 0 k l ∙ bit_of_zero (k % 8)

pub bit_at-laid : (c : Cut) (f : ℕ → ℕ) (n : ℕ) → Bits f → Inside c n → (k : ℕ) → k < 8 * n → bit_at (laid c f n) k ≡ cond (holds c n k) (f (stands_at c n k)) 0
bit_at-laid c f n b h k l =
    let len = length-replicate {A = ℕ} n 0 in
    bit_at-in_cut c (λ ys. packed (length ys) f) (λ i b. f i) (pointwise_packed _ (λ ys. f) (λ i b. f i) (λ ys. b) (λ ys i. refl)) (replicate n 0) (rw len h) k (rw len l)
    ∙ rw (len, bit_at-zeros n k l)

-- ---- owned bits, and a source's

pub owned_bit-lt : (mask : Mask) (i : ℕ) → owned_bit mask i < 2
owned_bit-lt no_mask i = omega arith
owned_bit-lt (plain_mask mask) i = mask_bit-lt mask i
owned_bit-lt (condensed_mask mask) i = mask_bit-lt mask i

pub bits_owned : (c : Cut) → Bits (owned_at c)
bits_owned c i = bits_cond (within c.size c.pos i) (owned_bit-lt c.mask (i - c.pos)) (omega arith)

pub bits_source : (c : Cut) (bits : ℕ → ℕ) → Bits bits → Bits (source_at c bits)
bits_source c bits b = bits_raised c.pos (first c.size bits) (bits_first c.size bits b)

pub bit_at-footprint : (c : Cut) (n : ℕ) → Inside c n → (k : ℕ) → k < 8 * n → bit_at (footprint c n) k ≡ cond (holds c n k) (owned_at c (stands_at c n k)) 0
unfolding footprint
bit_at-footprint c n h k l = bit_at-laid c (owned_at c) n (bits_owned c) h k l

pub bit_at_imprint : (c : Cut) (bits : ℕ → ℕ) (n : ℕ) → Bits bits → Inside c n → (k : ℕ) → k < 8 * n → bit_at (imprint c bits n) k ≡ cond (holds c n k) (source_at c bits (stands_at c n k)) 0
unfolding imprint
bit_at_imprint c bits n b h k l = bit_at-laid c (source_at c bits) n (bits_source c bits b) h k l
