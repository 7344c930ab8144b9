-- The source of a condensed write: its bits, one after the other.
use Rattle.std.proofs.Common.{◌≡◌, ◌∙◌, ⊎_elim, cond, List, ℕ, ◌*◌, ◌≤◌, ◌<◌, min, arith, length, eqb, ltb, bit_and, lt-ltb, le-ltb, eq-eqb, ne_eqb}
use Rattle.kinds.proofs.Compare.{same}
use Rattle.bits.specs.Bits.{bit_at}
use Rattle.bits.proofs.Numbers.{Bits, and_two}
use Rattle.bits.proofs.Bytes.{bit_at_lt}
use Rattle.bits.proofs.Moves.{bits_cond}
use Rattle.condensed.specs.Condensed.{ones_below, replacement, replaced}

pub replacement_in : (input : List ℕ) (k : ℕ) → k < 8 * length input → bit_at input k ≡ replacement input k
unfolding replacement
replacement_in input k l = rw (lt-ltb k (8 * length input) l)

pub replacement_out : (input : List ℕ) (k : ℕ) → 8 * length input ≤ k → 1 ≡ replacement input k
unfolding replacement
replacement_out input k l = rw (le-ltb k (8 * length input) l)

pub replacement-lt : (input : List ℕ) (k : ℕ) → replacement input k < 2
unfolding replacement
replacement-lt input k = bits_cond (ltb k (8 * length input)) (bit_at_lt input k) (omega arith)

pub bits_replaced : (mask input : List ℕ) → Bits (replaced mask input)
unfolding replaced
bits_replaced mask input i = bits_cond (eqb (bit_at mask i) 1) (replacement-lt input (ones_below (bit_at mask) i)) (omega arith)

-- what the code ORs in
pub replaced_code : (mask input : List ℕ) (i : ℕ) → bit_and (bit_at mask i) (replacement input (ones_below (bit_at mask) i)) ≡ replaced mask input i
unfolding replaced
replaced_code mask input i =
    let one = bit_at_lt mask i in
    let two = replacement-lt input (ones_below (bit_at mask) i) in
    and_two (bit_at mask i) (replacement input (ones_below (bit_at mask) i)) one two
    ∙ ⊎_elim {C = min (bit_at mask i) (replacement input (ones_below (bit_at mask) i)) ≡ cond (eqb (bit_at mask i) 1) (replacement input (ones_below (bit_at mask) i)) 0}
    (λ (h : bit_at mask i ≡ 1). rw (eq-eqb (bit_at mask i) 1 h) (omega arith))
    (λ (h : bit_at mask i ≡ 1 → ⊥). rw (ne_eqb (bit_at mask i) 1 h) (omega arith))
    (same (bit_at mask i) 1)
