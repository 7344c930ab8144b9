-- How many ones of a mask are met inside a length: no more than the length, and no more than the mask has.
use Rattle.std.proofs.Common.{◌≡◌, sym, ap, ◌∙◌, List, ℕ, zero, suc, ◌+◌, ◌-◌, ◌*◌, ◌/◌, ◌%◌, ◌≤◌, arith, get_or, drop}
use lib.Count.{ones}
use Rattle.kinds.specs.Types.{bytes_for}
use Rattle.bits.specs.Bits.{bit}
use Rattle.condensed.specs.Condensed.{front_bit, ones_below, ones_of, condensed_count}
use Rattle.condensed.specs.Gathered.{ones_met}
use Rattle.condensed.proofs.Ones.{ones_of-from, ones_below_ext, ones_below-add, ones_below-le, ones_below-bit}
use Rattle.condensed.proofs.Size.{bits_front}

module _ (mask : List ℕ) where
  pub met_le_length : (len : ℕ) → ones_met mask len ≤ len
  met_le_length len = ones_below-le (front_bit mask (bytes_for len)) (bits_front mask (bytes_for len)) len

  module _ (n : ℕ) where
    -- the bits of byte k from the end of n bytes
    byte_bits : (k o : ℕ) → o ≤ 7 → front_bit mask n (8 * k + o) ≡ bit (get_or mask (n - 1 - k) 0) o
    unfolding front_bit
    byte_bits k o l =
        let byte : (8 * k + o) / 8 ≡ k = omega arith in
        let offset : (8 * k + o) % 8 ≡ o = omega arith in
        rw (byte, offset)

    -- of the last k of n bytes
    met_of_last : (k : ℕ) → k ≤ n → ones_below (front_bit mask n) (8 * k) ≤ ones_of (drop (n - k) mask)
    unfolding ones_below
    met_of_last zero l = omega arith
    met_of_last (suc k) l =
        let next : 8 * suc k ≡ 8 * k + 8 = omega arith in
        let at : n - suc k ≡ n - 1 - k = omega arith in
        let behind : suc (n - 1 - k) ≡ n - k = omega arith in
        let new : ones_below (λ o. front_bit mask n (8 * k + o)) 8 ≡ ones_below (bit (get_or mask (n - 1 - k) 0)) 8 =
        ones_below_ext (λ o. front_bit mask n (8 * k + o)) (bit (get_or mask (n - 1 - k) 0)) 8 (λ o h. byte_bits k o (omega arith)) in
        let all : ones_of (drop (n - 1 - k) mask) ≡ ones (get_or mask (n - 1 - k) 0) + ones_of (drop (n - k) mask) =
        ones_of-from mask (n - 1 - k) ∙ ap (λ (j : ℕ). ones (get_or mask (n - 1 - k) 0) + ones_of (drop j mask)) behind in
        rw (next, at) (omega (arith, ones_below-add (front_bit mask n) (8 * k) 8, new, all, ones_below-bit 8 (get_or mask (n - 1 - k) 0), met_of_last k (omega arith)))

  met_le_ones : (len : ℕ) → ones_met mask len ≤ ones_of mask
  met_le_ones len =
      let n = bytes_for len in
      let whole : len + (8 * n - len) ≡ 8 * n = omega arith in
      let none : n - n ≡ 0 = omega arith in
      let split : ones_below (front_bit mask n) (8 * n) ≡ ones_met mask len + ones_below (λ k. front_bit mask n (len + k)) (8 * n - len) =
      ap (ones_below (front_bit mask n)) (sym whole) ∙ ones_below-add (front_bit mask n) len (8 * n - len) in
      let all : ones_below (front_bit mask n) (8 * n) ≤ ones_of mask = rw none at (met_of_last n n (omega arith)) in
      omega arith

  pub met_le_count : (len : ℕ) → ones_met mask len ≤ condensed_count mask len
  met_le_count len = omega (arith, met_le_length len, met_le_ones len)
