-- Eight bits that start anywhere lie in two bytes: the two as one number, shifted to the first bit, with what is above the bits cut off.
use Rattle.std.proofs.Common.{◌≡◌, refl, sym, ap, ◌∙◌, List, ℕ, zero, suc, ◌+◌, ◌-◌, ◌*◌, ◌/◌, ◌%◌, ◌^◌, ◌≤◌, ◌<◌, min, arith, length, get_or, shl_exact}
use Rattle.std.proofs.lemmas.Nat.{div-mul-add}
use Rattle.kinds.specs.declared.types.ByteOrder.{ByteOrder}
use Rattle.order.specs.Order.{ordered}
use Rattle.order.proofs.Index.{length-ordered}
use Rattle.bits.specs.Bits.{bit, bit_at, number}
use Rattle.bits.specs.Moves.{first, from}
use Rattle.bits.proofs.Numbers.{number_ext, number_lt, number_bits, number-add, number_lowest}
use Rattle.bits.proofs.Bytes.{bit_at_in, bit_at_out, bit_at_lt}
use Rattle.bits.proofs.Moves.{first_in, first_out, bits_first}

number_zero : (n : ℕ) → number n (λ k. 0) ≡ 0
unfolding number
number_zero zero = refl
number_zero (suc n) = rw (number_zero n)

-- ---- the byte that has so many behind it

module _ (o : ByteOrder) (xs : List ℕ) (a : ℕ) where
  abbrev ys : List ℕ
  ys = ordered o xs

  pub eight_there : (b : ℕ) → b < 256 → b ≡ get_or ys (length xs - 1 - a) 0 → a < length xs → b ≡ number 8 (from (8 * a) (bit_at ys))
  eight_there b few e l =
      let long = length-ordered o xs in
      sym (number_ext 8 (from (8 * a) (bit_at ys)) (bit b) (λ k lk.
      let at : (8 * a + k) / 8 ≡ a = omega arith in
      let off : (8 * a + k) % 8 ≡ k = omega arith in
      bit_at_in ys (8 * a + k) (omega arith) ∙ rw (at, off, long, e))
      ∙ number_bits 8 b few)

  pub eight_none : length xs ≤ a → 0 ≡ number 8 (from (8 * a) (bit_at ys))
  eight_none l =
      let long = length-ordered o xs in
      sym (number_ext 8 (from (8 * a) (bit_at ys)) (λ k. 0) (λ k lk. bit_at_out ys (8 * a + k) (omega arith)) ∙ number_zero 8)

-- ---- two bytes as one number

module _ (xs : List ℕ) where
  abbrev two : ℕ → ℕ
  two a = number 8 (from (8 * a) (bit_at xs)) + 256 * number 8 (from (8 * (a + 1)) (bit_at xs))

  two_number : (a : ℕ) → two a ≡ number 16 (from (8 * a) (bit_at xs))
  two_number a =
      let low = number 8 (from (8 * a) (bit_at xs)) in
      sym (number-add 8 8 (from (8 * a) (bit_at xs))
      ∙ ap (λ (y : ℕ). low + 256 * y) (number_ext 8 (λ k. bit_at xs (8 * a + (8 + k))) (from (8 * (a + 1)) (bit_at xs)) (λ k lk. ap (bit_at xs) (omega arith))))

  -- shifted by less than a byte, the lowest are the bits from there on
  two_shifted : (a o r : ℕ) → o < 8 → r ≤ 8 → two a / 2 ^ o % 2 ^ r ≡ number r (from (8 * a + o) (bit_at xs))
  two_shifted a o r lo lr =
      let g : ℕ → ℕ = from (8 * a) (bit_at xs) in
      let h : ℕ → ℕ = λ k. g (o + k) in
      let all : 16 ≡ o + (16 - o) = omega arith in
      let rest : 16 - o ≡ r + (16 - o - r) = omega arith in
      let split : two a ≡ number (16 - o) h * 2 ^ o + number o g = two_number a ∙ ap (λ (n : ℕ). number n g) all ∙ number-add o (16 - o) g ∙ omega arith in
      let shifted : two a / 2 ^ o ≡ number (16 - o) h =
      ap (λ (x : ℕ). x / 2 ^ o) split ∙ div-mul-add (number (16 - o) h) (2 ^ o) (number o g) (number_lt o g (λ k. bit_at_lt xs (8 * a + k))) in
      ap (λ (x : ℕ). x % 2 ^ r) (shifted ∙ ap (λ (n : ℕ). number n h) rest)
      ∙ number_lowest r (16 - o - r) h (λ k. bit_at_lt xs (8 * a + (o + k)))
      ∙ number_ext r h (from (8 * a + o) (bit_at xs)) (λ k lk. ap (bit_at xs) (omega arith))

  -- so many bits of a run from bit i on, and above them zeros
  bits_left : (len pos i r : ℕ) → i < len → r ≡ min (len - i) 8 → number r (from (pos + i) (bit_at xs)) ≡ number 8 (from i (first len (from pos (bit_at xs))))
  bits_left len pos i r l e =
      let f : ℕ → ℕ = from pos (bit_at xs) in
      let g : ℕ → ℕ = from i (first len f) in
      let all : 8 ≡ r + (8 - r) = omega arith in
      let low : number r g ≡ number r (from (pos + i) (bit_at xs)) =
      number_ext r g (from (pos + i) (bit_at xs)) (λ k lk. first_in len f (i + k) (omega arith) ∙ ap (bit_at xs) (omega arith)) in
      let high : number (8 - r) (λ k. g (r + k)) ≡ 0 = number_ext (8 - r) (λ k. g (r + k)) (λ k. 0) (λ k lk. first_out len f (i + (r + k)) (omega arith)) ∙ number_zero (8 - r) in
      let none : number r g + 2 ^ r * 0 ≡ number r g = omega arith in
      sym (ap (λ (n : ℕ). number n g) all ∙ number-add r (8 - r) g ∙ rw high (none ∙ low))

  -- as the code has it
  pub byte_made : (len pos i w r : ℕ) → i < len → r ≡ min (len - i) 8 → w ≡ two ((pos + i) / 8) → w / 2 ^ ((pos + i) % 8) % ((1 * 2 ^ r) % 2 ^ 64) ≡ number 8 (from i (first len (from pos (bit_at xs))))
  byte_made len pos i w r l e ew =
      let at : 8 * ((pos + i) / 8) + (pos + i) % 8 ≡ pos + i = omega arith in
      let one : (1 * 2 ^ r) % 2 ^ 64 ≡ 2 ^ r = shl_exact {a = 1} 1 r 64 (omega arith) (omega arith) ∙ omega arith in
      rw (ew, one)
      (two_shifted ((pos + i) / 8) ((pos + i) % 8) r (omega arith) (omega arith)
      ∙ ap (λ (p : ℕ). number r (from p (bit_at xs))) at
      ∙ bits_left len pos i r l e)

  pub byte_fits : (len pos i : ℕ) → number 8 (from i (first len (from pos (bit_at xs)))) < 256
  byte_fits len pos i = number_lt 8 (from i (first len (from pos (bit_at xs)))) (λ k. bits_first len (from pos (bit_at xs)) (λ j. bit_at_lt xs (pos + j)) (i + k))
