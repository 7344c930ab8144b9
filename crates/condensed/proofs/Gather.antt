-- Bits gathered through a condensed mask: none yet, one more, and how many.
use Rattle.std.proofs.Common.{◌≡◌, refl, sym, ap, ⊎_elim, Bool, true, false, cond, List, [], ◌∷◌, ◌++◌, append-nil, ℕ, zero, suc, ◌+◌, ◌-◌, ◌/◌, ◌%◌, ◌≤◌, ◌<◌, add-one, arith, replicate, length, get_or, length-append, eqb, eq-eqb, ne_eqb}
use lib.ListN.{get_or-eq_default}
use Rattle.kinds.proofs.Compare.{same}
use Rattle.bits.specs.Bits.{bit, packed, or_bit}
use Rattle.bits.proofs.Numbers.{Bits, bit_of_zero}
use Rattle.bits.proofs.Bytes.{packed_zero}
use Rattle.bits.proofs.Steps.{or_bit_step}
use Rattle.condensed.specs.Condensed.{front_bit, gathered, bits_of}

-- ---- one bit more

module _ (m f : ℕ → ℕ) where
  pub gathered_one : (i : ℕ) → m i ≡ 1 → gathered m f (i + 1) ≡ gathered m f i ++ (f i ∷ [])
  unfolding gathered
  gathered_one i e = rw (add-one, gathered, eq-eqb (m i) 1 e)

  pub gathered_none : (i : ℕ) → (m i ≡ 1 → ⊥) → gathered m f (i + 1) ≡ gathered m f i
  unfolding gathered
  gathered_none i e = rw (add-one, gathered, ne_eqb (m i) 1 e) (append-nil (gathered m f i))

-- ---- a list of bits as a function

bits_of_end : (l : List ℕ) (v : ℕ) → bits_of (l ++ (v ∷ [])) (length l) ≡ v
bits_of_end [] v = refl
bits_of_end (x ∷ l) v = bits_of_end l v

bits_of_other : (l : List ℕ) (v k : ℕ) → (k ≡ length l → ⊥) → bits_of l k ≡ bits_of (l ++ (v ∷ [])) k
bits_of_other [] v zero n = absurd (n refl)
bits_of_other [] v (suc k) n = refl
bits_of_other (x ∷ l) v zero n = refl
bits_of_other (x ∷ l) v (suc k) n = bits_of_other l v k (λ e. n (ap suc e))

bits_append : (l r : List ℕ) → Bits (bits_of l) → Bits (bits_of r) → Bits (bits_of (l ++ r))
bits_append [] r a b k = b k
bits_append (x ∷ l) r a b zero = a 0
bits_append (x ∷ l) r a b (suc k) = bits_append l r (λ j. a (suc j)) b k

bits_one : (t : Bool) (v : ℕ) → v < 2 → Bits (bits_of (cond t (v ∷ []) []))
bits_one true v h zero = h
bits_one true v h (suc k) = omega arith
bits_one false v h k = omega arith

pub bits_gathered : (m f : ℕ → ℕ) (n : ℕ) → Bits f → Bits (bits_of (gathered m f n))
unfolding gathered
bits_gathered m f zero b k = omega arith
bits_gathered m f (suc n) b k = bits_append (gathered m f n) (cond (eqb (m n) 1) (f n ∷ []) []) (bits_gathered m f n b) (bits_one (eqb (m n) 1) (f n) (b n)) k

-- one bit more in the bytes that hold the list
pub snoc_step : (l xs : List ℕ) (n v : ℕ) → Bits (bits_of l) → v < 2 → xs ≡ packed n (bits_of l) → or_bit false xs (length l) v ≡ packed n (bits_of (l ++ (v ∷ [])))
snoc_step l xs n v b lv e =
    let none : bits_of l (length l) ≡ 0 = get_or-eq_default l 0 (omega arith) in
    let new : bits_of (l ++ (v ∷ [])) (length l) ≡ v = bits_of_end l v in
    or_bit_step false n (bits_of l) (bits_of (l ++ (v ∷ []))) xs (length l) v b lv e (bits_of_other l v) (omega arith)

-- ---- what the code reads of a mask that is indexed from its front

pub front_bit_code : (mask : List ℕ) (n i : ℕ) → bit (get_or mask (n - i / 8 - 1) 0) (i % 8) ≡ front_bit mask n i
unfolding front_bit
front_bit_code mask n i =
    let at : n - i / 8 - 1 ≡ n - 1 - i / 8 = omega arith in
    rw at

pub front_bit_out : (mask : List ℕ) (n i : ℕ) → length mask ≤ n - i / 8 - 1 → front_bit mask n i ≡ 0
unfolding front_bit
front_bit_out mask n i h =
    let none : get_or mask (n - 1 - i / 8) 0 ≡ 0 = get_or-eq_default mask 0 (omega arith) in
    rw none (bit_of_zero (i % 8))

-- ---- the loop: how many bits are gathered of the first i + 1, and the bytes that hold them

module _ (m f : ℕ → ℕ) where
  pub many_none : length (gathered m f 0) ≡ 0
  unfolding gathered
  many_none = refl

  pub bytes_none : (n : ℕ) → packed n (bits_of (gathered m f 0)) ≡ replicate n 0
  unfolding gathered
  bytes_none n = packed_zero n

  pub many_more : (i : ℕ) → length (gathered m f (i + 1)) ≡ cond (eqb (m i) 1) (length (gathered m f i) + 1) (length (gathered m f i))
  many_more i =
      ⊎_elim (λ (h : m i ≡ 1). rw (gathered_one m f i h, eq-eqb (m i) 1 h, length-append))
      (λ (h : m i ≡ 1 → ⊥). rw (gathered_none m f i h, ne_eqb (m i) 1 h))
      (same (m i) 1)

  pub bytes_more : Bits f → (n i : ℕ)
      → packed n (bits_of (gathered m f (i + 1)))
      ≡ cond (eqb (m i) 1) (or_bit false (packed n (bits_of (gathered m f i))) (length (gathered m f i)) (f i)) (packed n (bits_of (gathered m f i)))
  bytes_more b n i =
      ⊎_elim (λ (h : m i ≡ 1). rw (gathered_one m f i h, eq-eqb (m i) 1 h) (sym (snoc_step (gathered m f i) _ n (f i) (bits_gathered m f i b) (b i) refl)))
      (λ (h : m i ≡ 1 → ⊥). rw (gathered_none m f i h, ne_eqb (m i) 1 h))
      (same (m i) 1)
