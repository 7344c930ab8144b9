-- How many bits a condensed reading gathers, and how many bytes it gives.
use Rattle.std.proofs.Common.{◌≡◌, refl, sym, ap, ap₂, ◌∙◌, ⊎_elim, cond, List, ℕ, zero, suc, ◌+◌, ◌-◌, ◌/◌, ◌%◌, ◌≤◌, ◌<◌, arith, length, get_or, length-append, ltb, lt-ltb, le-ltb, eq-eqb, ne_eqb}
use Rattle.kinds.specs.Types.{bytes_for}
use Rattle.kinds.proofs.Compare.{below, same}
use Rattle.bits.specs.Bits.{packed}
use Rattle.bits.proofs.Numbers.{Bits, bit-lt}
use Rattle.bits.proofs.Bytes.{length-packed, drop-packed}
use Rattle.condensed.specs.Condensed.{front_bit, ones_below, gathered, picked, bits_of, condensed_count, drop_below, condensed, condensed_bytes}
use Rattle.condensed.specs.Gathered.{ones_met}

-- as many bits are gathered as there are ones
pub length-gathered : (m f : ℕ → ℕ) → Bits m → (n : ℕ) → length (gathered m f n) ≡ ones_below m n
unfolding gathered ones_below
length-gathered m f b zero = refl
length-gathered m f b (suc n) =
    rw length-append
    (⊎_elim (λ (e : m n ≡ 1). rw (eq-eqb (m n) 1 e) (omega (arith, length-gathered m f b n)))
    (λ (e : m n ≡ 1 → ⊥). rw (ne_eqb (m n) 1 e) (omega (arith, length-gathered m f b n, b n)))
    (same (m n) 1))

pub bits_front : (mask : List ℕ) (n : ℕ) → Bits (front_bit mask n)
unfolding front_bit
bits_front mask n i = bit-lt (get_or mask (n - 1 - i / 8) 0) (i % 8)

-- of r bytes those that are left, where e of them are dropped if that is fewer
abbrev pub bytes_left : ℕ → ℕ → ℕ
bytes_left r e = cond (ltb e r) (r - e) r

drop_below-packed : (r e : ℕ) (f : ℕ → ℕ) → drop_below r e (packed r f) ≡ packed (bytes_left r e) f
drop_below-packed r e f =
    ⊎_elim
    (λ (h : e < r).
    let whole : e + (r - e) ≡ r = omega arith in
    rw (lt-ltb e r h) (rw whole at (drop-packed e (r - e) f)))
    (λ (h : r ≤ e). rw (le-ltb e r h))
    (below e r)

module _ (mask : List ℕ) (len : ℕ) where
  pub length-picked : (field : ℕ → ℕ) → length (picked mask len field) ≡ ones_met mask len
  length-picked field = length-gathered (front_bit mask (bytes_for len)) field (bits_front mask (bytes_for len)) len

  -- the bytes for the bits that are counted, and those for the bits that are gathered
  abbrev pub counted : ℕ
  counted = bytes_for (condensed_count mask len)

  abbrev pub filled : ℕ
  filled = bytes_for (ones_below (front_bit mask (bytes_for len)) len)

  -- what is gathered into so many bytes is what a condensed reading gives
  pub condensed-packed : (field : ℕ → ℕ) → packed (bytes_left counted filled) (bits_of (picked mask len field)) ≡ condensed mask len field
  unfolding condensed
  condensed-packed field =
      let many = length-gathered (front_bit mask (bytes_for len)) field (bits_front mask (bytes_for len)) len in
      sym
      (ap (λ (n : ℕ). drop_below counted (bytes_for n) (packed counted (bits_of (picked mask len field)))) many
      ∙ drop_below-packed counted filled (bits_of (picked mask len field)))

  pub length-condensed : (field : ℕ → ℕ) → length (condensed mask len field) ≡ bytes_left counted filled
  length-condensed field = ap length (sym (condensed-packed field)) ∙ length-packed (bytes_left counted filled) (bits_of (picked mask len field))

  -- the same from two numbers that are those
  module _ (r e : ℕ) (er : r ≡ counted) (ee : e ≡ filled) where
    left_is : bytes_left r e ≡ condensed_bytes mask len
    left_is = ap₂ bytes_left er ee ∙ sym (length-condensed (λ k. 0))

    pub dropped_is : e < r → r - e ≡ condensed_bytes mask len
    dropped_is h = rw (lt-ltb e r h) at left_is

    pub kept_is : r ≤ e → r ≡ condensed_bytes mask len
    kept_is h = rw (le-ltb e r h) at left_is
