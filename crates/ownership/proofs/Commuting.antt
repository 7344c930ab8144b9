-- Two writes that own no bit in common go in either order.
use Rattle.std.proofs.Common.{◌≡◌, refl, sym, ◌∙◌, Bool, true, false, cond, List, ℕ, ◌*◌, ◌<◌, max, arith, length}
use Rattle.bits.specs.Bits.{bit_at}
use Rattle.bits.proofs.Bytes.{Bytes, ext_bits}
use Rattle.masks.specs.Mask.{Mask}
use Rattle.ownership.specs.Ownership.{Cut, owns}
use Rattle.ownership.proofs.Effects.{written_in, imprint, left}
use Rattle.ownership.proofs.Laid.{Inside}
use Rattle.ownership.proofs.Writes.{Writable, imprint_none, length_written_in, bytes_written_in, write_law}

-- no bit of n bytes is owned by both
abbrev pub Apart : Cut → Cut → ℕ → Type 0
Apart c c' n = (k : ℕ) → k < 8 * n → owns c n k ≡ true → owns c' n k ≡ true → ⊥

-- what a write makes of a bit x: o, it is owned; s, the source's bit there
abbrev written : Bool → Mask → ℕ → ℕ → ℕ
written o m s x = max (cond o (left m x) x) s

-- of a bit that is owned by at most one of two writes
in_either_order : (o o' : Bool) (m m' : Mask) (s s' x : ℕ) → (o ≡ true → o' ≡ true → ⊥) → (o ≡ false → s ≡ 0) → (o' ≡ false → s' ≡ 0)
    → written o m s (written o' m' s' x) ≡ written o' m' s' (written o m s x)
in_either_order true true m m' s s' x h e e' = absurd (h refl refl)
in_either_order true false m m' s s' x h e e' =
    let none = e' refl in
    let stays : max x s' ≡ x = omega arith in
    rw stays (omega arith)
in_either_order false true m m' s s' x h e e' =
    let none = e refl in
    let stays : max x s ≡ x = omega arith in
    rw stays (omega arith)
in_either_order false false m m' s s' x h e e' = omega (arith, e refl, e' refl)

module _ (c c' : Cut) (bits bits' : ℕ → ℕ) (xs : List ℕ) (w : Writable c bits) (w' : Writable c' bits') (h : Inside c (length xs)) (h' : Inside c' (length xs)) where
  abbrev ys : List ℕ
  ys = written_in c' bits' xs

  length_ys : length ys ≡ length xs
  length_ys = length_written_in c' bits' w'.zero_one xs h'

  inside_ys : Inside c (length ys)
  inside_ys = rw length_ys h

  length_both : length (written_in c bits ys) ≡ length xs
  length_both = length_written_in c bits w.zero_one ys inside_ys ∙ length_ys

  bytes_both : Bytes xs → Bytes (written_in c bits ys)
  bytes_both b = bytes_written_in c bits w.zero_one ys inside_ys (bytes_written_in c' bits' w'.zero_one xs h' b)

  bits_both : (k : ℕ) → k < 8 * length xs
      → bit_at (written_in c bits ys) k
      ≡ written (owns c (length xs) k) c.mask (bit_at (imprint c bits (length xs)) k)
      (written (owns c' (length xs) k) c'.mask (bit_at (imprint c' bits' (length xs)) k) (bit_at xs k))
  bits_both k l =
      rw (sym (write_law c' bits' w'.zero_one xs h' k l)) (write_law c bits w.zero_one ys inside_ys k (rw length_ys l) ∙ rw length_ys)

pub writes_commute : (c c' : Cut) (bits bits' : ℕ → ℕ) (xs : List ℕ) → Bytes xs → Writable c bits → Writable c' bits' → Inside c (length xs) → Inside c' (length xs) → Apart c c' (length xs)
    → written_in c bits (written_in c' bits' xs) ≡ written_in c' bits' (written_in c bits xs)
writes_commute c c' bits bits' xs b w w' h h' apart =
    let one = length_both c c' bits bits' xs w w' h h' in
    let other = length_both c' c bits' bits xs w' w h' h in
    ext_bits _ _ (bytes_both c c' bits bits' xs w w' h h' b) (bytes_both c' c bits' bits xs w' w h' h b) (one ∙ sym other) (λ k l.
    let below : k < 8 * length xs = rw one at l in
    bits_both c c' bits bits' xs w w' h h' k below
    ∙ in_either_order (owns c (length xs) k) (owns c' (length xs) k) c.mask c'.mask (bit_at (imprint c bits (length xs)) k) (bit_at (imprint c' bits' (length xs)) k) (bit_at xs k)
    (apart k below) (imprint_none c bits w (length xs) h k below) (imprint_none c' bits' w' (length xs) h' k below)
    ∙ sym (bits_both c' c bits' bits xs w' w h' h k below))
