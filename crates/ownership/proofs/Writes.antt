-- The write law: what a write makes of each bit of a payload, whatever bits it writes.
use Rattle.std.proofs.Common.{◌≡◌, refl, ◌∙◌, ⊎_elim, Bool, true, false, cond, List, ℕ, zero, suc, ◌+◌, ◌-◌, ◌*◌, ◌≤◌, ◌<◌, max, arith, length, eqb, lt-ltb, le-leb}
use Rattle.kinds.proofs.Compare.{below}
use Rattle.bits.specs.Bits.{bit_at}
use Rattle.bits.specs.Moves.{first, either, injected}
use Rattle.bits.proofs.Numbers.{Bits}
use Rattle.bits.proofs.Bytes.{Bytes, bit_at_lt}
use Rattle.bits.proofs.Moves.{bits_either, first_in, first_out, raised_out}
use Rattle.masks.specs.Mask.{Mask, no_mask, plain_mask, condensed_mask}
use Rattle.payload.specs.Writing.{cut_bytes}
use Rattle.cutout.specs.CutOut.{owned_bit, cleared, readied, put}
use Rattle.ownership.specs.Ownership.{Cut, owned_at, owns}
use Rattle.ownership.proofs.Effects.{source_for, written_in, source_at, imprint, left, after_write}
use Rattle.ownership.proofs.Places.{Pointwise, pointwise_packed, pointwise_as, pointwise_then, length-in_cut_out, bytes_in_cut_out}
use Rattle.ownership.proofs.Laid.{Inside, holds, stands_at, bit_at-in_cut, bits_owned, bits_source, bit_at-footprint, bit_at_imprint}
use Rattle.ownership.proofs.Clears.{clears_to, pointwise_cleared}

-- over a zero nothing is left, masked or not
pub left_zero : (mask : Mask) → left mask 0 ≡ 0
left_zero no_mask = refl
left_zero (plain_mask mask) = refl
left_zero (condensed_mask mask) = refl

-- ---- in the ordered cut-out

-- what a write makes of the bit b at i
abbrev pub puts_to : Cut → (ℕ → ℕ) → ℕ → ℕ → ℕ
puts_to c bits i b = max (cond (eqb (owned_at c i) 1) (left c.mask b) b) (source_at c bits i)

pointwise_injected : (c : Cut) (bits : ℕ → ℕ) → Bits bits
    → Pointwise (cut_bytes c.pos c.size) (injected c.size c.pos bits) (λ i b. max b (source_at c bits i))
unfolding injected
pointwise_injected c bits b =
    pointwise_packed _ (λ ys. either (bit_at ys) (source_at c bits)) (λ i x. max x (source_at c bits i))
    (λ ys. bits_either (bit_at ys) (source_at c bits) (bit_at_lt ys) (bits_source c bits b)) (λ ys i. refl)

same_either : (t : Bool) (b s : ℕ) → max b s ≡ max (cond t b b) s
same_either true b s = refl
same_either false b s = refl

-- a write clears what it owns first under a mask, and not without one
abbrev Puts : Cut → (ℕ → ℕ) → Type 0
Puts c bits = Bits bits → Pointwise (cut_bytes c.pos c.size) (put (source_for c bits) c.pos) (puts_to c bits)

abbrev under : Cut → Mask → Cut
under c mask = record { order = c.order; at = c.at; pos = c.pos; size = c.size; mask = mask }

over : (c : Cut) (bits : ℕ → ℕ) → Bits bits
    → Pointwise (cut_bytes c.pos c.size) (injected c.size c.pos bits) (λ i x. max (cond (eqb (owned_at c i) 1) x x) (source_at c bits i))
over c bits b = pointwise_as _ (injected c.size c.pos bits) _ _ (pointwise_injected c bits b) (λ i x l. same_either (eqb (owned_at c i) 1) x (source_at c bits i))

anew : (c : Cut) (bits : ℕ → ℕ) → Bits bits
    → Pointwise (cut_bytes c.pos c.size) (λ ys. injected c.size c.pos bits (cleared c.mask c.size c.pos ys)) (λ i x. max (clears_to c i x) (source_at c bits i))
anew c bits b =
    pointwise_then _ (cleared c.mask c.size c.pos) (injected c.size c.pos bits) (clears_to c) (λ i x. max x (source_at c bits i)) (pointwise_cleared c) (pointwise_injected c bits b)

put_under : (c : Cut) (mask : Mask) (bits : ℕ → ℕ) → Puts (under c mask) bits
unfolding readied
put_under c no_mask bits b = over (under c no_mask) bits b
put_under c (plain_mask mask) bits b = anew (under c (plain_mask mask)) bits b
put_under c (condensed_mask mask) bits b = anew (under c (condensed_mask mask)) bits b

pub pointwise_put : (c : Cut) (bits : ℕ → ℕ) → Puts c bits
pointwise_put c bits = put_under c c.mask bits

-- ---- by place in the payload

-- t: the bit is in the cut-out; m: it is owned; s: the source's bit there
at_place : (t : Bool) (mask : Mask) (m s x : ℕ)
    → cond t (max (cond (eqb m 1) (left mask x) x) s) x ≡ max (cond (eqb (cond t m 0) 1) (left mask x) x) (cond t s 0)
at_place true mask m s x = refl
at_place false mask m s x = omega arith

module _ (c : Cut) (bits : ℕ → ℕ) (b : Bits bits) (xs : List ℕ) (h : Inside c (length xs)) where
  pub length_written_in : length (written_in c bits xs) ≡ length xs
  length_written_in = length-in_cut_out c.order c.at (cut_bytes c.pos c.size) (put (source_for c bits) c.pos) (puts_to c bits) (pointwise_put c bits b) xs h

  pub bytes_written_in : Bytes xs → Bytes (written_in c bits xs)
  bytes_written_in = bytes_in_cut_out c.order c.at (cut_bytes c.pos c.size) (put (source_for c bits) c.pos) (puts_to c bits) (pointwise_put c bits b) xs h

  -- the source's bits are ORed into what is left of the owned bits, and into the others
  pub write_law : (k : ℕ) → k < 8 * length xs → bit_at (written_in c bits xs) k ≡ after_write c bits (length xs) xs k
  unfolding owns
  write_law k l =
      let n = length xs in
      let i = stands_at c n k in
      rw (bit_at-footprint c n h k l, bit_at_imprint c bits n b h k l)
      (bit_at-in_cut c (put (source_for c bits) c.pos) (puts_to c bits) (pointwise_put c bits b) xs h k l
      ∙ at_place (holds c n k) c.mask (owned_at c i) (source_at c bits i) (bit_at xs k))

-- ---- a source that is zero under mask zeros leaves alone what is not owned

pub record Writable (c : Cut) (bits : ℕ → ℕ) : Type 0 where
  pub zero_one : Bits bits
  pub under_zeros : (i : ℕ) → i < c.size → owned_bit c.mask i ≡ 0 → bits i ≡ 0

source_none : (c : Cut) (bits : ℕ → ℕ) → Writable c bits → (i : ℕ) → owned_at c i ≡ 0 → source_at c bits i ≡ 0
source_none c bits w i e =
    ⊎_elim (λ (a : i < c.pos). raised_out c.pos (first c.size bits) i a)
    (λ (a : c.pos ≤ i).
    rw (le-leb c.pos i a)
    (⊎_elim
    (λ (d : i < c.pos + c.size).
    let here : i - c.pos < c.size = omega arith in
    first_in c.size bits (i - c.pos) here ∙ w.under_zeros (i - c.pos) here (rw (le-leb c.pos i a, lt-ltb i (c.pos + c.size) d) at e))
    (λ (d : c.pos + c.size ≤ i). first_out c.size bits (i - c.pos) (omega arith))
    (below i (c.pos + c.size))))
    (below i c.pos)

none_outside : (t : Bool) (m s : ℕ) → m < 2 → (m ≡ 0 → s ≡ 0) → eqb (cond t m 0) 1 ≡ false → cond t s 0 ≡ 0
none_outside true zero s l e h = e refl
none_outside true (suc zero) s l e h = cc
none_outside true (suc (suc m)) s l e h = absurd (omega arith)
none_outside false m s l e h = refl

-- it has no bit at a place that is not owned
pub imprint_none : (c : Cut) (bits : ℕ → ℕ) → Writable c bits → (n : ℕ) → Inside c n → (k : ℕ) → k < 8 * n → owns c n k ≡ false → bit_at (imprint c bits n) k ≡ 0
unfolding owns
imprint_none c bits w n h k l e =
    let i = stands_at c n k in
    bit_at_imprint c bits n w.zero_one h k l
    ∙ none_outside (holds c n k) (owned_at c i) (source_at c bits i) (bits_owned c i) (source_none c bits w i) (rw (bit_at-footprint c n h k l) at e)

-- so a write leaves it
pub write_outside : (c : Cut) (bits : ℕ → ℕ) → Writable c bits → (xs : List ℕ) → Inside c (length xs) → (k : ℕ) → k < 8 * length xs
    → owns c (length xs) k ≡ false → bit_at (written_in c bits xs) k ≡ bit_at xs k
write_outside c bits w xs h k l e =
    let none = imprint_none c bits w (length xs) h k l e in
    write_law c bits w.zero_one xs h k l ∙ rw (e, none) (omega arith)

-- and an owned bit becomes the source's, ORed into what was there where there is no mask
pub write_inside : (c : Cut) (bits : ℕ → ℕ) → Bits bits → (xs : List ℕ) → Inside c (length xs) → (k : ℕ) → k < 8 * length xs
    → owns c (length xs) k ≡ true → bit_at (written_in c bits xs) k ≡ max (left c.mask (bit_at xs k)) (bit_at (imprint c bits (length xs)) k)
write_inside c bits b xs h k l e = write_law c bits b xs h k l ∙ rw e
