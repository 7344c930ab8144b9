-- A loop that writes bits one after the other: nothing yet, one bit more, all.
use Rattle.std.proofs.Common.{◌≡◌, sym, ap, ◌∙◌, ⊎_elim, Bool, true, false, cond, List, ℕ, ◌+◌, ◌-◌, ◌*◌, ◌%◌, ◌≤◌, ◌<◌, max, arith, length, replicate, lt-ltb, eq-eqb, ne_eqb}
use Rattle.kinds.proofs.Compare.{same}
use Rattle.bits.specs.Bits.{bit_at, packed, update, or_bit}
use Rattle.bits.specs.Moves.{first, raised, either, injected, within, overlaid}
use Rattle.bits.proofs.Numbers.{Bits}
use Rattle.bits.proofs.Bytes.{Bytes, bit_at_lt, bit_at-packed, length-packed, packed_ext, packed_zero, repack}
use Rattle.bits.proofs.Moves.{bits_cond, bits_first, bits_raised, bits_either, first_in, first_out, first_other, raised_in, raised_ext, raised-zero, within_in, within_none, within_other}

-- ---- one bit

-- where g is f but for one bit, which f has or v adds, writing v to the bytes of f gives those of g
pub or_bit_step : (clear : Bool) (n : ℕ) (f g : ℕ → ℕ) (xs : List ℕ) (i v : ℕ) → Bits f → v < 2 → xs ≡ packed n f
    → ((k : ℕ) → (k ≡ i → ⊥) → f k ≡ g k) → max (cond clear 0 (f i)) v ≡ g i → or_bit clear xs i v ≡ packed n g
unfolding or_bit
or_bit_step clear n f g xs i v b lv e other here =
    let low : v % 2 ≡ v = omega arith in
    rw (e, length-packed n f)
    (packed_ext n (update (bit_at (packed n f)) i (max (cond clear 0 (bit_at (packed n f) i)) (v % 2))) g (λ k lk.
    ⊎_elim (λ (q : k ≡ i). let li : i < 8 * n = omega arith in rw (eq-eqb k i q, bit_at-packed n f b i li, low) (here ∙ ap g (sym q)))
    (λ (q : k ≡ i → ⊥). rw (ne_eqb k i q) (bit_at-packed n f b k lk ∙ other k q))
    (same k i)))

-- past the end of the bytes there is no bit to be written
pub or_bit_out : (clear : Bool) (xs : List ℕ) (i v : ℕ) → Bytes xs → 8 * length xs ≤ i → xs ≡ or_bit clear xs i v
unfolding or_bit
or_bit_out clear xs i v h l =
    sym (repack xs h) ∙ packed_ext (length xs) (bit_at xs) (update (bit_at xs) i (max (cond clear 0 (bit_at xs i)) (v % 2))) (λ k lk.
    rw (ne_eqb k i (λ q. omega arith)))

-- ---- bits written over zeros

pub first_none : (f : ℕ → ℕ) (n : ℕ) → replicate n 0 ≡ packed n (first 0 f)
first_none f n = sym (packed_zero n) ∙ packed_ext n (λ k. 0) (first 0 f) (λ k l. sym (first_out 0 f k (omega arith)))

pub first_step : (f : ℕ → ℕ) (xs : List ℕ) (n i : ℕ) → Bits f → xs ≡ packed n (first i f) → or_bit false xs i (f i) ≡ packed n (first (i + 1) f)
first_step f xs n i b e =
    let none : first i f i ≡ 0 = first_out i f i (omega arith) in
    let one : first (i + 1) f i ≡ f i = first_in (i + 1) f i (omega arith) in
    or_bit_step false n (first i f) (first (i + 1) f) xs i (f i) (bits_first i f b) (b i) e (first_other f i) (omega arith)

-- ---- bits ORed in

pub injected_none : (pos : ℕ) (source : ℕ → ℕ) (xs : List ℕ) → Bytes xs → xs ≡ injected 0 pos source xs
unfolding injected
injected_none pos source xs h =
    sym (repack xs h) ∙ packed_ext (length xs) (bit_at xs) (either (bit_at xs) (raised pos (first 0 source))) (λ k l.
    let none : raised pos (first 0 source) k ≡ 0 = raised-zero pos (first 0 source) k (λ j. first_out 0 source j (omega arith)) in
    omega arith)

pub injected_step : (pos i : ℕ) (source : ℕ → ℕ) (xs ys : List ℕ) → Bits source → ys ≡ injected i pos source xs
    → or_bit false ys (pos + i) (source i) ≡ injected (i + 1) pos source xs
unfolding injected
injected_step pos i source xs ys b e =
    let old = either (bit_at xs) (raised pos (first i source)) in
    let new = either (bit_at xs) (raised pos (first (i + 1) source)) in
    let none : raised pos (first i source) (pos + i) ≡ 0 = raised_in pos (first i source) i ∙ first_out i source i (omega arith) in
    let one : raised pos (first (i + 1) source) (pos + i) ≡ source i = raised_in pos (first (i + 1) source) i ∙ first_in (i + 1) source i (omega arith) in
    or_bit_step false (length xs) old new ys (pos + i) (source i)
    (bits_either (bit_at xs) (raised pos (first i source)) (bit_at_lt xs) (bits_raised pos (first i source) (bits_first i source b))) (b i) e
    (λ k q. ap (max (bit_at xs k)) (raised_ext pos (first i source) (first (i + 1) source) k (λ m. first_other source i (k - pos) (λ z. q (omega arith)))))
    (omega arith)

-- ---- bits put in place of others

pub overlaid_none : (pos : ℕ) (new : ℕ → ℕ) (xs : List ℕ) → Bytes xs → xs ≡ overlaid (within 0 pos) new xs
unfolding overlaid
overlaid_none pos new xs h =
    sym (repack xs h) ∙ packed_ext (length xs) (bit_at xs) (λ k. cond (within 0 pos k) (new k) (bit_at xs k)) (λ k l. rw (within_none pos k))

pub overlaid_step : (pos i : ℕ) (new : ℕ → ℕ) (xs ys : List ℕ) → Bits new → ys ≡ overlaid (within i pos) new xs
    → or_bit true ys (pos + i) (new (pos + i)) ≡ overlaid (within (i + 1) pos) new xs
unfolding overlaid
overlaid_step pos i new xs ys b e =
    let old : ℕ → ℕ = λ k. cond (within i pos k) (new k) (bit_at xs k) in
    let next : ℕ → ℕ = λ k. cond (within (i + 1) pos k) (new k) (bit_at xs k) in
    or_bit_step true (length xs) old next ys (pos + i) (new (pos + i)) (λ k. bits_cond (within i pos k) (b k) (bit_at_lt xs k)) (b (pos + i)) e
    (λ k q. ap (λ (t : Bool). cond t (new k) (bit_at xs k)) (within_other i pos k q))
    (rw (within_in (i + 1) pos i (omega arith)) (omega arith))

-- past the end of the bytes there is nothing to be put
pub overlaid_past : (l n pos : ℕ) (new : ℕ → ℕ) (xs : List ℕ) → 8 * length xs ≤ pos + l → l ≤ n → overlaid (within l pos) new xs ≡ overlaid (within n pos) new xs
unfolding overlaid
overlaid_past l n pos new xs h g =
    packed_ext (length xs) (λ k. cond (within l pos k) (new k) (bit_at xs k)) (λ k. cond (within n pos k) (new k) (bit_at xs k)) (λ k lk.
    rw (lt-ltb k (pos + l) (omega arith), lt-ltb k (pos + n) (omega arith)))
