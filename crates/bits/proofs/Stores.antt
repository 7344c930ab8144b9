-- Stores of one byte as changes of one bit: what `bit_at` reads and `set_bit_checked` writes.
use Rattle.std.proofs.Common.{◌≡◌, refl, sym, ap, ap₂, ◌∙◌, ⊎_elim, Bool, true, false, cond, List, [], ◌∷◌, ℕ, zero, suc, ◌-◌, ◌*◌, ◌/◌, ◌%◌, ◌^◌, ◌<◌, min, max, arith, mod-lt, zero-lt-suc, length, get_or, set, length-set, get_or-set_same, get_or-set_other, eqb, bit_or, bit_and, shl_exact, lt-ltb, eq-eqb, ne_eqb}
use Rattle.std.proofs.lemmas.Nat.{or_lt, and_mask}
use Rattle.kinds.specs.declared.types.ByteOrder.{ByteOrder}
use Rattle.order.specs.Order.{ordered}
use Rattle.order.proofs.Index.{length-ordered}
use Rattle.kinds.proofs.Compare.{below, same}
use Rattle.bits.specs.Bits.{bit, bit_at, packed, place, update, or_bit, or_bit_checked}
use Rattle.bits.proofs.Numbers.{bit-lt, bit-or, bit-and, bit_not, bit_shl}
use Rattle.bits.proofs.Bytes.{Bytes, bit_at_in, bit_at_out, packed_ext, repack}

-- ---- what the code reads

pub bit_code : (x k : ℕ) → bit_and (x / 2 ^ k) 1 ≡ bit x k
unfolding bit
bit_code x k = and_mask _ 1

pub bit_at_code : (xs : List ℕ) (i : ℕ) → i < 8 * length xs → bit (get_or xs (length xs - i / 8 - 1) 0) (i % 8) ≡ bit_at xs i
bit_at_code xs i h =
    let at : length xs - i / 8 - 1 ≡ length xs - 1 - i / 8 = omega arith in
    rw at (sym (bit_at_in xs i (omega arith)))

pub ordered_code : (o : ByteOrder) (xs : List ℕ) (i : ℕ) → i < 8 * length xs → bit (get_or (ordered o xs) (length xs - i / 8 - 1) 0) (i % 8) ≡ bit_at (ordered o xs) i
ordered_code o xs i h =
    let len = length-ordered o xs in
    rw len at (bit_at_code (ordered o xs) i (omega arith))

-- ---- a byte is stored

-- after a store of the byte y at j
pub bit_at-set_same : (xs : List ℕ) (j y i : ℕ) → j < length xs → i / 8 ≡ length xs - 1 - j → bit_at (set xs j y) i ≡ bit y (i % 8)
bit_at-set_same xs j y i h e =
    let len = length-set xs j y in
    let at : length (set xs j y) - 1 - i / 8 ≡ j = omega arith in
    bit_at_in (set xs j y) i (omega arith) ∙ rw (at, get_or-set_same xs j y 0 h)

pub bit_at-set_other : (xs : List ℕ) (j y i : ℕ) → j < length xs → (i / 8 ≡ length xs - 1 - j → ⊥) → bit_at (set xs j y) i ≡ bit_at xs i
bit_at-set_other xs j y i h ne =
    let len = length-set xs j y in
    ⊎_elim
    (λ l. bit_at_in (set xs j y) i (omega arith) ∙ rw (len, get_or-set_other xs j (length xs - 1 - i / 8) y 0 (omega arith)) (sym (bit_at_in xs i l)))
    (λ g. bit_at_out (set xs j y) i (omega arith) ∙ sym (bit_at_out xs i g))
    (below (i / 8) (length xs))

pub bytes_set : (xs : List ℕ) (j y : ℕ) → Bytes xs → y < 256 → Bytes (set xs j y)
bytes_set [] j y h l k = h k
bytes_set (x ∷ xs) zero y h l zero = l
bytes_set (x ∷ xs) zero y h l (suc k) = h (suc k)
bytes_set (x ∷ xs) (suc j) y h l zero = h 0
bytes_set (x ∷ xs) (suc j) y h l (suc k) = bytes_set xs j y (λ i. h (suc i)) l k

-- tests of one fact are equal
pub eqb_iff : (a b c d : ℕ) → (a ≡ b → c ≡ d) → (c ≡ d → a ≡ b) → eqb a b ≡ eqb c d
eqb_iff a b c d f g =
    ⊎_elim (λ h. eq-eqb a b h ∙ sym (eq-eqb c d (f h))) (λ h. ne_eqb a b h ∙ sym (ne_eqb c d (λ e. h (g e)))) (same a b)

eqb-place : (n j o i : ℕ) → i / 8 ≡ n - 1 - j → o < 8 → eqb i (place n j o) ≡ eqb (i % 8) o
eqb-place n j o i q l = eqb_iff i (place n j o) (i % 8) o (λ e. omega arith) (λ e. omega arith)

-- a store that changes the bit at the offset o of the byte j alone
pub set-update : (xs : List ℕ) (j o y v : ℕ) → Bytes xs → j < length xs → o < 8 → y < 256
    → ((k : ℕ) → k < 8 → bit y k ≡ cond (eqb k o) v (bit (get_or xs j 0) k)) → set xs j y ≡ packed (length xs) (update (bit_at xs) (place (length xs) j o) v)
set-update xs j o y v h l lo ly e =
    sym (repack (set xs j y) (bytes_set xs j y h ly)) ∙ ap (λ (n : ℕ). packed n (bit_at (set xs j y))) (length-set xs j y)
    ∙ packed_ext (length xs) (bit_at (set xs j y)) (update (bit_at xs) (place (length xs) j o) v) (λ i li.
    ⊎_elim
    (λ q.
    let at : length xs - 1 - i / 8 ≡ j = omega arith in
    let here : bit_at xs i ≡ bit (get_or xs j 0) (i % 8) = bit_at_in xs i (omega arith) ∙ rw at in
    bit_at-set_same xs j y i l q ∙ e (i % 8) (omega arith) ∙ rw (eqb-place (length xs) j o i q lo, here))
    (λ q. bit_at-set_other xs j y i l q ∙ rw (ne_eqb i (place (length xs) j o) (λ z. q (omega arith))))
    (same (i / 8) (length xs - 1 - j)))

pub update_same : (f : ℕ → ℕ) (i k : ℕ) → f k ≡ update f i (f i) k
update_same f i k = ⊎_elim (λ h. rw (eq-eqb k i h) (ap f h)) (λ h. rw (ne_eqb k i h)) (same k i)

-- ---- what the code stores

-- the lowest bit of v at the offset o
low_at : (v o : ℕ) → o < 8 → (bit_and v 1 * 2 ^ o) % 256 ≡ v % 2 * 2 ^ o
low_at v o h =
    ap (λ (x : ℕ). (x * 2 ^ o) % 256) (and_mask v 1) ∙ shl_exact 1 o 8 (mod-lt v (zero-lt-suc 1)) (omega arith)

pub bit_low_at : (v o k : ℕ) → o < 8 → bit ((bit_and v 1 * 2 ^ o) % 256) k ≡ cond (eqb k o) (v % 2) 0
bit_low_at v o k h = rw (low_at v o h) (bit_shl (v % 2) o k (mod-lt v (zero-lt-suc 1)))

low_at_lt : (v o : ℕ) → (bit_and v 1 * 2 ^ o) % 256 < 256
low_at_lt v o = mod-lt _ (zero-lt-suc 255)

-- the byte x with the bit at the offset o cleared
pub bit-cleared : (x o k : ℕ) → o < 8 → k < 8 → bit (bit_and x (255 - (1 * 2 ^ o) % 256)) k ≡ cond (eqb k o) 0 (bit x k)
bit-cleared x o k lo lk =
    let one : (1 * 2 ^ o) % 256 ≡ 1 * 2 ^ o = shl_exact 1 o 8 (omega arith) (omega arith) in
    let b = bit-lt x k in
    bit-and x (255 - (1 * 2 ^ o) % 256) k
    ∙ ap (min (bit x k)) (bit_not 8 ((1 * 2 ^ o) % 256) k (mod-lt _ (zero-lt-suc 255)) lk ∙ ap (λ (n : ℕ). 1 - bit n k) one ∙ ap (λ (n : ℕ). 1 - n) (bit_shl 1 o k (omega arith)))
    ∙ ⊎_elim {C = min (bit x k) (1 - cond (eqb k o) 1 0) ≡ cond (eqb k o) 0 (bit x k)} (λ h. rw (eq-eqb k o h) (omega arith)) (λ h. rw (ne_eqb k o h) (omega arith)) (same k o)

-- the byte x after the clearing, if there is one
pub cleared : (clear : Bool) (x o k : ℕ) → o < 8 → k < 8
    → bit (cond clear (bit_and x (255 - (1 * 2 ^ o) % 256)) x) k ≡ cond (eqb k o) (cond clear 0 (bit x o)) (bit x k)
cleared true x o k lo lk = bit-cleared x o k lo lk
cleared false x o k lo lk = update_same (bit x) o k

or_cases : (t : Bool) (a b v : ℕ) → max (cond t a b) (cond t v 0) ≡ cond t (max a v) b
or_cases true a b v = refl
or_cases false a b v = omega arith

-- the store of `set_bit_checked`: b is the byte after the clearing, if there is one
pub set_or_bit : (clear : Bool) (xs : List ℕ) (j o b v : ℕ) → Bytes xs → j < length xs → o < 8 → b < 256
    → b ≡ cond clear (bit_and (get_or xs j 0) (255 - (1 * 2 ^ o) % 256)) (get_or xs j 0)
    → set xs j (bit_or b ((bit_and v 1 * 2 ^ o) % 256)) ≡ or_bit clear xs (place (length xs) j o) v
unfolding or_bit
set_or_bit clear xs j o b v h l lo lb e =
    let i : ℕ = place (length xs) j o in
    let at : length xs - 1 - i / 8 ≡ j = omega arith in
    let off : i % 8 ≡ o = omega arith in
    let here : bit_at xs i ≡ bit (get_or xs j 0) o = bit_at_in xs i (omega arith) ∙ rw (at, off) in
    rw here (set-update xs j o (bit_or b ((bit_and v 1 * 2 ^ o) % 256)) (max (cond clear 0 (bit (get_or xs j 0) o)) (v % 2)) h l lo
    (or_lt 8 b _ lb (low_at_lt v o))
    (λ k lk. bit-or b ((bit_and v 1 * 2 ^ o) % 256) k ∙ ap₂ max (rw e (cleared clear (get_or xs j 0) o k lo lk)) (bit_low_at v o k lo)
    ∙ or_cases (eqb k o) (cond clear 0 (bit (get_or xs j 0) o)) (bit (get_or xs j 0) k) (v % 2)))

-- `set_bit_checked` at the byte and the offset of bit i
pub set-bit_at : (clear : Bool) (xs : List ℕ) (i v : ℕ) → i < 8 * length xs
    → or_bit_checked clear xs (length xs - i / 8 - 1) (i % 8) v ≡ or_bit clear xs i v
set-bit_at clear xs i v h =
    let at : place (length xs) (length xs - i / 8 - 1) (i % 8) ≡ i = omega arith in
    rw (lt-ltb (length xs - i / 8 - 1) (length xs) (omega arith), at)
