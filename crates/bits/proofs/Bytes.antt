-- Bits of bytes: bytes are what their bits make, and equal where they agree on every bit.
use Rattle.std.proofs.Common.{◌≡◌, refl, sym, ap, ap₂, ◌∙◌, ⊎_elim, List, [], ◌∷◌, ℕ, zero, suc, ◌+◌, ◌-◌, ◌*◌, ◌/◌, ◌%◌, ◌≤◌, ◌<◌, arith, zero-add, length, get_or, drop, replicate, lt-ltb, le-ltb}
use Rattle.kinds.proofs.Compare.{below}
use Rattle.bits.specs.Bits.{bit, bit_at, number, packed}
use Rattle.bits.proofs.Numbers.{Bits, bit-lt, bit-number, number_ext, number_lt, number_bits}

pub bit_at_in : (xs : List ℕ) (i : ℕ) → i / 8 < length xs → bit_at xs i ≡ bit (get_or xs (length xs - 1 - i / 8) 0) (i % 8)
unfolding bit_at
bit_at_in xs i h = simp (lt-ltb _ _ h)

pub bit_at_out : (xs : List ℕ) (i : ℕ) → length xs ≤ i / 8 → bit_at xs i ≡ 0
unfolding bit_at
bit_at_out xs i h = simp (le-ltb _ _ h)

-- a bit that is 0 inside the bytes is 0, since past them every bit is
pub bit_at_none : (xs : List ℕ) (i : ℕ) → (i < 8 * length xs → bit_at xs i ≡ 0) → bit_at xs i ≡ 0
bit_at_none xs i h = ⊎_elim h (λ (l : 8 * length xs ≤ i). bit_at_out xs i (omega arith)) (below i (8 * length xs))

pub bit_at_lt : (xs : List ℕ) (i : ℕ) → bit_at xs i < 2
bit_at_lt xs i = ⊎_elim (λ h. rw (bit_at_in xs i h) (bit-lt _ _)) (λ h. rw (bit_at_out xs i h) (omega arith)) (below (i / 8) (length xs))

-- the first byte holds the highest bits
pub bit_at-first : (x : ℕ) (xs : List ℕ) (i : ℕ) → i / 8 ≡ length xs → bit_at (x ∷ xs) i ≡ bit x (i % 8)
bit_at-first x xs i e =
    let at : length (x ∷ xs) - 1 - i / 8 ≡ 0 = omega arith in
    bit_at_in (x ∷ xs) i (omega arith) ∙ rw at

pub bit_at_rest : (x : ℕ) (xs : List ℕ) (i : ℕ) → i / 8 < length xs → bit_at (x ∷ xs) i ≡ bit_at xs i
bit_at_rest x xs i h =
    let at : length (x ∷ xs) - 1 - i / 8 ≡ suc (length xs - 1 - i / 8) = omega arith in
    bit_at_in (x ∷ xs) i (omega arith) ∙ rw at (sym (bit_at_in xs i h))

pub length-packed : (n : ℕ) (f : ℕ → ℕ) → length (packed n f) ≡ n
unfolding packed
length-packed zero f = refl
length-packed (suc n) f = ap suc (length-packed n f)

pub packed_ext : (n : ℕ) (f g : ℕ → ℕ) → ((i : ℕ) → i < 8 * n → f i ≡ g i) → packed n f ≡ packed n g
unfolding packed
packed_ext zero f g h = refl
packed_ext (suc n) f g h =
    ap₂ (λ (x : ℕ) (l : List ℕ). x ∷ l) (number_ext 8 _ _ (λ k l. h (8 * n + k) (omega arith))) (packed_ext n f g (λ i l. h i (omega arith)))

pub bit_at-packed : (n : ℕ) (f : ℕ → ℕ) → Bits f → (i : ℕ) → i < 8 * n → bit_at (packed n f) i ≡ f i
unfolding packed
bit_at-packed zero f b i h = omega arith
bit_at-packed (suc n) f b i h =
    let len = length-packed n f in
    ⊎_elim (λ l. bit_at_rest (number 8 (λ k. f (8 * n + k))) (packed n f) i (omega arith) ∙ bit_at-packed n f b i (omega arith))
    (λ g. bit_at-first (number 8 (λ k. f (8 * n + k))) (packed n f) i (omega arith)
    ∙ bit-number 8 (λ k. f (8 * n + k)) (λ k. b (8 * n + k)) (i % 8) (omega arith)
    ∙ ap f (omega arith))
    (below (i / 8) n)

-- a list of bytes: each element is below 256
abbrev pub Bytes : List ℕ → Type 0
Bytes xs = (j : ℕ) → get_or xs j 0 < 256

pub bytes_packed : (n : ℕ) (f : ℕ → ℕ) → Bits f → Bytes (packed n f)
unfolding packed
bytes_packed zero f b j = omega arith
bytes_packed (suc n) f b zero = number_lt 8 (λ k. f (8 * n + k)) (λ k. b (8 * n + k))
bytes_packed (suc n) f b (suc j) = bytes_packed n f b j

-- bytes are what their bits make
pub repack : (xs : List ℕ) → Bytes xs → packed (length xs) (bit_at xs) ≡ xs
unfolding packed
repack [] h = refl
repack (x ∷ xs) h =
    ap₂ (λ (y : ℕ) (l : List ℕ). y ∷ l)
    (number_ext 8 (λ k. bit_at (x ∷ xs) (8 * length xs + k)) (bit x) (λ k l.
    bit_at-first x xs (8 * length xs + k) (omega arith) ∙ ap (bit x) (omega arith))
    ∙ number_bits 8 x (h 0))
    (packed_ext (length xs) (bit_at (x ∷ xs)) (bit_at xs) (λ i l. bit_at_rest x xs i (omega arith)) ∙ repack xs (λ j. h (suc j)))

-- two lists of bytes of one length that agree on every bit are equal
pub ext_bits : (xs ys : List ℕ) → Bytes xs → Bytes ys → length xs ≡ length ys → ((i : ℕ) → i < 8 * length xs → bit_at xs i ≡ bit_at ys i) → xs ≡ ys
ext_bits xs ys hx hy e h =
    sym (repack xs hx) ∙ packed_ext (length xs) (bit_at xs) (bit_at ys) h ∙ ap (λ (n : ℕ). packed n (bit_at ys)) e ∙ repack ys hy

pub packed_zero : (n : ℕ) → packed n (λ k. 0) ≡ replicate n 0
unfolding packed number
packed_zero zero = refl
packed_zero (suc n) = ap (λ (l : List ℕ). 0 ∷ l) (packed_zero n)

-- the first bytes hold the highest bits: to drop them is to keep the others
pub drop-packed : (e n : ℕ) (f : ℕ → ℕ) → drop e (packed (e + n) f) ≡ packed n f
unfolding packed
drop-packed zero n f = rw zero-add
drop-packed (suc e) n f =
    let up : suc e + n ≡ suc (e + n) = omega arith in
    rw up (drop-packed e n f)
