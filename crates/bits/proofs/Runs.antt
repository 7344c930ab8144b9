-- Bytes that are cut or turned are bytes, and the bits of bytes that are joined, repeated or cut.
use Rattle.std.proofs.Common.{◌≡◌, refl, sym, ap, ◌∙◌, ⊎_elim, List, [], ◌∷◌, ◌++◌, ℕ, ◌+◌, ◌-◌, ◌*◌, ◌/◌, ◌%◌, ◌≤◌, ◌<◌, arith, length, take, drop, replicate, length-append, length-take, length-drop, take-append-drop, get_or-take, get_or-drop}
use Rattle.std.proofs.lemmas.List.{length-replicate, get_or-replicate}
use lib.ListN.{get_or-append, get_or-eq_default}
use Rattle.kinds.specs.declared.types.ByteOrder.{ByteOrder}
use Rattle.kinds.specs.Slices.{cut}
use Rattle.kinds.proofs.Compare.{below}
use Rattle.order.specs.Order.{ordered}
use Rattle.order.proofs.Index.{turned, length-ordered, get_d_ordered}
use Rattle.bits.specs.Bits.{bit, bit_at}
use Rattle.bits.proofs.Bytes.{Bytes, bit_at_in, bit_at_out, bit_at_rest}

pub bytes_cut : (at n : ℕ) (xs : List ℕ) → Bytes xs → Bytes (cut at n xs)
bytes_cut at n xs h j =
    ⊎_elim (λ (l : j < n). rw (get_or-take n (drop at xs) j 0 l, get_or-drop at xs j 0) (h (at + j)))
    (λ (l : n ≤ j). rw (get_or-eq_default (cut at n xs) 0 {n = j} (rw length-take (omega arith))) (omega arith)) (below j n)

pub bytes_replicate : (n x : ℕ) → x < 256 → Bytes (replicate n x)
bytes_replicate n x l j =
    ⊎_elim (λ (h : j < n). rw (get_or-replicate {A = ℕ} n j x 0 h) l)
    (λ (h : n ≤ j). rw (get_or-eq_default {A = ℕ} (replicate n x) 0 {n = j} (rw (length-replicate {A = ℕ} n x) h)) (omega arith)) (below j n)

pub bytes_ordered : (o : ByteOrder) (xs : List ℕ) → Bytes xs → Bytes (ordered o xs)
bytes_ordered o xs h j =
    ⊎_elim (λ (l : j < length xs). rw (get_d_ordered o xs j l) (h (turned o (length xs) j)))
    (λ (l : length xs ≤ j). rw (get_or-eq_default (ordered o xs) 0 {n = j} (rw (length-ordered o xs) l)) (omega arith)) (below j (length xs))

-- ---- bits of joined bytes: the last bytes hold the lowest

pub bit_at-append_low : (xs ys : List ℕ) (i : ℕ) → i < 8 * length ys → bit_at (xs ++ ys) i ≡ bit_at ys i
bit_at-append_low [] ys i h = refl
bit_at-append_low (x ∷ xs) ys i h = bit_at_rest x (xs ++ ys) i (rw length-append (omega arith)) ∙ bit_at-append_low xs ys i h

pub bit_at-append_high : (xs ys : List ℕ) (i : ℕ) → 8 * length ys ≤ i → bit_at (xs ++ ys) i ≡ bit_at xs (i - 8 * length ys)
bit_at-append_high xs ys i h =
    let len = length-append xs ys in
    let k = i - 8 * length ys in
    ⊎_elim
    (λ (l : k / 8 < length xs).
    let at : length (xs ++ ys) - 1 - i / 8 ≡ length xs - 1 - k / 8 = omega arith in
    let o : i % 8 ≡ k % 8 = omega arith in
    bit_at_in (xs ++ ys) i (omega arith) ∙ rw (at, o, get_or-append xs ys 0 (length xs - 1 - k / 8) (omega arith)) (sym (bit_at_in xs k l)))
    (λ (l : length xs ≤ k / 8). bit_at_out (xs ++ ys) i (omega arith) ∙ sym (bit_at_out xs k l))
    (below (k / 8) (length xs))

-- ---- of equal bytes, and of the last bytes

pub bit_at-replicate : (n x i : ℕ) → i < 8 * n → bit_at (replicate n x) i ≡ bit x (i % 8)
bit_at-replicate n x i h =
    let len = length-replicate n x in
    bit_at_in (replicate n x) i (omega arith) ∙ ap (λ (y : ℕ). bit y (i % 8)) (get_or-replicate n (length (replicate n x) - 1 - i / 8) x 0 (omega arith))

pub bit_at-drop : (k : ℕ) (xs : List ℕ) (i : ℕ) → i < 8 * (length xs - k) → bit_at (drop k xs) i ≡ bit_at xs i
bit_at-drop k xs i h = rw take-append-drop at (sym (bit_at-append_low (take k xs) (drop k xs) i (rw length-drop h)))
