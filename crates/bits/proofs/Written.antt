-- A loop that writes bytes one after the other, each made of its bits: nothing yet, one byte more, all.
use Rattle.std.proofs.Common.{◌≡◌, refl, sym, ap, ◌∙◌, List, ◌++◌, append-nil, ℕ, zero, suc, ◌+◌, ◌-◌, ◌*◌, ◌<◌, arith, zero-add, add-one, length, get_or, set, drop, drop_of_length-le, take_all}
use lib.Seq.{paste, paste-suc}
use Rattle.bits.specs.Bits.{number, packed}
use Rattle.bits.specs.Moves.{from}
use Rattle.bits.proofs.Numbers.{number_ext}
use Rattle.bits.proofs.Bytes.{length-packed}

-- byte j of n bytes has the eight bits from the one on that has so many bytes behind it
pub byte_of : (n : ℕ) (f : ℕ → ℕ) (j : ℕ) → j < n → get_or (packed n f) j 0 ≡ number 8 (from (8 * (n - 1 - j)) f)
unfolding packed
byte_of zero f j l = omega arith
byte_of (suc n) f zero l = number_ext 8 (λ k. f (8 * n + k)) (λ k. f (8 * (suc n - 1 - 0) + k)) (λ k lk. ap f (omega arith))
byte_of (suc n) f (suc j) l =
    byte_of n f j (omega arith) ∙ number_ext 8 (λ k. f (8 * (n - 1 - j) + k)) (λ k. f (8 * (suc n - 1 - suc j) + k)) (λ k lk. ap f (omega arith))

-- the j first bytes written, of the bits f
pub written : List ℕ → (ℕ → ℕ) → ℕ → List ℕ
written xs f j = paste xs 0 (packed (length xs) f) j

pub written_none : (xs : List ℕ) (f : ℕ → ℕ) → xs ≡ written xs f 0
unfolding written
written_none xs f = refl

pub written_more : (xs ys : List ℕ) (f : ℕ → ℕ) (j m v : ℕ) → j < length xs → ys ≡ written xs f j → m ≡ length xs → v ≡ number 8 (from (8 * (m - 1 - j)) f)
    → set ys j v ≡ written xs f (j + 1)
unfolding written
written_more xs ys f j m v l all same e =
    let s = packed (length xs) f in
    let long = length-packed (length xs) f in
    let byte : v ≡ get_or s j 0 = e ∙ ap (λ (n : ℕ). number 8 (from (8 * (n - 1 - j)) f)) same ∙ sym (byte_of (length xs) f j l) in
    rw (all, byte, add-one j) (ap (λ (n : ℕ). set (paste xs 0 s j) n (get_or s j 0)) (sym (zero-add j)) ∙ paste-suc xs 0 s j 0 (omega arith) (omega arith))

pub written_all : (xs : List ℕ) (f : ℕ → ℕ) (j : ℕ) → j ≡ length xs → written xs f j ≡ packed (length xs) f
unfolding written
written_all xs f j e =
    let s = packed (length xs) f in
    ap (λ (l : List ℕ). l ++ drop (0 + j) xs) (take_all j s (omega (arith, length-packed (length xs) f)))
    ∙ ap (λ (l : List ℕ). s ++ l) (drop_of_length-le xs {i = 0 + j} (omega arith))
    ∙ append-nil s

pub ruleset written_laws = (written_none, written_more, written_all)
