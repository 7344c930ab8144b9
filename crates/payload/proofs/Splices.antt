-- A part of a payload that is changed, and the rest that stays.
use Rattle.std.proofs.Common.{◌≡◌, ap, sym, ◌∙◌, List, [], ◌++◌, append_assoc, ℕ, ◌+◌, ◌≤◌, arith, length, take, drop, length-drop, take-append-drop}
use Rattle.std.proofs.lemmas.List.{take-append-le, drop-append-le}
use Rattle.kinds.specs.declared.types.ByteOrder.{ByteOrder}
use Rattle.kinds.specs.Slices.{cut}
use Rattle.order.specs.Order.{ordered}
use Rattle.payload.specs.Writing.{spliced, in_cut_out}

-- nothing that is changed to nothing
pub spliced_none : (f : List ℕ → List ℕ) (at : ℕ) (xs : List ℕ) → f [] ≡ [] → spliced f at 0 xs ≡ xs
unfolding spliced
spliced_none f at xs e = rw e (take-append-drop at xs)

pub spliced_ext : (f g : List ℕ → List ℕ) (at n : ℕ) (xs : List ℕ) → f (cut at n xs) ≡ g (cut at n xs) → spliced f at n xs ≡ spliced g at n xs
unfolding spliced
spliced_ext f g at n xs e = rw e

-- what is behind the bytes stays, and they do not depend on it
pub cut-append : (at n : ℕ) (xs ys : List ℕ) → at + n ≤ length xs → cut at n (xs ++ ys) ≡ cut at n xs
cut-append at n xs ys h =
    let long = length-drop at xs in
    ap (take n) (drop-append-le at xs ys (omega arith)) ∙ take-append-le n (drop at xs) ys (omega arith)

pub spliced-append : (f : List ℕ → List ℕ) (at n : ℕ) (xs ys : List ℕ) → at + n ≤ length xs → spliced f at n (xs ++ ys) ≡ spliced f at n xs ++ ys
unfolding spliced
spliced-append f at n xs ys h =
    let long = length-drop at xs in
    let changed : List ℕ = f (cut at n xs) in
    let rest : List ℕ = drop n (drop at xs) in
    let behind : drop n (drop at (xs ++ ys)) ≡ rest ++ ys = ap (drop n) (drop-append-le at xs ys (omega arith)) ∙ drop-append-le n (drop at xs) ys (omega arith) in
    rw (cut-append at n xs ys h, behind, take-append-le at xs ys (omega arith))
    (ap (λ (zs : List ℕ). take at xs ++ zs) (sym (append_assoc changed rest ys)) ∙ sym (append_assoc (take at xs) (changed ++ rest) ys))

pub in_cut_out-append : (o : ByteOrder) (f : List ℕ → List ℕ) (at n : ℕ) (xs ys : List ℕ) → at + n ≤ length xs → in_cut_out o f at n (xs ++ ys) ≡ in_cut_out o f at n xs ++ ys
unfolding in_cut_out
in_cut_out-append o f at n xs ys h = spliced-append (λ zs. ordered o (f (ordered o zs))) at n xs ys h
