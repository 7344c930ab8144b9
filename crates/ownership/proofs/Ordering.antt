-- Ordering moves whole bytes: which bit of a run stands at bit m of its ordered form.
use Rattle.std.proofs.Common.{◌≡◌, sym, ap, ◌∙◌, ⊎_elim, List, ℕ, ◌-◌, ◌*◌, ◌/◌, ◌%◌, ◌≤◌, ◌<◌, arith, length, get_or, bit_xor, lt-ltb, le-ltb}
use Rattle.kinds.specs.declared.types.ByteOrder.{ByteOrder}
use Rattle.kinds.specs.declared.types.ByteOrder.TheVariants.{Keep, ReorderPairs, Reverse}
use Rattle.kinds.proofs.Compare.{below}
use Rattle.order.specs.Order.{ordered}
use Rattle.order.proofs.Index.{turned, length-ordered, get_d_ordered}
use Rattle.bits.specs.Bits.{bit, bit_at, place}
use Rattle.bits.proofs.Bytes.{bit_at_in}

pub turned_lt : (o : ByteOrder) (n j : ℕ) → j < n → turned o n j < n
unfolding turned
turned_lt Keep n j l = l
turned_lt ReorderPairs n j l =
    ⊎_elim (λ (h : bit_xor j 1 < n). rw (lt-ltb (bit_xor j 1) n h) h) (λ (h : n ≤ bit_xor j 1). rw (le-ltb (bit_xor j 1) n h) l) (below (bit_xor j 1) n)
turned_lt Reverse n j l = omega arith

-- of n bytes, where the bit stands that ordering puts at m
abbrev pub turned_bit : ByteOrder → ℕ → ℕ → ℕ
turned_bit o n m = place n (turned o n (n - 1 - m / 8)) (m % 8)

pub turned_bit_lt : (o : ByteOrder) (n m : ℕ) → m < 8 * n → turned_bit o n m < 8 * n
turned_bit_lt o n m l = let t = turned_lt o n (n - 1 - m / 8) (omega arith) in omega arith

pub bit_at-ordered : (o : ByteOrder) (xs : List ℕ) (m : ℕ) → m < 8 * length xs → bit_at (ordered o xs) m ≡ bit_at xs (turned_bit o (length xs) m)
bit_at-ordered o xs m l =
    let n = length xs in
    let len = length-ordered o xs in
    let j : ℕ = n - 1 - m / 8 in
    let t = turned_lt o n j (omega arith) in
    let same-offset : turned_bit o n m % 8 ≡ m % 8 = omega arith in
    let same_byte : n - 1 - turned_bit o n m / 8 ≡ turned o n j = omega arith in
    let moved : bit_at (ordered o xs) m ≡ bit (get_or xs (turned o n j) 0) (m % 8) =
    bit_at_in (ordered o xs) m (omega arith) ∙ rw len (ap (λ (x : ℕ). bit x (m % 8)) (get_d_ordered o xs j (omega arith))) in
    let there : bit_at xs (turned_bit o n m) ≡ bit (get_or xs (turned o n j) 0) (m % 8) =
    bit_at_in xs (turned_bit o n m) (omega arith) ∙ rw (same-offset, same_byte) in
    moved ∙ sym there
