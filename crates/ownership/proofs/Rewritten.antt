-- What is written after a clear stands in the ordered cut-out: each owned bit is the source's, masked or not.
use Rattle.std.proofs.Common.{◌≡◌, ap, ◌∙◌, List, ◌++◌, ℕ, ◌+◌, ◌-◌, ◌≤◌, ◌<◌, arith, length, take, drop, length-drop, length-take-le, take_at, drop_at}
use Rattle.kinds.specs.declared.types.ByteOrder.{ByteOrder}
use Rattle.kinds.specs.Slices.{cut}
use Rattle.order.specs.Order.{ordered}
use Rattle.order.proofs.Index.{length-ordered, ordered-ordered}
use Rattle.bits.specs.Bits.{bit_at}
use Rattle.bits.specs.Moves.{first}
use Rattle.bits.proofs.Numbers.{Bits}
use Rattle.bits.proofs.Moves.{first_in, raised_in, within_in}
use Rattle.cutout.specs.CutOut.{owned_bit, cleared, put}
use Rattle.payload.specs.Writing.{spliced, in_cut_out, cut_bytes}
use Rattle.ownership.specs.Ownership.{Cut, owned_at}
use Rattle.ownership.proofs.Effects.{source_for, written_in, cleared_in, source_at}
use Rattle.ownership.proofs.Laid.{Inside}
use Rattle.ownership.proofs.Writes.{left_zero, pointwise_put}
use Rattle.ownership.proofs.Clears.{pointwise_cleared, length_cleared_in}

-- the ordered cut-out after a change is the changed one
pub ordered-in_cut_out : (o : ByteOrder) (f : List ℕ → List ℕ) (at n : ℕ) (xs : List ℕ) → at + n ≤ length xs → length (f (ordered o (cut at n xs))) ≡ n
    → ordered o (cut at n (in_cut_out o f at n xs)) ≡ f (ordered o (cut at n xs))
unfolding in_cut_out spliced
ordered-in_cut_out o f at n xs fits e =
    let zs : List ℕ = ordered o (f (ordered o (cut at n xs))) in
    let front : length (take at xs) ≡ at = length-take-le at xs (omega arith) in
    let mid : length zs ≡ n = length-ordered o (f (ordered o (cut at n xs))) ∙ e in
    let rest : List ℕ = drop n (drop at xs) in
    ap (λ (ys : List ℕ). ordered o (take n ys)) (drop_at (take at xs) (zs ++ rest) at front) ∙ ap (ordered o) (take_at zs rest n mid)
    ∙ ordered-ordered o (f (ordered o (cut at n xs)))

module _ (c : Cut) (bits : ℕ → ℕ) (b : Bits bits) (xs : List ℕ) (h : Inside c (length xs)) where
  abbrev n : ℕ
  n = cut_bytes c.pos c.size

  -- the ordered cut-out, and the same cleared
  abbrev ys : List ℕ
  ys = ordered c.order (cut c.at n xs)

  abbrev zs : List ℕ
  zs = cleared c.mask c.size c.pos ys

  length_ys : length ys ≡ n
  length_ys = let d = length-drop c.at xs in length-ordered c.order (cut c.at n xs) ∙ length-take-le n (drop c.at xs) (omega arith)

  length_zs : length zs ≡ n
  length_zs = (pointwise_cleared c).size ys length_ys

  -- the ordered cut-out after the write
  pub written_stands : ordered c.order (cut c.at n (written_in c bits (cleared_in c xs))) ≡ put (source_for c bits) c.pos zs
  written_stands =
      let cut-cleared : ordered c.order (cut c.at n (cleared_in c xs)) ≡ zs =
      ordered-in_cut_out c.order (cleared c.mask c.size c.pos) c.at n xs h length_zs in
      let after : List ℕ → List ℕ = put (source_for c bits) c.pos in
      let long : length (after zs) ≡ n = (pointwise_put c bits b).size zs length_zs in
      ordered-in_cut_out c.order after c.at n (cleared_in c xs) (rw (length_cleared_in c xs h) h) (rw cut-cleared long) ∙ ap after cut-cleared

  -- bit pos+i is bit i of the source, where bit i is owned
  pub stands : (i : ℕ) → i < c.size → owned_bit c.mask i ≡ 1 → bit_at (ordered c.order (cut c.at n (written_in c bits (cleared_in c xs)))) (c.pos + i) ≡ bits i
  stands i l e =
      let k : ℕ = c.pos + i in
      let back : c.pos + i - c.pos ≡ i = omega arith in
      let owned : owned_at c k ≡ 1 = rw (within_in c.size c.pos i l, back) e in
      let source : source_at c bits k ≡ bits i = raised_in c.pos (first c.size bits) i ∙ first_in c.size bits i l in
      let cleared-bit : bit_at zs k ≡ 0 = (pointwise_cleared c).bits ys length_ys k (omega arith) ∙ rw owned in
      rw written_stands
      ((pointwise_put c bits b).bits zs length_zs k (omega arith) ∙ rw (owned, cleared-bit, source, left_zero c.mask) (omega arith))
