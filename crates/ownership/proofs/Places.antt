-- A change that treats each bit of an ordered cut-out by itself treats each bit of the payload by itself.
use Rattle.std.proofs.Common.{◌≡◌, sym, ap, ◌∙◌, ⊎_elim, Bool, cond, List, ◌++◌, ℕ, ◌+◌, ◌-◌, ◌*◌, ◌≤◌, ◌<◌, arith, length, get_or, take, drop, length-append, length-drop, take-append-drop, get_or-append-add, get_or-drop, length-take-le, lt-ltb, le-leb}
use Rattle.std.proofs.lemmas.Bool.{lt-leb}
use lib.ListN.{get_or-append}
use Rattle.kinds.specs.declared.types.ByteOrder.{ByteOrder}
use Rattle.kinds.specs.Slices.{cut}
use Rattle.kinds.proofs.Compare.{below}
use Rattle.order.specs.Order.{ordered}
use Rattle.order.proofs.Index.{length-ordered, ordered-ordered}
use Rattle.bits.specs.Bits.{bit_at, packed}
use Rattle.bits.specs.Moves.{within}
use Rattle.bits.proofs.Numbers.{Bits}
use Rattle.bits.proofs.Bytes.{Bytes, bit_at_lt, bit_at-packed, length-packed, bytes_packed}
use Rattle.bits.proofs.Runs.{bytes_cut, bytes_ordered, bit_at-append_low, bit_at-append_high}
use Rattle.bits.proofs.Moves.{within_out}
use Rattle.payload.specs.Writing.{spliced, in_cut_out}
use Rattle.ownership.proofs.Ordering.{turned_bit, turned_bit_lt, bit_at-ordered}

-- ---- three runs of bytes, joined: the last has the lowest bits

module _ (front mid back : List ℕ) where
  abbrev pub joined : List ℕ
  joined = front ++ (mid ++ back)

  pub joined_low : (k : ℕ) → k < 8 * length back → bit_at joined k ≡ bit_at back k
  joined_low k l =
      let len = length-append mid back in
      bit_at-append_low front (mid ++ back) k (omega arith) ∙ bit_at-append_low mid back k l

  pub joined_mid : (k : ℕ) → 8 * length back ≤ k → k < 8 * (length mid + length back) → bit_at joined k ≡ bit_at mid (k - 8 * length back)
  joined_mid k h l =
      let len = length-append mid back in
      bit_at-append_low front (mid ++ back) k (omega arith) ∙ bit_at-append_high mid back k h

  pub joined_high : (k : ℕ) → 8 * (length mid + length back) ≤ k → bit_at joined k ≡ bit_at front (k - 8 * (length mid + length back))
  joined_high k h =
      let len = length-append mid back in
      bit_at-append_high front (mid ++ back) k (omega arith) ∙ ap (λ (n : ℕ). bit_at front (k - 8 * n)) len

-- bytes that are joined are bytes
pub bytes_append : (xs ys : List ℕ) → Bytes xs → Bytes ys → Bytes (xs ++ ys)
bytes_append xs ys hx hy j =
    ⊎_elim (λ (l : j < length xs). rw (get_or-append xs ys 0 j l) (hx j))
    (λ (g : length xs ≤ j).
    let at : j ≡ length xs + (j - length xs) = omega arith in
    rw (ap (λ (i : ℕ). get_or (xs ++ ys) i 0) at ∙ get_or-append-add xs ys (j - length xs) 0) (hy (j - length xs)))
    (below j (length xs))

-- ---- changes bit by bit

-- f keeps n bytes n bytes, and makes g i b of a bit b at i
pub record Pointwise (n : ℕ) (f : List ℕ → List ℕ) (g : ℕ → ℕ → ℕ) : Type 0 where
  pub size : (ys : List ℕ) → length ys ≡ n → length (f ys) ≡ n
  pub bytes : (ys : List ℕ) → length ys ≡ n → Bytes (f ys)
  pub bits : (ys : List ℕ) → length ys ≡ n → (i : ℕ) → i < 8 * n → bit_at (f ys) i ≡ g i (bit_at ys i)

-- what is made of functions from places to bits
pub pointwise_packed : (n : ℕ) (bits : List ℕ → ℕ → ℕ) (g : ℕ → ℕ → ℕ) → ((ys : List ℕ) → Bits (bits ys)) → ((ys : List ℕ) (i : ℕ) → bits ys i ≡ g i (bit_at ys i))
    → Pointwise n (λ ys. packed (length ys) (bits ys)) g
pointwise_packed n bits g b e =
    record {
      size = λ ys l. length-packed (length ys) (bits ys) ∙ l;
      bytes = λ ys l. bytes_packed (length ys) (bits ys) (b ys);
      bits = λ ys l i h. bit_at-packed (length ys) (bits ys) (b ys) i (rw l h) ∙ e ys i;
    }

-- the same change, said otherwise
pub pointwise_as : (n : ℕ) (f : List ℕ → List ℕ) (g g' : ℕ → ℕ → ℕ) → Pointwise n f g → ((i b : ℕ) → b < 2 → g i b ≡ g' i b) → Pointwise n f g'
pointwise_as n f g g' p e =
    record { size = p.size; bytes = p.bytes; bits = λ ys l i h. p.bits ys l i h ∙ e i (bit_at ys i) (bit_at_lt ys i) }

-- one change after another
pub pointwise_then : (n : ℕ) (f f' : List ℕ → List ℕ) (g g' : ℕ → ℕ → ℕ) → Pointwise n f g → Pointwise n f' g' → Pointwise n (λ ys. f' (f ys)) (λ i b. g' i (g i b))
pointwise_then n f f' g g' p p' =
    record {
      size = λ ys l. p'.size (f ys) (p.size ys l);
      bytes = λ ys l. p'.bytes (f ys) (p.size ys l);
      bits = λ ys l i h. p'.bits (f ys) (p.size ys l) i h ∙ ap (g' i) (p.bits ys l i h);
    }

-- how many bits of `size` bytes are below the n bytes from `at` on
abbrev rest_bits : ℕ → ℕ → ℕ → ℕ
rest_bits at n size = 8 * (size - at - n)

-- bit k of the payload is in the cut-out, and which bit of its ordered form it is
abbrev pub in_run : ℕ → ℕ → ℕ → ℕ → Bool
in_run at n size k = within (8 * n) (rest_bits at n size) k

abbrev pub place_in_run : ByteOrder → ℕ → ℕ → ℕ → ℕ → ℕ
place_in_run o at n size k = turned_bit o n (k - rest_bits at n size)

module _ (o : ByteOrder) (at n : ℕ) (f : List ℕ → List ℕ) (g : ℕ → ℕ → ℕ) (p : Pointwise n f g) (xs : List ℕ) (fits : at + n ≤ length xs) where
  abbrev front : List ℕ
  front = take at xs

  abbrev mid : List ℕ
  mid = cut at n xs

  abbrev back : List ℕ
  back = drop n (drop at xs)

  length_mid : length mid ≡ n
  length_mid = let d = length-drop at xs in length-take-le n (drop at xs) (omega arith)

  length_back : length back ≡ length xs - at - n
  length_back = length-drop n (drop at xs) ∙ ap (λ (m : ℕ). m - n) (length-drop at xs)

  parted : xs ≡ joined front mid back
  parted = sym (ap (λ (l : List ℕ). front ++ l) (take-append-drop n (drop at xs)) ∙ take-append-drop at xs)

  -- the ordered cut-out, what becomes of it, and that turned back
  abbrev turned_mid : List ℕ
  turned_mid = ordered o mid

  abbrev changed_mid : List ℕ
  changed_mid = ordered o (f turned_mid)

  length_turned_mid : length turned_mid ≡ n
  length_turned_mid = length-ordered o mid ∙ length_mid

  length-changed : length (f turned_mid) ≡ n
  length-changed = p.size turned_mid length_turned_mid

  length_changed_mid : length changed_mid ≡ n
  length_changed_mid = length-ordered o (f turned_mid) ∙ length-changed

  pub length-in_cut_out : length (in_cut_out o f at n xs) ≡ length xs
  unfolding in_cut_out spliced
  length-in_cut_out =
      let a = length-append front (changed_mid ++ back) in
      let b = length-append changed_mid back in
      let c = length-take-le at xs (omega arith) in
      omega (arith, length_back, length_changed_mid)

  pub bytes_in_cut_out : Bytes xs → Bytes (in_cut_out o f at n xs)
  unfolding in_cut_out spliced
  bytes_in_cut_out h =
      bytes_append front (changed_mid ++ back) (bytes_cut 0 at xs h)
      (bytes_append changed_mid back (bytes_ordered o (f turned_mid) (p.bytes turned_mid length_turned_mid)) (λ j.
      rw (get_or-drop n (drop at xs) j 0, get_or-drop at xs (n + j) 0) (h (at + (n + j)))))

  -- the bit m of the cut-out, changed at its place in the ordered form
  bit_at_mid : (m : ℕ) → m < 8 * n → bit_at changed_mid m ≡ g (turned_bit o n m) (bit_at mid m)
  bit_at_mid m l =
      let t = turned_bit o n m in
      let here : bit_at mid m ≡ bit_at turned_mid t =
      ap (λ (ys : List ℕ). bit_at ys m) (sym (ordered-ordered o mid)) ∙ bit_at-ordered o turned_mid m (rw length_turned_mid l)
      ∙ ap (λ (i : ℕ). bit_at turned_mid (turned_bit o i m)) length_turned_mid in
      bit_at-ordered o (f turned_mid) m (rw length-changed l) ∙ ap (λ (i : ℕ). bit_at (f turned_mid) (turned_bit o i m)) length-changed
      ∙ p.bits turned_mid length_turned_mid t (turned_bit_lt o n m l) ∙ ap (g t) (sym here)

  pub bit_at-in_cut_out : (k : ℕ) → k < 8 * length xs → bit_at (in_cut_out o f at n xs) k ≡ cond (in_run at n (length xs) k) (g (place_in_run o at n (length xs) k) (bit_at xs k)) (bit_at xs k)
  unfolding in_cut_out spliced
  bit_at-in_cut_out k l =
      let rest : ℕ = rest_bits at n (length xs) in
      let r : 8 * length back ≡ rest = ap (λ (m : ℕ). 8 * m) length_back in
      let was : bit_at xs k ≡ bit_at (joined front mid back) k = ap (λ (ys : List ℕ). bit_at ys k) parted in
      ⊎_elim
      (λ (a : k < rest).
      rw (lt-leb rest k a) (joined_low front changed_mid back k (rw r a) ∙ sym (was ∙ joined_low front mid back k (rw r a))))
      (λ (a : rest ≤ k).
      ⊎_elim
      (λ (b : k < rest + 8 * n).
      let inside : k < 8 * (length changed_mid + length back) = omega (arith, r, length_changed_mid) in
      let inside-mid : k < 8 * (length mid + length back) = omega (arith, r, length_mid) in
      let here : bit_at xs k ≡ bit_at mid (k - rest) = was ∙ joined_mid front mid back k (rw r a) inside-mid ∙ ap (λ (i : ℕ). bit_at mid (k - i)) r in
      rw (le-leb rest k a, lt-ltb k (rest + 8 * n) b, here)
      (joined_mid front changed_mid back k (rw r a) inside ∙ ap (λ (i : ℕ). bit_at changed_mid (k - i)) r ∙ bit_at_mid (k - rest) (omega arith)))
      (λ (b : rest + 8 * n ≤ k).
      let past : 8 * (length changed_mid + length back) ≤ k = omega (arith, r, length_changed_mid) in
      let past-mid : 8 * (length mid + length back) ≤ k = omega (arith, r, length_mid) in
      let long : length changed_mid + length back ≡ length mid + length back = ap (λ (i : ℕ). i + length back) (length_changed_mid ∙ sym length_mid) in
      rw (within_out (8 * n) rest k b)
      (joined_high front changed_mid back k past ∙ ap (λ (i : ℕ). bit_at front (k - 8 * i)) long ∙ sym (was ∙ joined_high front mid back k past-mid)))
      (below k (rest + 8 * n)))
      (below k rest)
