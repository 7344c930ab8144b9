-- The bits of `first`, `raised`, `either`, `within` and `overlaid`, place by place.
use Rattle.std.proofs.Common.{◌≡◌, sym, ap, ◌∙◌, ⊎_elim, Bool, true, false, cond, ◌&&◌, List, ℕ, ◌+◌, ◌-◌, ◌*◌, ◌≤◌, ◌<◌, max, arith, zero-add, length, ltb, leb, lt-ltb, le-ltb, le-leb}
use Rattle.std.proofs.lemmas.Bool.{lt-leb}
use Rattle.kinds.specs.Types.{bytes_for}
use Rattle.kinds.proofs.Compare.{below}
use Rattle.bits.specs.Bits.{bit_at, packed}
use Rattle.bits.specs.Moves.{first, from, raised, either, extracted, injected, within, overlaid}
use Rattle.bits.proofs.Numbers.{Bits}
use Rattle.bits.proofs.Bytes.{Bytes, bit_at_lt, bit_at_none, bit_at-packed, length-packed, packed_ext, repack}

-- ---- they give bits

pub bits_cond : (t : Bool) {a b : ℕ} → a < 2 → b < 2 → cond t a b < 2
bits_cond true ha hb = ha
bits_cond false ha hb = hb

pub bits_first : (n : ℕ) (f : ℕ → ℕ) → Bits f → Bits (first n f)
bits_first n f b k = bits_cond (ltb k n) (b k) (omega arith)

pub bits_raised : (pos : ℕ) (f : ℕ → ℕ) → Bits f → Bits (raised pos f)
bits_raised pos f b k = bits_cond (leb pos k) (b (k - pos)) (omega arith)

pub bits_either : (f g : ℕ → ℕ) → Bits f → Bits g → Bits (either f g)
bits_either f g a b k = omega (arith, a k, b k)

-- ---- the first n bits

pub first_in : (n : ℕ) (f : ℕ → ℕ) (k : ℕ) → k < n → first n f k ≡ f k
first_in n f k h = rw (lt-ltb k n h)

pub first_out : (n : ℕ) (f : ℕ → ℕ) (k : ℕ) → n ≤ k → first n f k ≡ 0
first_out n f k h = rw (le-ltb k n h)

pub first_ext : (n : ℕ) (f g : ℕ → ℕ) → ((i : ℕ) → i < n → f i ≡ g i) → (k : ℕ) → first n f k ≡ first n g k
first_ext n f g e k =
    ⊎_elim (λ l. ap (λ (x : ℕ). cond (ltb k n) x 0) (e k l)) (λ l. first_out n f k l ∙ sym (first_out n g k l)) (below k n)

-- one bit more changes that place alone
pub ltb_other : (i k : ℕ) → (k ≡ i → ⊥) → ltb k i ≡ ltb k (i + 1)
ltb_other i k n =
    ⊎_elim (λ l. lt-ltb k i l ∙ sym (lt-ltb k (i + 1) (omega arith))) (λ l. le-ltb k i l ∙ sym (le-ltb k (i + 1) (omega arith))) (below k i)

pub first_other : (f : ℕ → ℕ) (i k : ℕ) → (k ≡ i → ⊥) → first i f k ≡ first (i + 1) f k
first_other f i k n = ap (λ (t : Bool). cond t (f k) 0) (ltb_other i k n)

-- ---- bits moved up

pub raised_in : (pos : ℕ) (f : ℕ → ℕ) (k : ℕ) → raised pos f (pos + k) ≡ f k
raised_in pos f k = rw (le-leb pos (pos + k) (omega arith)) (ap f (omega arith))

pub raised_out : (pos : ℕ) (f : ℕ → ℕ) (k : ℕ) → k < pos → raised pos f k ≡ 0
raised_out pos f k h = rw (lt-leb pos k h)

pub raised_ext : (pos : ℕ) (f g : ℕ → ℕ) (k : ℕ) → (pos ≤ k → f (k - pos) ≡ g (k - pos)) → raised pos f k ≡ raised pos g k
raised_ext pos f g k e =
    ⊎_elim (λ l. raised_out pos f k l ∙ sym (raised_out pos g k l)) (λ l. ap (λ (x : ℕ). cond (leb pos k) x 0) (e l)) (below k pos)

pub raised-zero : (pos : ℕ) (f : ℕ → ℕ) (k : ℕ) → ((j : ℕ) → f j ≡ 0) → raised pos f k ≡ 0
raised-zero pos f k e = ⊎_elim (λ l. raised_out pos f k l) (λ l. rw (le-leb pos k l) (e (k - pos))) (below k pos)

-- ---- the places of a run

pub within_in : (len pos k : ℕ) → k < len → within len pos (pos + k) ≡ true
within_in len pos k h = rw (le-leb pos (pos + k) (omega arith), lt-ltb (pos + k) (pos + len) (omega arith))

pub within_out : (len pos k : ℕ) → pos + len ≤ k → within len pos k ≡ false
within_out len pos k h = rw (le-leb pos k (omega arith), le-ltb k (pos + len) h)

pub within_none : (pos k : ℕ) → within 0 pos k ≡ false
within_none pos k = ⊎_elim (λ l. rw (lt-leb pos k l)) (λ l. within_out 0 pos k (omega arith)) (below k pos)

pub within_other : (i pos k : ℕ) → (k ≡ pos + i → ⊥) → within i pos k ≡ within (i + 1) pos k
within_other i pos k n =
    let one : pos + i + 1 ≡ pos + (i + 1) = omega arith in
    ap (λ (t : Bool). leb pos k && t) (ltb_other (pos + i) k n ∙ ap (ltb k) one)

-- ---- lengths and bits of what is made

pub length-extracted : (len pos : ℕ) (xs : List ℕ) → length (extracted len pos xs) ≡ bytes_for len
unfolding extracted
length-extracted len pos xs = length-packed (bytes_for len) (first len (from pos (bit_at xs)))

-- the bits that are taken, and nothing above them
module _ (len pos : ℕ) (xs : List ℕ) where
  abbrev taken : ℕ → ℕ
  taken = first len (from pos (bit_at xs))

  bits_taken : Bits taken
  bits_taken = bits_first len (from pos (bit_at xs)) (λ k. bit_at_lt xs (pos + k))

  pub bit_at-extracted : (i : ℕ) → i < len → bit_at (extracted len pos xs) i ≡ bit_at xs (pos + i)
  unfolding extracted
  bit_at-extracted i l = bit_at-packed (bytes_for len) taken bits_taken i (omega arith) ∙ first_in len (from pos (bit_at xs)) i l

  pub extracted_above : (i : ℕ) → len ≤ i → bit_at (extracted len pos xs) i ≡ 0
  unfolding extracted
  extracted_above i l =
      bit_at_none (packed (bytes_for len) taken) i (λ (h : i < 8 * length (packed (bytes_for len) taken)).
      bit_at-packed (bytes_for len) taken bits_taken i (omega (arith, length-packed (bytes_for len) taken)) ∙ first_out len (from pos (bit_at xs)) i l)

pub length-injected : (len pos : ℕ) (source : ℕ → ℕ) (xs : List ℕ) → length (injected len pos source xs) ≡ length xs
unfolding injected
length-injected len pos source xs = length-packed (length xs) (either (bit_at xs) (raised pos (first len source)))

pub length-overlaid : (own : ℕ → Bool) (new : ℕ → ℕ) (xs : List ℕ) → length (overlaid own new xs) ≡ length xs
unfolding overlaid
length-overlaid own new xs = length-packed (length xs) (λ k. cond (own k) (new k) (bit_at xs k))

pub bit_at-overlaid : (own : ℕ → Bool) (new : ℕ → ℕ) (xs : List ℕ) → Bits new → (k : ℕ) → k < 8 * length xs → bit_at (overlaid own new xs) k ≡ cond (own k) (new k) (bit_at xs k)
unfolding overlaid
bit_at-overlaid own new xs b k l =
    bit_at-packed (length xs) (λ j. cond (own j) (new j) (bit_at xs j)) (λ j. bits_cond (own j) (b j) (bit_at_lt xs j)) k l

-- all bits of whole bytes are the bytes
pub extracted_whole : (xs : List ℕ) (n : ℕ) → Bytes xs → length xs ≡ n → extracted (8 * n) 0 xs ≡ xs
unfolding extracted
extracted_whole xs n h e =
    let all : bytes_for (8 * n) ≡ length xs = omega arith in
    ap (λ (k : ℕ). packed k (first (8 * n) (from 0 (bit_at xs)))) all
    ∙ packed_ext (length xs) (first (8 * n) (from 0 (bit_at xs))) (bit_at xs) (λ i l. first_in (8 * n) (from 0 (bit_at xs)) i (omega arith) ∙ ap (bit_at xs) (zero-add i))
    ∙ repack xs h

-- the bits that are ORed in are all that matter of a source
pub injected_ext : (len pos : ℕ) (f g : ℕ → ℕ) (xs : List ℕ) → ((i : ℕ) → i < len → f i ≡ g i) → injected len pos f xs ≡ injected len pos g xs
unfolding injected
injected_ext len pos f g xs e =
    packed_ext (length xs) (either (bit_at xs) (raised pos (first len f))) (either (bit_at xs) (raised pos (first len g))) (λ k l.
    ap (max (bit_at xs k)) (raised_ext pos (first len f) (first len g) k (λ m. first_ext len f g e (k - pos))))
