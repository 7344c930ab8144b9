-- What is built of a list: every call gives 0, what is behind the message stays, and each bit is what its owner writes there.
use Rattle.std.proofs.Common.{◌≡◌, refl, sym, ap, ◌∙◌, Bool, true, false, cond, List, [], ◌∷◌, ◌++◌, ℕ, ◌+◌, ◌*◌, ◌≤◌, ◌<◌, max, arith, length, replicate, take_at, drop_at}
use Rattle.std.proofs.lemmas.List.{length-replicate}
use mathlib.Core.List.{Permᴰ}
use Rattle.kinds.specs.Answers.{wrote}
use Rattle.kinds.specs.Outcomes.{Answer, answer}
use Rattle.kinds.proofs.Outcomes.{both}
use Rattle.bits.specs.Bits.{bit_at}
use Rattle.bits.proofs.Bytes.{Bytes, ext_bits}
use Rattle.bits.proofs.Runs.{bytes_replicate}
use Rattle.masks.specs.Mask.{Mask}
use Rattle.pack.specs.Source.{effective_mask}
use Rattle.payload.specs.Payload.{Payload, payload_of}
use Rattle.ownership.proofs.Effects.{written_in, imprint, left}
use Rattle.ownership.proofs.Laid.{Inside, bit_at-zeros}
use Rattle.ownership.proofs.Writes.{left_zero, imprint_none, length_written_in, bytes_written_in, write_law}
use Rattle.ownership.proofs.Permutations.{total, total_permuted}
use Rattle.demand_three.specs.Changing.{Placed, cut_of, own, Way, blank, Succeeds, Assignment, build, AllSucceed, accepted, all_accepted, all_lent, disjoint}
use Rattle.demand_three.proofs.Calls.{Taken, bits_of, writable}
use Rattle.demand_three.proofs.Following.{Follows, taken_by, writes_done}
use Rattle.demand_three.proofs.Owners.{taken, refusing, first_passes, owners, Fitting, fitting, fitting_permuted}
use mathlib.Core.List.Permᴰ

-- ---- one write, of a field that is accepted

-- the bit that a value has at k
abbrev pub lands_at : ℕ → Placed → List ℕ → ℕ → ℕ
lands_at n f v k = bit_at (imprint (cut_of f) (bits_of f v) n) k

module _ (n : ℕ) (f : Placed) (v : List ℕ) (t : Taken n f) where
  pub lands_none : (k : ℕ) → k < 8 * n → own n f k ≡ false → lands_at n f v k ≡ 0
  lands_none k l e = imprint_none (cut_of f) (bits_of f v) (writable f v) n t.inside k l e

  module _ (xs : List ℕ) (long : length xs ≡ n) where
    abbrev pub next : List ℕ
    next = written_in (cut_of f) (bits_of f v) xs

    inside_xs : Inside (cut_of f) (length xs)
    inside_xs = rw long t.inside

    pub length_next : length next ≡ n
    length_next = length_written_in (cut_of f) (bits_of f v) (writable f v).zero_one xs inside_xs ∙ long

    pub bytes_next : Bytes xs → Bytes next
    bytes_next = bytes_written_in (cut_of f) (bits_of f v) (writable f v).zero_one xs inside_xs

    pub bits_next : (k : ℕ) → k < 8 * n → bit_at next k ≡ max (cond (own n f k) (left (effective_mask f.mask) (bit_at xs k)) (bit_at xs k)) (lands_at n f v k)
    bits_next k l = rw long at (write_law (cut_of f) (bits_of f v) (writable f v).zero_one xs inside_xs k (rw long l))

-- a call that leaves n bytes and what was behind them
pub succeeds_with : (n : ℕ) (behind xs : List ℕ) (a : Answer Payload) → length xs ≡ n → a ≡ answer wrote (payload_of (xs ++ behind) n) → Succeeds n behind a
succeeds_with n behind xs a long e =
    record {
      number = rw e refl;
      used = rw e refl;
      size = rw e (ap length (take_at xs behind n long) ∙ long);
      stays = rw e (drop_at xs behind n long);
    }

-- o: a field owns the bit x; s: what its value has there; m: how many others own it
step : (o : Bool) (mask : Mask) (x s m : ℕ) → (o ≡ false → s ≡ 0) → cond o 1 0 + m ≤ 1 → (1 ≤ cond o 1 0 + m → x ≡ 0)
    → (max (cond o (left mask x) x) s ≡ x + s) × ((1 ≤ m → max (cond o (left mask x) x) s ≡ 0) × (m ≤ 1))
step true mask x s m none one fresh =
    let zero : x ≡ 0 = fresh (omega arith) in
    (rw (zero, left_zero mask) (omega arith), (λ (h : 1 ≤ m). absurd (omega arith), omega arith))
step false mask x s m none one fresh =
    let z = none refl in
    (omega arith, (λ (h : 1 ≤ m). let y = fresh (omega arith) in omega arith, omega arith))

-- ---- one after the other

module _ (w : Way) where
  abbrev pub lands : ℕ → ℕ → Assignment w → ℕ
  lands n k e = lands_at n (w.says e.told) e.value k

  -- what lands at k, of all fields
  abbrev pub landing : ℕ → ℕ → List (Assignment w) → ℕ
  landing n k l = total (lands n k) l

  unfoldable pub built_on : List (Assignment w) → List ℕ → List ℕ
  built_on [] xs = xs
  built_on (e ∷ l) xs = built_on l (written_in (cut_of (w.says e.told)) (bits_of (w.says e.told) e.value) xs)

  abbrev pub anew : ℕ → List (Assignment w) → List ℕ
  anew n l = built_on l (replicate n 0)

  -- n bytes of which each bit is what lands there
  pub record Shows (n : ℕ) (l : List (Assignment w)) (xs : List ℕ) : Type 0 where
    pub long : length xs ≡ n
    pub bytes : Bytes xs
    pub bits : (k : ℕ) → k < 8 * n → bit_at xs k ≡ landing n k l

  pub one_shown : (n : ℕ) (l : List (Assignment w)) (xs ys : List ℕ) → Shows n l xs → Shows n l ys → xs ≡ ys
  one_shown n l xs ys a b =
      ext_bits xs ys a.bytes b.bytes (a.long ∙ sym b.long) (λ k h. let i : k < 8 * n = rw a.long at h in a.bits k i ∙ sym (b.bits k i))

  module _ (fw : Follows w) (n : ℕ) (behind : List ℕ) (small : n + length behind ≤ 65535) where
    -- what is built of l on xs; a bit that l owns has to be zero before
    record Built (l : List (Assignment w)) (xs : List ℕ) : Type 0 where
      pub builds : build w l (payload_of (xs ++ behind) n) ≡ payload_of (built_on l xs ++ behind) n
      pub succeed : AllSucceed w n behind l (payload_of (xs ++ behind) n)
      pub long : length (built_on l xs) ≡ n
      pub bytes : Bytes xs → Bytes (built_on l xs)
      pub bits : (k : ℕ) → k < 8 * n → owners w n k l ≤ 1 → (1 ≤ owners w n k l → bit_at xs k ≡ 0) → bit_at (built_on l xs) k ≡ bit_at xs k + landing n k l

    built : (l : List (Assignment w)) (xs : List ℕ) → refusing w n l ≡ 0 → length xs ≡ n → Built l xs
    unfolding build AllSucceed built_on
    built [] xs r long = record { builds = refl; succeed = tt; long = long; bytes = λ b. b; bits = λ k h one fresh. omega arith }
    built (e ∷ l) xs r long =
        let f : Placed = w.says e.told in
        let a = first_passes (taken w n e) (refusing w n l) r in
        let ok = both (accepted w n e.told) (w.lends (length e.value)) a.0 in
        let t = taken_by w fw n behind small e.told ok.0 in
        let wrote_it = writes_done w fw n behind small e.told ok.0 e.value ok.1 xs long in
        let ys = next n f e.value t xs long in
        let long-ys = length_next n f e.value t xs long in
        let rest = built l ys a.1 long-ys in
        record {
          builds = ap (λ (q : Answer Payload). build w l q.left) wrote_it ∙ rest.builds;
          succeed = (succeeds_with n behind ys _ long-ys wrote_it, rw wrote_it rest.succeed);
          long = rest.long;
          bytes = λ b. rest.bytes (bytes_next n f e.value t xs long b);
          bits = λ k h one fresh.
              let now = bits_next n f e.value t xs long k h in
              let s = step (own n f k) (effective_mask f.mask) (bit_at xs k) (lands n k e) (owners w n k l) (lands_none n f e.value t k h) one fresh in
              let after = rest.bits k h s.1.1 (λ (g : 1 ≤ owners w n k l). now ∙ s.1.0 g) in
              let here : bit_at ys k ≡ bit_at xs k + lands n k e = now ∙ s.0 in
              omega (arith, after, here);
        }

    -- ---- on zero bytes

    -- what is built of l' shows a list in another order
    pub record Anew (l l' : List (Assignment w)) : Type 0 where
      pub builds : build w l' (blank n behind) ≡ payload_of (anew n l' ++ behind) n
      pub succeed : AllSucceed w n behind l' (blank n behind)
      pub shows : Shows n l (anew n l')

    pub build_anew : {l l' : List (Assignment w)} → Permᴰ l l' → Fitting w n l → Anew l l'
    build_anew {l} {l'} p s =
        let s' = fitting_permuted w n p s in
        let made = built l' (replicate n 0) s'.none_refuses (length-replicate n 0) in
        record {
          builds = made.builds;
          succeed = made.succeed;
          shows =
              record {
                long = made.long;
                bytes = made.bytes (bytes_replicate n 0 (omega arith));
                bits = λ k h.
                    let zero = bit_at-zeros n k h in
                    let whole = made.bits k h (s'.one_owns k h) (λ (g : 1 ≤ owners w n k l'). zero) in
                    let moved = total_permuted (lands n k) p in
                    omega (arith, zero, whole, moved);
              };
        }

    -- a list that is accepted and disjoint is built to the same bytes in any order
    pub any_order : {l l' : List (Assignment w)} → Permᴰ l l' → all_accepted w n l ≡ true → all_lent w l ≡ true → disjoint w n l ≡ true
        → build w l (blank n behind) ≡ build w l' (blank n behind)
    any_order {l} {l'} p a g d =
        let one = build_anew (Permᴰ.refl l) (fitting w n l a g d) in
        let other = build_anew p (fitting w n l a g d) in
        one.builds ∙ ap (λ (xs : List ℕ). payload_of (xs ++ behind) n) (one_shown n l (anew n l) (anew n l') one.shows other.shows) ∙ sym other.builds
