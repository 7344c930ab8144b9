-- Demand 3 is proved of every way to call that follows the field layer: what specs/Changing states of a way.
use Rattle.std.proofs.Common.{◌≡◌, refl, sym, ap, ◌∙◌, ⊎_elim, Bool, true, false, cond, List, [], ◌∷◌, ◌++◌, ℕ, ◌+◌, ◌*◌, ◌≤◌, ◌<◌, max, arith, length, length-append, take_at}
use Rattle.kinds.specs.Answers.{wrote}
use Rattle.kinds.specs.Outcomes.{Answer, answer}
use Rattle.kinds.proofs.Outcomes.{both}
use Rattle.kinds.proofs.Compare.{below}
use Rattle.bits.specs.Bits.{bit_at}
use Rattle.bits.proofs.Bytes.{bit_at_out}
use Rattle.masks.specs.Mask.{Mask}
use Rattle.pack.specs.Source.{effective_mask}
use Rattle.payload.specs.Payload.{Payload, payload_of}
use Rattle.ownership.proofs.Effects.{cleared_in, left}
use Rattle.ownership.proofs.Laid.{Inside}
use Rattle.ownership.proofs.Writes.{left_zero}
use Rattle.ownership.proofs.Clears.{length_cleared_in, bytes_cleared_in, clear_law}
use Rattle.ownership.proofs.Permutations.{total_append}
use Rattle.demand_three.specs.Changing.{Placed, cut_of, own, Way, blank, message, Assignment, with, build, change, accepted, between, Premises, Changed, Demand3Of}
use Rattle.demand_three.proofs.Calls.{Taken}
use Rattle.demand_three.proofs.Following.{Follows, taken_by, writes_done, clears_done}
use Rattle.demand_three.proofs.Owners.{taken, refuses, refusing, first_passes, owns_at, owners, first-owns_not, Fitting, fitting, fitting_changed, between-accepted}
use Rattle.demand_three.proofs.ReadBack.{reads_back}
use Rattle.demand_three.proofs.Building.{lands_at, lands, lands_none, next, length_next, bytes_next, bits_next, landing, succeeds_with, Shows, one_shown, anew, Anew, build_anew}

-- a clear and a write: an owned bit is the new value's, and the others stay
over_clear : (o : Bool) (mask : Mask) (x s : ℕ) → (o ≡ false → s ≡ 0) → max (cond o (left mask (cond o 0 x)) (cond o 0 x)) s ≡ cond o s x
over_clear true mask x s e = rw (left_zero mask) (omega arith)
over_clear false mask x s e = omega (arith, e refl)

-- o: the field owns the bit; s and s': what its values have there; a and b: what lands there of the fields before and after
replaced : (o : Bool) (a b s s' : ℕ) → (o ≡ true → (a ≡ 0) × (b ≡ 0)) → (o ≡ false → s ≡ 0) → (o ≡ false → s' ≡ 0) → cond o s' (a + (s + b)) ≡ a + (s' + b)
replaced true a b s s' e e₁ e₂ = let none = e refl in omega (arith, none.0, none.1)
replaced false a b s s' e e₁ e₂ = omega (arith, e₁ refl, e₂ refl)

module _ (w : Way) (fw : Follows w) (n : ℕ) (behind : List ℕ) (small : n + length behind ≤ 65535) where
  -- what nobody owns, nothing lands at
  lands_nowhere : (l : List (Assignment w)) → refusing w n l ≡ 0 → (k : ℕ) → k < 8 * n → owners w n k l ≡ 0 → landing w n k l ≡ 0
  lands_nowhere [] r k h e = refl
  lands_nowhere (x ∷ l) r k h e =
      let f : Placed = w.says x.told in
      let a = first_passes (taken w n x) (refusing w n l) r in
      let ok = (both (accepted w n x.told) (w.lends (length x.value)) a.0).0 in
      let o = first-owns_not (own n f k) (owners w n k l) e in
      let first = lands_none n f x.value (taken_by w fw n behind small x.told ok) k h o.0 in
      let rest = lands_nowhere l a.1 k h o.1 in
      omega (arith, first, rest)

  module _ (before after : List (Assignment w)) (x : w.Told) (v v' : List ℕ) (l' l'' : List (Assignment w)) (p : Premises w n behind before after x v v' l' l'') where
    abbrev f : Placed
    f = w.says x

    olds_fit : Fitting w n (between w before after x v)
    olds_fit = fitting w n (between w before after x v) p.all_accepted p.all_lent p.own_disjoint

    old : Anew w fw n behind small (between w before after x v) l'
    old = build_anew w fw n behind small p.one_order olds_fit

    new : Anew w fw n behind small (between w before after x v') l''
    new = build_anew w fw n behind small p.other_order (fitting_changed w n before after x v v' p.new_lent olds_fit)

    ok : accepted w n x ≡ true
    ok = between-accepted w n before after x v v' p.new_lent olds_fit

    t : Taken n f
    t = taken_by w fw n behind small x ok

    -- ---- built, cleared and written

    abbrev B : List ℕ
    B = anew w n l'

    long_B : length B ≡ n
    long_B = old.shows.long

    inside_B : Inside (cut_of f) (length B)
    inside_B = rw long_B t.inside

    abbrev D : List ℕ
    D = cleared_in (cut_of f) B

    long_D : length D ≡ n
    long_D = length_cleared_in (cut_of f) B inside_B ∙ long_B

    is_cleared : w.clear x (build w l' (blank n behind)) ≡ answer wrote (payload_of (D ++ behind) n)
    is_cleared = ap (w.clear x) old.builds ∙ clears_done w fw n behind small x ok B long_B

    abbrev C : List ℕ
    C = next n f v' t D long_D

    long_C : length C ≡ n
    long_C = length_next n f v' t D long_D

    is_changed : change w x v' (build w l' (blank n behind)) ≡ answer wrote (payload_of (C ++ behind) n)
    is_changed = ap (λ (e : Answer Payload). w.write x v' e.left) is_cleared ∙ writes_done w fw n behind small x ok v' p.new_lent D long_D

    bits_C : (k : ℕ) → k < 8 * n → bit_at C k ≡ cond (own n f k) (lands_at n f v' k) (bit_at B k)
    bits_C k h =
        let was : bit_at D k ≡ cond (own n f k) 0 (bit_at B k) = rw long_B at (clear_law (cut_of f) B inside_B k (rw long_B h)) in
        bits_next n f v' t D long_D k h ∙ rw was (over_clear (own n f k) (effective_mask f.mask) (bit_at B k) (lands_at n f v' k) (lands_none n f v' t k h))

    -- ---- (b)

    -- the fields before and after own none of the field's bits, so nothing of theirs lands there
    around_none : (k : ℕ) → k < 8 * n → own n f k ≡ true → (landing w n k before ≡ 0) × (landing w n k after ≡ 0)
    around_none k h o =
        let none = olds_fit.none_refuses in
        let refused = total_append (refuses w n) before (with w x v ∷ after) in
        let owned : owners w n k (between w before after x v) ≡ owners w n k before + (1 + owners w n k after) = rw o at (total_append (owns_at w n k) before (with w x v ∷ after)) in
        let one = olds_fit.one_owns k h in (
          lands_nowhere before (omega (arith, refused, none)) k h (omega (arith, owned, one)),
          lands_nowhere after (omega (arith, refused, none)) k h (omega (arith, owned, one)),
        )

    C_shows : Shows w n (between w before after x v') C
    C_shows =
        record {
          long = long_C;
          bytes = bytes_next n f v' t D long_D (bytes_cleared_in (cut_of f) B inside_B old.shows.bytes);
          bits = λ k h.
              bits_C k h ∙ rw (old.shows.bits k h ∙ total_append (lands w n k) before (with w x v ∷ after), total_append (lands w n k) before (with w x v' ∷ after))
              (replaced (own n f k) (landing w n k before) (landing w n k after) (lands_at n f v k) (lands_at n f v' k) (around_none k h)
              (lands_none n f v t k h) (lands_none n f v' t k h));
        }

    -- ---- (c)

    elsewhere : (k : ℕ) → own n f k ≡ false → bit_at B k ≡ bit_at C k
    elsewhere k o =
        ⊎_elim (λ (h : k < 8 * n). sym (bits_C k h ∙ rw o))
        (λ (h : 8 * n ≤ k). bit_at_out B k (rw long_B (omega arith)) ∙ sym (bit_at_out C k (rw long_C (omega arith)))) (below k (8 * n))

    message_B : message (build w l' (blank n behind)) ≡ B
    message_B = ap message old.builds ∙ take_at B behind n long_B

    message_C : message (change w x v' (build w l' (blank n behind))).left ≡ C
    message_C = ap (λ (e : Answer Payload). message e.left) is_changed ∙ take_at C behind n long_C

    changed : Changed w n behind before after x v v' l' l''
    changed =
        record {
          a_built = old.succeed;
          a_cleared = succeeds_with n behind D _ long_D is_cleared;
          a_changed = succeeds_with n behind C _ long_C is_changed;
          a_anew = new.succeed;
          b =
              ap (λ (e : Answer Payload). e.left) is_changed
              ∙ ap (λ (ys : List ℕ). payload_of (ys ++ behind) n) (one_shown w n (between w before after x v') C (anew w n l'') C_shows new.shows) ∙ sym new.builds;
          c = λ k o. ap (λ (q : List ℕ). bit_at q k) message_B ∙ elsewhere k o ∙ sym (ap (λ (q : List ℕ). bit_at q k) message_C);
          d = λ whole inside bare exact rest fits output room lent.
              let size = length-append C rest in
              ap (λ (q : List ℕ). w.read_back x (q ++ rest) output) message_C
              ∙ fw.reads n x ok (C ++ rest) output (omega (arith, size, long_C)) lent
              ∙ reads_back n f t whole inside bare v' exact B long_B rest long_C output room;
        }

pub demand_3_of : (w : Way) → Follows w → Demand3Of w
demand_3_of w fw n behind before after x v v' l' l'' p = changed w fw n behind p.small before after x v v' l' l'' p
