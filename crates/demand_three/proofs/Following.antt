-- What demand 3 needs to know of a way to call: where a field is accepted, it does what the field layer does.
use Rattle.std.proofs.Common.{◌≡◌, ◌∙◌, true, List, ◌++◌, ℕ, ◌+◌, ◌≤◌, arith, length, length-append}
use Rattle.kinds.specs.Answers.{wrote}
use Rattle.kinds.specs.Outcomes.{answer}
use Rattle.payload.specs.Payload.{Payload, payload_of}
use Rattle.ownership.proofs.Effects.{written_in, cleared_in}
use Rattle.demand_three.specs.Changing.{cut_of, Way, field_way, accepted}
use Rattle.demand_three.proofs.Calls.{Taken, accepted_taken, bits_of, write_done, clear_done}

-- a payload that may be lent
pub record Lent (p : Payload) : Type 0 where
  pub limit : length p.bytes ≤ 65535
  pub used : p.used ≤ length p.bytes

pub record Follows (w : Way) : Type 0 where
  pub accepts : (n : ℕ) (x : w.Told) → accepted w n x ≡ true → accepted field_way n (w.says x) ≡ true
  pub writes : (n : ℕ) (x : w.Told) → accepted w n x ≡ true → (v : List ℕ) → w.lends (length v) ≡ true → (p : Payload) → Lent p
      → w.write x v p ≡ field_way.write (w.says x) v p
  pub clears : (n : ℕ) (x : w.Told) → accepted w n x ≡ true → (p : Payload) → Lent p → w.clear x p ≡ field_way.clear (w.says x) p
  pub reads : (n : ℕ) (x : w.Told) → accepted w n x ≡ true → (payload output : List ℕ) → length payload ≤ 65535 → w.lends (length output) ≡ true
      → w.read_back x payload output ≡ field_way.read_back (w.says x) payload output

-- ---- so its calls leave of a message, and of what is behind it, what the field layer's leave

module _ (w : Way) (fw : Follows w) (n : ℕ) (behind : List ℕ) (small : n + length behind ≤ 65535) (x : w.Told) (ok : accepted w n x ≡ true) where
  pub taken_by : Taken n (w.says x)
  taken_by = accepted_taken n (w.says x) (omega arith) (fw.accepts n x ok)

  lent : (xs : List ℕ) → length xs ≡ n → Lent (payload_of (xs ++ behind) n)
  lent xs long = let size = length-append xs behind in record { limit = omega arith; used = omega arith }

  pub writes_done : (v : List ℕ) → w.lends (length v) ≡ true → (xs : List ℕ) → length xs ≡ n
      → w.write x v (payload_of (xs ++ behind) n) ≡ answer wrote (payload_of (written_in (cut_of (w.says x)) (bits_of (w.says x) v) xs ++ behind) n)
  writes_done v l xs long = fw.writes n x ok v l (payload_of (xs ++ behind) n) (lent xs long) ∙ write_done n (w.says x) taken_by xs behind long v

  pub clears_done : (xs : List ℕ) → length xs ≡ n → w.clear x (payload_of (xs ++ behind) n) ≡ answer wrote (payload_of (cleared_in (cut_of (w.says x)) xs ++ behind) n)
  clears_done xs long = fw.clears n x ok (payload_of (xs ++ behind) n) (lent xs long) ∙ clear_done n (w.says x) taken_by xs behind long
