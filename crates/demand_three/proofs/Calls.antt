-- The field layer's calls of a field that is accepted: what write and clear leave of a message, for any value, and of what is behind it.
use Rattle.std.proofs.Common.{◌≡◌, refl, sym, ap, ◌∙◌, Bool, true, false, true≢false, ◌&&◌, List, [], ◌++◌, ℕ, ◌+◌, ◌≤◌, max, arith, length, length-append, eqb, ltb, ltb-false, le-ltb, Ok, Err}
use Rattle.std.proofs.lemmas.List.{length-replicate}
use Rattle.std.proofs.lemmas.Bool.{not-true}
use Rattle.kinds.specs.declared.refusals.Refusal.TheVariants.{BitPositionAboveSeven, PayloadLacksRoom}
use Rattle.kinds.specs.Types.{is_numeric, is_byte_type}
use Rattle.kinds.specs.Answers.{number_in, Check, passed, wrote}
use Rattle.kinds.specs.Outcomes.{Outcome, gives, after, answer}
use Rattle.kinds.specs.Refusals.{bit_position_refusal}
use Rattle.kinds.proofs.Outcomes.{both, rule_passed}
use Rattle.kinds.proofs.Rows.{never_0}
use Rattle.pack.specs.Source.{Source, effective_mask, size_under, standard_source, standard_bits_under}
use Rattle.cutout.specs.CutOut.{cleared, put}
use Rattle.payload.specs.Payload.{Payload, payload_of, write_answer}
use Rattle.payload.specs.Writing.{grown, cut_bytes, cut_end, write_refusal, written, writing, clearing}
use Rattle.payload.proofs.Splices.{in_cut_out-append}
use Rattle.payload.proofs.Written.{grown_none, write_all}
use Rattle.lengths.specs.Refusals.{standard_refusal}
use Rattle.writers.specs.Shapes.{field_encoding}
use Rattle.ownership.proofs.Effects.{source_for, written_in, cleared_in}
use Rattle.ownership.proofs.Laid.{Inside}
use Rattle.ownership.proofs.Writes.{Writable}
use Rattle.ownership.proofs.Sources.{standard_writable}
use Rattle.demand_three.specs.Changing.{Placed, cut_of, Way, field_at, field_way, zeros, accepted}

-- ---- what an acceptance tells

-- an outcome that is reported as 0
abbrev pub fine : Payload → Outcome Payload → Bool
fine p o = eqb (number_in (write_answer p o).report) 0

-- nothing was refused before
pub none_before : (c : Check) (p : Payload) (o : Outcome Payload) → fine p (after c o) ≡ true → (c ≡ passed) × (fine p o ≡ true)
none_before (Ok done) p o e = (refl, e)
none_before (Err r) p o e = absurd (true≢false (sym e ∙ never_0 r))

-- the parts of an acceptance
pub record Accepted (w : Way) (n : ℕ) (x : w.Told) : Type 0 where
  pub numeric : is_numeric (w.says x).type ≡ true
  pub some : ltb 0 (w.says x).len ≡ true
  pub number : eqb (number_in (w.write x [] (zeros n)).report) 0 ≡ true
  pub used : eqb (w.write x [] (zeros n)).left.used n ≡ true

pub accepted_parts : (w : Way) (n : ℕ) (x : w.Told) → accepted w n x ≡ true → Accepted w n x
accepted_parts w n x e =
    let a = both (is_numeric (w.says x).type) _ e in
    let b = both (ltb 0 (w.says x).len) _ a.1 in
    let c = both (eqb (number_in (w.write x [] (zeros n)).report) 0) _ b.1 in
    record { numeric = a.0; some = b.0; number = c.0; used = c.1 }

-- what matters of a field that is accepted
pub record Taken (n : ℕ) (f : Placed) : Type 0 where
  pub numeric : is_byte_type f.type ≡ false
  pub allowed : standard_refusal f.type f.len f.mask ≡ passed
  pub seven : f.pos ≤ 7
  pub inside : Inside (cut_of f) n

pub accepted_taken : (n : ℕ) (f : Placed) → n ≤ 65535 → accepted field_way n f ≡ true → Taken n f
unfolding writing
accepted_taken n f small e =
    let len = length-replicate {A = ℕ} n 0 in
    let size : ℕ = size_under (effective_mask f.mask) f.len in
    let parts = accepted_parts field_way n f e in
    let own = none_before (bit_position_refusal f.type f.pos) (zeros n) _ parts.number in
    let length-ok = none_before (standard_refusal f.type f.len f.mask) (zeros n) _ own.1 in
    let seven = rule_passed (ltb 7 f.pos) BitPositionAboveSeven _ (none_before (write_refusal size (zeros n) f.at f.pos) (zeros n) _ length-ok.1).0 in
    let room = ltb-false _ (cut_end f.at f.pos size) (rule_passed _ PayloadLacksRoom passed seven.1).0 in
    record { numeric = not-true (is_byte_type f.type) parts.numeric; allowed = length-ok.0; seven = ltb-false 7 f.pos seven.0; inside = omega arith }

-- ---- what is left

-- the source's bits
abbrev pub bits_of : Placed → List ℕ → ℕ → ℕ
bits_of f v = standard_bits_under (effective_mask f.mask) f.type f.len v

pub writable : (f : Placed) (v : List ℕ) → Writable (cut_of f) (bits_of f v)
writable f v = standard_writable (cut_of f) f.type f.len v refl

module _ (n : ℕ) (f : Placed) (t : Taken n f) (xs behind : List ℕ) (long : length xs ≡ n) where
  abbrev size : ℕ
  size = size_under (effective_mask f.mask) f.len

  ends : cut_end f.at f.pos size ≤ n
  ends = let g = t.inside in omega arith

  fits : f.at + cut_bytes f.pos size ≤ length xs
  fits = rw long t.inside

  room : cut_end f.at f.pos size ≤ length (xs ++ behind)
  room = rw (length-append xs behind, long) (omega (arith, ends))

  pub write_done : (v : List ℕ) → field_way.write f v (payload_of (xs ++ behind) n) ≡ answer wrote (payload_of (written_in (cut_of f) (bits_of f v) xs ++ behind) n)
  write_done v =
      let source : Source = standard_source f.type f.len (effective_mask f.mask) v in
      let grew : grown n (cut_end f.at f.pos size) (xs ++ behind) ≡ xs ++ behind = sym (grown_none n (cut_end f.at f.pos size) (xs ++ behind) ends) in
      let used : max n (cut_end f.at f.pos size) ≡ n = omega (arith, ends) in
      rw (t.numeric, t.allowed, write_all f.order source (payload_of (xs ++ behind) n) f.at f.pos t.seven room)
      ((λ i. answer wrote (payload_of (written_in (cut_of f) (bits_of f v) (grew i)) (used i)))
      ∙ ap (λ (ys : List ℕ). answer wrote (payload_of ys n)) (in_cut_out-append f.order (put (source_for (cut_of f) (bits_of f v)) f.pos) f.at (cut_bytes f.pos size) xs behind fits))

  pub clear_done : field_way.clear f (payload_of (xs ++ behind) n) ≡ answer wrote (payload_of (cleared_in (cut_of f) xs ++ behind) n)
  unfolding clearing
  clear_done =
      rw (t.numeric, t.allowed, le-ltb 7 f.pos t.seven, le-ltb n (cut_end f.at f.pos size) ends)
      (ap (λ (ys : List ℕ). answer wrote (payload_of ys n)) (in_cut_out-append f.order (cleared (effective_mask f.mask) size f.pos) f.at (cut_bytes f.pos size) xs behind fits))

-- ---- the value does not matter

-- what of an answer an acceptance looks at
abbrev pub accepts : ℕ → Payload → Outcome Payload → Bool
accepts n p o = fine p o && eqb (write_answer p o).left.used n

after_accepts : (n : ℕ) (c : Check) (p : Payload) (o o' : Outcome Payload) → accepts n p o ≡ accepts n p o' → accepts n p (after c o) ≡ accepts n p (after c o')
after_accepts n (Ok done) p o o' h = h
after_accepts n (Err r) p o o' h = refl

-- a field that is accepted with one value is accepted with every other
pub value_free : (n : ℕ) (f : Placed) (v v' : List ℕ) (p : Payload)
    → accepts n p (field_encoding (field_at f) v p f.at f.pos) ≡ accepts n p (field_encoding (field_at f) v' p f.at f.pos)
unfolding writing
value_free n f v v' p =
    let put_in : List ℕ → Payload = λ w. written f.order (standard_source f.type f.len (effective_mask f.mask) w) p f.at f.pos in
    after_accepts n (bit_position_refusal f.type f.pos) p _ _ (after_accepts n (standard_refusal f.type f.len f.mask) p _ _
    (after_accepts n (write_refusal (size_under (effective_mask f.mask) f.len) p f.at f.pos) p (gives (put_in v)) (gives (put_in v')) refl))
