-- RULES 5.14: what a reading finds, and what becomes of the output.
use Rattle.std.specs.Prelude.{ℕ, List, [], ◌∷◌, ◌++◌, length, drop, ltb}
use Rattle.kinds.specs.declared.refusals.Refusal.TheVariants.{OutputLacksRoom}
use Rattle.kinds.specs.Answers.{read, Check}
use Rattle.kinds.specs.Outcomes.{rule, first_among, Outcome, gives, after, following, Answer, answer, concluded}

-- the bit count, and the bytes
pub record Found : Type 0 where
  pub bits : ℕ
  pub bytes : List ℕ

abbrev pub found : ℕ → List ℕ → Found
found bits bytes = record { bits = bits; bytes = bytes }

-- 41: output lacks room
abbrev pub room_refusal : List ℕ → List ℕ → Check
room_refusal bytes output = first_among (rule (ltb (length output) (length bytes)) OutputLacksRoom ∷ [])

-- the bytes are in front, and what is past them stays
abbrev pub filled : List ℕ → Found → Answer (List ℕ)
filled output f = answer (read f.bits (length f.bytes)) (f.bytes ++ drop (length f.bytes) output)

-- the answer of a reading, with 41 last
unfoldable pub read_answer : List ℕ → Outcome Found → Answer (List ℕ)
read_answer output o = concluded output (filled output) (following o (λ f. after (room_refusal f.bytes output) (gives f)))
