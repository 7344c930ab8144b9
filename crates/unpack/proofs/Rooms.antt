-- The answer of a reading that finds something: with room for it, and without; and where neither 26 nor 27 is given.
use Rattle.std.proofs.Common.{◌≡◌, List, ◌++◌, ℕ, ◌+◌, ◌*◌, ◌≤◌, ◌<◌, length, drop, lt-ltb, le-ltb}
use Rattle.kinds.specs.declared.refusals.Refusal.TheVariants.{OutputLacksRoom}
use Rattle.kinds.specs.Answers.{refused, read, passed}
use Rattle.kinds.specs.Outcomes.{gives, answer}
use Rattle.unpack.specs.Found.{Found, read_answer}
use Rattle.unpack.specs.Unpacked.{unpack_refusal}

module _ (f : Found) (output : List ℕ) (n : ℕ) (e : length f.bytes ≡ n) where
  -- 41, of n bytes
  pub lacks_room : length output < n → read_answer output (gives f) ≡ answer (refused OutputLacksRoom) output
  unfolding read_answer
  lacks_room h = rw (e, lt-ltb (length output) n h)

  -- n bytes are in front, and the rest of the output stays
  pub has_room : n ≤ length output → read_answer output (gives f) ≡ answer (read f.bits n) (f.bytes ++ drop n output)
  unfolding read_answer
  has_room h = rw (le-ltb (length output) (length f.bytes) (rw e h), e)

-- neither 26 nor 27
pub fits : (len pos n : ℕ) → pos ≤ 7 → pos + len ≤ 8 * n → unpack_refusal len pos n ≡ passed
fits len pos n p h = rw (le-ltb 7 pos p, le-ltb (8 * n) (pos + len) h)
