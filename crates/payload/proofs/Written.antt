-- A payload that is long enough as it is, and a write that is not refused.
use Rattle.std.proofs.Common.{◌≡◌, refl, sym, List, ℕ, ◌-◌, ◌≤◌, arith, length, replicate, le-ltb}
use Rattle.kinds.specs.declared.types.ByteOrder.{ByteOrder}
use Rattle.kinds.specs.Outcomes.{gives}
use Rattle.pack.specs.Source.{Source}
use Rattle.payload.specs.Payload.{Payload}
use Rattle.payload.specs.Writing.{grown, cut_end, written, writing}
use Rattle.payload.proofs.Splices.{spliced_none}

pub grown_none : (used end : ℕ) (xs : List ℕ) → end ≤ used → xs ≡ grown used end xs
unfolding grown
grown_none used end xs h =
    let none : end - used ≡ 0 = omega arith in
    rw none (sym (spliced_none (λ ys. replicate (length ys) 0) used xs refl))

-- a write that is not refused
pub write_all : (o : ByteOrder) (s : Source) (p : Payload) (at pos : ℕ) → pos ≤ 7 → cut_end at pos s.size ≤ length p.bytes
    → writing o s p at pos ≡ gives (written o s p at pos)
unfolding writing
write_all o s p at pos h l = rw (le-ltb 7 pos h, le-ltb (length p.bytes) (cut_end at pos s.size) l)
