-- How the code goes from a place to what is read there; no part of RULES.
use Rattle.std.specs.Prelude.{ℕ, cond, List, [], eqb}
use Rattle.kinds.specs.declared.types.ByteOrder.{ByteOrder}
use Rattle.kinds.specs.Outcomes.{Outcome, gives}
use Rattle.masks.specs.Mask.{Mask}
use Rattle.unpack.specs.Found.{Found, found}
use Rattle.readers.specs.Finding.{bits_finding}

-- no bits: nothing is read, wherever that would be
unfoldable pub read_bits : ByteOrder → ℕ → Mask → List ℕ → ℕ → ℕ → Outcome Found
read_bits o bits mask payload start pos = cond (eqb bits 0) (gives (found 0 [])) (bits_finding o bits mask payload start pos)
