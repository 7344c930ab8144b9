-- How the code tells where data bytes between limits are; no part of RULES.
use Rattle.std.specs.Prelude.{ℕ, ◌-◌, ◌*◌, Bool, List, length, ltb}
use Rattle.kinds.specs.Slices.{saturating_sum}
use Rattle.kinds.specs.Outcomes.{Outcome, gives, after, unless_short}
use Rattle.kinds.specs.CodePlaces.{Span, span}
use Rattle.coded.specs.declared.variants.MinMaxLengthType.{MinMaxLengthType}
use Rattle.scans.specs.MinMax.{min_max_end, scan_refusal}

-- the bytes up to an end; 30: fewer than min of them, in a payload of n
abbrev pub at_least : ℕ → ℕ → ℕ → ℕ → Outcome Span
at_least least end at n = unless_short (ltb (end - at) least) (saturating_sum at least) n (gives (span at (8 * (end - at))))

-- 34 first
abbrev pub min_max_place : MinMaxLengthType → Bool → List ℕ → ℕ → Outcome Span
min_max_place m unicode payload at = after (scan_refusal m unicode payload at) (at_least m.min_length (min_max_end m unicode payload at) at (length payload))
