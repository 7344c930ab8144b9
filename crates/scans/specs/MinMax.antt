-- RULES 5.7 to 5.10: where data bytes between limits end.
use Rattle.std.specs.Prelude.{ℕ, zero, suc, ◌+◌, ◌-◌, ◌/◌, min, Bool, true, false, cond, ◌&&◌, List, [], ◌∷◌, length, get_or, eqb, ltb, leb, None, Option, Some}
use Rattle.kinds.specs.Slices.{saturating_sum}
use Rattle.kinds.specs.declared.refusals.Refusal.TheVariants.{ScanPastPayload}
use Rattle.kinds.specs.Outcomes.{rule, first_among}
use Rattle.coded.specs.declared.variants.Termination.{Termination}
use Rattle.coded.specs.declared.variants.Termination.TheVariants.{EndOfPdu, Zero, HexFF}
use Rattle.coded.specs.declared.variants.MinMaxLengthType.{MinMaxLengthType}
use Rattle.kinds.specs.Answers.{Check}

-- the smaller of byte_pos+max and the payload's end; no max: the payload's end
abbrev pub end_by_max : Option ℕ → ℕ → ℕ → ℕ
end_by_max (Some most) at n = min (saturating_sum at most) n
end_by_max None at n = n

-- the payload has the byte x at p
abbrev pub has_at : ℕ → List ℕ → ℕ → Bool
has_at x payload p = ltb p (length payload) && eqb (get_or payload p 0) x

-- two such bytes for Unicode2String; both must lie in the payload
abbrev pub terminates : Bool → ℕ → List ℕ → ℕ → Bool
terminates unicode x payload p = has_at x payload p && cond unicode (has_at x payload (p + 1)) true

-- a terminator counts once min bytes have passed
abbrev pub stops_at : Bool → ℕ → List ℕ → ℕ → ℕ → ℕ → Bool
stops_at unicode x payload at least p = leb least (p - at) && terminates unicode x payload p

-- the first of n places from p on, a step apart, at which the scan stops, and the place after them where it does not
unfoldable pub scan : ℕ → (ℕ → Bool) → ℕ → ℕ → ℕ
scan step stops zero p = p
scan step stops (suc n) p = cond (stops p) p (scan step stops n (p + step))

-- the scan from the start up to an end; a start beyond that end is itself the end
abbrev pub scanned : Bool → ℕ → List ℕ → ℕ → ℕ → ℕ → ℕ
scanned unicode x payload at least end =
    cond unicode
    (scan 2 (stops_at true x payload at least) ((end - at + 1) / 2) at)
    (scan 1 (stops_at false x payload at least) (end - at) at)

abbrev pub end_by : Termination → Bool → List ℕ → ℕ → ℕ → ℕ → ℕ
end_by EndOfPdu unicode payload at least end = end
end_by Zero unicode payload at least end = scanned unicode 0x00 payload at least end
end_by HexFF unicode payload at least end = scanned unicode 0xFF payload at least end

abbrev pub ends_with_zero : Termination → Bool
ends_with_zero EndOfPdu = false
ends_with_zero Zero = true
ends_with_zero HexFF = false

module _ (m : MinMaxLengthType) (unicode : Bool) (payload : List ℕ) (at : ℕ) where
  abbrev pub min_max_end : ℕ
  min_max_end = end_by m.termination unicode payload at m.min_length (end_by_max m.max_length at (length payload))

  -- 34: the scan with Zero ends past the payload
  abbrev pub scan_refusal : Check
  scan_refusal = first_among (rule (ends_with_zero m.termination && ltb (length payload) min_max_end) ScanPastPayload ∷ [])
