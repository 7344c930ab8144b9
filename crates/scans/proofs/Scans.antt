-- Where data bytes between limits end: the steps of a scan, and how far it goes.
use Rattle.std.proofs.Common.{◌≡◌, refl, ap, Bool, true, false, cond, List, ℕ, zero, suc, ◌+◌, ◌-◌, ◌*◌, ◌/◌, ◌≤◌, ◌<◌, max, arith, length, None, Option, Some}
use Rattle.coded.specs.declared.variants.Termination.{Termination}
use Rattle.coded.specs.declared.variants.Termination.TheVariants.{EndOfPdu, Zero, HexFF}
use Rattle.coded.specs.declared.variants.MinMaxLengthType.{MinMaxLengthType}
use Rattle.scans.specs.MinMax.{end_by_max, stops_at, scan, scanned, end_by, min_max_end}

pub max_end-le : (m : Option ℕ) (at n : ℕ) → end_by_max m at n ≤ n
max_end-le (Some most) at n = omega arith
max_end-le None at n = omega arith

-- ---- a scan

-- both answers of a choice are small enough
cond-le : (b : Bool) {x y m : ℕ} → x ≤ m → y ≤ m → cond b x y ≤ m
cond-le true h k = h
cond-le false h k = k

module _ (step : ℕ) (stops : ℕ → Bool) where
  -- no place is left
  pub scan_done : {n : ℕ} (p : ℕ) → n ≡ 0 → scan step stops n p ≡ p
  unfolding scan
  scan_done p e = rw e

  pub scan_stops : (n p : ℕ) → 0 < n → stops p ≡ true → scan step stops n p ≡ p
  unfolding scan
  scan_stops zero p h s = absurd (omega arith)
  scan_stops (suc n) p h s = rw s

  pub scan_goes_on : {n k : ℕ} (p : ℕ) → n ≡ suc k → stops p ≡ false → scan step stops n p ≡ scan step stops k (p + step)
  unfolding scan
  scan_goes_on p e s = rw (e, scan, s)

  pub scan-le : (n p : ℕ) → scan step stops n p ≤ p + step * n
  unfolding scan
  scan-le zero p = omega arith
  scan-le (suc n) p = cond-le (stops p) (omega arith) (omega (arith, scan-le n (p + step)))

-- text of two bytes to a character goes in steps of two
abbrev pub step_of : Bool → ℕ
step_of unicode = cond unicode 2 1

-- the scan that has come to p
abbrev pub scan_from : Bool → ℕ → List ℕ → ℕ → ℕ → ℕ → ℕ → ℕ
scan_from unicode x payload at least end p = scan (step_of unicode) (stops_at unicode x payload at least) ((end - p + (step_of unicode - 1)) / step_of unicode) p

-- how many places are left of it
places_none : (unicode : Bool) (p end : ℕ) → end ≤ p → (end - p + (step_of unicode - 1)) / step_of unicode ≡ 0
places_none true p end h = omega arith
places_none false p end h = omega arith

places_one_less : (unicode : Bool) (p end : ℕ) → p < end → (end - p + (step_of unicode - 1)) / step_of unicode ≡ suc ((end - (p + step_of unicode) + (step_of unicode - 1)) / step_of unicode)
places_one_less true p end h = omega arith
places_one_less false p end h = omega arith

module _ (x : ℕ) (payload : List ℕ) (at least end : ℕ) where
  pub from_start : (unicode : Bool) → scan_from unicode x payload at least end at ≡ scanned unicode x payload at least end
  from_start true = refl
  from_start false = let n : (end - at + 0) / 1 ≡ end - at = omega arith in ap (λ (k : ℕ). scan 1 (stops_at false x payload at least) k at) n

  module _ (unicode : Bool) (p : ℕ) where
    pub from_done : end ≤ p → scan_from unicode x payload at least end p ≡ p
    from_done h = scan_done (step_of unicode) (stops_at unicode x payload at least) p (places_none unicode p end h)

    pub from_stops : p < end → stops_at unicode x payload at least p ≡ true → scan_from unicode x payload at least end p ≡ p
    from_stops h s = scan_stops (step_of unicode) (stops_at unicode x payload at least) _ p (rw (places_one_less unicode p end h) (omega arith)) s

    pub from_goes_on : p < end → stops_at unicode x payload at least p ≡ false → scan_from unicode x payload at least end p ≡ scan_from unicode x payload at least end (p + step_of unicode)
    from_goes_on h s = scan_goes_on (step_of unicode) (stops_at unicode x payload at least) p (places_one_less unicode p end h) s

-- text of two bytes to a character goes one byte past the end at most; a start beyond the end is itself the end
pub scanned-le : (unicode : Bool) (x : ℕ) (payload : List ℕ) (at least end : ℕ) → end ≤ length payload → scanned unicode x payload at least end ≤ max at (length payload + 1)
scanned-le true x payload at least end h = omega (arith, scan-le 2 (stops_at true x payload at least) ((end - at + 1) / 2) at)
scanned-le false x payload at least end h = omega (arith, scan-le 1 (stops_at false x payload at least) (end - at) at)

-- whatever ends the data bytes, they end one byte past the payload at most, unless they start beyond that
end_by-le : (t : Termination) (unicode : Bool) (payload : List ℕ) (at least end : ℕ) → end ≤ length payload → end_by t unicode payload at least end ≤ max at (length payload + 1)
end_by-le EndOfPdu unicode payload at least end h = omega arith
end_by-le Zero unicode payload at least end h = scanned-le unicode 0x00 payload at least end h
end_by-le HexFF unicode payload at least end h = scanned-le unicode 0xFF payload at least end h

-- ---- the end that is found

module _ (m : MinMaxLengthType) (unicode : Bool) (payload : List ℕ) (at : ℕ) where
  pub end_le : min_max_end m unicode payload at ≤ max at (length payload + 1)
  end_le = end_by-le m.termination unicode payload at m.min_length (end_by_max m.max_length at (length payload)) (max_end-le m.max_length at (length payload))
