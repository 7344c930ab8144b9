-- What the highest of so many bits counts.
use Rattle.std.proofs.Common.{◌≡◌, ℕ, zero, suc, ◌+◌, ◌-◌, ◌^◌, ◌≤◌, arith, pow_mono}
use Rattle.std.proofs.Math.Nat.{two-pow-succ}

-- the highest bit counts half of what all bits can say
pub halves : (width : ℕ) → 1 ≤ width → 2 ^ width ≡ 2 ^ (width - 1) + 2 ^ (width - 1)
halves zero h = omega arith
halves (suc n) h =
    let less : suc n - 1 ≡ n = omega arith in
    rw less (two-pow-succ n)

pub half_most : (width : ℕ) → width ≤ 64 → 2 ^ (width - 1) ≤ 2 ^ 63
half_most width h = pow_mono {i = width - 1} {j = 63} (omega arith)
