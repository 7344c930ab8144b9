-- The loop's invariant: what is made, and what the digits that are left make, are the whole.
use Rattle.std.proofs.Common.{◌-◌, ◌^◌, ◌≤◌, ◌≡◌}
use Rattle.numerals.specs.Digits.{rebased}
use Rattle.numerals.proofs.Rebased.{together}
use Rattle.numerals.proofs.digits.rebase.Given as goal

abbrev pub invariant-loop : goal.invariant-loop
invariant-loop l = (1 ≤ l.counter) × (l.counter ≤ l.digits) × (l.counts ≡ l.to ^ (l.counter - 1)) × (together l.from l.to l.made l.counts (l.digits - l.counter) l.rest ≡ rebased l.from l.to l.digits l.number)
