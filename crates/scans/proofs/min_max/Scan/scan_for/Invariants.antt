-- `scans::Scan::scan_for` meets its contract. The loop's invariant: a scan from here on stops where one from the
-- start does.
use Rattle.std.proofs.Common.{◌+◌, ◌-◌, ◌≡◌, ◌≤◌, max}
use Rattle.scans.specs.MinMax.{scanned}
use Rattle.scans.proofs.Scans.{step_of, scan_from}
use Rattle.scans.proofs.min_max.Scan.scan_for.Given as goal

abbrev pub invariant-loop-end_pos : goal.invariant-loop-end_pos
invariant-loop-end_pos l =
    let u = l.self.is_unicode in
    (l.step ≡ step_of u)
    × (l.end_pos ≤ max l.self.byte_pos (l.max_end + 1))
    × (scan_from u l.terminator l.self.uds_payload.now l.self.byte_pos l.self.min_length.0 l.max_end l.end_pos ≡ scanned u l.terminator l.self.uds_payload.now l.self.byte_pos l.self.min_length.0 l.max_end)

abbrev pub decreases-loop-end_pos : goal.decreases-loop-end_pos
decreases-loop-end_pos l = l.max_end - l.end_pos
