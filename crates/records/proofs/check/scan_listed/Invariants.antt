-- `records::check::scan_listed` meets its contract. Invariant: the scan is that of the attributes from `i` on. Assumes nothing.
use Rattle.std.proofs.Common.{◌≡◌, drop}
use Rattle.records.specs.Scan.{scanned}
use Rattle.records.proofs.check.scan_listed.Given as goal

abbrev pub invariant-loop-i : goal.invariant-loop-i
invariant-loop-i l = l.scan ≡ scanned (drop l.i l.attributes)
