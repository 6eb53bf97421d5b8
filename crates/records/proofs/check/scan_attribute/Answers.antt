-- `records::check::scan_attribute` meets its contract, by those of the mask and of the range test. Assumes nothing.
use Rattle.records.specs.Scan.{scan_one}
use Rattle.records.proofs.check.scan_attribute.Goals as goal

pub returns : goal.returns
unfolding scan_one
returns c = simp (c.bad_attribute.ensures, c.set_if.ensures)
