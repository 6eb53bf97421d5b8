-- `records::check::scan_vertex` meets its contract: where none is counted nothing is found. Assumes nothing.
use Rattle.records.specs.Scan.{scanned}
use Rattle.records.proofs.check.scan_vertex.Goals as goal

pub returns-then-vertex-eq0 : goal.returns-then-vertex-eq0
unfolding scanned
returns-then-vertex-eq0 c = rw (c.if-vertex-eq0.true, c.new.ensures)
