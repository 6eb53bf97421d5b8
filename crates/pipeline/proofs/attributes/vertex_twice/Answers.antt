-- `pipeline::attributes::vertex_twice` meets its contract, by the scan. Assumes nothing.
use Rattle.records.specs.Scan.{scanned-twice}
use Rattle.pipeline.specs.Vertex.{attributes_in}
use Rattle.pipeline.proofs.attributes.vertex_twice.Goals as goal

pub returns : goal.returns
returns c = rw c.scan_attributes-scan.ensures (scanned-twice (attributes_in c.args.p))
