-- `records::check::broken_limits` meets its contract: each condition by the function that looks at it. Assumes nothing.
-- What the scan of the attributes finds is what `Check` asks of them, by `scanned-bad` and `scanned-twice`.
use Rattle.std.proofs.Common.{◌∙◌}
use Rattle.records.specs.Any.{units-any}
use Rattle.records.specs.Scan.{scanned-bad, scanned-twice}
use Rattle.records.proofs.check.broken_limits.Goals as goal

pub returns : goal.returns
returns c =
    let s = c.args.state in
    let scan = c.scan_vertex-scan in
    simp (
      c.bad_masks.ensures,
      c.bad_pass.ensures,
      c.bad_immediates.ensures,
      c.bad_units.ensures ∙ units-any s.bind.sampled 0 s.bind.texture_slots,
      c.too_many.ensures,
      scan.ensures,
      scanned-bad,
      scanned-twice,
    )
