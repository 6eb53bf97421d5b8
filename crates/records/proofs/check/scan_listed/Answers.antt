-- `records::check::scan_listed` meets its contract. Assumes nothing.
use Rattle.std.proofs.Common.{◌≡◌, ◌+◌, ◌-◌, ◌≤◌, List, length, get_or, take, drop, length-drop, ap, ◌∙◌, arith}
use lib.ListN.{drop_of_length-le}
use Rattle.std.proofs.lemmas.List.{take_all}
use Rattle.records.specs.declared.command.AttributeDesc.{AttributeDesc}
use Rattle.mask.specs.Mask.{test_bit}
use Rattle.records.specs.declared.check.AttributeScan.{AttributeScan}
use Rattle.std.specs.List.{list_any}
use Rattle.records.specs.Any.{has_location, among-any}
use Rattle.records.specs.Check.{among, locations}
use Rattle.records.specs.Scan.{scanned, seen-before}
use Rattle.records.specs.Start.{start_attribute}
use Rattle.records.proofs.Scanning.{one-behind}
use Rattle.records.proofs.check.scan_listed.Goals.{then-masked, else-masked}
use Rattle.records.proofs.check.scan_listed.Goals as goal

pub loop-i-init : goal.loop-i-init
unfolding scanned
loop-i-init c =
    let l = c.args.attributes.now in
    rw (c.new-scan.ensures, drop_of_length-le l {i = length l} (omega arith))

pub loop-i-preserved : goal.loop-i-preserved
unfolding scanned
loop-i-preserved c =
    let i = c.loop-i.i in
    let l = c.args.attributes.now in
    let a = get_or l (i - 1) start_attribute in
    let z : i - 1 + 1 ≡ i = omega arith in
    let n : i ≤ length l = omega arith in
    let behind : take (length l - (i - 1 + 1)) (drop (i - 1 + 1) l) ≡ drop i l =
    rw z (take_all (length l - i) (drop i l) (omega (arith, length-drop i l))) in
    let again : c.if-masked.again ≡ among a.location (locations (drop i l)) =
    elim c.if-masked.branch [
      | then-masked w ↦ w.again-is ∙ w.test-again.ensures ∙ ap (λ (x : AttributeScan). test_bit x.seen a.location) c.loop-i.invariant ∙ seen-before (drop i l) a.location w.if-masked.true
      | else-masked w ↦ w.again-is ∙ w.stands_among-again.ensures ∙ ap (λ (m : List AttributeDesc). list_any (has_location a.location) m) behind ∙ among-any a.location (drop i l)
    ] in
    rw (one-behind l i start_attribute (omega arith) n, c.scan_attribute-scan.ensures, c.loop-i.invariant, again)
