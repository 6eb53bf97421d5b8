-- `slots::prepare::sweep_attributes` meets its contract. Assumes nothing.
use Rattle.std.proofs.Common.{◌≡◌, ◌-◌, ◌≤◌, ◌∙◌, List, length, length-take, get_or, ap, arith}
use lib.ListN.{drop_of_length-le}
use Rattle.records.specs.Start.{start_attribute}
use Rattle.records.specs.declared.command.AttributeDesc.{AttributeDesc}
use Rattle.records.proofs.Long.{attributes-long}
use Rattle.records.proofs.Scanning.{one-behind}
use Rattle.slots.specs.Sweep.{sweep_one, swept, sweep-more}
use Rattle.slots.proofs.prepare.sweep_attributes.Goals as goal

pub sweep_attribute-sweep-requires : goal.sweep_attribute-sweep-requires
sweep_attribute-sweep-requires c =
    let v = c.args.v in
    let e = attributes-long v _ c.well_formed.0 in
    let k = ap (λ (l : List AttributeDesc). length l) c.counted-attributes.ensures ∙ length-take v.attribute_count v.attributes in
    omega (arith, e, k)

pub loop-i-init : goal.loop-i-init
unfolding swept
loop-i-init c =
    let l = c.counted-attributes.result.now in
    (omega arith, rw (drop_of_length-le l {i = length l} (omega arith)))

pub loop-i-preserved : goal.loop-i-preserved
unfolding swept
loop-i-preserved c =
    let v = c.args.v in
    let s = c.loop-i.sweep in
    let i = c.loop-i.i in
    let l = c.counted-attributes.result.now in
    let a = get_or l (i - 1) start_attribute in
    let n : i ≤ length l = omega arith in
    let q : c.sweep_attribute-sweep.result.count ≡ (sweep_one c.args.m v c.args.w s a).count = rw c.sweep_attribute-sweep.ensures in (
      omega (arith, q, sweep-more c.args.m v c.args.w s a),
      rw (one-behind l i start_attribute (omega arith) n, c.sweep_attribute-sweep.ensures, c.loop-i.invariant.1),
    )
