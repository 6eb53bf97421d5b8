-- `text::put::put_fields` meets its contract: what is left to put are the first k fields. Assumes nothing.
use Prim.Native.Nat.{◌-◌}
use native.Mathlib.Omega.{arith}
use lib.ListN.{get_or}
use Rattle.text.specs.declared.field.Field.TheVariants.{Number}
use Rattle.text.proofs.Puts.{going-put, going_end}
use Rattle.text.proofs.Fields.{field-short, spaced-step, spaced-none}
use Rattle.text.proofs.put.put_fields.Goals as goal

pub returns : goal.returns
returns c =
    let l = c.loop-k in
    going_end (rw (spaced-none c.args.shown.items l.k (omega arith)) at l.invariant.1)

pub loop-k-preserved : goal.loop-k-preserved
loop-k-preserved c =
    let l = c.loop-k in
    let p = c.put_item-i in
    let items = c.args.shown.items in
    let e = spaced-step items l.k (Number 0) (omega arith) (omega arith) in (
      omega (arith, l.invariant.0, p.ensures.place, field-short (get_or items (l.k - 1) (Number 0))),
      going-put (rw e at l.invariant.1) p.ensures p.auto.line,
    )
