-- One more record: it stays, or it does not.
use Rattle.std.proofs.Common.{◌∙◌, sym, arith}
use Rattle.list_walks.proofs.Sifted.{retained_none, retained_more, retained_same, retained_short}
use Rattle.superseding.proofs.treat.retain.Goals as goal
use Rattle.superseding.proofs.treat.retain.Goals.{then-stays, else-stays}

pub loop-i-init : goal.loop-i-init
loop-i-init c = retained_none _ _ _

pub bounds-list-j : goal.bounds-list-j
bounds-list-j c = omega (arith, retained_short _ _ _ _ _ _ c.loop-i.invariant c.requires)

pub loop-i-preserved : goal.loop-i-preserved
loop-i-preserved c =
    let h = c.loop-i.invariant in
    elim c.if-stays.branch [
      | then-stays w ↦ rw (w.list-is, w.j-is) (retained_more _ _ _ _ _ _ _ h c.loop-i-test.true c.requires (sym c.stays.ensures ∙ w.if-stays.true))
      | else-stays w ↦ rw (w.list-is, w.j-is) (retained_same _ _ _ _ _ _ _ h c.loop-i-test.true c.requires (sym c.stays.ensures ∙ w.if-stays.false))
    ]
