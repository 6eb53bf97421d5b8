-- `pass::begin::begin_command_at` meets its contract: the opening, then the rest. Assumes nothing.
use Prim.Native.Nat.{ℕ, ◌-◌}
use mathlib.Core.Path.{◌≡◌, sym, ap, ◌∙◌, subst}
use native.Mathlib.Omega.{arith}
use lib.ListN.{length}
use Rattle.slots.specs.Place.{Stands}
use Rattle.slots.proofs.Parts.{stands-left, stands-right}
use Rattle.pass.specs.Marks.{Lent}
use Rattle.pass.specs.Plan.{framing}
use Rattle.pass.specs.declared.begin.BeginPlan.{BeginPlan}
use Rattle.pass.proofs.Beginning.{opening, opening-long, begin-is}
use Rattle.pass.proofs.begin.begin_command_at.Goals as goal

pub returns-then-k-plan : goal.returns-then-k-plan
returns-then-k-plan c =
    λ label set run e h l.
    let a = c.args in
    let by : Lent = record { run = run; count = a.bytes } in
    let q = ap (λ (p : BeginPlan). p.query) e in
    let b = ap (λ (p : BeginPlan). p.label) e in
    let n = ap (λ (p : BeginPlan). p.opening) e in
    let o = opening a.caps a.d label set by a.at in
    let s : Stands c.opening_at.result a.k o = rw (q, b) at (c.opening_at.ensures run l) in
    rw (begin-is a.caps a.d label set by a.at)
    (stands-left c.opening_at.result a.k o (framing a.caps a.d) (omega (arith, n, opening-long a.caps a.d label set by a.at, c.if-k-plan.true)) s)

pub returns-else-k-plan : goal.returns-else-k-plan
returns-else-k-plan c =
    λ label set run e h l.
    let a = c.args in
    let by : Lent = record { run = run; count = a.bytes } in
    let o = opening a.caps a.d label set by a.at in
    let n : a.plan.opening ≡ length o = ap (λ (p : BeginPlan). p.opening) e ∙ sym (opening-long a.caps a.d label set by a.at) in
    rw (begin-is a.caps a.d label set by a.at)
    (stands-right c.framing_at.result a.k o (framing a.caps a.d) (omega (arith, n, c.if-k-plan.false))
    (subst (λ (m : ℕ). Stands c.framing_at.result (a.k - m) (framing a.caps a.d)) n (c.framing_at.ensures label set e h)))
