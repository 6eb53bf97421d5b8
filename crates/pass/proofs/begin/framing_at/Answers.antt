-- `pass::begin::framing_at` meets its contract, part by part. Assumes nothing.
use Prim.Native.Nat.{ℕ, ◌-◌}
use mathlib.Core.Path.{◌≡◌, ap, subst}
use mathlib.Core.List.{[], ◌∷◌, ◌++◌}
use native.Mathlib.Omega.{arith}
use lib.ListN.{length}
use Rattle.slots.specs.Place.{Stands}
use Rattle.slots.proofs.Parts.{stands-left, stands-right}
use mathlib.Core.Bool.{Bool, true, false, cond}
use mathlib.Core.List.{List}
use native.Mathlib.Nat.{not-suc-le-zero}
use Rattle.records.specs.declared.command.Command.{Command}
use Rattle.records.specs.declared.command.Command.TheVariants.{ResetFramebuffer}
use Rattle.pass.specs.Render.{places_of, default_first, attachments}
use Rattle.pass.specs.Plan.{attached, settings}
use Rattle.pass.specs.declared.begin.BeginPlan.{BeginPlan}
use Rattle.pass.proofs.begin.framing_at.Goals as goal

unless : (b : Bool) (r : Command) (k : ℕ) (l : List Command) → Stands r k l → Stands r k (cond b [] l)
unless true r k l s h d = absurd (not-suc-le-zero h)
unless false r k l s h d = s h d

pub returns-then-k-eq0 : goal.returns-then-k-eq0
returns-then-k-eq0 c = λ label set e h l x. rw (c.if-k-eq0.true, ap (λ (p : BeginPlan). p.is_default) e)

pub returns-then-k-plan : goal.returns-then-k-plan
returns-then-k-plan c =
    λ label set e h.
    let a = c.args in
    let n : a.plan.attachments ≡ length (attached a.caps a.d) = ap (λ (p : BeginPlan). p.attachments) e in
    let r = c.attachment_at.result in
    stands-right r a.k (ResetFramebuffer (default_first (places_of a.d)) ∷ []) (attached a.caps a.d ++ settings a.d) (omega (arith, c.if-k-eq0.false))
    (stands-left r (a.k - 1) (attached a.caps a.d) (settings a.d) (omega (arith, n, c.if-k-plan.true))
    (unless (default_first (places_of a.d)) r (a.k - 1) (attachments a.caps a.d) (c.attachment_at.ensures (ap (λ (p : BeginPlan). p.filled) e))))

pub returns-else-k-plan : goal.returns-else-k-plan
returns-else-k-plan c =
    λ label set e h.
    let a = c.args in
    let n : a.plan.attachments ≡ length (attached a.caps a.d) = ap (λ (p : BeginPlan). p.attachments) e in
    let r = c.setting_at.result in
    stands-right r a.k (ResetFramebuffer (default_first (places_of a.d)) ∷ []) (attached a.caps a.d ++ settings a.d) (omega (arith, c.if-k-eq0.false))
    (stands-right r (a.k - 1) (attached a.caps a.d) (settings a.d) (omega (arith, n, c.if-k-plan.false))
    (subst (λ (m : ℕ). Stands r (a.k - 1 - m) (settings a.d)) n (c.setting_at.ensures a.caps label set e h)))
