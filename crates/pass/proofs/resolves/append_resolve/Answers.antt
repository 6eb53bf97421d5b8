-- `pass::resolves::append_resolve` meets its contract: one resolve more, or none. Assumes nothing.
use Prim.Native.Nat.{◌+◌}
use mathlib.Core.Path.{◌≡◌, refl, sym, ◌∙◌}
use mathlib.Core.Bool.{Bool, true, false, cond}
use lib.ListN.{set}
use Rattle.std.specs.Prelude.{Some, None}
use Rattle.records.specs.declared.state.ResolveDesc.{ResolveDesc}
use Rattle.pass.specs.Resolves.{append_if}
use Rattle.pass.specs.declared.resolves.Resolves.{Resolves}
use Rattle.pass.proofs.resolves.append_resolve.Goals as goal

one : (b : Bool) (x y : ResolveDesc) (r : Resolves) → Some y ≡ cond b (Some x) None → record { at = set r.at r.count y; count = r.count + 1 } ≡ append_if b x r
one true x y r e = let s : y ≡ x = cc in rw s
one false x y r e = absurd cc

none : (b : Bool) (x : ResolveDesc) (r : Resolves) → None ≡ cond b (Some x) None → r ≡ append_if b x r
none true x r e = absurd cc
none false x r e = refl

pub returns-in-Some : goal.returns-in-Some
returns-in-Some c = λ b x e. one b x c.in-Some.desc c.args.r (sym c.in-Some.is ∙ e)

pub returns-in_default : goal.returns-in_default
returns-in_default c = λ b x e. none b x c.args.r (sym c.in_default.is ∙ e)
