use Prim.Native.Nat.{ℕ, ◌+◌, ◌^◌, ◌≤◌, ◌<◌}
use mathlib.Core.Path.{◌≡◌, ◌∙◌, ap, sym, subst}
use mathlib.Core.Bool.{Bool, not}
use native.Mathlib.Omega.{arith}
use lib.Count.{ones, ones-le}
use lib.Dec.{eqb}
use Rattle.records.specs.Start.{start_depth_bias}
use Rattle.records.specs.Same.{same_depth_bias}
use Rattle.joining.specs.Joined.{zero_color}
use Rattle.joining.proofs.Resetting.{bit, byte_bit, small, counted, few}
use Rattle.joining.proofs.plan.resets_count.Goals as goal

-- src/plan.rt:200:44
pub overflow_add-result : goal.overflow_add-result
overflow_add-result c = omega (arith, small c.from-third.result c.args.e.alpha (c.from-third.ensures ∙ byte_bit _), small c.from-fourth.result (not (eqb c.args.e.clip 0)) (c.from-fourth.ensures ∙ byte_bit _))

-- src/plan.rt:200:34
pub overflow_add-result-2 : goal.overflow_add-result-2
overflow_add-result-2 c = omega (arith, small c.from-second.result (not c.zero_color-zero.result) (c.from-second.ensures ∙ byte_bit _), small c.from-third.result c.args.e.alpha (c.from-third.ensures ∙ byte_bit _), small c.from-fourth.result (not (eqb c.args.e.clip 0)) (c.from-fourth.ensures ∙ byte_bit _))

-- src/plan.rt:200:25
pub overflow_add-result-3 : goal.overflow_add-result-3
overflow_add-result-3 c = omega (arith, small c.from-first.result (not c.same_depth_bias-same.result) (c.from-first.ensures ∙ byte_bit _), small c.from-second.result (not c.zero_color-zero.result) (c.from-second.ensures ∙ byte_bit _), small c.from-third.result c.args.e.alpha (c.from-third.ensures ∙ byte_bit _), small c.from-fourth.result (not (eqb c.args.e.clip 0)) (c.from-fourth.ensures ∙ byte_bit _))

-- src/plan.rt:200:5
pub overflow_add-result-4 : goal.overflow_add-result-4
overflow_add-result-4 c = omega (arith, c.count-units.ensures, ones-le 32 c.args.e.units (omega arith), small c.from-first.result (not c.same_depth_bias-same.result) (c.from-first.ensures ∙ byte_bit _), small c.from-second.result (not c.zero_color-zero.result) (c.from-second.ensures ∙ byte_bit _), small c.from-third.result c.args.e.alpha (c.from-third.ensures ∙ byte_bit _), small c.from-fourth.result (not (eqb c.args.e.clip 0)) (c.from-fourth.ensures ∙ byte_bit _))

-- src/plan.rt:187:1
pub returns : goal.returns
returns c = let e = c.args.e in
    let h : e.units < 2 ^ 32 = omega arith in
    let q : (c.count-units.result + (c.from-first.result + (c.from-second.result + (c.from-third.result + c.from-fourth.result))) ≡ ones e.units + (bit (not (same_depth_bias e.bias start_depth_bias)) + (bit (not (zero_color e.blend)) + (bit e.alpha + bit (not (eqb e.clip 0)))))) = λ j. c.count-units.ensures j + (((c.from-first.ensures ∙ byte_bit _) ∙ ap (λ (t : Bool). bit (not t)) (c.same_depth_bias-same.ensures ∙ ap (same_depth_bias c.args.e.bias) c.new-start.ensures)) j + (((c.from-second.ensures ∙ byte_bit _) ∙ ap (λ (t : Bool). bit (not t)) c.zero_color-zero.ensures) j + ((c.from-third.ensures ∙ byte_bit _) j + (c.from-fourth.ensures ∙ byte_bit _) j))) in
    (q ∙ counted e h, subst (λ (m : ℕ). m ≤ 36) (sym q) (few e h))
