use mathlib.Core.Path.{◌∙◌, ap}
use mathlib.Core.Bool.{Bool, not}
use native.Mathlib.Omega.{arith}
use Rattle.records.specs.Same.{same_depth_bias}
use Rattle.records.specs.declared.command.Command.TheVariants.{SetDepthBias, SetBlendConstant}
use Rattle.joining.proofs.Resetting.{bit, byte_bit, at-bias, at-blend, at-alpha, at-clip, at_none}
use Rattle.joining.proofs.join.rest_at.Goals as goal

-- src/join.rt:84:9
pub returns-then-k-first : goal.returns-then-k-first
returns-then-k-first c = ap SetDepthBias c.new-start.ensures ∙ at-bias c.args.e c.args.k c.from-first.result c.from-second.result c.from-third.result c.from-fourth.result ((c.from-first.ensures ∙ byte_bit _) ∙ ap (λ (t : Bool). bit (not t)) (c.same_depth_bias-same.ensures ∙ ap (same_depth_bias c.args.e.bias) c.new-start.ensures)) ((c.from-second.ensures ∙ byte_bit _) ∙ ap (λ (t : Bool). bit (not t)) c.zero_color-zero.ensures) (c.from-third.ensures ∙ byte_bit _) (c.from-fourth.ensures ∙ byte_bit _) (omega arith)

-- src/join.rt:89:9
pub returns-then-k1-second : goal.returns-then-k1-second
returns-then-k1-second c = ap SetBlendConstant c.no_color-none.ensures ∙ at-blend c.args.e c.args.k c.from-first.result c.from-second.result c.from-third.result c.from-fourth.result ((c.from-first.ensures ∙ byte_bit _) ∙ ap (λ (t : Bool). bit (not t)) (c.same_depth_bias-same.ensures ∙ ap (same_depth_bias c.args.e.bias) c.new-start.ensures)) ((c.from-second.ensures ∙ byte_bit _) ∙ ap (λ (t : Bool). bit (not t)) c.zero_color-zero.ensures) (c.from-third.ensures ∙ byte_bit _) (c.from-fourth.ensures ∙ byte_bit _) (omega arith) (omega arith)

-- src/join.rt:93:9
pub returns-then-k2-third : goal.returns-then-k2-third
returns-then-k2-third c = at-alpha c.args.e c.args.k c.from-first.result c.from-second.result c.from-third.result c.from-fourth.result ((c.from-first.ensures ∙ byte_bit _) ∙ ap (λ (t : Bool). bit (not t)) (c.same_depth_bias-same.ensures ∙ ap (same_depth_bias c.args.e.bias) c.new-start.ensures)) ((c.from-second.ensures ∙ byte_bit _) ∙ ap (λ (t : Bool). bit (not t)) c.zero_color-zero.ensures) (c.from-third.ensures ∙ byte_bit _) (c.from-fourth.ensures ∙ byte_bit _) (omega arith) (omega arith) (omega arith)

-- src/join.rt:97:9
pub returns-then-k3-fourth : goal.returns-then-k3-fourth
returns-then-k3-fourth c = at-clip c.args.e c.args.k c.from-first.result c.from-second.result c.from-third.result c.from-fourth.result ((c.from-first.ensures ∙ byte_bit _) ∙ ap (λ (t : Bool). bit (not t)) (c.same_depth_bias-same.ensures ∙ ap (same_depth_bias c.args.e.bias) c.new-start.ensures)) ((c.from-second.ensures ∙ byte_bit _) ∙ ap (λ (t : Bool). bit (not t)) c.zero_color-zero.ensures) (c.from-third.ensures ∙ byte_bit _) (c.from-fourth.ensures ∙ byte_bit _) (omega arith) (omega arith) (omega arith) (omega arith)

-- src/join.rt:71:1
pub returns : goal.returns
returns c = at_none c.args.e c.args.k c.from-first.result c.from-second.result c.from-third.result c.from-fourth.result ((c.from-first.ensures ∙ byte_bit _) ∙ ap (λ (t : Bool). bit (not t)) (c.same_depth_bias-same.ensures ∙ ap (same_depth_bias c.args.e.bias) c.new-start.ensures)) ((c.from-second.ensures ∙ byte_bit _) ∙ ap (λ (t : Bool). bit (not t)) c.zero_color-zero.ensures) (c.from-third.ensures ∙ byte_bit _) (c.from-fourth.ensures ∙ byte_bit _) (omega arith) (omega arith) (omega arith) (omega arith)
