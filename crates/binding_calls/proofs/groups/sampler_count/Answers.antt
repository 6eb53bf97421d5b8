-- `binding_calls::groups::sampler_count` meets its contract: a mask has as many places as ones. Assumes nothing.
use Prim.Native.Nat.{ℕ, ◌^◌, ◌<◌}
use mathlib.Core.Path.{◌≡◌, ◌∙◌}
use native.Mathlib.Omega.{arith}
use lib.Count.{ones, ones-le}
use lib.ListN.{length, length-map}
use Rattle.mask.specs.Mask.{places}
use Rattle.mask.specs.Laws.{ones-places}
use Rattle.records.specs.declared.command.Command.TheVariants.{BindSampler}
use Rattle.records.specs.declared.state.BindState.{BindState}
use Rattle.bindings.specs.Units.{resolve, number_at, sampler_commands}
use Rattle.binding_calls.proofs.groups.sampler_count.Goals as goal

long : (b : BindState) (m : ℕ) → m < 2 ^ 32 → length (sampler_commands b m) ≡ ones m
unfolding sampler_commands
long b m h = length-map (places m) (λ (u : ℕ). BindSampler u (resolve b (number_at b u))) ∙ ones-places 32 0 m h

pub returns : goal.returns
returns c =
    let m = c.args.units in
    let h : m < 2 ^ 32 = omega arith in
    (λ b. omega (arith, c.count.ensures, long b m h), omega (arith, c.count.ensures, ones-le 32 m h))
