-- `bindings::units::sampler_command` meets its contract, by the place of the unit. Assumes nothing.
use Prim.Native.Nat.{ℕ, ◌<◌}
use mathlib.Core.Path.{sym, subst}
use lib.ListN.{length-map}
use Rattle.mask.specs.Mask.{places}
use Rattle.records.specs.declared.command.Command.TheVariants.{BindSampler}
use Rattle.slots.proofs.Flags.{map_at}
use Rattle.bindings.specs.Units.{resolve, number_at, sampler_commands}
use Rattle.bindings.proofs.units.sampler_command.Goals as goal

pub returns : goal.returns
unfolding sampler_commands
returns c =
    λ k d.
    let b = c.args.b in
    let h = subst (λ (n : ℕ). c.args.k < n) (length-map (places c.args.m) (λ (u : ℕ). BindSampler u (resolve b (number_at b u)))) k in
    rw (c.resolve-sampler.ensures, c.number_at-number.ensures, c.nth-u.ensures)
    (sym (map_at (λ (u : ℕ). BindSampler u (resolve b (number_at b u))) (places c.args.m) c.args.k 32 d h))
