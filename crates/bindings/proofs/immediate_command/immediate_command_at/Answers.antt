-- `bindings::immediate_command::immediate_command_at` meets its contract. Assumes nothing.
use Prim.Native.Nat.{ℕ, ◌<◌, min}
use mathlib.Core.List.{List}
use mathlib.Core.Path.{sym, ap, ap₂, ◌∙◌}
use native.Mathlib.Omega.{arith}
use lib.ListN.{length, get_or}
use lib.Seq.{get_or-take}
use Rattle.records.specs.Start.{start_immediate}
use Rattle.records.specs.declared.command.Command.TheVariants.{SetImmediates}
use Rattle.records.proofs.Long.{descs-long}
use Rattle.bindings.specs.Immediates.{descriptors_of}
use Rattle.bindings.specs.Placed.{commands-long, placed-command}
use Rattle.bindings.proofs.Bytes.{counted-long, counted-at}
use Rattle.bindings.proofs.immediate_command.immediate_command_at.Goals as goal

pub returns-then-j-min : goal.returns-then-j-min
returns-then-j-min c =
    let i = c.args.i in
    let k = c.args.k in
    let ds = descriptors_of i in
    let e = descs-long i _ c.well_formed.0 in
    let h : k < min i.count 192 = omega (arith, c.min.ensures) in
    let n : k < length ds = omega (arith, counted-long i.descs i.count e) in
    λ at q m d.
    ap₂ SetImmediates (sym (counted-at i.descs i.count e k h)) (sym (get_or-take (length ds) c.args.placed.at k 0 n) ∙ ap (λ (xs : List ℕ). get_or xs k 0) q)
    ∙ sym (placed-command ds at k start_immediate d n)

pub returns-else-j-min : goal.returns-else-j-min
returns-else-j-min c =
    let i = c.args.i in
    let e = counted-long i.descs i.count (descs-long i _ c.well_formed.0) in
    λ at q m d. absurd (omega (arith, m, e, commands-long (descriptors_of i) at, c.min.ensures))
