use mathlib.Core.Path.{sym}
use native.Mathlib.Omega.{arith}
use lib.ListN.{length-append}
use Rattle.slots.specs.Prepare.{prepared}
use Rattle.slots.proofs.Parts.{stands-left, stands-right}
use Rattle.records.specs.declared.command.Command.TheVariants.{PopDebugGroup}
use Rattle.draw_calls.specs.Drawn.{own_commands}
use Rattle.draw_calls.proofs.drawn.DrawnBatch.command.Goals as goal

pub own_command-requires : goal.own_command-requires
own_command-requires c =
    let b = c.args.self.now in
    let f = c.requires.1.first in
    let l = length-append (prepared b.caps b.vertex b.instance) (own_commands b.own) in
    let k = c.requires.1.own_small in
    let i = c.requires.0 in
    omega arith

pub returns-then-i-first : goal.returns-then-i-first
returns-then-i-first c =
    let b = c.args.self.now in
    let k = c.requires.1 in
    let f = k.first in
    let t = c.if-i-first.true in
    stands-left _ c.args.i (prepared b.caps b.vertex b.instance) (own_commands b.own) (omega arith) (c.command_at.ensures k.places k.slots_fit) c.requires.0 PopDebugGroup

pub returns-else-i-first : goal.returns-else-i-first
returns-else-i-first c =
    let b = c.args.self.now in
    let k = c.requires.1 in
    let f = k.first in
    let t = c.if-i-first.false in
    stands-right _ c.args.i (prepared b.caps b.vertex b.instance) (own_commands b.own) (omega arith)
    (rw (sym f) (c.own_command.ensures k.own_fits)) c.requires.0 PopDebugGroup
