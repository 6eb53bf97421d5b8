use Prim.Native.Nat.{◌^◌}
use mathlib.Core.Bool.{false}
use mathlib.Core.List.{[], ◌∷◌}
use mathlib.Core.Path.{refl}
use borrow.Author.Tests.{leb-false}
use mir.Syntax.{w32}
use mir.ValLaws.{to_z-of_z}
use Rattle.slots.specs.Prepare.{working}
use Rattle.calls.specs.Draws.{draw_indexed_command, index_over, index_offset_of}
use Rattle.calls.specs.Parts.{draw_args}
use Rattle.draw_calls.proofs.Swapped.{swapped}
use Rattle.draw_calls.proofs.draws.plan_draw_indexed.Goals as goal

pub returns : goal.returns
returns c =
    let a = c.args in
    let d = draw_args a.s.draw in
    let over = c.index_over-over.ensures in
    let z = to_z-of_z w32 a.base_vertex c.ranges.base_vertex in
    swapped a.room a.caps a.s (working a.caps a.first_instance) false (index_over d a.first_index) _
    (draw_indexed_command d a.first_index a.index_count a.base_vertex a.first_instance a.instance_count ∷ []) refl
    (λ h. rw (c.index_type.ensures, c.index_offset.ensures (leb-false (2 ^ 64) (index_offset_of d a.first_index) h), z)) _
    (rw (c.working-w.ensures, over) at (c.plan_drawing.ensures c.broken_limits-broken.ensures (λ h. refl)))
