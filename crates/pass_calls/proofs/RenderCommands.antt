-- The commands of the beginning of a render pass, by the batch of its plan. Assumes nothing.
use Prim.Native.Nat.{ℕ}
use mathlib.Core.Bool.{Bool, false}
use mathlib.Core.List.{List, [], ◌++◌}
use mathlib.Core.Path.{◌≡◌, sym, ap, ◌∙◌}
use lib.Dec.{ltb}
use lib.ListN.{length}
use Rattle.records.specs.declared.command.Command.{Command}
use Rattle.std.specs.Prelude.{Option}
use Rattle.records.specs.declared.pass.RenderPassDescriptor.{RenderPassDescriptor}
use Rattle.records.specs.declared.pipeline.PrivateCapabilities.{PrivateCapabilities}
use Rattle.pass.specs.declared.begin.BeginPlan.{BeginPlan}
use Rattle.pass.specs.Marks.{Lent, label_bytes, push_label, timestamp}
use Rattle.pass.specs.Plan.{begin_query_meaning, framing, begin_plan}
use Rattle.pass.specs.Render.{begin_render_commands}
use Rattle.pass.proofs.Beginning.{begin-is}
use Rattle.pass_calls.specs.declared.begun_render.RenderBegun.{RenderBegun}
use Rattle.pass_calls.specs.BegunRender.{render_commands, RenderSound}
use Rattle.pass_calls.specs.Marked.{label_of}
use Rattle.pass_calls.proofs.Labels.{push-same}

-- of a batch that is sound
pub render-is : (b : RenderBegun) (k : RenderSound b) → begin_render_commands b.caps b.d (label_of b.plan.label [] b.size) k.set b.from ≡ render_commands b
render-is b k =
    begin-is b.caps b.d b.plan.label k.set (record { run = []; count = b.size }) b.from
    ∙ ap (λ (q : Option ℕ). (timestamp q ++ push_label (label_of b.plan.label [] b.size) b.from) ++ framing b.caps b.d) (sym (ap (λ (x : BeginPlan). x.query) k.planned))

-- the batch's are the call's
pub render-same : (caps : PrivateCapabilities) (d : RenderPassDescriptor) (p : BeginPlan) (label : Bool) (set : Lent) (run : List ℕ) (count size from at n : ℕ) → p ≡ begin_plan caps d label set
    → size ≡ length (label_bytes (label_of label run count)) → ltb (length run) count ≡ false
    → render_commands (record { at = at; n = n; caps = caps; d = d; plan = p; from = from; size = size }) ≡ begin_render_commands caps d (label_of label run count) set from
render-same caps d p label set run count size from at n e l h =
    ap (λ (x : BeginPlan). (timestamp x.query ++ push_label (label_of x.label [] size) from) ++ framing caps d) e
    ∙ ap (λ (x : List Command). (timestamp (begin_query_meaning set d.timestamp_writes) ++ x) ++ framing caps d) (push-same label run count size from l h)
    ∙ sym (begin-is caps d label set (record { run = run; count = count }) from)
