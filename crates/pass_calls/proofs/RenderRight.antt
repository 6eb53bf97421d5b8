-- The plan of the beginning of a render pass is right, from what its parts are. Assumes nothing.
use Prim.Native.Nat.{ℕ, min, ◌+◌, ◌<◌, ◌≤◌, ◌^◌}
use mathlib.Core.Bool.{Bool, true, false, cond, not, ◌&&◌, ◌||◌}
use mathlib.Core.List.{List}
use mathlib.Core.Path.{◌≡◌, sym, ap, ◌∙◌, subst}
use native.Mathlib.Omega.{arith}
use lib.Dec.{leb, ltb}
use lib.ListN.{length, get_or, replicate, length-replicate}
use borrow.Author.Tests.{ltb-false}
use Rattle.records.specs.Outcome.{accepted}
use Rattle.records.specs.declared.command.Command.{Command}
use Rattle.records.specs.declared.command.Command.TheVariants.{PopDebugGroup}
use Rattle.records.specs.declared.outcome.Conditions.{Conditions}
use Rattle.records.specs.declared.pass.RenderPassDescriptor.{RenderPassDescriptor}
use Rattle.records.specs.declared.pipeline.PrivateCapabilities.{PrivateCapabilities}
use Rattle.records.specs.declared.state.PassState.{PassState}
use Rattle.records.specs.declared.state.Phase.TheVariants.{Render}
use Rattle.records.specs.declared.state.State.{State}
use Rattle.pass.specs.declared.begin.BeginPlan.{BeginPlan}
use Rattle.pass.specs.Marks.{Lent, Label, label_bytes, over_run, timestamps_out}
use Rattle.pass.specs.Plan.{begin_plan}
use Rattle.pass.specs.Render.{begin_render_commands, begin_render_pass_state, pass_wrong_kind}
use Rattle.calls.specs.Meaning.{in_open}
use Rattle.calls.specs.Planned.{byte_rooms}
use Rattle.calls.specs.Step.{begin_render_meaning, outcome_of}
use Rattle.calls.proofs.Judged.{neither}
use Rattle.pass_calls.specs.declared.marked.Marked.{Marked}
use Rattle.pass_calls.specs.declared.begun_render.RenderBegun.{RenderBegun}
use Rattle.pass_calls.specs.Marked.{marked_outcome, MarkedOf, label_of}
use Rattle.pass_calls.specs.BegunRender.{render_commands, render_at, RenderAllowed, RenderOf}
use Rattle.pass_calls.proofs.Labels.{label-long, label-bytes}
use Rattle.pass_calls.proofs.Begun.{not-many, not_short, few_bytes, marked-is, begun, some-begun}
use Rattle.pass_calls.proofs.RenderCommands.{render-same}

module _ (caps : PrivateCapabilities) (s : State) (d : RenderPassDescriptor) (set : Lent) (room bytes len : ℕ) (has : Bool) (count : ℕ) where
  -- its conditions, of a label of so many bytes
  abbrev pub asks : ℕ → Conditions
  asks l =
      record {
        phase = not (in_open s.progress.phase);
        many = ltb 8 d.color_attachment_count;
        range = timestamps_out set d.timestamp_writes;
        absent = false;
        kind = pass_wrong_kind d;
        sum = has && leb (2 ^ 32) (s.progress.bytes + count);
        room = ltb l count || over_run set;
      }

  abbrev cs : List ℕ → List Command
  cs run = begin_render_commands caps d (label_of has run count) set s.progress.bytes

  abbrev bs : List ℕ → List ℕ
  bs run = label_bytes (label_of has run count)

  module _ (m : Marked) (p : BeginPlan) (c : Conditions) (n size : ℕ) (pass : PassState) (asked : c ≡ asks len) (planned : p ≡ begin_plan caps d has set)
      (counted : n ≡ p.count) (counts : (by : Lent) (at : ℕ) → p.count ≡ length (begin_render_commands caps d (record { present = has; bytes = by }) set at)) (few : n < 2 ^ 32) (sized : size ≡ cond has (min count len) 0)
      (passed : (by : Lent) → pass ≡ begin_render_pass_state caps d (record { present = has; bytes = by }) set s.pass) (k : MarkedOf room bytes s c Render n size pass m) where
    abbrev batch : RenderBegun
    batch = record { at = m.at; n = m.n; caps = caps; d = d; plan = p; from = s.progress.bytes; size = size }

    long : (run : List ℕ) → n ≡ length (cs run)
    long run = counted ∙ counts (record { run = run; count = count }) s.progress.bytes

    size_is : (run : List ℕ) → length run ≡ len → size ≡ length (bs run)
    size_is run h = sized ∙ ap (λ (x : ℕ). cond has (min count x) 0) (sym h) ∙ label-long has run count

    by-label : (run : List ℕ) → length run ≡ len → MarkedOf room bytes s (asks (length run)) Render (length (cs run)) (length (bs run)) (begin_render_pass_state caps d (label_of has run count) set s.pass) m
    by-label run h = marked-is (asked ∙ ap asks (sym h)) (long run) (size_is run h) (passed (record { run = run; count = count })) k

    same : (run : List ℕ) → length run ≡ len → accepted (marked_outcome room bytes s (asks (length run)) Render (length (cs run)) (length (bs run))) ≡ true → render_commands batch ≡ cs run
    same run h t =
        render-same caps d p has set run count size s.progress.bytes m.at m.n planned (size_is run h)
        (neither (ltb (length run) count) (over_run set) (not_short (byte_rooms room bytes) s (asks (length run)) Render (length (cs run)) (length (bs run)) t)).0

    allowed : (i : ℕ) → i < m.n → RenderAllowed batch i
    allowed i w =
        let run : List ℕ = replicate len 0 in
        let h : length run ≡ len = length-replicate len 0 in
        let t = some-begun room bytes s (asks (length run)) Render (cs run) (bs run) _ m (by-label run h) i w in
        let e : render_commands batch ≡ cs run = same run h t.0 in
        let b : s.progress.bytes + length (bs run) ≤ 65536 = few_bytes (byte_rooms room bytes) s (asks (length run)) Render (length (cs run)) (length (bs run)) t.0 in
        let z : size ≡ length (bs run) = size_is run h in (
          subst (λ (x : List Command). i < length x) (sym e) t.1,
          record {
            set = set;
            planned = planned ∙ ap (λ (x : Bool). begin_plan caps d x set) (sym (ap (λ (x : BeginPlan). x.label) planned));
            places = ltb-false 8 d.color_attachment_count (not-many (byte_rooms room bytes) s (asks (length run)) Render (length (cs run)) (length (bs run)) t.0);
            bytes = subst (λ (x : ℕ). s.progress.bytes + x < 2 ^ 32) (sym z) (omega arith);
            few = subst (λ (x : List Command). length x < 2 ^ 32) (sym e) (subst (λ (x : ℕ). x < 2 ^ 32) (long run) few);
          },
        )

    pub render-right : RenderOf room bytes len s (λ (l : Label). begin_render_meaning caps s d l set) has count (record { progress = m.progress; pass = m.pass; batch = batch; outcome = m.outcome; put = m.put; size = m.size })
    unfolding outcome_of
    render-right = (
      λ run h. begun room bytes s (asks (length run)) Render (cs run) (bs run) _ m (by-label run h) (render_at batch) (λ i. get_or run i 0)
          (λ t i l. ap (λ (x : List Command). get_or x i PopDebugGroup) (same run h t)) (label-bytes has run count),
      allowed,
    )
