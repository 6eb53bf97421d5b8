-- The plan of the beginning of a compute pass is right, from what its parts are. Assumes nothing.
use Prim.Native.Nat.{ℕ, min, ◌+◌, ◌<◌, ◌≤◌, ◌^◌}
use mathlib.Core.Bool.{Bool, true, false, cond, not, ◌&&◌, ◌||◌}
use mathlib.Core.List.{List, [], ◌++◌}
use mathlib.Core.Path.{◌≡◌, sym, ap, ◌∙◌, subst}
use native.Mathlib.Omega.{arith}
use lib.Dec.{leb, ltb}
use lib.ListN.{length, get_or, replicate, length-replicate}
use Rattle.records.specs.Outcome.{accepted}
use Rattle.records.specs.declared.command.Command.{Command}
use Rattle.records.specs.declared.command.Command.TheVariants.{PopDebugGroup}
use Rattle.std.specs.Prelude.{Option}
use Rattle.records.specs.declared.pass.TimestampWrites.{TimestampWrites}
use Rattle.records.specs.declared.outcome.Conditions.{Conditions}
use Rattle.records.specs.declared.state.PassState.{PassState}
use Rattle.records.specs.declared.state.Phase.TheVariants.{Compute}
use Rattle.records.specs.declared.state.State.{State}
use Rattle.pass.specs.Marks.{Lent, Label, label_bytes, over_run, timestamps_out, timestamp, begin_timestamp, end_timestamp, push_label}
use Rattle.pass.specs.Render.{begin_compute_pass_state}
use Rattle.calls.specs.Meaning.{in_open}
use Rattle.calls.specs.Planned.{byte_rooms}
use Rattle.calls.specs.Step.{begin_compute_meaning, outcome_of}
use Rattle.calls.proofs.Judged.{neither}
use Rattle.pass_calls.specs.declared.marked.Marked.{Marked}
use Rattle.pass_calls.specs.declared.begun_compute.ComputeBegun.{ComputeBegun}
use Rattle.pass_calls.specs.Marked.{marked_outcome, MarkedOf, label_of}
use Rattle.pass_calls.specs.BegunCompute.{compute_commands, compute_at, ComputeAllowed, ComputeOf}
use Rattle.pass_calls.proofs.Labels.{label-long, label-bytes, push-same}
use Rattle.pass_calls.proofs.Begun.{not_short, few_bytes, marked-is, begun, some-begun}

module _ (s : State) (t : Option TimestampWrites) (set : Lent) (room bytes len : ℕ) (has : Bool) (count : ℕ) where
  -- its conditions, of a label of so many bytes
  abbrev pub asks : ℕ → Conditions
  asks l =
      record {
        phase = not (in_open s.progress.phase);
        many = false;
        range = timestamps_out set t;
        absent = false;
        kind = false;
        sum = has && leb (2 ^ 32) (s.progress.bytes + count);
        room = ltb l count || over_run set;
      }

  abbrev cs : List ℕ → List Command
  cs run = begin_timestamp set t ++ push_label (label_of has run count) s.progress.bytes

  abbrev bs : List ℕ → List ℕ
  bs run = label_bytes (label_of has run count)

  module _ (m : Marked) (q : Option ℕ) (c : Conditions) (n size : ℕ) (pass : PassState) (asked : c ≡ asks len) (stamped : timestamp q ≡ begin_timestamp set t)
      (counted : (by : Lent) (at : ℕ) → n ≡ length (timestamp q ++ push_label (record { present = has; bytes = by }) at)) (few : n < 2 ^ 32) (sized : size ≡ cond has (min count len) 0)
      (passed : (by : Lent) → pass ≡ begin_compute_pass_state (record { present = has; bytes = by }) (end_timestamp set t s.pass.end_of_pass_timestamp) s.pass)
      (k : MarkedOf room bytes s c Compute n size pass m) where
    abbrev batch : ComputeBegun
    batch = record { at = m.at; n = m.n; query = q; label = has; from = s.progress.bytes; size = size }

    long : (run : List ℕ) → n ≡ length (cs run)
    long run = counted (record { run = run; count = count }) s.progress.bytes ∙ ap (λ (x : List Command). length (x ++ push_label (label_of has run count) s.progress.bytes)) stamped

    size_is : (run : List ℕ) → length run ≡ len → size ≡ length (bs run)
    size_is run h = sized ∙ ap (λ (x : ℕ). cond has (min count x) 0) (sym h) ∙ label-long has run count

    by-label : (run : List ℕ) → length run ≡ len
        → MarkedOf room bytes s (asks (length run)) Compute (length (cs run)) (length (bs run)) (begin_compute_pass_state (label_of has run count) (end_timestamp set t s.pass.end_of_pass_timestamp) s.pass) m
    by-label run h = marked-is (asked ∙ ap asks (sym h)) (long run) (size_is run h) (passed (record { run = run; count = count })) k

    same : (run : List ℕ) → length run ≡ len → accepted (marked_outcome room bytes s (asks (length run)) Compute (length (cs run)) (length (bs run))) ≡ true → compute_commands batch ≡ cs run
    same run h y =
        ap (λ (x : List Command). x ++ push_label (label_of has [] size) s.progress.bytes) stamped
        ∙ ap (λ (x : List Command). begin_timestamp set t ++ x)
        (push-same has run count size s.progress.bytes (size_is run h)
        (neither (ltb (length run) count) (over_run set) (not_short (byte_rooms room bytes) s (asks (length run)) Compute (length (cs run)) (length (bs run)) y)).0)

    allowed : (i : ℕ) → i < m.n → ComputeAllowed batch i
    allowed i w =
        let run : List ℕ = replicate len 0 in
        let h : length run ≡ len = length-replicate len 0 in
        let y = some-begun room bytes s (asks (length run)) Compute (cs run) (bs run) _ m (by-label run h) i w in
        let e : compute_commands batch ≡ cs run = same run h y.0 in
        let b : s.progress.bytes + length (bs run) ≤ 65536 = few_bytes (byte_rooms room bytes) s (asks (length run)) Compute (length (cs run)) (length (bs run)) y.0 in
        let z : size ≡ length (bs run) = size_is run h in (
          subst (λ (x : List Command). i < length x) (sym e) y.1,
          record {
            bytes = subst (λ (x : ℕ). s.progress.bytes + x < 2 ^ 32) (sym z) (omega arith);
            few = subst (λ (x : List Command). length x < 2 ^ 32) (sym e) (subst (λ (x : ℕ). x < 2 ^ 32) (long run) few);
          },
        )

    pub compute-right : ComputeOf room bytes len s (λ (l : Label). begin_compute_meaning s t l set) has count (record { progress = m.progress; pass = m.pass; batch = batch; outcome = m.outcome; put = m.put; size = m.size })
    unfolding outcome_of
    compute-right = (
      λ run h. begun room bytes s (asks (length run)) Compute (cs run) (bs run) _ m (by-label run h) (compute_at batch) (λ i. get_or run i 0)
          (λ y i l. ap (λ (x : List Command). get_or x i PopDebugGroup) (same run h y)) (label-bytes has run count),
      allowed,
    )
