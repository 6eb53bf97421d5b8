-- A plan of query results that is right. Assumes nothing.
use Prim.Native.Nat.{ℕ, ◌+◌, ◌-◌, ◌<◌, ◌≤◌, min}
use mathlib.Core.Bool.{Bool, true, false, cond, not}
use mathlib.Core.List.{List, [], ◌∷◌}
use mathlib.Core.Path.{◌≡◌, refl, sym, ap, ◌∙◌}
use native.Mathlib.Omega.{arith}
use lib.Dec.{ltb}
use lib.ListN.{length, get_or, take, drop, length-take, length-drop}
use lib.Seq.{get_or-take, get_or-drop}
use borrow.Author.Tests.{ltb-false}
use Rattle.records.specs.Outcome.{accepted}
use Rattle.records.specs.Check.{state_conditions}
use Rattle.records.specs.declared.args.Buffer.{Buffer}
use Rattle.records.specs.declared.check.Rooms.{Rooms}
use Rattle.records.specs.declared.command.Command.TheVariants.{CopyQueryResults, PopDebugGroup}
use Rattle.records.specs.declared.command.RangeU32.{RangeU32}
use Rattle.records.specs.declared.outcome.Conditions.{Conditions}
use Rattle.records.specs.declared.outcome.Outcome.{Outcome}
use Rattle.records.specs.declared.state.State.{State}
use Rattle.pass.specs.Marks.{Lent, over_run}
use Rattle.calls.specs.declared.judge.Counts.{Counts}
use Rattle.calls.specs.Call.{QuerySet}
use Rattle.calls.specs.Judge.{grown, judged, taken}
use Rattle.calls.specs.Meaning.{Meaning, in_open}
use Rattle.calls.specs.Planned.{query_rooms}
use Rattle.calls.specs.Step.{outcome_of, progress_after, copy_query_results_meaning}
use Rattle.calls.specs.Transfers.{queries_in, queries_over, range_out, copy_queries_command}
use Rattle.calls.proofs.Judged.{neither, none-holds, fitting, no-range}
use Rattle.calls.proofs.Plans.{put, stays_put, only_at}
use Rattle.transfer_calls.specs.declared.resolved.ResolvedPlan.{ResolvedPlan}
use Rattle.transfer_calls.specs.Resolved.{ResolvedOf}

pub gap : (w end start : ℕ) → min w end - min start (min w end) ≡ min (end - start) (w - start)
gap w end start = omega arith

module _ (run : List ℕ) (count start end : ℕ) where
  abbrev lent : Lent
  lent = record { run = run; count = count }

  -- how many queries there are
  pub many : length (queries_in lent start end) ≡ min (end - start) (min count (length run) - start)
  many = length-take (end - start) (drop start (take count run)) ∙ ap (min (end - start)) (length-drop start (take count run) ∙ ap (λ (n : ℕ). n - start) (length-take count run))

  -- all of the range, where it is inside the set
  pub whole : range_out lent start end ≡ false → over_run lent ≡ false → (length (queries_in lent start end) ≡ end - start) × (start + length (queries_in lent start end) ≤ length run)
  whole e f =
      let h = neither (ltb end start) (ltb count end) e in
      let a : start ≤ end = ltb-false end start h.0 in
      let b : end ≤ count = ltb-false count end h.1 in
      let d : count ≤ length run = ltb-false (length run) count f in
      (omega (arith, many), omega (arith, many))

  -- one of them
  pub query-at : (i : ℕ) → i < length (queries_in lent start end) → get_or run (start + i) 0 ≡ get_or (queries_in lent start end) i 0
  query-at i h =
      sym (get_or-take (end - start) (drop start (take count run)) i 0 (omega (arith, many)) ∙ get_or-drop start (take count run) i 0 ∙ get_or-take count run (start + i) 0 (omega (arith, many)))

few : (t : Bool) (n : ℕ) → n ≡ cond t 1 0 → n ≤ 1
few true n e = omega arith
few false n e = omega arith

module _ (run : List ℕ) (count target start end room queries : ℕ) (s : State) (dst : Buffer) (offset : ℕ) where
  abbrev set : QuerySet
  set = record { queries = record { run = run; count = count }; target = target }

  abbrev m : Meaning
  m = copy_query_results_meaning s set start end dst offset

  abbrev qs : List ℕ
  qs = queries_in set.queries start end

  abbrev rooms : Rooms
  rooms = query_rooms room queries

  abbrev pub asks : Conditions
  asks =
      record {
        phase = not (in_open s.progress.phase);
        many = false;
        range = range_out set.queries start end;
        absent = false;
        kind = false;
        sum = queries_over s.progress.queries start end;
        room = over_run set.queries;
      }

  abbrev pub more : Counts
  more = record { commands = 1; bytes = 0; queries = length qs }

  abbrev pub outcome : Outcome
  outcome = judged rooms s asks s.progress.phase more

  inside : accepted outcome ≡ true → (length qs ≡ end - start) × (start + length qs ≤ length run)
  inside e =
      whole run count start end (no-range rooms s asks s.progress.phase more e)
      (neither (over_run set.queries) _ (neither (state_conditions s rooms).room _ (none-holds _ e).room).1).0

  -- the range of a plan, where the call is carried through
  ranged : (to size : ℕ) (r : RangeU32) → to ≡ cond (accepted outcome) s.progress.queries 0 → size ≡ cond (accepted outcome) (length qs) 0
      → (to + size ≤ 1024 → r ≡ record { start = to; end = to + size }) → accepted outcome ≡ true
      → CopyQueryResults r dst.raw dst.target offset ≡ copy_queries_command s.progress.queries start end dst offset
  ranged to size r a b e k =
      let here : to ≡ s.progress.queries = rw k at a in
      let long : size ≡ end - start = (rw k at b) ∙ (inside k).0 in
      let fit : s.progress.queries + length qs ≤ 1024 = (fitting rooms s asks s.progress.phase more k).queries_limit in
      let size_is : length qs ≡ end - start = (inside k).0 in
      ap (λ (x : RangeU32). CopyQueryResults x dst.raw dst.target offset) (e (omega arith) ∙ rw (here, long))

  read : (from size : ℕ) → from ≡ cond (accepted outcome) start 0 → size ≡ cond (accepted outcome) (length qs) 0 → from + size ≤ length run
  read from size a b = go (accepted outcome) refl
    where
      go : (t : Bool) → accepted outcome ≡ t → from + size ≤ length run
      go true k =
          let here : from ≡ start = rw k at a in
          let long : size ≡ length qs = rw k at b in
          let fit : start + length qs ≤ length run = (inside k).1 in
          omega arith
      go false k =
          let here : from ≡ 0 = rw k at a in
          let long : size ≡ 0 = rw k at b in
          omega arith

  pub right : (p : ResolvedPlan) → p.outcome ≡ outcome
      → p.progress ≡ taken outcome (grown s.progress s.progress.phase more) s.progress
      → (p.batch.at ≡ cond (accepted outcome) s.progress.commands 0) × (p.batch.n ≡ cond (accepted outcome) 1 0)
      → (p.to ≡ cond (accepted outcome) s.progress.queries 0) × (p.size ≡ cond (accepted outcome) (length qs) 0) → p.from ≡ cond (accepted outcome) start 0
      → (p.to + p.size ≤ 1024 → p.batch.range ≡ record { start = p.to; end = p.to + p.size })
      → p.batch.dst ≡ dst.raw → p.batch.target ≡ dst.target → p.batch.offset ≡ offset → ResolvedOf run room queries s m p
  unfolding outcome_of
  right p said left place puts from range raw to off =
      let fits = fitting rooms s asks s.progress.phase more in
      let command = copy_queries_command s.progress.queries start end dst offset in (
        (said, stays_put outcome s p.progress (progress_after m) left),
        put outcome room s.progress.commands (command ∷ []) PopDebugGroup p.batch.at p.batch.n _ (λ k. (fits k).commands_fit) place.0 place.1
            (λ k i l. rw (raw, to, off) (ranged p.to p.size p.batch.range puts.0 puts.1 range k) ∙ only_at true command i l),
        put outcome queries s.progress.queries qs 0 p.to p.size _ (λ k. (fits k).queries_fit) puts.0 puts.1
            (λ k i l. let here : p.from ≡ start = rw k at from in rw here (query-at run count start end i l)),
        read p.from p.size from puts.1,
        few (accepted outcome) p.batch.n place.1,
      )
