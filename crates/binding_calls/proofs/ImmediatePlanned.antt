-- The plan of `set_immediates`, as it is worked out, is right. Assumes nothing.
use Prim.Native.Nat.{ℕ, ◌+◌, ◌*◌, ◌/◌, ◌^◌, ◌<◌, ◌≤◌}
use mathlib.Core.Bool.{Bool, true, false, cond, not, ◌&&◌, ◌||◌}
use mathlib.Core.List.{List}
use mathlib.Core.Path.{◌≡◌, refl, sym, ap, ap₂, ◌∙◌, subst}
use native.Mathlib.Omega.{arith}
use lib.Dec.{ltb, leb}
use lib.ListN.{length, get_or, take}
use Rattle.records.specs.Outcome.{accepted}
use Rattle.records.specs.Check.{some?, bad_attribute, bad_units, bad_descriptor, bad_resolve, bad_masks, attributes_of, resolves_of, out_of_range, state_conditions}
use Rattle.records.specs.declared.check.Rooms.{Rooms}
use Rattle.records.specs.declared.command.Command.{Command}
use Rattle.records.specs.declared.command.ImmediateDesc.{ImmediateDesc}
use Rattle.records.specs.declared.command.Command.TheVariants.{PopDebugGroup}
use Rattle.records.specs.declared.outcome.Conditions.{Conditions}
use Rattle.records.specs.declared.outcome.Outcome.{Outcome}
use Rattle.records.specs.declared.state.ImmediateState.{ImmediateState}
use Rattle.records.specs.declared.state.Progress.{Progress}
use Rattle.records.specs.declared.state.State.{State}
use Rattle.bindings.specs.Immediates.{descriptors_of, sends, sent_descriptors, immediates_state, immediate_commands, immediate_bytes, immediates_out_of_range, immediates_over}
use Rattle.bindings.specs.Shared.{filter-good}
use Rattle.bindings.specs.Placed.{places_of, commands-long, over-total}
use Rattle.pass.specs.Marks.{Lent, counted, over_run}
use Rattle.calls.specs.declared.judge.Counts.{Counts}
use Rattle.calls.specs.Judge.{grown, judged, taken}
use Rattle.calls.specs.Meaning.{Meaning, in_pass}
use Rattle.calls.specs.Parts.{with_progress, with_immediates}
use Rattle.calls.specs.Planned.{byte_rooms}
use Rattle.calls.specs.Step.{set_immediates_meaning, outcome_of}
use Rattle.calls.proofs.Judged.{bad, neither, none-holds, within, fitting}
use Rattle.calls.proofs.Plans.{put, moved-or-not}
use Rattle.binding_calls.specs.declared.sending.Worked.{Worked}
use Rattle.binding_calls.specs.ImmediatePlans.{Right, WorkedOf, ImmediateOf, with_words}
use Rattle.binding_calls.proofs.ImmediateJudged.{or_left, or_right, summed, any_sum, before, clear, Found, found}

-- what is taken only where a call is carried through, and equal there
taken-same : {X : Type 0} (t : Bool) (x y z : X) → (t ≡ true → x ≡ y) → cond t x z ≡ cond t y z
taken-same true x y z e = e refl
taken-same false x y z e = refl

none_below : {X : Type 0} {i : ℕ} → i < 0 → X
none_below h = absurd (omega arith)

-- an element of what is taken
one-taken : (t : Bool) (n k i : ℕ) → n ≡ cond t k 0 → i < n → (t ≡ true) × (i < k)
one-taken true n k i e h = (refl, subst (λ (x : ℕ). i < x) e h)
one-taken false n k i e h = none_below (subst (λ (x : ℕ). i < x) e h)

-- the third of four
third : (a b c d : Bool) → c ≡ true → a || (b || (c || d)) ≡ true
third true b c d k = refl
third false true c d k = refl
third false false true d k = refl
third false false false d k = bad k

-- the state with the words that a call leaves
words-next : (t : Bool) (ws : List ℕ) (s : State) (p : Progress)
    → with_immediates (with_words (cond t ws s.immediates.words) (t || s.immediates.sent) s.immediates) (with_progress p s)
    ≡ with_progress p (cond t (with_immediates (with_words ws true s.immediates) s) s)
words-next true ws s p = refl
words-next false ws s p = refl

module _ (room bytes : ℕ) (s : State) (offset : ℕ) (ws : Lent) (w : Worked) (work : WorkedOf ws.run ws.count s.immediates offset s.progress.bytes w) where
  abbrev i : ImmediateState
  i = s.immediates

  abbrev m : Meaning
  m = set_immediates_meaning s offset ws

  abbrev sent_here : List ImmediateDesc
  sent_here = sent_descriptors i offset ws.count

  abbrev rooms : Rooms
  rooms = byte_rooms room bytes

  abbrev asks : Conditions
  asks =
      record {
        phase = not (in_pass s.progress.phase);
        many = false;
        range = immediates_out_of_range offset ws.count;
        absent = false;
        kind = false;
        sum = immediates_over sent_here s.progress.bytes;
        room = over_run ws;
      }

  -- the counts as they are worked out, and as they are
  abbrev more : Counts
  more = record { commands = w.n; bytes = w.size; queries = 0 }

  abbrev true_more : Counts
  true_more = record { commands = length m.commands; bytes = length m.bytes; queries = 0 }

  abbrev outcome : Outcome
  outcome = judged rooms s asks s.progress.phase true_more

  -- where no condition but the room for what is appended turns the call away, what is worked out is right
  good : accepted (before rooms s asks s.progress.phase) ≡ true → some? bad_descriptor (descriptors_of i) ≡ false
  good k =
      let held = (neither (out_of_range s) asks.range (none-holds _ k).range).0 in
      let units : Bool = bad_units s.bind.sampled 0 s.bind.texture_slots in
      let rest : Bool = some? bad_resolve (resolves_of s) || bad_masks s in
      let behind = (neither (some? bad_attribute (attributes_of s)) (units || (some? bad_descriptor (descriptors_of i) || rest)) held).1 in
      (neither (some? bad_descriptor (descriptors_of i)) rest (neither units (some? bad_descriptor (descriptors_of i) || rest) behind).1).0

  in-range : accepted (before rooms s asks s.progress.phase) ≡ true → asks.range ≡ false
  in-range k = (neither (state_conditions s rooms).range asks.range (none-holds _ k).range).1

  all_right : accepted (before rooms s asks s.progress.phase) ≡ true → Right ws.run ws.count i offset s.progress.bytes w
  all_right k =
      let held = none-holds _ k in
      let u = within s.progress rooms (neither (state_conditions s rooms).room asks.room held.room).0 in
      work.right (in-range k) (good k) u.bytes_limit

  many_is : accepted (before rooms s asks s.progress.phase) ≡ true → w.n ≡ length m.commands
  many_is k = work.many (in-range k) ∙ sym (commands-long sent_here s.progress.bytes)

  known : accepted (before rooms s asks s.progress.phase) ≡ true → more ≡ true_more
  known k = λ j. record { commands = many_is k j; bytes = (all_right k).size j; queries = 0 }

  carried : accepted outcome ≡ true → Right ws.run ws.count i offset s.progress.bytes w
  carried h = all_right (clear rooms s asks s.progress.phase true_more h)

  -- condition 6 as it is worked out, with the same answer
  abbrev past : Bool
  past = ltb 0 w.n && leb (2 ^ 32) (s.progress.bytes + w.size)

  past_is : asks.range ≡ false → some? bad_descriptor (descriptors_of i) ≡ false → past ≡ asks.sum
  past_is r g =
      ap₂ (λ (n k : ℕ). ltb 0 n && leb (2 ^ 32) (s.progress.bytes + k)) (work.many r) (work.sized r g)
      ∙ sym (over-total sent_here s.progress.bytes)

  same-judged : judged rooms s (summed past asks) s.progress.phase more ≡ judged rooms s asks s.progress.phase more
  same-judged = go (some? bad_descriptor (descriptors_of i)) asks.range refl refl
    where
      units : Bool
      units = bad_units s.bind.sampled 0 s.bind.texture_slots

      rest : Bool
      rest = some? bad_resolve (resolves_of s) || bad_masks s

      go : (t r : Bool) → some? bad_descriptor (descriptors_of i) ≡ t → asks.range ≡ r
          → judged rooms s (summed past asks) s.progress.phase more ≡ judged rooms s asks s.progress.phase more
      go true r g e =
          any_sum rooms s asks s.progress.phase past more (or_left (out_of_range s) asks.range (third (some? bad_attribute (attributes_of s)) units (some? bad_descriptor (descriptors_of i)) rest g))
      go false true g e = any_sum rooms s asks s.progress.phase past more (or_right (out_of_range s) asks.range e)
      go false false g e = ap (λ (t : Bool). judged rooms s (summed t asks) s.progress.phase more) (past_is e g)

  -- the verdict as the counts and condition 6 that are worked out have it
  pub verdict : {o : Outcome} {ok : Bool} {progress : Progress}
      → (o ≡ judged rooms s (summed past asks) s.progress.phase more) × (ok ≡ accepted (judged rooms s (summed past asks) s.progress.phase more))
      × (progress ≡ taken (judged rooms s (summed past asks) s.progress.phase more) (grown s.progress s.progress.phase more) s.progress)
      → Found rooms s asks s.progress.phase true_more o ok progress
  verdict v =
      found rooms s asks s.progress.phase more true_more known (
        v.0 ∙ same-judged,
        v.1 ∙ ap accepted same-judged,
        v.2 ∙ ap (λ (x : Outcome). taken x (grown s.progress s.progress.phase more) s.progress) same-judged,
      )

  module _ {o : Outcome} {ok : Bool} {progress : Progress} (k : Found rooms s asks s.progress.phase true_more o ok progress) where
    -- the next state
    abbrev new : ImmediateState
    new = immediates_state i offset (counted ws)

    next-is : (now : List ℕ) (flag : Bool) → now ≡ cond ok w.state.words i.words → flag ≡ (ok || i.sent)
        → with_immediates (with_words now flag i) (with_progress progress s) ≡ taken outcome (with_progress (grown s.progress s.progress.phase true_more) (with_immediates new s)) s
    next-is now flag c f =
        ap₂ (λ (y : List ℕ) (t : Bool). with_immediates (with_words y t i) (with_progress progress s))
        (c ∙ ap (λ (t : Bool). cond t w.state.words i.words) k.sure ∙ taken-same (accepted outcome) w.state.words new.words i.words (λ h. (carried h).words))
        (f ∙ ap (λ (t : Bool). t || i.sent) k.sure)
        ∙ words-next (accepted outcome) new.words s progress
        ∙ ap (λ (q : Progress). with_progress q (taken outcome (with_immediates new s) s)) k.left
        ∙ moved-or-not outcome s (with_immediates new s) (grown s.progress s.progress.phase true_more)

    abbrev sure_is : {X : Type 0} (x z : X) → cond ok x z ≡ cond (accepted outcome) x z
    sure_is x z = ap (λ (t : Bool). cond t x z) k.sure

    -- where the call is carried through, the bytes go behind the used ones, and the batch has the commands and the bytes of the call
    module _ (place : ℕ) (here : place ≡ cond ok s.progress.bytes 0) (h : accepted outcome ≡ true) where
      put-here : place ≡ s.progress.bytes
      put-here = here ∙ ap (λ (t : Bool). cond t s.progress.bytes 0) (k.sure ∙ h)

      same-commands : immediate_commands (descriptors_of w.state) place ≡ immediate_commands sent_here s.progress.bytes
      same-commands = ap₂ immediate_commands (carried h).descriptors put-here

      same-places : take (length (descriptors_of w.state)) w.placed.at ≡ places_of (descriptors_of w.state) place
      same-places =
          ap (λ (ds : List ImmediateDesc). take (length ds) w.placed.at) (carried h).descriptors
          ∙ (carried h).places
          ∙ sym (ap₂ places_of (carried h).descriptors put-here)

    same_bytes : accepted outcome ≡ true → immediate_bytes w.state.words (descriptors_of w.state) ≡ m.bytes
    same_bytes h = ap₂ immediate_bytes (carried h).words (carried h).descriptors

    good-sent : accepted outcome ≡ true → some? bad_descriptor (descriptors_of w.state) ≡ false
    good-sent h =
        ap (some? bad_descriptor) (carried h).descriptors
        ∙ filter-good (sends i.sent (offset / 4) (offset / 4 + ws.count)) (descriptors_of i) (good (clear rooms s asks s.progress.phase true_more h))

    pub planned : (now : List ℕ) (flag : Bool) (at n place size : ℕ) → now ≡ cond ok w.state.words i.words → flag ≡ (ok || i.sent)
        → (at ≡ cond ok s.progress.commands 0) × (n ≡ cond ok w.n 0) → (place ≡ cond ok s.progress.bytes 0) × (size ≡ cond ok w.size 0)
        → ImmediateOf room bytes s m
        (record { progress = progress; words = now; batch = record { at = at; n = n; put = place; size = size; state = w.state; placed = w.placed }; outcome = o; sent = flag })
    unfolding outcome_of
    planned now flag at n place size c f spot byte-spot =
        let many : n ≡ cond (accepted outcome) w.n 0 = spot.1 ∙ sure_is w.n 0 in
        let long : size ≡ cond (accepted outcome) w.size 0 = byte-spot.1 ∙ sure_is w.size 0 in
        record {
          answered = (k.said, next-is now flag c f);
          laid =
              put outcome room s.progress.commands m.commands PopDebugGroup at n _ (λ h. (fitting rooms s asks s.progress.phase true_more h).commands_fit)
              (spot.0 ∙ sure_is s.progress.commands 0) (many ∙ taken-same (accepted outcome) w.n (length m.commands) 0 (λ h. many_is (clear rooms s asks s.progress.phase true_more h)))
              (λ h j l. ap (λ (xs : List Command). get_or xs j PopDebugGroup) (same-commands place byte-spot.0 h));
          put =
              put outcome bytes s.progress.bytes m.bytes 0 place size _ (λ h. (fitting rooms s asks s.progress.phase true_more h).bytes_fit)
              (byte-spot.0 ∙ sure_is s.progress.bytes 0) (long ∙ taken-same (accepted outcome) w.size (length m.bytes) 0 (λ h. (carried h).size))
              (λ h j l. ap (λ (xs : List ℕ). get_or xs j 0) (same_bytes h));
          commands =
              λ j l.
              let t = one-taken (accepted outcome) n w.n j many l in
              let e : length (immediate_commands (descriptors_of w.state) place) ≡ w.n =
              ap length (same-commands place byte-spot.0 t.0) ∙ sym (many_is (clear rooms s asks s.progress.phase true_more t.0)) in
              let f : w.n ≤ 192 = work.few in
              let g : j < w.n = t.1 in
              (omega arith, omega arith, same-places place byte-spot.0 t.0);
          sent =
              λ j l.
              let t = one-taken (accepted outcome) size w.size j long l in
              let e : length (immediate_bytes w.state.words (descriptors_of w.state)) ≡ w.size = ap length (same_bytes t.0) ∙ sym (carried t.0).size in
              let f : w.size ≤ 192 * 256 = work.small in
              let g : j < w.size = t.1 in
              (omega arith, omega arith, good-sent t.0);
        }
