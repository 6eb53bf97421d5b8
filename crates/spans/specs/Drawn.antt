-- The draw that is made in the end, with a number of the span: what it hands back. Assumes nothing.
use Rattle.std.specs.Prelude.{ℕ, ◌+◌, ◌-◌, ◌≤◌, ◌≡◌, Bool, true, false, cond, List, [], ◌∷◌, ◌++◌, map, ◌⊎◌, length, take, drop}
use Rattle.std.proofs.Math.Path.{refl, ap}
use Rattle.std.proofs.Common.{sym, ◌∙◌, subst, inl, inr, arith, take_at, drop_at, length-take-le}
use Rattle.std.proofs.lemmas.List.{length-map}
use borrow.Author.Tests.{le-ltb}
use Rattle.mask.specs.Mask.{test_bit}
use Rattle.records.specs.Check.{over_room, broken_limits, state_conditions}
use Rattle.records.specs.Outcome.{accepted, smallest}
use Rattle.records.specs.declared.check.Rooms.{Rooms}
use Rattle.records.specs.declared.command.BufferBinding.{BufferBinding}
use Rattle.records.specs.declared.command.Command.{Command}
use Rattle.records.specs.declared.command.Command.TheVariants.{SetVertexBuffer}
use Rattle.records.specs.declared.command.Record.{Record}
use Rattle.records.specs.declared.command.VertexBufferDesc.{VertexBufferDesc}
use Rattle.records.specs.declared.outcome.Outcome.{Outcome}
use Rattle.records.specs.declared.outcome.Outcome.TheVariants.{Done, Overflow, NoRoom}
use Rattle.records.specs.declared.pipeline.PrivateCapabilities.{PrivateCapabilities}
use Rattle.records.specs.declared.state.Answer.{Answer}
use Rattle.records.specs.declared.state.State.{State}
use Rattle.slots.specs.Prepare.{working, buffer_commands, attribute_commands}
use Rattle.calls.proofs.Judged.{bad, neither, none-holds, None, within}
use Rattle.calls.specs.Call.{Call}
use Rattle.calls.specs.Did.{Did, Runs, rooms_of, record_of, written}
use Rattle.calls.specs.Meaning.{Meaning, list_run}
use Rattle.calls.specs.Parts.{with_progress}
use Rattle.calls.specs.Step.{meaning, drawing, outcome_of, conditions_of, progress_after}
use Rattle.calls.specs.Planned.{no_rooms}
use Rattle.spans.specs.Rebound.{bound-bit, bit-bound}
use Rattle.spans.specs.Span.{Binds, rendering, Rebinds, refusal, SpanOf, Draws, appended}
use Rattle.spans.specs.declared.Span.{Span}
use Rattle.spans.specs.declared.Span.TheVariants.{Masks, Broken, Reversed}

-- ---- what a draw means to record
-- the command binds no buffer
abbrev NoBuffer : Command → Type 0
NoBuffer c = (i : ℕ) (b : BufferBinding) (d : VertexBufferDesc) → SetVertexBuffer i b d ≡ c → ⊥

-- a draw from n is its preparation, then a command of its own
record Drawing (caps : PrivateCapabilities) (s : State) (n : ℕ) (c : Call) : Type 0 where
  six : Bool
  own : Command
  means : meaning caps s c ≡ drawing caps s (working caps n) false six (own ∷ [])
  no_buffer : NoBuffer own

drawing-of : (caps : PrivateCapabilities) (s : State) (n : ℕ) (c : Call) → Draws n c → Drawing caps s n c
drawing-of caps s n c (inl (vertex, vertices, instances, e)) =
    record { six = _; own = _; means = ap (meaning caps s) e; no_buffer = λ i b d q. let z : ◌≡◌ {A = ℕ} 0 1 = cc in omega arith }
drawing-of caps s n c (inr (first, count, base, instances, e)) =
    record { six = _; own = _; means = ap (meaning caps s) e; no_buffer = λ i b d q. let z : ◌≡◌ {A = ℕ} 0 1 = cc in omega arith }

-- with layout a draw from n, of any vertices and counts, indexed or not, means to bind the slots of `Rebinds`
pub meant : (caps : PrivateCapabilities) (s : State) (n : ℕ) (c : Call) → Draws n c → caps.vertex_buffer_layout ≡ true → (i : ℕ)
    → (Binds i (meaning caps s c).commands → Rebinds caps s n i) × (Rebinds caps s n i → Binds i (meaning caps s c).commands)
meant caps s n c d layout i =
    let x = drawing-of caps s n c d in
    let w = working caps n in
    let e = ap (λ (m : Meaning). m.commands) x.means
    ∙ ap (λ (t : Bool). cond t (buffer_commands s.vertex w) (attribute_commands s.vertex w) ++ (x.own ∷ [])) layout in (
      λ h. let r = bound-bit s.vertex w i x.own (x.no_buffer i) (subst (Binds i) e h) in bit-bound s.vertex w i _ r.0 r.1,
      λ h.
          let r = bound-bit s.vertex w i _ (λ b d q. let z : ◌≡◌ {A = ℕ} 0 1 = cc in omega arith) h in
          subst (Binds i) (sym e) (bit-bound s.vertex w i (x.own ∷ []) r.0 r.1),
    )

-- ---- "its refusals 6 and 7 put aside": in the render phase, of a state that is not broken, a draw has no other
pub left_over : (caps : PrivateCapabilities) (s : State) (rooms : Rooms) (n : ℕ) (c : Call) → Draws n c → accepted (refusal s) ≡ true
    → (o : Outcome) → o ≡ outcome_of rooms (rendering s) (meaning caps (rendering s) c) → (o ≡ Done) ⊎ ((o ≡ Overflow) ⊎ (o ≡ NoRoom))
unfolding outcome_of smallest
left_over caps s rooms n c d ok o e =
    let x = drawing-of caps (rendering s) n c d in
    let m = drawing caps (rendering s) (working caps n) false x.six (x.own ∷ []) in
    let k = none-holds (state_conditions s no_rooms) ok in
    go (conditions_of rooms (rendering s) m).sum (conditions_of rooms (rendering s) m).room
    (e ∙ ap (outcome_of rooms (rendering s)) x.means ∙ rw (k.many, k.range, k.kind) refl)
  where
    go : (t u : Bool) → o ≡ cond t Overflow (cond u NoRoom Done) → (o ≡ Done) ⊎ ((o ≡ Overflow) ⊎ (o ≡ NoRoom))
    go true u q = inr (inl q)
    go false true q = inr (inr q)
    go false false q = inl q

-- ---- lists
commands-of : (cs : List Command) → map (λ (r : Record). r.command) (map record_of cs) ≡ cs
commands-of [] = refl
commands-of (c ∷ cs) = ap (λ (l : List Command). c ∷ l) (commands-of cs)

-- what is written from the place p on stands there
written-there : (run : List Record) (p : ℕ) (cs : List Command) → p ≤ length run
    → map (λ (r : Record). r.command) (take (length cs) (drop p (written run p (map record_of cs)))) ≡ cs
written-there run p cs h =
    ap (λ (l : List Record). map (λ (r : Record). r.command) (take (length cs) l)) (drop_at (take p run) _ p (length-take-le p run h))
    ∙ ap (map (λ (r : Record). r.command)) (take_at (map record_of cs) _ (length cs) (length-map cs record_of))
    ∙ commands-of cs

-- ---- a draw that is carried through
module _ (caps : PrivateCapabilities) (s : State) (r : Runs) (n : ℕ) (c : Call) (d : Draws n c) (a : Answer) (r' : Runs) (did : Did caps s r c a r') (ok : accepted a.outcome ≡ true) where
  abbrev m : Meaning
  m = meaning caps s c

  taken : accepted (outcome_of (rooms_of r) s m) ≡ true
  taken = sym (ap accepted did.outcome) ∙ ok

  holding : None (conditions_of (rooms_of r) s m)
  unfolding outcome_of
  holding = none-holds (conditions_of (rooms_of r) s m) taken

  -- what it appends is what it means to record
  pub appends : appended s a r'.commands ≡ m.commands
  appends =
      let x = drawing-of caps s n c d in
      let room = (neither (over_room s.progress (m.handed (rooms_of r))) _ holding.room).0 in
      let list : m.handed (rooms_of r) ≡ list_run (rooms_of r) = ap (λ (k : Meaning). k.handed (rooms_of r)) x.means in
      let fits = (within s.progress (list_run (rooms_of r)) (subst (λ (k : Rooms). over_room s.progress k ≡ false) list room)).commands_fit in
      let count : a.state.progress.commands ≡ s.progress.commands + length m.commands =
      ap (λ (k : State). k.progress.commands) did.state
      ∙ ap (λ (t : Bool). (cond t (with_progress (progress_after m) m.after) s).progress.commands) taken
      ∙ ap (λ (k : Meaning). k.after.progress.commands + length m.commands) x.means in
      let size : a.state.progress.commands - s.progress.commands ≡ length m.commands = omega (arith, count) in
      let lists : r'.commands ≡ written r.commands s.progress.commands (map record_of m.commands) =
      ap (λ (k : Runs). k.commands) did.runs
      ∙ ap (λ (t : Bool). written r.commands s.progress.commands (map record_of (cond t m.commands []))) taken in
      ap (λ (k : ℕ). map (λ (e : Record). e.command) (take k (drop s.progress.commands r'.commands))) size
      ∙ ap (λ (l : List Record). map (λ (e : Record). e.command) (take (length m.commands) (drop s.progress.commands l))) lists
      ∙ written-there r.commands s.progress.commands m.commands fits

  -- on a board with layout it has bound exactly the slots of `Rebinds`
  pub did-rebind : caps.vertex_buffer_layout ≡ true → (i : ℕ)
      → (Binds i (appended s a r'.commands) → Rebinds caps s n i) × (Rebinds caps s n i → Binds i (appended s a r'.commands))
  did-rebind layout i =
      let b = meant caps s n c d layout i in
      (λ h. b.0 (subst (Binds i) appends h), λ h. subst (Binds i) (sym appends) (b.1 h))

  -- so it has bound every slot of the one mask, and none outside the other
  pub did-between : (lo hi always sometimes : ℕ) → SpanOf caps s lo hi (Masks always sometimes) → lo ≤ n → n ≤ hi → caps.vertex_buffer_layout ≡ true → (i : ℕ)
      → (test_bit always i ≡ true → Binds i (appended s a r'.commands)) × (Binds i (appended s a r'.commands) → test_bit sometimes i ≡ true)
  did-between lo hi always sometimes h l u layout i =
      (λ e. (did-rebind layout i).1 (h.2.sound i e n l u), λ b. h.3.whole i (n, l, u, (did-rebind layout i).0 b))

  -- its state is not broken
  pub not-broken : accepted (refusal s) ≡ true
  unfolding smallest
  not-broken =
      let x = drawing-of caps s n c d in
      let room = (neither (over_room s.progress (m.handed (rooms_of r))) _ holding.room).0 in
      let list : m.handed (rooms_of r) ≡ list_run (rooms_of r) = ap (λ (k : Meaning). k.handed (rooms_of r)) x.means in
      let w = within s.progress (list_run (rooms_of r)) (subst (λ (k : Rooms). over_room s.progress k ≡ false) list room) in
      rw (
        (neither (broken_limits s).many _ holding.many).0,
        (neither (broken_limits s).range _ holding.range).0,
        (neither (broken_limits s).kind _ holding.kind).0,
        le-ltb 4096 s.progress.commands w.commands_limit,
        le-ltb 65536 s.progress.bytes w.bytes_limit,
        le-ltb 1024 s.progress.queries w.queries_limit,
      ) refl

  -- and of a span that it lies in there are masks
  pub masks-then : (lo hi : ℕ) (q : Span) → SpanOf caps s lo hi q → lo ≤ hi → (always : ℕ) × (sometimes : ℕ) × (q ≡ Masks always sometimes)
  masks-then lo hi (Masks a b) h l = (a, b, refl)
  masks-then lo hi (Broken o) h l = bad (sym h.0 ∙ not-broken)
  masks-then lo hi Reversed h l = absurd (omega (arith, h.1))
