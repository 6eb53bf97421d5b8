-- Document 02, request 6: "After each such call every uniform of the current program holds what the Rust's list would have put there". Assumes nothing.
-- `uniforms-same`: after every list of calls every uniform of every program is the same. `uniforms-hold`: and once sent each descriptor's holds the present words.
use Prim.Native.Nat.{ℕ, ◌+◌, ◌/◌, ◌%◌, ◌≤◌, zero-le}
use mathlib.Core.Path.{◌≡◌, refl, sym, ap, ◌∙◌, subst}
use mathlib.Core.Bool.{Bool, true, false, cond, not, ◌||◌}
use mathlib.Core.List.{List, [], ◌∷◌}
use mathlib.Core.Logic.{◌⊎◌, inl, inr}
use Rattle.std.specs.Prelude.{Some}
use native.Mathlib.Nat.{le_of_eq}
use lib.Dec.{ltb, eqb}
use lib.ListN.{length}
use lib.Seq.{length-take-le}
use borrow.Author.Tests.{ltb-false}
use Rattle.records.specs.Check.{over_room}
use Rattle.records.specs.Outcome.{accepted}
use Rattle.records.specs.Start.{start_progress, start_immediates}
use Rattle.records.specs.declared.check.Rooms.{Rooms}
use Rattle.records.specs.declared.command.ImmediateDesc.{ImmediateDesc}
use Rattle.records.specs.declared.pipeline.PrivateCapabilities.{PrivateCapabilities}
use Rattle.records.specs.declared.state.ImmediateState.{ImmediateState}
use Rattle.records.specs.declared.state.Progress.{Progress}
use Rattle.records.specs.declared.state.State.{State}
use Rattle.bindings.specs.Immediates.{overwritten, descriptors_of, immediates_state, words_of, sends, filter, sent_descriptors, immediates_out_of_range}
use Rattle.numbers.specs.Bytes.{bytes_of}
use Rattle.bindings.specs.Overlap.{always-overlaps}
use Rattle.bindings.specs.Shared.{filter-good}
use Rattle.pipeline.specs.Inner.{inner_immediates}
use Rattle.pass.specs.Marks.{Lent, counted, over_run}
use Rattle.calls.specs.Call.{Call, begin_encoding}
use Rattle.calls.specs.Meaning.{Meaning}
use Rattle.calls.specs.Parts.{with_progress}
use Rattle.calls.specs.Step.{set_immediates_meaning, meaning, progress_after, conditions_of, outcome_of, step}
use Rattle.machine.specs.Each.{Each}
use Rattle.machine.proofs.Lists.{each-always, each-with, or_left, or_right}
use Rattle.order.proofs.Accepted.{passes, in-range}
use Rattle.book.specs.Run.{carried, Recording, record_call, record_calls, fed, begun}
use Rattle.uniforms.specs.Uniforms.{Machine, fresh, play}
use Rattle.uniforms.specs.Kind.{Kind, begins, pipes, writes, other, kind_of, ApartIn, Apartness}
use Rattle.uniforms.specs.Rust.{Lists, counting, rust_descriptors, rust_appends, rust_call, rust_lists, no_lists, ours, rusts}
use Rattle.uniforms.proofs.Loads.{value_of, filter-all}
use Rattle.uniforms.proofs.Plays.{Within, in_use}
use Rattle.uniforms.proofs.Quiet.{acts-quiet}
use Rattle.uniforms.proofs.Means.{Means, means, begun-state}
use Rattle.uniforms.proofs.Kept.{Kept, kept-begins, kept-pipes, loaded_by, new-long, kept-writes}
use Rattle.uniforms.proofs.Appended.{held_by, Sound, extended, appends, After, sending, after-acts, after-sent, after-begins, sound-next}

-- ---- the invariant: the state, this recorder's list and the Rust's
pub record Tied (s : State) (o r : Lists) : Type 0 where
  pub ours : Sound s o
  pub rusts : Within r.bytes r.commands
  pub kept : Kept s.immediates (held_by o) (held_by r)

-- the Rust's list is as long as its own state says
pub rust-sound : (s : State) (o r : Lists) → Tied s o r → Sound (counting r s) r
rust-sound s o r T = record { commands = refl; bytes = refl; within = T.rusts }

-- the list goes on, or starts anew
abbrev Goes : Progress → Progress → Type 0
Goes x y = (x ≡ y) ⊎ (x ≡ start_progress)

low : (x y : Progress) → Goes x y → (x.commands ≤ y.commands) × (x.bytes ≤ y.bytes)
low x y (inl e) = (le_of_eq (ap (λ (z : Progress). z.commands) e), le_of_eq (ap (λ (z : Progress). z.bytes) e))
low x y (inr e) = (subst (λ (z : Progress). z.commands ≤ y.commands) (sym e) zero-le, subst (λ (z : Progress). z.bytes ≤ y.bytes) (sym e) zero-le)

tied-next : (s : State) (o r next : Lists) (m : Meaning) (i : ImmediateState) (f g : Machine → Machine) → Tied s o r → Goes m.after.progress s.progress
    → After o (extended o m (appends m)) f → After r next g → m.after.immediates ≡ i → Kept i (f (held_by o)) (g (held_by r))
    → Tied (with_progress (progress_after m) m.after) (extended o m (appends m)) next
tied-next s o r next m i f g T b A B e K =
    record {
      ours = sound-next s o m T.ours (low m.after.progress s.progress b) A.within;
      rusts = B.within;
      kept =
          subst (λ (x : ImmediateState). Kept x (held_by (extended o m (appends m))) (held_by next)) (sym e)
          (subst (λ (x : Machine). Kept i x (held_by next)) (sym A.does) (subst (λ (x : Machine). Kept i (f (held_by o)) x) (sym B.does) K));
    }

-- no count of a carried-through call is above its run
pub lent-enough : (rooms : Rooms) (s : State) (m : Meaning) → accepted (outcome_of rooms s m) ≡ true → m.asks.room ≡ false
unfolding outcome_of
lent-enough rooms s m e =
    or_left m.asks.room (over_room (progress_after m) (m.handed rooms))
    (or_right (over_room s.progress (m.handed rooms)) (m.asks.room || over_room (progress_after m) (m.handed rooms)) (passes (conditions_of rooms s m) e).room)

-- ---- one call
-- the invariant after a carried-through call of that kind, which means m here and n in the Rust
abbrev Next : Kind → State → Lists → Lists → Meaning → Meaning → Type 0
Next k s o r m n = Tied (with_progress (progress_after m) m.after) (extended o m (appends m)) (extended r n (rust_appends k (counting r s) n))

-- the Rust sends all
pub rust-all : (s : State) (offset count : ℕ) → rust_descriptors s offset count ≡ descriptors_of s.immediates
rust-all s offset count = filter-all (always-overlaps (offset / 4) count) (descriptors_of s.immediates)

by-writes : (s : State) (o r : Lists) (offset : ℕ) (ws : Lent) → Tied s o r → immediates_out_of_range offset ws.count ≡ false → over_run ws ≡ false
    → Next (writes offset ws) s o r (set_immediates_meaning s offset ws) (set_immediates_meaning (counting r s) offset ws)
by-writes s o r offset ws T range room =
    tied-next s o r (extended r n (rust_appends (writes offset ws) (counting r s) n)) m new (loaded_by w sent) (loaded_by w (descriptors_of i)) T (inl refl)
    (after-sent s o m w sent T.ours refl long (filter-good (sends i.sent first (first + ws.count)) (descriptors_of i) T.kept.good))
    (subst (λ (l : List ImmediateDesc). After r (extended r n (sending w l (length r.bytes))) (loaded_by w (descriptors_of i))) (sym (rust-all s offset ws.count))
    (after-sent (counting r s) r n w (descriptors_of i) (rust-sound s o r T) refl long T.kept.good))
    refl
    (subst (λ (k : ℕ). Kept new (loaded_by w (filter (sends i.sent first (first + k)) (descriptors_of i)) (held_by o)) (loaded_by w (descriptors_of i) (held_by r))) all
    (kept-writes i (held_by o) (held_by r) T.kept first (counted ws) fit))
  where
    i : ImmediateState
    i = s.immediates

    m : Meaning
    m = set_immediates_meaning s offset ws

    n : Meaning
    n = set_immediates_meaning (counting r s) offset ws

    new : ImmediateState
    new = immediates_state i offset (counted ws)

    sent : List ImmediateDesc
    sent = sent_descriptors i offset ws.count

    first : ℕ
    first = offset / 4

    w : List ℕ
    w = overwritten i.words first (counted ws)

    -- the run has as many words as are counted
    all : length (counted ws) ≡ ws.count
    all = length-take-le ws.count ws.run (ltb-false (length ws.run) ws.count room)

    fit : first + length (counted ws) ≤ 64
    fit = subst (λ (k : ℕ). first + k ≤ 64) (sym all) (ltb-false 64 (first + ws.count) (or_right (not (eqb (offset % 4) 0)) (ltb 64 (first + ws.count)) range))

    long : length w ≡ 64
    long = new-long i (held_by o) (held_by r) T.kept first (counted ws) fit

by_kind : (k : Kind) (s : State) (o r : Lists) (m n : Meaning) → Tied s o r → Means k s m → Means k (counting r s) n
    → m.asks.range ≡ false → m.asks.room ≡ false → ApartIn k → Next k s o r m n
by_kind begins s o r m n T M N range room a =
    tied-next s o r (extended r n (appends n)) m start_immediates (λ x. fresh) (λ x. fresh) T (inr M.progress) (after-begins o m M) (after-begins r n N) M.immediates kept-begins
by_kind (pipes p) s o r m n T M N range room a =
    tied-next s o r (extended r n (appends n)) m (inner_immediates p s.immediates) (in_use p.program) (in_use p.program) T (inl M.progress)
    (after-acts s o m (appends m) (in_use p.program) T.ours M.progress M.acts)
    (after-acts (counting r s) r n (appends n) (in_use p.program) (rust-sound s o r T) N.progress N.acts)
    M.immediates (kept-pipes p s.immediates (held_by o) (held_by r) T.kept (M.good range) a)
by_kind (writes offset ws) s o r m n T M N range room a =
    subst (λ (x : Meaning). Next (writes offset ws) s o r x n) (sym M)
    (subst (Next (writes offset ws) s o r (set_immediates_meaning s offset ws)) (sym N)
    (by-writes s o r offset ws T (subst (λ (x : Meaning). x.asks.range ≡ false) M range) (subst (λ (x : Meaning). x.asks.room ≡ false) M room)))
by_kind other s o r m n T M N range room a =
    tied-next s o r (extended r n (appends n)) m s.immediates (λ x. x) (λ x. x) T (inl M.progress)
    (after-acts s o m (appends m) (λ x. x) T.ours M.progress (acts-quiet M.quiet))
    (after-acts (counting r s) r n (appends n) (λ x. x) (rust-sound s o r T) N.progress (acts-quiet N.quiet))
    M.immediates T.kept

-- a recording whose list and bytes are these
abbrev pub over : State → Lists → List ℕ → Recording
over s o q = record { state = s; list = o.commands; bytes = o.bytes; queries = q }

-- and the list and the bytes of one
abbrev pub lists_of : Recording → Lists
lists_of r = record { commands = r.list; bytes = r.bytes }

pub one-call : (caps : PrivateCapabilities) (rooms : Rooms) (s : State) (o r : Lists) (q : List ℕ) (c : Call) → Tied s o r → (carried caps rooms s c ≡ true → ApartIn (kind_of c))
    → Tied (step caps rooms s c).state (lists_of (record_call caps rooms (over s o q) c)) (cond (carried caps rooms s c) (rust_call caps s r c) r)
one-call caps rooms s o r q c T P = go (carried caps rooms s c) refl
  where
    m : Meaning
    m = meaning caps s c

    go : (t : Bool) → carried caps rooms s c ≡ t
        → Tied (cond t (with_progress (progress_after m) m.after) s)
        (record { commands = cond t (extended o m (appends m)).commands o.commands; bytes = cond t (extended o m (appends m)).bytes o.bytes }) (cond t (rust_call caps s r c) r)
    go true e = by_kind (kind_of c) s o r m (meaning caps (counting r s) c) T (means caps s c) (means caps (counting r s) c) (in-range rooms s m e) (lent-enough rooms s m e) (P e)
    go false e = T

-- ---- all calls
pub all-calls : (caps : PrivateCapabilities) (rooms : Rooms) (s : State) (o r : Lists) (q : List ℕ) (cs : List Call) → Tied s o r → Apartness (fed caps rooms s cs)
    → Tied (record_calls caps rooms (over s o q) cs).state (lists_of (record_calls caps rooms (over s o q) cs)) (rust_lists caps rooms s r cs)
unfolding record_calls rust_lists fed Apartness
all-calls caps rooms s o r q [] T P = T
all-calls caps rooms s o r q (c ∷ cs) T P =
    let x = record_call caps rooms (over s o q) c in
    all-calls caps rooms x.state (lists_of x) (cond (carried caps rooms s c) (rust_call caps s r c) r) x.queries cs (one-call caps rooms s o r q c T P.0) P.1

pub began : (caps : PrivateCapabilities) (rooms : Rooms) (s : State) → carried caps rooms s begin_encoding ≡ true → Tied (begun caps rooms s).state no_lists no_lists
unfolding play
began caps rooms s e =
    subst (λ (x : State). Tied x no_lists no_lists) (sym (begun-state caps rooms s e))
    (record { ours = record { commands = refl; bytes = refl; within = tt }; rusts = tt; kept = kept-begins })

-- THE THEOREM: every uniform of every program holds what the Rust's list would have put there, and the same program is current
pub uniforms-same : (caps : PrivateCapabilities) (rooms : Rooms) (s : State) (calls : List Call) → carried caps rooms s begin_encoding ≡ true
    → Apartness (fed caps rooms (begun caps rooms s).state calls)
    → ((ours caps rooms s calls).program ≡ (rusts caps rooms s calls).program) × ((p l : ℕ) → (ours caps rooms s calls).uniform p l ≡ (rusts caps rooms s calls).uniform p l)
uniforms-same caps rooms s calls e P =
    let K = (all-calls caps rooms (begun caps rooms s).state no_lists no_lists [] calls (began caps rooms s e) P).kept in
    (K.program, K.same)

-- once sent, each descriptor's uniform of the current program holds the present words
pub uniforms-hold : (caps : PrivateCapabilities) (rooms : Rooms) (s : State) (calls : List Call) → carried caps rooms s begin_encoding ≡ true
    → Apartness (fed caps rooms (begun caps rooms s).state calls)
    → let i = (record_calls caps rooms (begun caps rooms s) calls).state.immediates in
    (p : ℕ) → (ours caps rooms s calls).program ≡ Some p → i.sent ≡ true
    → Each (λ (d : ImmediateDesc). (ours caps rooms s calls).uniform p d.location ≡ Some (record { ty = d.ty; bytes = bytes_of (words_of i.words d) })) (descriptors_of i)
uniforms-hold caps rooms s calls e P p q t =
    each-with (λ (d : ImmediateDesc). (rusts caps rooms s calls).uniform p d.location ≡ Some (value_of i.words d)) (λ (d : ImmediateDesc). Unit {0})
    (λ (d : ImmediateDesc). (ours caps rooms s calls).uniform p d.location ≡ Some (value_of i.words d)) (descriptors_of i)
    (λ d h k. K.same p d.location ∙ h) (K.sent t p (sym K.program ∙ q)) (each-always (λ (d : ImmediateDesc). Unit {0}) (descriptors_of i) (λ d. tt))
  where
    i : ImmediateState
    i = (record_calls caps rooms (begun caps rooms s) calls).state.immediates

    K : Kept i (ours caps rooms s calls) (rusts caps rooms s calls)
    K = (all-calls caps rooms (begun caps rooms s).state no_lists no_lists [] calls (began caps rooms s e) P).kept
