-- Document 02, request 6, of what `set_immediates` hands back after any run: which descriptors it sends, told from the accepted calls alone. Assumes nothing.
use Prim.Native.Nat.{ℕ, ◌+◌, ◌-◌, ◌/◌, ◌≤◌}
use mathlib.Core.Path.{◌≡◌, refl, sym, ap, ap₂, ◌∙◌, subst}
use mathlib.Core.Bool.{Bool, true, false, cond, not, ◌||◌}
use mathlib.Core.Logic.{◌⊎◌, inl, inr}
use mathlib.Core.List.{List, [], ◌∷◌, map}
use native.Mathlib.Omega.{arith}
use lib.Dec.{ltb}
use lib.ListN.{take, drop, length, length-map}
use lib.Seq.{take_at, drop_at, length-take-le}
use borrow.Author.Tests.{ltb-false}
use Rattle.records.specs.Outcome.{accepted}
use Rattle.records.specs.declared.check.Rooms.{Rooms}
use Rattle.records.specs.declared.command.ImmediateDesc.{ImmediateDesc}
use Rattle.records.specs.declared.command.Record.{Record}
use Rattle.records.specs.declared.pipeline.PrivateCapabilities.{PrivateCapabilities}
use Rattle.records.specs.declared.state.Progress.{Progress}
use Rattle.records.specs.declared.state.State.{State}
use Rattle.bindings.specs.Immediates.{descriptors_of, shares_word, sends, filter, immediate_commands}
use Rattle.bindings.specs.Shared.{shares-one, shared-yes}
use Rattle.calls.specs.Call.{Call, set_immediates}
use Rattle.calls.specs.Did.{Runs, rooms_of, written, record_of}
use Rattle.calls.specs.Meaning.{Meaning}
use Rattle.calls.specs.Parts.{with_progress}
use Rattle.calls.specs.Step.{meaning, progress_after, outcome_of}
use Rattle.machine.proofs.Lists.{or_left, or_right, true-false}
use Rattle.order.proofs.Accepted.{was-in-room}
use Rattle.order.proofs.OfRun.{mapped-back, answers-are, ran-begun, Begun, begun-run}
use Rattle.book.specs.Book.{Fed}
use Rattle.book.specs.Ran.{answers}
use Rattle.book.specs.Run.{carried, Recording, beginning, record_call, record_calls, fed}
use Rattle.uniforms.specs.Kind.{Kind, begins, pipes, writes, other, kind_of}
use Rattle.uniforms.specs.Since.{wrote_since, SharesOne}
use Rattle.uniforms.proofs.Means.{Means, means, begun-state}
use Rattle.uniforms.proofs.RanUniforms.{flag-of-run}
use Rattle.uniforms.specs.Told.{Told, untold, tell, told}
use Rattle.uniforms.specs.Claim.{Sends, none, sent, kept, appended_by, SendsOfRun}

-- ---- the state's descriptors are those of the last accepted pipeline call
one-descs : (k : Kind) (s : State) (m : Meaning) (t : Told) → Means k s m → descriptors_of s.immediates ≡ t.descs → descriptors_of m.after.immediates ≡ (tell k t).descs
one-descs begins s m t M e = ap descriptors_of M.immediates
one-descs (pipes p) s m t M e = ap descriptors_of M.immediates
one-descs (writes offset ws) s m t M e = ap (λ (x : Meaning). descriptors_of x.after.immediates) M ∙ e
one-descs other s m t M e = ap descriptors_of M.immediates ∙ e

all-descs : (caps : PrivateCapabilities) (rooms : Rooms) (r : Recording) (t : Told) (cs : List Call) → descriptors_of r.state.immediates ≡ t.descs
    → descriptors_of (record_calls caps rooms r cs).state.immediates ≡ (told t (fed caps rooms r.state cs)).descs
unfolding record_calls fed told
all-descs caps rooms r t [] e = e
all-descs caps rooms r t (c ∷ cs) e = all-descs caps rooms (record_call caps rooms r c) (cond (carried caps rooms r.state c) (tell (kind_of c) t) t) cs (go (carried caps rooms r.state c))
  where
    m : Meaning
    m = meaning caps r.state c

    go : (b : Bool) → descriptors_of (cond b (with_progress (progress_after m) m.after) r.state).immediates ≡ (cond b (tell (kind_of c) t) t).descs
    go true = one-descs (kind_of c) r.state m t (means caps r.state c) e
    go false = e

-- ---- which are sent
or-not : (t b : Bool) → t || not b ≡ true → t ≡ false → b ≡ false
or-not true b e q = true-false q
or-not false true e q = true-false (sym e)
or-not false false e q = refl

-- a yes and a no of the test
chosen : (flag : Bool) (start end : ℕ) (d : ImmediateDesc) → sends flag start end d ≡ true → SharesOne start end d ⊎ (flag ≡ false)
chosen flag start end d e = go (shares_word start end d) refl
  where
    go : (t : Bool) → shares_word start end d ≡ t → SharesOne start end d ⊎ (flag ≡ false)
    go true q = inl (shares-one start end d q)
    go false q = inr (or-not (shares_word start end d) flag e q)

passed_over : (flag : Bool) (start end : ℕ) (d : ImmediateDesc) → sends flag start end d ≡ false → SharesOne start end d ⊎ (flag ≡ false) → ⊥
passed_over flag start end d e (inl (k, a, b, c, f)) = true-false (sym (shared-yes start end k d a b c f) ∙ or_left (shares_word start end d) (not flag) e)
passed_over flag start end d e (inr q) = true-false (sym (ap not q) ∙ or_right (shares_word start end d) (not flag) e)

all-sent : (flag : Bool) (start end : ℕ) (ds : List ImmediateDesc) (at : ℕ)
    → Sends (λ d. SharesOne start end d ⊎ (flag ≡ false)) ds (immediate_commands (filter (sends flag start end) ds) at)
unfolding filter immediate_commands
all-sent flag start end [] at = none
all-sent flag start end (d ∷ ds) at = go (all-sent flag start end ds) (sends flag start end d) refl
  where
    P : ImmediateDesc → Type 0
    P x = SharesOne start end x ⊎ (flag ≡ false)

    rest : List ImmediateDesc
    rest = filter (sends flag start end) ds

    go : ((k : ℕ) → Sends P ds (immediate_commands rest k)) → (t : Bool) → sends flag start end d ≡ t → Sends P (d ∷ ds) (immediate_commands (cond t (d ∷ rest) rest) at)
    go ih true e = sent at (chosen flag start end d e) (ih (at + d.size_bytes))
    go ih false e = kept (passed_over flag start end d e) (ih at)

pub sends-of-run : SendsOfRun
sends-of-run caps s₀ s' r₀ r r' a calls d e R offset ws b r'' did done =
    subst (Sends (λ d. SharesOne first (first + ws.count) d ⊎ (wrote_since (answers R) ≡ false)) (told untold (answers R)).descs) (sym commands)
    (all-sent (wrote_since (answers R)) first (first + ws.count) (told untold (answers R)).descs s'.progress.bytes)
  where
    first : ℕ
    first = offset / 4

    B : Begun caps r a
    B = begun-run caps s₀ r₀ r a d e

    fresh-descs : descriptors_of a.state.immediates ≡ []
    fresh-descs =
        ap (λ (x : State). descriptors_of x.immediates) (d.state ∙ begun-state caps (rooms_of r₀) s₀ (ap accepted (sym d.outcome ∙ e)))

    descs : descriptors_of s'.immediates ≡ (told untold (answers R)).descs
    descs =
        ap (λ (x : Recording). descriptors_of x.state.immediates) (ran-begun caps B R)
        ∙ all-descs caps (rooms_of r) (beginning a.state) untold calls fresh-descs
        ∙ ap (λ (fs : List Fed). (told untold fs).descs) (sym (answers-are caps R B.within))

    m : Meaning
    m = meaning caps s' (set_immediates offset ws)

    taken : accepted (outcome_of (rooms_of r') s' m) ≡ true
    taken = ap accepted (sym did.outcome ∙ done)

    p : Progress
    p = s'.progress

    fits : p.commands ≤ length r'.commands
    fits =
        ltb-false (length r'.commands) p.commands
        (or_left (ltb (length r'.commands) p.commands) (ltb (length r'.bytes) p.bytes || ltb 1024 p.queries)
        (or_right (ltb 1024 p.queries) (ltb (length r'.commands) p.commands || (ltb (length r'.bytes) p.bytes || ltb 1024 p.queries))
        (or_right (ltb 65536 p.bytes) _
        (or_right (ltb 4096 p.commands) _ (was-in-room (rooms_of r') s' m taken)))))

    count : b.state.progress.commands ≡ p.commands + length m.commands
    count =
        ap (λ (k : State). k.progress.commands) did.state
        ∙ ap (λ (t : Bool). (cond t (with_progress (progress_after m) m.after) s').progress.commands) taken

    size : b.state.progress.commands - p.commands ≡ length m.commands
    size = omega (arith, count)

    lists : r''.commands ≡ written r'.commands p.commands (map record_of m.commands)
    lists =
        ap (λ (k : Runs). k.commands) did.runs
        ∙ ap (λ (t : Bool). written r'.commands p.commands (map record_of (cond t m.commands []))) taken

    appends : appended_by s' b r'' ≡ m.commands
    appends =
        ap (λ (k : ℕ). map (λ (x : Record). x.command) (take k (drop p.commands r''.commands))) size
        ∙ ap (λ (l : List Record). map (λ (x : Record). x.command) (take (length m.commands) (drop p.commands l))) lists
        ∙ ap (λ (l : List Record). map (λ (x : Record). x.command) (take (length m.commands) l))
        (drop_at (take p.commands r'.commands) _ p.commands (length-take-le p.commands r'.commands fits))
        ∙ ap (map (λ (x : Record). x.command)) (take_at (map record_of m.commands) _ (length m.commands) (length-map m.commands record_of))
        ∙ mapped-back m.commands

    commands : appended_by s' b r'' ≡ immediate_commands (filter (sends (wrote_since (answers R)) first (first + ws.count)) (told untold (answers R)).descs) s'.progress.bytes
    commands =
        appends
        ∙ ap₂ (λ (t : Bool) (ds : List ImmediateDesc). immediate_commands (filter (sends t first (first + ws.count)) ds) s'.progress.bytes)
        (flag-of-run caps s₀ s' r₀ r r' a calls d e R) descs
