-- Document 02, request 6: "or were not sent since the last pipeline call". The state's flag says just that, of all descriptors at once. Assumes nothing.
-- `flag-is-history`: the flag is whether a `set_immediates` was accepted since. `sent-is-each`: where it is set every descriptor was sent since, where not none was.
use Prim.Native.Nat.{ℕ, ◌+◌, ◌/◌}
use mathlib.Core.Path.{◌≡◌, refl, sym, ap, ◌∙◌, subst}
use mathlib.Core.Bool.{Bool, true, false, cond, not, ◌||◌}
use mathlib.Core.List.Memᴰ
use mathlib.Core.List.{List, [], ◌∷◌, ◌++◌, append-nil, Memᴰ}
use Rattle.records.specs.Check.{some?}
use Rattle.records.specs.declared.check.Rooms.{Rooms}
use Rattle.records.specs.declared.command.Command.{Command}
use Rattle.records.specs.declared.command.ImmediateDesc.{ImmediateDesc}
use Rattle.records.specs.declared.pipeline.PrivateCapabilities.{PrivateCapabilities}
use Rattle.records.specs.declared.state.ImmediateState.{ImmediateState}
use Rattle.records.specs.declared.state.State.{State}
use Rattle.bindings.specs.Immediates.{descriptors_of, immediates_state, shares_word, sent_descriptors, immediate_commands}
use Rattle.pass.specs.Marks.{Lent, counted}
use Rattle.calls.specs.Call.{Call, begin_encoding}
use Rattle.calls.specs.Meaning.{Meaning}
use Rattle.calls.specs.Parts.{with_progress}
use Rattle.calls.specs.Step.{meaning, progress_after, step}
use Rattle.machine.specs.Each.{Each}
use Rattle.machine.proofs.Lists.{true-false}
use Rattle.book.specs.Run.{carried, Recording, record_call, record_calls, fed, begun}
use Rattle.uniforms.specs.Uniforms.{Effect, neither, effect}
use Rattle.uniforms.specs.Kind.{Kind, begins, pipes, writes, other, kind_of}
use Rattle.uniforms.specs.Since.{renews, is_write, accepted_of, since_last, wrote_since, sent_by, sent_in, sent_since}
use Rattle.uniforms.proofs.Loads.{filter-all}
use Rattle.uniforms.proofs.Means.{Means, means, begun-state}

-- ---- the flag, call by call
abbrev flag_after : Bool → Kind → Bool
flag_after t begins = false
flag_after t (pipes p) = false
flag_after t (writes offset ws) = true
flag_after t other = t

unfoldable flags : Bool → List Call → Bool
flags t [] = t
flags t (c ∷ cs) = flags (flag_after t (kind_of c)) cs

one-flag : (k : Kind) (s : State) (m : Meaning) → Means k s m → m.after.immediates.sent ≡ flag_after s.immediates.sent k
one-flag begins s m M = ap (λ (i : ImmediateState). i.sent) M.immediates
one-flag (pipes p) s m M = ap (λ (i : ImmediateState). i.sent) M.immediates
one-flag (writes offset ws) s m M = ap (λ (x : Meaning). x.after.immediates.sent) M
one-flag other s m M = ap (λ (i : ImmediateState). i.sent) M.immediates

all-flags : (caps : PrivateCapabilities) (rooms : Rooms) (r : Recording) (cs : List Call)
    → (record_calls caps rooms r cs).state.immediates.sent ≡ flags r.state.immediates.sent (accepted_of (fed caps rooms r.state cs))
unfolding record_calls fed accepted_of flags
all-flags caps rooms r [] = refl
all-flags caps rooms r (c ∷ cs) = all-flags caps rooms (record_call caps rooms r c) cs ∙ go (carried caps rooms r.state c) (accepted_of (fed caps rooms (step caps rooms r.state c).state cs))
  where
    m : Meaning
    m = meaning caps r.state c

    go : (t : Bool) (l : List Call) → flags (cond t (with_progress (progress_after m) m.after) r.state).immediates.sent l ≡ flags r.state.immediates.sent (cond t (c ∷ l) l)
    go true l = ap (λ (b : Bool). flags b l) (one-flag (kind_of c) r.state m (means caps r.state c))
    go false l = refl

-- ---- and of the calls since the last that brings new descriptors
abbrev news : List Call → Bool
news cs = some? (λ (d : Call). renews (kind_of d)) cs

abbrev written : List Call → Bool
written cs = some? (λ (d : Call). is_write (kind_of d)) cs

-- where none does these are all
since-all : (cs : List Call) → news cs ≡ false → since_last cs ≡ cs
unfolding since_last
since-all [] e = refl
since-all (c ∷ cs) e = ap (λ (t : Bool). cond t (cond (news cs) (since_last cs) cs) (c ∷ cs)) e

flags-since : (t : Bool) (cs : List Call) → flags t cs ≡ cond (news cs) (written (since_last cs)) (t || written cs)
unfolding flags since_last some?
flags-since t [] = or-none t
  where
    or-none : (t : Bool) → t ≡ t || false
    or-none true = refl
    or-none false = refl
flags-since t (c ∷ cs) = flags-since (flag_after t (kind_of c)) cs ∙ go (kind_of c) (news cs)
  where
    or-true : (t : Bool) → true ≡ t || true
    or-true true = refl
    or-true false = refl

    -- a call of that kind before the others, of which one brings new descriptors or none
    go : (k : Kind) (b : Bool) → cond b (written (since_last cs)) (flag_after t k || written cs)
        ≡ cond (renews k || b) (written (cond (renews k || b) (cond b (since_last cs) cs) (c ∷ cs))) (t || (is_write k || written cs))
    go begins true = refl
    go begins false = refl
    go (pipes p) true = refl
    go (pipes p) false = refl
    go (writes offset ws) true = refl
    go (writes offset ws) false = or-true t
    go other true = refl
    go other false = refl

-- from a state whose descriptors were not sent
pub flag-from : (caps : PrivateCapabilities) (rooms : Rooms) (r : Recording) (calls : List Call) → r.state.immediates.sent ≡ false
    → (record_calls caps rooms r calls).state.immediates.sent ≡ wrote_since (fed caps rooms r.state calls)
flag-from caps rooms r calls e = all-flags caps rooms r calls ∙ ap (λ (t : Bool). flags t cs) e ∙ flags-since false cs ∙ go (news cs) refl
  where
    cs : List Call
    cs = accepted_of (fed caps rooms r.state calls)

    go : (t : Bool) → news cs ≡ t → cond t (written (since_last cs)) (written cs) ≡ written (since_last cs)
    go true q = refl
    go false q = ap written (sym (since-all cs q))

pub flag-is-history : (caps : PrivateCapabilities) (rooms : Rooms) (s : State) (calls : List Call) → carried caps rooms s begin_encoding ≡ true
    → (record_calls caps rooms (begun caps rooms s) calls).state.immediates.sent
    ≡ wrote_since (fed caps rooms (begun caps rooms s).state calls)
flag-is-history caps rooms s calls e = flag-from caps rooms (begun caps rooms s) calls (ap (λ (x : State). x.immediates.sent) (begun-state caps rooms s e))

-- ---- the descriptors that were sent
sent-quiet : (cs : List Command) → Each (λ (c : Command). effect c ≡ neither) cs → sent_in cs ≡ []
unfolding sent_in
sent-quiet [] q = refl
sent-quiet (c ∷ cs) q = ap (λ (e : Effect). sent_by e ++ sent_in cs) q.0 ∙ sent-quiet cs q.1

sent-immediates : (ds : List ImmediateDesc) (at : ℕ) → sent_in (immediate_commands ds at) ≡ ds
unfolding sent_in immediate_commands
sent-immediates [] at = refl
sent-immediates (d ∷ ds) at = ap (λ (l : List ImmediateDesc). d ∷ l) (sent-immediates ds (at + d.size_bytes))

each_weaken : {A : Type 0} (P Q : A → Type 0) (l : List A) → ((x : A) → P x → Q x) → Each P l → Each Q l
each_weaken P Q [] f h = tt
each_weaken P Q (x ∷ xs) f h = (f x h.0, each_weaken P Q xs f h.1)

abbrev In : List ImmediateDesc → ImmediateDesc → Type 0
In ds d = Memᴰ d ds

each_in : (ds : List ImmediateDesc) → Each (In ds) ds
each_in [] = tt
each_in (d ∷ ds) = (Memᴰ.head refl, each_weaken (In ds) (In (d ∷ ds)) ds (λ x m. Memᴰ.tail m) (each_in ds))

-- all of them or none
pub record Whole (i : ImmediateState) (ds : List ImmediateDesc) : Type 0 where
  pub all : i.sent ≡ true → Each (λ (d : ImmediateDesc). Memᴰ d ds) (descriptors_of i)
  pub none : i.sent ≡ false → ds ≡ []

unsent : (i : ImmediateState) → i.sent ≡ false → Whole i []
unsent i e = record { all = λ q. true-false (sym q ∙ e); none = λ q. refl }

whole-writes : (i : ImmediateState) (ds : List ImmediateDesc) (offset : ℕ) (ws : Lent) → Whole i ds
    → Whole (immediates_state i offset (counted ws)) (ds ++ sent_descriptors i offset ws.count)
whole-writes i ds offset ws W = record { all = λ q. go i.sent refl; none = λ q. true-false q }
  where
    first : ℕ
    first = offset / 4

    new : List ImmediateDesc
    new = sent_descriptors i offset ws.count

    or-true : (t b : Bool) → b ≡ false → t || not b ≡ true
    or-true true b e = refl
    or-true false b e = ap not e

    go : (t : Bool) → i.sent ≡ t → Each (In (ds ++ new)) (descriptors_of i)
    go true e = each_weaken (In ds) (In (ds ++ new)) (descriptors_of i) (λ d m. Memᴰ.append_left new m) (W.all e)
    go false e =
        each_weaken (In new) (In (ds ++ new)) (descriptors_of i) (λ d m. Memᴰ.append_right ds m)
        (subst (λ (l : List ImmediateDesc). Each (In l) (descriptors_of i))
        (sym (filter-all (λ d. or-true (shares_word first (first + ws.count) d) i.sent e) (descriptors_of i))) (each_in (descriptors_of i)))

one-whole : (k : Kind) (s : State) (m : Meaning) (ds : List ImmediateDesc) → Means k s m → Whole s.immediates ds → Whole m.after.immediates (cond (renews k) [] (ds ++ sent_in m.commands))
one-whole begins s m ds M W = unsent m.after.immediates (one-flag begins s m M)
one-whole (pipes p) s m ds M W = unsent m.after.immediates (one-flag (pipes p) s m M)
one-whole (writes offset ws) s m ds M W =
    subst (λ (x : Meaning). Whole x.after.immediates (ds ++ sent_in x.commands)) (sym M)
    (subst (λ (l : List ImmediateDesc). Whole (immediates_state s.immediates offset (counted ws)) (ds ++ l))
    (sym (sent-immediates (sent_descriptors s.immediates offset ws.count) s.progress.bytes)) (whole-writes s.immediates ds offset ws W))
one-whole other s m ds M W =
    subst (λ (i : ImmediateState). Whole i (ds ++ sent_in m.commands)) (sym M.immediates)
    (subst (Whole s.immediates) (sym (ap (λ (l : List ImmediateDesc). ds ++ l) (sent-quiet m.commands M.quiet.each) ∙ append-nil ds)) W)

all_whole : (caps : PrivateCapabilities) (rooms : Rooms) (r : Recording) (ds : List ImmediateDesc) (cs : List Call) → Whole r.state.immediates ds
    → Whole (record_calls caps rooms r cs).state.immediates (sent_since caps rooms r.state ds cs)
unfolding record_calls sent_since
all_whole caps rooms r ds [] W = W
all_whole caps rooms r ds (c ∷ cs) W = all_whole caps rooms (record_call caps rooms r c) _ cs (go (carried caps rooms r.state c))
  where
    m : Meaning
    m = meaning caps r.state c

    go : (t : Bool) → Whole (cond t (with_progress (progress_after m) m.after) r.state).immediates (cond t (cond (renews (kind_of c)) [] (ds ++ sent_in m.commands)) ds)
    go true = one-whole (kind_of c) r.state m ds (means caps r.state c) W
    go false = W

pub sent-is-each : (caps : PrivateCapabilities) (rooms : Rooms) (s : State) (calls : List Call) → carried caps rooms s begin_encoding ≡ true
    → let i = (record_calls caps rooms (begun caps rooms s) calls).state.immediates in
    let ds = sent_since caps rooms (begun caps rooms s).state [] calls in
    (i.sent ≡ true → Each (λ (d : ImmediateDesc). Memᴰ d ds) (descriptors_of i)) × (i.sent ≡ false → ds ≡ [])
sent-is-each caps rooms s calls e =
    let W = all_whole caps rooms (begun caps rooms s) [] calls (unsent (begun caps rooms s).state.immediates (ap (λ (x : State). x.immediates.sent) (begun-state caps rooms s e))) in
    (W.all, W.none)
