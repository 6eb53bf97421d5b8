-- Later passes, of the code's own answers, states and lists: of any two runs in which each call did what its contract says. Assumes nothing.
use Prim.Native.Nat.{ℕ}
use mathlib.Core.Path.{◌≡◌, refl, sym, ap, ap₂, ◌∙◌, subst}
use mathlib.Core.List.{List, [], ◌∷◌, ◌++◌}
use lib.ListN.{length, drop}
use lib.Seq.{drop-append_seam}
use Rattle.records.specs.declared.outcome.Outcome.TheVariants.{Done}
use Rattle.records.specs.declared.pipeline.PrivateCapabilities.{PrivateCapabilities}
use Rattle.records.specs.declared.state.Answer.{Answer}
use Rattle.records.specs.declared.state.State.{State}
use Rattle.calls.specs.Call.{Call, begin_render_pass}
use Rattle.calls.specs.Did.{Runs, Did, rooms_of}
use Rattle.book.specs.Book.{Fed}
use Rattle.book.specs.Run.{Recording, beginning, record_calls, fed}
use Rattle.book.specs.Ran.{Ran, done, then, is_done, answers, commands_of}
use Rattle.order.proofs.OfRun.{Begun, begun-run, answers-are, ran-begun}
use Rattle.later_passes.specs.Pass.{own}
use Rattle.later_passes.specs.Alike.{Finds}
use Rattle.later_passes.specs.Claim.{added, NoneRefused, LaterPassOfRun, LaterPassesOfRun}
use Rattle.later_passes.proofs.InPass.{find-same}
use Rattle.later_passes.proofs.Theorem.{fed-both, pass-from}

-- ---- a run, and then another
unfoldable ran_both : {caps : PrivateCapabilities} {s s' s'' : State} {r r' r'' : Runs} {xs ys : List Call} → Ran caps s r xs s' r' → Ran caps s' r' ys s'' r'' → Ran caps s r (xs ++ ys) s'' r''
ran_both done Q = Q
ran_both (then a d R) Q = then a d (ran_both R Q)

answers-both : {caps : PrivateCapabilities} {s s' s'' : State} {r r' r'' : Runs} {xs ys : List Call} (R : Ran caps s r xs s' r') (Q : Ran caps s' r' ys s'' r'')
    → answers (ran_both R Q) ≡ answers R ++ answers Q
unfolding ran_both answers
answers-both done Q = refl
answers-both (then {c = c} a d R) Q = ap (λ (l : List Fed). record { call = c; accepted = is_done a.outcome } ∷ l) (answers-both R Q)

list_of : (caps : PrivateCapabilities) {s' : State} {r r' : Runs} {a : Answer} {calls : List Call} → Begun caps r a → Ran caps a.state r calls s' r'
    → commands_of s' r' ≡ (record_calls caps (rooms_of r) (beginning a.state) calls).list
list_of caps B R = ap (λ (y : Recording). y.list) (ran-begun caps B R)

-- what the functions answered of the second run is what the definition says
answered : (caps : PrivateCapabilities) {s₁ s₂ : State} {r r₁ r₂ : Runs} {a : Answer} {xs ys : List Call} → Begun caps r a → (R : Ran caps a.state r xs s₁ r₁) (Q : Ran caps s₁ r₁ ys s₂ r₂)
    → answers Q ≡ fed caps (rooms_of r) (record_calls caps (rooms_of r) (beginning a.state) xs).state ys
answered caps {r = r} {a = a} {xs = xs} {ys = ys} B R Q =
    let fs : List Fed = fed caps (rooms_of r) a.state xs in
    let gs : List Fed = fed caps (rooms_of r) (record_calls caps (rooms_of r) (beginning a.state) xs).state ys in
    let e : answers R ≡ fs = answers-are caps R B.within in
    let both : answers R ++ answers Q ≡ fs ++ gs = sym (answers-both R Q) ∙ answers-are caps (ran_both R Q) B.within ∙ fed-both caps (rooms_of r) (beginning a.state) xs ys in
    sym (drop-append_seam (answers R) (answers Q)) ∙ ap₂ (λ (n : ℕ) (l : List Fed). drop n l) (ap length e) both ∙ drop-append_seam fs gs

none_first : {caps : PrivateCapabilities} {s s' : State} {r r₁ r' : Runs} {c : Call} {cs : List Call} (a : Answer) (d : Did caps s r c a r₁) → a.outcome ≡ Done
    → (R : Ran caps a.state r₁ cs s' r') → NoneRefused (answers R)
    → NoneRefused (answers (then a d R))
unfolding answers
none_first a d e R N = (ap is_done e, N)

-- ---- one run
pub later-pass-of-run : LaterPassOfRun
later-pass-of-run caps earlier after d label set body s₀ s₁ s₂ s₃ r₀ r r₁ p r₂ r₃ a x I S L D e E D' e' B N A =
    subst (Finds (own caps c body)) (sym (λ j. added (from j) (to j) (whole j)))
    (pass-from caps (rooms_of r) a.state G.right earlier after d label set body I S L
    (subst NoneRefused (answered caps G E (then x D' B)) (none_first x D' e' B N)))
  where
    c : Call
    c = begin_render_pass d label set

    G : Begun caps r a
    G = begun-run caps s₀ r₀ r a D e

    from : commands_of x.state p ≡ (record_calls caps (rooms_of r) (beginning a.state) (earlier ++ c ∷ [])).list
    from = list_of caps G (ran_both E (then x D' done))

    to : commands_of s₂ r₂ ≡ (record_calls caps (rooms_of r) (beginning a.state) (earlier ++ c ∷ body)).list
    to = list_of caps G (ran_both E (then x D' B))

    whole : commands_of s₃ r₃ ≡ (record_calls caps (rooms_of r) (beginning a.state) (earlier ++ c ∷ body ++ after)).list
    whole = list_of caps G (ran_both (ran_both E (then x D' B)) A)

-- ---- two
pub later-passes-of-run : LaterPassesOfRun
later-passes-of-run caps earlier earlier' after after' d label set body s₀ s₁ s₂ s₃ t₀ t₁ t₂ t₃ r₀ r r₁ p r₂ r₃ q₀ q q₁ o q₂ q₃ a x b y I S L L' D e E n D' e' B N A k F f E' n' F' f' B' N' A' k' =
    find-same (own caps (begin_render_pass d label set) body) (added (commands_of x.state p) (commands_of s₂ r₂) (commands_of s₃ r₃))
    (added (commands_of y.state o) (commands_of t₂ q₂) (commands_of t₃ q₃))
    (later-pass-of-run caps earlier after d label set body s₀ s₁ s₂ s₃ r₀ r r₁ p r₂ r₃ a x I S L D e E D' e' B N A)
    (later-pass-of-run caps earlier' after' d label set body t₀ t₁ t₂ t₃ q₀ q q₁ o q₂ q₃ b y I S L' F f E' F' f' B' N' A')
