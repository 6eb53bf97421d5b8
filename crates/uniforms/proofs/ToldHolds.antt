-- Every uniform of every program holds what the accepted calls alone tell (Told.antt), and once sent each descriptor's holds the present words. Assumes nothing.
-- By the list with the Rust's overlap test: it leaves the same uniforms (Theorem.antt), and it loads every descriptor, as the calls tell.
use Prim.Native.Nat.{ℕ, zero, suc, ◌+◌, ◌-◌, ◌*◌, ◌/◌, ◌%◌, ◌^◌, ◌≤◌, ◌<◌}
use mathlib.Core.Path.{◌≡◌, refl, sym, ap, ap₂, ◌∙◌, subst}
use mathlib.Core.Bool.{Bool, true, false, cond, not, ◌&&◌}
use mathlib.Core.List.{List, [], ◌∷◌, ◌++◌}
use mathlib.Core.Logic.{inl, inr}
use Rattle.std.specs.Prelude.{Option, None, Some}
use native.Mathlib.Omega.{arith}
use lib.Dec.{ltb, eqb}
use lib.ListN.{take, drop, length, get_or, length-drop, get_or-append, get_or-replicate}
use lib.Seq.{length-take-le, get_or-take, get_or-drop, get_or-append-add, ext_get_or}
use borrow.Author.Tests.{ltb-true, ltb-false, eqb-true}
use Rattle.tables.specs.Tabulate.{tabulate, upd, long, at_place, alike}
use Rattle.records.specs.Check.{some?, bad_descriptor}
use Rattle.records.specs.Outcome.{accepted}
use Rattle.records.specs.Start.{start_immediates}
use Rattle.records.specs.declared.check.Rooms.{Rooms}
use Rattle.records.specs.declared.command.ImmediateDesc.{ImmediateDesc}
use Rattle.records.specs.declared.outcome.Outcome.TheVariants.{Done}
use Rattle.records.specs.declared.pipeline.PrivateCapabilities.{PrivateCapabilities}
use Rattle.records.specs.declared.state.Answer.{Answer}
use Rattle.records.specs.declared.state.ImmediateState.{ImmediateState}
use Rattle.records.specs.declared.state.State.{State}
use Rattle.bindings.specs.Immediates.{overwritten, descriptors_of, words_of, immediates_state, immediates_out_of_range}
use Rattle.bindings.specs.Placed.{Good, good-cons}
use Rattle.numbers.specs.Bytes.{bytes_of}
use Rattle.pass.specs.Marks.{Lent, counted, over_run}
use Rattle.calls.specs.Call.{Call, begin_encoding}
use Rattle.calls.specs.Did.{Runs, rooms_of, Did}
use Rattle.calls.specs.Meaning.{Meaning}
use Rattle.calls.specs.Parts.{with_progress}
use Rattle.calls.specs.Step.{set_immediates_meaning, meaning, progress_after, step}
use Rattle.order.proofs.Accepted.{in-range}
use Rattle.order.proofs.OfRun.{answers-are, ran-begun, Begun, begun-run}
use Rattle.machine.specs.Each.{Each}
use Rattle.machine.proofs.Lists.{or_right}
use Rattle.book.specs.Book.{Fed}
use Rattle.book.specs.Ran.{Ran, answers, recording_of}
use Rattle.book.specs.Run.{carried, Recording, beginning, record_call, record_calls, fed}
use Rattle.uniforms.specs.Uniforms.{Value, Uniforms, Machine, load, held, play}
use Rattle.uniforms.specs.Kind.{Kind, begins, pipes, writes, other, kind_of, Apartness}
use Rattle.uniforms.specs.Rust.{Lists, counting, rust_appends, rust_call, rust_lists, no_lists}
use Rattle.uniforms.specs.Since.{wrote_since}
use Rattle.uniforms.specs.Told.{Told, untold, word_after, byte_of, value_told, loaded_at, current, tell, told}
use Rattle.uniforms.specs.Claim.{held_after, UniformsToldOfRun, UniformsHoldOfRun}
use Rattle.uniforms.proofs.Words.{old-words}
use Rattle.uniforms.proofs.Loads.{value_of, loaded, loaded-none}
use Rattle.uniforms.proofs.Plays.{in_use}
use Rattle.uniforms.proofs.Quiet.{acts-quiet}
use Rattle.uniforms.proofs.Means.{Means, means, begun-state}
use Rattle.uniforms.proofs.Kept.{loaded_by, new-long}
use Rattle.uniforms.proofs.Appended.{held_by, extended, appends, After, sending, after-acts, after-sent, after-begins}
use Rattle.uniforms.proofs.Theorem.{Tied, rust-sound, rust-all, lent-enough, over, lists_of, one-call, all-calls}
use Rattle.uniforms.proofs.RanUniforms.{tied-begun, flag-of-run}

-- ---- words
-- a word that is written
new_word : (l ws : List ℕ) (at k : ℕ) → at + length ws ≤ length l → at ≤ k → k < at + length ws → get_or (overwritten l at ws) k 0 ≡ get_or ws (k - at) 0
new_word l ws at k h a b =
    ap (λ (n : ℕ). get_or (overwritten l at ws) n 0) here
    ∙ get_or-append-add (take at l) (ws ++ drop (at + length ws) l) (k - at) 0
    ∙ get_or-append ws (drop (at + length ws) l) 0 (k - at) (omega arith)
  where
    size : length (take at l) ≡ at
    size = length-take-le at l (omega arith)

    here : k ≡ length (take at l) + (k - at)
    here = omega (arith, size)

word-told : (l ws : List ℕ) (f : ℕ → ℕ) (at k : ℕ) → at + length ws ≤ length l → get_or l k 0 ≡ f k → get_or (overwritten l at ws) k 0 ≡ word_after f at ws k
word-told l ws f at k h e = go (ltb k at) (ltb k (at + length ws)) refl refl
  where
    go : (a b : Bool) → ltb k at ≡ a → ltb k (at + length ws) ≡ b → get_or (overwritten l at ws) k 0 ≡ cond (not a && b) (get_or ws (k - at) 0) (f k)
    go true b p q = old-words l ws at k h (inl (ltb-true k at p)) ∙ e
    go false true p q = new_word l ws at k h (ltb-false k at p) (ltb-true k (at + length ws) q)
    go false false p q = old-words l ws at k h (inr (ltb-false k (at + length ws) q)) ∙ e

-- ---- values
-- the bytes of words by their place
bytes-told : (n : ℕ) (g : ℕ → ℕ) → bytes_of (tabulate n g) ≡ tabulate (n * 4) (λ b. g (b / 4) / 2 ^ (8 * (b % 4)) % 256)
unfolding bytes_of tabulate
bytes-told zero g = refl
bytes-told (suc n) g =
    ap₂ (λ (b : ℕ) (bs : List ℕ). b ∷ (g 0 / 2 ^ 8 % 256) ∷ (g 0 / 2 ^ 16 % 256) ∷ (g 0 / 2 ^ 24 % 256) ∷ bs) lowest
    (bytes-told n (λ i. g (suc i)) ∙ alike (n * 4) _ (λ i. byte (suc (suc (suc (suc i))))) next)
    ∙ ap (λ (k : ℕ). tabulate k byte) four
  where
    byte : ℕ → ℕ
    byte b = g (b / 4) / 2 ^ (8 * (b % 4)) % 256

    lowest : g 0 % 256 ≡ g 0 / 2 ^ 0 % 256
    lowest = omega arith

    next : (i : ℕ) → i < n * 4 → g (suc (i / 4)) / 2 ^ (8 * (i % 4)) % 256 ≡ byte (suc (suc (suc (suc i))))
    next i h = ap₂ (λ (q m : ℕ). g q / 2 ^ (8 * m) % 256) (omega arith) (omega arith)

    four : suc (suc (suc (suc (n * 4)))) ≡ suc n * 4
    four = omega arith

value-told : (w : List ℕ) (f : ℕ → ℕ) (d : ImmediateDesc) → length w ≡ 64 → Good d → ((k : ℕ) → k < 64 → get_or w k 0 ≡ f k) → value_of w d ≡ value_told f d
value-told w f d e g h = ap (λ (x : List ℕ). record { ty = d.ty; bytes = x }) (ap bytes_of words ∙ bytes-told size (λ j. f (first + j)) ∙ ap (λ (n : ℕ). tabulate n (byte_of f first)) all)
  where
    first : ℕ
    first = d.offset / 4

    size : ℕ
    size = d.size_bytes / 4

    all : size * 4 ≡ d.size_bytes
    all = let v = g.whole in omega arith

    within : first + size ≤ 64
    within = let v₁ = g.first in let v₂ = g.whole in let v₃ = g.ends in omega arith

    size_of : length (words_of w d) ≡ size
    size_of = length-take-le size (drop first w) (subst (λ (n : ℕ). size ≤ n) (sym (length-drop first w)) (omega (arith, e)))

    at : (i : ℕ) → i < size → get_or (words_of w d) i 0 ≡ get_or (tabulate size (λ j. f (first + j))) i 0
    at i l = get_or-take size (drop first w) i 0 l ∙ get_or-drop first w i 0 ∙ h (first + i) (omega arith) ∙ sym (at_place size (λ j. f (first + j)) i 0 l)

    words : words_of w d ≡ tabulate size (λ j. f (first + j))
    words = ext_get_or 0 (words_of w d) (tabulate size (λ j. f (first + j))) (size_of ∙ sym (long size (λ j. f (first + j)))) (λ i l. at i (subst (λ (n : ℕ). i < n) size_of l))

-- ---- what a list of loads leaves, location by location
module _ (w : List ℕ) (f : ℕ → ℕ) (e : length w ≡ 64) (h : (k : ℕ) → k < 64 → get_or w k 0 ≡ f k) where
  loads-some : (p : ℕ) (ds : List ImmediateDesc) (u : Uniforms) → some? bad_descriptor ds ≡ false → (q l : ℕ)
      → loaded (Some p) w ds u q l ≡ cond (eqb q p) (loaded_at f ds l (u q l)) (u q l)
  loads-some p [] u g q l = go (eqb q p)
    where
      go : (t : Bool) → u q l ≡ cond t (u q l) (u q l)
      go true = refl
      go false = refl
  loads-some p (d ∷ ds) u g q l = loads-some p ds (load (Some p) d.location (value_of w d) u) v.1 q l ∙ go (eqb q p) refl
    where
      v : Good d × (some? bad_descriptor ds ≡ false)
      v = good-cons d ds g

      go : (t : Bool) → eqb q p ≡ t
          → cond t (loaded_at f ds l (cond t (upd (u p) d.location (Some (value_of w d))) (u q) l)) (cond t (upd (u p) d.location (Some (value_of w d))) (u q) l)
          ≡ cond t (loaded_at f ds l (cond (eqb l d.location) (Some (value_told f d)) (u q l))) (u q l)
      go true a =
          ap₂ (λ (x : Value) (y : Option Value). loaded_at f ds l (cond (eqb l d.location) (Some x) y)) (value-told w f d e v.0 h)
          (ap (λ (i : ℕ). u i l) (sym (eqb-true q p a)))
      go false a = refl

  loads-told : (o : Option ℕ) (ds : List ImmediateDesc) (u : Uniforms) → some? bad_descriptor ds ≡ false → (q l : ℕ)
      → loaded o w ds u q l ≡ cond (current o q) (loaded_at f ds l (u q l)) (u q l)
  loads-told None ds u g q l = loaded-none w ds u q l
  loads-told (Some p) ds u g q l = loads-some p ds u g q l

-- ---- the invariant: the state's descriptors and words, and what the machine holds, are told
pub record Tells (i : ImmediateState) (n : Machine) (t : Told) : Type 0 where
  pub descs : descriptors_of i ≡ t.descs
  pub words : (k : ℕ) → k < 64 → get_or i.words k 0 ≡ t.word k
  pub program : n.program ≡ t.program
  pub uniform : (p l : ℕ) → n.uniform p l ≡ t.uniform p l

by-writes : (s : State) (o r : Lists) (t : Told) (offset : ℕ) (ws : Lent) → Tied s o r → Tells s.immediates (held_by r) t
    → immediates_out_of_range offset ws.count ≡ false → over_run ws ≡ false
    → let n = set_immediates_meaning (counting r s) offset ws in
    Tells (immediates_state s.immediates offset (counted ws)) (held_by (extended r n (rust_appends (writes offset ws) (counting r s) n))) (tell (writes offset ws) t)
by-writes s o r t offset ws T U range room =
    record {
      descs = U.descs;
      words = words;
      program = ap (λ (x : Machine). x.program) A.does ∙ U.program;
      uniform = λ p l. ap (λ (x : Machine). x.uniform p l) A.does ∙ loads-told w f size words (held_by r).program (descriptors_of i) (held_by r).uniform T.kept.good p l
          ∙ λ j. cond (current (U.program j) p) (loaded_at f (U.descs j) l (U.uniform p l j)) (U.uniform p l j);
    }
  where
    i : ImmediateState
    i = s.immediates

    n : Meaning
    n = set_immediates_meaning (counting r s) offset ws

    first : ℕ
    first = offset / 4

    w : List ℕ
    w = overwritten i.words first (counted ws)

    f : ℕ → ℕ
    f = word_after t.word first (counted ws)

    all : length (counted ws) ≡ ws.count
    all = length-take-le ws.count ws.run (ltb-false (length ws.run) ws.count room)

    fit : first + length (counted ws) ≤ 64
    fit = subst (λ (k : ℕ). first + k ≤ 64) (sym all) (ltb-false 64 (first + ws.count) (or_right (not (eqb (offset % 4) 0)) (ltb 64 (first + ws.count)) range))

    fits : first + length (counted ws) ≤ length i.words
    fits = subst (λ (k : ℕ). first + length (counted ws) ≤ k) (sym T.kept.long) fit

    size : length w ≡ 64
    size = new-long i (held_by o) (held_by r) T.kept first (counted ws) fit

    words : (k : ℕ) → k < 64 → get_or w k 0 ≡ f k
    words k l = word-told i.words (counted ws) t.word first k fits (U.words k l)

    A : After r (extended r n (rust_appends (writes offset ws) (counting r s) n)) (loaded_by w (descriptors_of i))
    A =
        subst (λ (l : List ImmediateDesc). After r (extended r n (sending w l (length r.bytes))) (loaded_by w (descriptors_of i))) (sym (rust-all s offset ws.count))
        (after-sent (counting r s) r n w (descriptors_of i) (rust-sound s o r T) refl size T.kept.good)

by_kind : (k : Kind) (s : State) (o r : Lists) (t : Told) (m n : Meaning) → Tied s o r → Tells s.immediates (held_by r) t → Means k s m → Means k (counting r s) n
    → m.asks.range ≡ false → m.asks.room ≡ false → Tells m.after.immediates (held_by (extended r n (rust_appends k (counting r s) n))) (tell k t)
by_kind begins s o r t m n T U M N range room =
    subst (λ (x : ImmediateState). Tells x (held_by (extended r n (appends n))) untold) (sym M.immediates)
    (record {
      descs = refl;
      words = λ k l. get_or-replicate 64 k 0 0 l;
      program = ap (λ (x : Machine). x.program) (after-begins r n N).does;
      uniform = λ p l. ap (λ (x : Machine). x.uniform p l) (after-begins r n N).does;
    })
by_kind (pipes p) s o r t m n T U M N range room =
    let does = (after-acts (counting r s) r n (appends n) (in_use p.program) (rust-sound s o r T) N.progress N.acts).does in
    subst (λ (x : ImmediateState). Tells x (held_by (extended r n (appends n))) (tell (pipes p) t)) (sym M.immediates)
    (record {
      descs = refl;
      words = U.words;
      program = ap (λ (x : Machine). x.program) does;
      uniform = λ q l. ap (λ (x : Machine). x.uniform q l) does ∙ U.uniform q l;
    })
by_kind (writes offset ws) s o r t m n T U M N range room =
    subst (λ (x : Meaning). Tells x.after.immediates (held_by (extended r n (rust_appends (writes offset ws) (counting r s) n))) (tell (writes offset ws) t)) (sym M)
    (subst (λ (x : Meaning). Tells (immediates_state s.immediates offset (counted ws)) (held_by (extended r x (rust_appends (writes offset ws) (counting r s) x))) (tell (writes offset ws) t)) (sym N)
    (by-writes s o r t offset ws T U (subst (λ (x : Meaning). x.asks.range ≡ false) M range) (subst (λ (x : Meaning). x.asks.room ≡ false) M room)))
by_kind other s o r t m n T U M N range room =
    let does = (after-acts (counting r s) r n (appends n) (λ x. x) (rust-sound s o r T) N.progress (acts-quiet N.quiet)).does in
    subst (λ (x : ImmediateState). Tells x (held_by (extended r n (appends n))) t) (sym M.immediates)
    (record {
      descs = U.descs;
      words = U.words;
      program = ap (λ (x : Machine). x.program) does ∙ U.program;
      uniform = λ q l. ap (λ (x : Machine). x.uniform q l) does ∙ U.uniform q l;
    })

one_told : (caps : PrivateCapabilities) (rooms : Rooms) (s : State) (o r : Lists) (t : Told) (c : Call) → Tied s o r → Tells s.immediates (held_by r) t
    → Tells (step caps rooms s c).state.immediates (held_by (cond (carried caps rooms s c) (rust_call caps s r c) r)) (cond (carried caps rooms s c) (tell (kind_of c) t) t)
one_told caps rooms s o r t c T U = go (carried caps rooms s c) refl
  where
    m : Meaning
    m = meaning caps s c

    go : (b : Bool) → carried caps rooms s c ≡ b
        → Tells (cond b (with_progress (progress_after m) m.after) s).immediates (held_by (cond b (rust_call caps s r c) r)) (cond b (tell (kind_of c) t) t)
    go true e = by_kind (kind_of c) s o r t m (meaning caps (counting r s) c) T U (means caps s c) (means caps (counting r s) c) (in-range rooms s m e) (lent-enough rooms s m e)
    go false e = U

all_told : (caps : PrivateCapabilities) (rooms : Rooms) (s : State) (o r : Lists) (q : List ℕ) (t : Told) (cs : List Call) → Tied s o r → Tells s.immediates (held_by r) t
    → Apartness (fed caps rooms s cs) → Tells (record_calls caps rooms (over s o q) cs).state.immediates (held_by (rust_lists caps rooms s r cs)) (told t (fed caps rooms s cs))
unfolding record_calls rust_lists fed told Apartness
all_told caps rooms s o r q t [] T U P = U
all_told caps rooms s o r q t (c ∷ cs) T U P =
    let x = record_call caps rooms (over s o q) c in
    all_told caps rooms x.state (lists_of x) (cond (carried caps rooms s c) (rust_call caps s r c) r) x.queries (cond (carried caps rooms s c) (tell (kind_of c) t) t) cs
    (one-call caps rooms s o r q c T P.0) (one_told caps rooms s o r t c T U) P.1

begins-told : (i : ImmediateState) → i ≡ start_immediates → Tells i (held_by no_lists) untold
unfolding play
begins-told i e =
    subst (λ (x : ImmediateState). Tells x (held_by no_lists) untold) (sym e)
    (record { descs = refl; words = λ k l. get_or-replicate 64 k 0 0 l; program = refl; uniform = λ p l. refl })

-- ---- of a run
module _ (caps : PrivateCapabilities) (s₀ s' : State) (r₀ r r' : Runs) (a : Answer) (calls : List Call)
    (d : Did caps s₀ r₀ begin_encoding a r) (e : a.outcome ≡ Done) (R : Ran caps a.state r calls s' r') (P : Apartness (answers R)) where
  B : Begun caps r a
  B = begun-run caps s₀ r₀ r a d e

  fs : answers R ≡ fed caps (rooms_of r) a.state calls
  fs = answers-are caps R B.within

  P' : Apartness (fed caps (rooms_of r) a.state calls)
  P' = subst Apartness fs P

  abbrev x : Recording
  x = record_calls caps (rooms_of r) (beginning a.state) calls

  abbrev y : Lists
  y = rust_lists caps (rooms_of r) a.state no_lists calls

  T : Tied x.state (lists_of x) y
  T = all-calls caps (rooms_of r) a.state no_lists no_lists [] calls (tied-begun caps s₀ r₀ r a d e) P'

  fresh-state : a.state.immediates ≡ start_immediates
  fresh-state = ap (λ (s : State). s.immediates) (d.state ∙ begun-state caps (rooms_of r₀) s₀ (ap accepted (sym d.outcome ∙ e)))

  U : Tells x.state.immediates (held_by y) (told untold (answers R))
  U =
      subst (λ (l : List Fed). Tells x.state.immediates (held_by y) (told untold l)) (sym fs)
      (all_told caps (rooms_of r) a.state no_lists no_lists [] untold calls (tied-begun caps s₀ r₀ r a d e) (begins-told a.state.immediates fresh-state) P')

  recorded : recording_of s' r' ≡ x
  recorded = ran-begun caps B R

  programs : (held_after s' r').program ≡ (told untold (answers R)).program
  programs = ap (λ (z : Recording). (held z.bytes z.list).program) recorded ∙ T.kept.program ∙ U.program

  uniforms : (p l : ℕ) → (held_after s' r').uniform p l ≡ (told untold (answers R)).uniform p l
  uniforms p l = ap (λ (z : Recording). (held z.bytes z.list).uniform p l) recorded ∙ T.kept.same p l ∙ U.uniform p l

  -- of the descriptors that the state holds
  holding : wrote_since (answers R) ≡ true → (p : ℕ) → (told untold (answers R)).program ≡ Some p
      → Each (λ (z : ImmediateDesc). (held_by y).uniform p z.location ≡ Some (value_of x.state.immediates.words z)) (told untold (answers R)).descs
  holding w p q =
      subst (Each (λ (z : ImmediateDesc). (held_by y).uniform p z.location ≡ Some (value_of x.state.immediates.words z))) U.descs
      (T.kept.sent (ap (λ (z : Recording). z.state.immediates.sent) (sym recorded) ∙ flag-of-run caps s₀ s' r₀ r r' a calls d e R ∙ w) p (U.program ∙ q))

  good : some? bad_descriptor (told untold (answers R)).descs ≡ false
  good = subst (λ (l : List ImmediateDesc). some? bad_descriptor l ≡ false) U.descs T.kept.good

  present : (p : ℕ) (ds : List ImmediateDesc) → some? bad_descriptor ds ≡ false
      → Each (λ (z : ImmediateDesc). (held_by y).uniform p z.location ≡ Some (value_of x.state.immediates.words z)) ds
      → Each (λ (z : ImmediateDesc). (held_after s' r').uniform p z.location ≡ Some (value_told (told untold (answers R)).word z)) ds
  present p [] g h = tt
  present p (z ∷ ds) g h = (
    uniforms p z.location
        ∙ sym (U.uniform p z.location)
        ∙ h.0
        ∙ ap Some (value-told x.state.immediates.words (told untold (answers R)).word z T.kept.long (good-cons z ds g).0 U.words),
    present p ds (good-cons z ds g).1 h.1,
  )

-- THE THEOREM: what the list of the functions leaves in each uniform is what their accepted calls alone tell
pub uniforms-told-of-run : UniformsToldOfRun
uniforms-told-of-run caps s₀ s' r₀ r r' a calls d e R P = (programs caps s₀ s' r₀ r r' a calls d e R P, uniforms caps s₀ s' r₀ r r' a calls d e R P)

pub uniforms-hold-of-run : UniformsHoldOfRun
uniforms-hold-of-run caps s₀ s' r₀ r r' a calls d e R P w p q =
    present caps s₀ s' r₀ r r' a calls d e R P p (told untold (answers R)).descs (good caps s₀ s' r₀ r r' a calls d e R P) (holding caps s₀ s' r₀ r r' a calls d e R P w p q)
