-- The calls of a pass, none refused, whatever stood before it: each of its draws finds what the pass's own book names, wherever the pass has set it. Assumes nothing.
use mathlib.Core.Path.{◌≡◌, refl, sym, ap, ◌∙◌, subst}
use mathlib.Core.Bool.{Bool, true, false, cond}
use mathlib.Core.List.{List, [], ◌∷◌, ◌++◌, append_assoc, append-nil}
use Rattle.std.specs.Prelude.{Option}
use lib.ListN.{length}
use Rattle.records.specs.declared.check.Rooms.{Rooms}
use Rattle.records.specs.declared.command.Command.{Command}
use Rattle.records.specs.declared.pass.RenderPassDescriptor.{RenderPassDescriptor}
use Rattle.records.specs.declared.pipeline.PrivateCapabilities.{PrivateCapabilities}
use Rattle.records.specs.declared.pipeline.RenderPipeline.{RenderPipeline}
use Rattle.records.specs.declared.state.Phase.TheVariants.{Render}
use Rattle.pass.specs.Marks.{Lent, Label}
use Rattle.calls.specs.Call.{Call, begin_render_pass}
use Rattle.calls.specs.Parts.{with_progress}
use Rattle.calls.specs.Step.{meaning, progress_after, step}
use Rattle.machine.proofs.Lists.{false-true}
use Rattle.machine.proofs.Sweep.{play-append}
use Rattle.machine.specs.View.{View, first}
use Rattle.machine.specs.Machine.{Gl, Shot, Machine, fresh_gl, fresh, play}
use Rattle.machine.specs.Found.{view_of}
use Rattle.lists.specs.Shots.{noting}
use Rattle.book.specs.Book.{Entered, Book, empty, enter, book_of}
use Rattle.book.specs.Run.{Recording, record_call, record_calls, fed}
use Rattle.order.proofs.Invariant.{Agree, Tied}
use Rattle.later_passes.specs.Pass.{Role, starts, ends, bounds, blends, draws, sets, role_of, Inside, goes_on, OneList, blended, Sets, SetsAll, taken, own}
use Rattle.later_passes.specs.Alike.{Alike, Finds, FindSame}
use Rattle.later_passes.specs.Claim.{added, NoneRefused}
use Rattle.later_passes.proofs.Phases.{within, Within, all-within}
use Rattle.later_passes.proofs.Grows.{Grown, grown, goes_on_lem, grow-on}
use Rattle.later_passes.proofs.Earlier.{past, Held, stepped, reopen, reopened}
use Rattle.later_passes.proofs.Covers.{Logs, Covers, pass-call}
use Rattle.later_passes.proofs.Whole.{first-noted, settings-same, added_is}

within_on : (k : Role) → within k ≡ true → goes_on k ≡ true
within_on starts h = h
within_on ends h = refl
within_on bounds h = refl
within_on blends h = refl
within_on (draws n) h = refl
within_on sets h = refl

-- what the calls of a pass leave: the list grown, its draws noted by a machine that notes draws, and in a book beside the pass's own
pub record Passed (caps : PrivateCapabilities) (r : Recording) (m : Machine) (ds : List Entered) (r' : Recording) : Type 0 where
  pub counted : length r'.list ≡ r'.state.progress.commands
  pub rest : List Command
  pub is : r'.list ≡ r.list ++ rest
  pub entries : List Entered
  pub agrees : Agree caps (play m rest).shots entries
  pub logs : Logs ds entries
  pub stage : (play m rest).stage ≡ first

in-pass : (caps : PrivateCapabilities) (rooms : Rooms) (r : Recording) (m : Machine) (t : Bool) (o b : Book)
    → length r.list ≡ r.state.progress.commands → Tied caps r.state m b → Covers t o b → o.stage ≡ first
    → (cs : List Call) → Within cs → NoneRefused (fed caps rooms r.state cs) → Sets caps t o cs → Passed caps r m (book_of caps o (taken cs)).draws (record_calls caps rooms r cs)
unfolding record_calls fed Sets book_of
in-pass caps rooms r m t o b n T O f [] I N S =
    record { counted = n; rest = []; is = sym (append-nil r.list); entries = b.draws; agrees = T.log; logs = O.log; stage = T.stage ∙ sym O.stage ∙ f }
in-pass caps rooms r m t o b n T O f (c ∷ cs) I N S =
    let P = pass-call caps t o b O c I.0 S.0 in
    let g = goes_on_lem caps r.state c (within_on (role_of c) I.0) in
    let G = grown caps rooms r c n g.0 in
    let xs : List Command = (step caps rooms r.state c).commands in
    let X = in-pass caps rooms (record_call caps rooms r c) (play m xs) (blended t (role_of c)) (enter caps o c) (enter caps b c) G.counted
    (stepped caps rooms r.state m b c T N.0 (g.1 m) P.0) P.1 (P.2 ∙ f) cs I.1 N.1 S.1 in
    record {
      counted = X.counted;
      rest = xs ++ X.rest;
      is = X.is ∙ ap (λ (l : List Command). l ++ X.rest) G.list ∙ append_assoc r.list xs X.rest;
      entries = X.entries;
      agrees = subst (λ (k : Machine). Agree caps k.shots X.entries) (sym (play-append m xs X.rest)) X.agrees;
      logs = X.logs;
      stage = ap (λ (k : Machine). k.stage) (play-append m xs X.rest) ∙ X.stage;
    }

-- ---- the whole pass, from its beginning
covers-start : (caps : PrivateCapabilities) (d : RenderPassDescriptor) (label : Label) (set : Lent) (b : Book)
    → Covers false (enter caps empty (begin_render_pass d label set)) (reopen (enter caps b (begin_render_pass d label set)))
covers-start caps d label set b =
    record {
      stage = refl;
      pipeline = refl;
      reference = refl;
      buffer = refl;
      index = λ h. false-true h;
      bound = record { buffers = λ t i h. false-true h; textures = λ i h. false-true h; images = λ i h. false-true h; samplers = λ k h. absurd (h refl) };
      viewport = refl;
      scissor = refl;
      blend = λ h. false-true h;
      log = tt;
    }

pub whole-pass : (caps : PrivateCapabilities) (rooms : Rooms) (r : Recording) → Held caps r → (d : RenderPassDescriptor) (label : Label) (set : Lent) (body : List Call)
    → Inside body → SetsAll caps (begin_render_pass d label set) body → NoneRefused (fed caps rooms r.state (begin_render_pass d label set ∷ body))
    → Passed caps (record_call caps rooms r (begin_render_pass d label set))
    (noting (play fresh (record_call caps rooms r (begin_render_pass d label set)).list).gl) (own caps (begin_render_pass d label set) body)
    (record_calls caps rooms r (begin_render_pass d label set ∷ body))
unfolding record_calls fed
whole-pass caps rooms r H d label set body I S N =
    in-pass caps rooms r₁ (noting g) false (enter caps empty c) (reopen (enter caps H.book c)) G.counted there (covers-start caps d label set H.book) refl body
    (all-within caps rooms r₁.state body opened I N.1) N.1 S
  where
    c : Call
    c = begin_render_pass d label set

    r₁ : Recording
    r₁ = record_call caps rooms r c

    opened : r₁.state.progress.phase ≡ Render
    opened = ap (λ (t : Bool). (cond t (with_progress (progress_after (meaning caps r.state c)) (meaning caps r.state c).after) r.state).progress.phase) N.0

    g : Gl
    g = (play fresh r₁.list).gl

    G : Grown caps rooms r c
    G = grown caps rooms r c H.counted refl

    M : Machine
    M = play (past fresh_gl) r.list

    begun : Tied caps r₁.state (play M (step caps rooms r.state c).commands) (enter caps H.book c)
    begun = stepped caps rooms r.state M H.book c H.tied N.0 refl tt

    settings : (play M (step caps rooms r.state c).commands).gl ≡ g
    settings =
        ap (λ (m : Machine). m.gl) (sym (play-append (past fresh_gl) r.list (step caps rooms r.state c).commands))
        ∙ ap (λ (l : List Command). (play (past fresh_gl) l).gl) (sym G.list)
        ∙ settings-same r₁.list (past fresh_gl) fresh refl

    there : Tied caps r₁.state (noting g) (reopen (enter caps H.book c))
    there =
        subst (λ (x : Gl). Tied caps r₁.state (noting x) (reopen (enter caps H.book c))) settings
        (reopened caps r₁.state (play M (step caps rooms r.state c).commands) (enter caps H.book c) begun)

-- ---- what its draws find
found-each : (caps : PrivateCapabilities) (ds es : List Entered) (xs : List Shot) → Logs ds es → Agree caps xs es → Finds ds xs
found-each caps [] [] [] L a = tt
found-each caps [] [] (x ∷ xs) L a = absurd a
found-each caps [] (e ∷ es) xs L a = absurd L
found-each caps (d ∷ ds) [] xs L a = absurd L
found-each caps (d ∷ ds) (e ∷ es) [] L a = absurd a
found-each caps (d ∷ ds) (e ∷ es) (x ∷ xs) L a =
    (subst (λ (v : View). Alike d.pipeline d.view d.view v) (sym a.0.0 ∙ ap (λ (p : Option RenderPipeline). view_of p x) (sym L.0.0)) L.0.1, found-each caps ds es xs L.1 a.1)

-- a pass, and calls after it that go on with the list
pub pass-finds : (caps : PrivateCapabilities) (rooms : Rooms) (r : Recording) → Held caps r → (d : RenderPassDescriptor) (label : Label) (set : Lent) (body after : List Call)
    → Inside body → SetsAll caps (begin_render_pass d label set) body → OneList after → NoneRefused (fed caps rooms r.state (begin_render_pass d label set ∷ body))
    → Finds (own caps (begin_render_pass d label set) body)
    (added (record_call caps rooms r (begin_render_pass d label set)).list (record_calls caps rooms r (begin_render_pass d label set ∷ body)).list
    (record_calls caps rooms (record_calls caps rooms r (begin_render_pass d label set ∷ body)) after).list)
pass-finds caps rooms r H d label set body after I S L N =
    let r₁ : Recording = record_call caps rooms r (begin_render_pass d label set) in
    let r₂ : Recording = record_calls caps rooms r (begin_render_pass d label set ∷ body) in
    let r₃ : Recording = record_calls caps rooms r₂ after in
    let P = whole-pass caps rooms r H d label set body I S N in
    let A = grow-on caps rooms r₂ after P.counted L in
    let g : Gl = (play fresh r₁.list).gl in
    subst (Finds (own caps (begin_render_pass d label set) body))
    (first-noted P.rest (noting g) refl P.stage ∙ sym (added_is r₁.list r₂.list r₃.list P.rest A.rest P.is A.is))
    (found-each caps (own caps (begin_render_pass d label set) body) P.entries (play (noting g) P.rest).shots P.logs P.agrees)

-- ---- two recordings
alike_both : (p : Option RenderPipeline) (o v w : View) → Alike p o o v → Alike p o o w → Alike p o v w
alike_both p o v w a b =
    record {
      command = sym a.command ∙ b.command;
      program = sym a.program ∙ b.program;
      fetches = sym a.fetches ∙ b.fetches;
      viewport = sym a.viewport ∙ b.viewport;
      scissor = sym a.scissor ∙ b.scissor;
      blend = sym a.blend ∙ b.blend;
      primitive = sym a.primitive ∙ b.primitive;
      bias = sym a.bias ∙ b.bias;
      alpha = sym a.alpha ∙ b.alpha;
      targets = sym a.targets ∙ b.targets;
      clip = sym a.clip ∙ b.clip;
      has_depth = sym a.has_depth ∙ b.has_depth;
      has_stencil = sym a.has_stencil ∙ b.has_stencil;
      depth = sym a.depth ∙ b.depth;
      stencil = sym a.stencil ∙ b.stencil;
      index = sym a.index ∙ b.index;
      buffers = λ t i h. sym (a.buffers t i h) ∙ b.buffers t i h;
      textures = λ i h. sym (a.textures i h) ∙ b.textures i h;
      images = λ i h. sym (a.images i h) ∙ b.images i h;
      samplers = λ u l h. sym (a.samplers u l h) ∙ b.samplers u l h;
    }

pub find-same : (ds : List Entered) (xs ys : List Shot) → Finds ds xs → Finds ds ys → FindSame ds xs ys
find-same [] [] [] a b = tt
find-same [] [] (y ∷ ys) a b = b
find-same [] (x ∷ xs) ys a b = a
find-same (d ∷ ds) [] ys a b = a
find-same (d ∷ ds) (x ∷ xs) [] a b = b
find-same (d ∷ ds) (x ∷ xs) (y ∷ ys) a b = (alike_both d.pipeline d.view (view_of d.pipeline x) (view_of d.pipeline y) a.0 b.0, find-same ds xs ys a.1 b.1)
