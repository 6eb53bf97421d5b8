-- LATER PASSES (document 02 §13): two recordings on one board that agree on a render pass, whatever stands before it and after it: its draws find the same in both, each list played whole
-- from a fresh machine, wherever the pass has set it. No premise but the request's. Assumes nothing.
use mathlib.Core.Path.{◌≡◌, refl, sym, ap, ◌∙◌, subst}
use mathlib.Core.List.{List, [], ◌∷◌, ◌++◌, append_assoc}
use Rattle.records.specs.declared.check.Rooms.{Rooms}
use Rattle.records.specs.declared.command.Command.{Command}
use Rattle.records.specs.declared.pass.RenderPassDescriptor.{RenderPassDescriptor}
use Rattle.records.specs.declared.pipeline.PrivateCapabilities.{PrivateCapabilities}
use Rattle.records.specs.declared.state.State.{State}
use Rattle.pass.specs.Marks.{Lent, Label}
use Rattle.calls.specs.Call.{Call, begin_render_pass}
use Rattle.machine.specs.Machine.{fresh, play}
use Rattle.lists.specs.Shots.{shots_from}
use Rattle.book.specs.Book.{Fed, empty}
use Rattle.book.specs.Run.{carried, Recording, beginning, record_call, record_calls, fed, begun}
use Rattle.order.proofs.Induction.{Right, began}
use Rattle.later_passes.specs.Pass.{Inside, OneList, SetsAll, own}
use Rattle.later_passes.specs.Alike.{Finds}
use Rattle.later_passes.specs.Claim.{added, pass_draws, NoneRefused, LaterPass, LaterPasses, PassStands}
use Rattle.later_passes.proofs.Grows.{Longer, grow-on}
use Rattle.later_passes.proofs.Earlier.{Held, held_start, all_held}
use Rattle.later_passes.proofs.Whole.{added-stands}
use Rattle.later_passes.proofs.InPass.{pass-finds, find-same}

-- ---- lists of calls, one after the other
record-one : (caps : PrivateCapabilities) (rooms : Rooms) (r : Recording) (c : Call) → record_calls caps rooms r (c ∷ []) ≡ record_call caps rooms r c
unfolding record_calls
record-one caps rooms r c = refl

record-both : (caps : PrivateCapabilities) (rooms : Rooms) (r : Recording) (xs ys : List Call) → record_calls caps rooms r (xs ++ ys) ≡ record_calls caps rooms (record_calls caps rooms r xs) ys
unfolding record_calls
record-both caps rooms r [] ys = refl
record-both caps rooms r (c ∷ xs) ys = record-both caps rooms (record_call caps rooms r c) xs ys

pub fed-both : (caps : PrivateCapabilities) (rooms : Rooms) (r : Recording) (xs ys : List Call)
    → fed caps rooms r.state (xs ++ ys) ≡ fed caps rooms r.state xs ++ fed caps rooms (record_calls caps rooms r xs).state ys
unfolding record_calls fed
fed-both caps rooms r [] ys = refl
fed-both caps rooms r (c ∷ xs) ys = ap (λ (l : List Fed). record { call = c; accepted = carried caps rooms r.state c } ∷ l) (fed-both caps rooms (record_call caps rooms r c) xs ys)

each_left : (xs ys : List Fed) → NoneRefused (xs ++ ys) → NoneRefused xs
each_left [] ys h = tt
each_left (x ∷ xs) ys h = (h.0, each_left xs ys h.1)

each_right : (xs ys : List Fed) → NoneRefused (xs ++ ys) → NoneRefused ys
each_right [] ys h = h
each_right (x ∷ xs) ys h = each_right xs ys h.1

-- of a recording's calls, those of the pass
of-pass : (caps : PrivateCapabilities) (rooms : Rooms) (r : Recording) (earlier pass after : List Call) → NoneRefused (fed caps rooms r.state (earlier ++ pass ++ after))
    → NoneRefused (fed caps rooms (record_calls caps rooms r earlier).state pass)
of-pass caps rooms r earlier pass after N =
    each_right (fed caps rooms r.state earlier) (fed caps rooms (record_calls caps rooms r earlier).state pass)
    (subst NoneRefused (fed-both caps rooms r earlier pass)
    (each_left (fed caps rooms r.state (earlier ++ pass)) (fed caps rooms (record_calls caps rooms r (earlier ++ pass)).state after)
    (subst NoneRefused (fed-both caps rooms r (earlier ++ pass) after) N)))

-- ---- one recording, from its beginning
pub pass-from : (caps : PrivateCapabilities) (rooms : Rooms) (s : State) → Right caps (beginning s) empty
    → (earlier after : List Call) (d : RenderPassDescriptor) (label : Label) (set : Lent) (body : List Call)
    → Inside body → SetsAll caps (begin_render_pass d label set) body → OneList after
    → NoneRefused (fed caps rooms (record_calls caps rooms (beginning s) earlier).state (begin_render_pass d label set ∷ body))
    → Finds (own caps (begin_render_pass d label set) body)
    (added (record_calls caps rooms (beginning s) (earlier ++ begin_render_pass d label set ∷ [])).list (record_calls caps rooms (beginning s) (earlier ++ begin_render_pass d label set ∷ body)).list
    (record_calls caps rooms (beginning s) (earlier ++ begin_render_pass d label set ∷ body ++ after)).list)
pass-from caps rooms s R earlier after d label set body I S L N =
    subst (Finds (own caps c body)) (sym (λ j. added (from j) (to j) (whole j)))
    (pass-finds caps rooms r₁ (all_held caps rooms (beginning s) earlier (held_start caps s R)) d label set body after I S L N)
  where
    c : Call
    c = begin_render_pass d label set

    r₁ : Recording
    r₁ = record_calls caps rooms (beginning s) earlier

    r₂ : Recording
    r₂ = record_calls caps rooms r₁ (c ∷ body)

    from : (record_calls caps rooms (beginning s) (earlier ++ c ∷ [])).list ≡ (record_call caps rooms r₁ c).list
    from = ap (λ (x : Recording). x.list) (record-both caps rooms (beginning s) earlier (c ∷ []) ∙ record-one caps rooms r₁ c)

    to : (record_calls caps rooms (beginning s) (earlier ++ c ∷ body)).list ≡ r₂.list
    to = ap (λ (x : Recording). x.list) (record-both caps rooms (beginning s) earlier (c ∷ body))

    whole : (record_calls caps rooms (beginning s) (earlier ++ c ∷ body ++ after)).list ≡ (record_calls caps rooms r₂ after).list
    whole =
        ap (λ (x : Recording). x.list)
        (record-both caps rooms (beginning s) (earlier ++ c ∷ body) after ∙ ap (λ (x : Recording). record_calls caps rooms x after) (record-both caps rooms (beginning s) earlier (c ∷ body)))

pub later-pass : LaterPass
later-pass caps rooms s earlier after d label set body I S L e N = pass-from caps rooms (begun caps rooms s).state (began caps rooms s e) earlier after d label set body I S L N

-- ---- two
pub later-passes : LaterPasses
later-passes caps rooms rooms' s s' earlier earlier' after after' d label set body I S L L' e N e' N' =
    find-same (own caps (begin_render_pass d label set) body)
    (pass_draws caps rooms s earlier (begin_render_pass d label set) body after) (pass_draws caps rooms' s' earlier' (begin_render_pass d label set) body after')
    (later-pass caps rooms s earlier after d label set body I S L e (of-pass caps rooms (begun caps rooms s) earlier (begin_render_pass d label set ∷ body) after N))
    (later-pass caps rooms' s' earlier' after' d label set body I S L' e' (of-pass caps rooms' (begun caps rooms' s') earlier' (begin_render_pass d label set ∷ body) after' N'))

-- ---- where the draws of the pass stand
pub pass-stands : PassStands
pass-stands caps rooms s earlier after c body O L e = (
  shots_from (play fresh to).gl A.rest,
  added-stands from to whole X.rest A.rest X.is (ap (λ (r : Recording). r.list) (record-both caps rooms start (earlier ++ c ∷ body) after) ∙ A.is),
)
  where
    start : Recording
    start = begun caps rooms s

    from : List Command
    from = (record_calls caps rooms start (earlier ++ c ∷ [])).list

    to : List Command
    to = (record_calls caps rooms start (earlier ++ c ∷ body)).list

    whole : List Command
    whole = (record_calls caps rooms start (earlier ++ c ∷ body ++ after)).list

    H : (cs : List Call) → Held caps (record_calls caps rooms start cs)
    H cs = all_held caps rooms start cs (held_start caps start.state (began caps rooms s e))

    X : Longer from to
    X =
        subst (Longer from)
        (sym (ap (λ (r : Recording). r.list) (ap (record_calls caps rooms start) (sym (append_assoc earlier (c ∷ []) body)) ∙ record-both caps rooms start (earlier ++ c ∷ []) body)))
        (grow-on caps rooms (record_calls caps rooms start (earlier ++ c ∷ [])) body (H (earlier ++ c ∷ [])).counted O)

    A : Longer to (record_calls caps rooms (record_calls caps rooms start (earlier ++ c ∷ body)) after).list
    A = grow-on caps rooms (record_calls caps rooms start (earlier ++ c ∷ body)) after (H (earlier ++ c ∷ body)).counted L
