-- Demand 3's second sentence: two lists on one board, the same accepted draw calls of the first render pass in the same order,
-- and books that agree at each of them in every entry, pipelines by what they say: equally many draws, and none differs. Assumes nothing.
-- That the two passes have the same record, too, is not needed: what a draw finds of it, viewport and scissor, stands on the page.
use mathlib.Core.Path.{◌≡◌, refl, sym, ap, ap₂, ◌∙◌, subst}
use mathlib.Core.List.{List, [], ◌∷◌, map}
use lib.ListN.{length, length-map}
use Rattle.records.specs.declared.pipeline.PrivateCapabilities.{PrivateCapabilities}
use Rattle.machine.specs.Machine.{Shot, fresh, play}
use Rattle.book.specs.Book.{Entered, empty, Fed, book_of}
use Rattle.book.specs.Run.{fed, begun}
use Rattle.book.specs.Pages.{DrawCall, trimmed_page, draw_calls, calls_of, pages_of}
use Rattle.book.specs.FirstPass.{found, shots, entries, named}
use Rattle.book.specs.Ran.{answers, commands_of}
use Rattle.order.specs.Claim.{SameOrder, SameOrderOfRun}
use Rattle.order.proofs.Theorem.{order}
use Rattle.order.proofs.OfRun.{order-of-run}
use Rattle.order.proofs.PageDraws.{draws_of, draws-are}
use Rattle.order.proofs.Trimmed.{trimmed_call, draws-trim}

-- ---- two lists of draw calls
abbrev Cons : {A : Type 0} → List A → Type 0
Cons [] = ⊥
Cons (x ∷ xs) = Unit {0}

abbrev head_or : {A : Type 0} → A → List A → A
head_or d [] = d
head_or d (x ∷ xs) = x

abbrev rest : {A : Type 0} → List A → List A
rest [] = []
rest (x ∷ xs) = xs

same-calls : (xs ys : List DrawCall) → calls_of xs ≡ calls_of ys → pages_of xs ≡ pages_of ys → map trimmed_call xs ≡ map trimmed_call ys
same-calls [] [] e q = refl
same-calls [] (y ∷ ys) e q = absurd (subst Cons (sym e) tt)
same-calls (x ∷ xs) [] e q = absurd (subst Cons e tt)
same-calls (x ∷ xs) (y ∷ ys) e q =
    let c = ap (head_or x.call) e in
    let p = ap (head_or (trimmed_page x.page)) q in
    let m : trimmed_call x ≡ trimmed_call y = λ j. record { call = c j; page = p j } in
    ap₂ (λ (a : DrawCall) (l : List DrawCall). a ∷ l) m (same-calls xs ys (ap rest e) (ap rest q))

-- both books name the same at each draw
same-named : (caps : PrivateCapabilities) (fs gs : List Fed) → calls_of (draw_calls caps fs) ≡ calls_of (draw_calls caps gs) → pages_of (draw_calls caps fs) ≡ pages_of (draw_calls caps gs)
    → named (book_of caps empty fs).draws ≡ named (book_of caps empty gs).draws
same-named caps fs gs q r =
    ap named (draws-are caps fs)
    ∙ sym (draws-trim caps (draw_calls caps fs))
    ∙ ap (λ (ms : List DrawCall). named (draws_of caps ms)) (same-calls (draw_calls caps fs) (draw_calls caps gs) q r)
    ∙ draws-trim caps (draw_calls caps gs)
    ∙ sym (ap named (draws-are caps gs))

-- and what the draws of two machines find is what their books name
same-found : (ss ts : List Shot) (ds es : List Entered) → (length ss ≡ length ds) × (found ds ss ≡ named ds) → (length ts ≡ length es) × (found es ts ≡ named es) → named ds ≡ named es
    → (length ss ≡ length ts) × (found ds ss ≡ found es ts)
same-found ss ts ds es a b e = (a.0 ∙ sizes ∙ sym b.0, a.1 ∙ e ∙ sym b.1)
  where
    sizes : length ds ≡ length es
    sizes = sym (length-map ds (λ (d : Entered). d.view)) ∙ ap length e ∙ length-map es (λ (d : Entered). d.view)

-- THE CLAIM'S SECOND SENTENCE: "for every two such lists on one board, whose first render passes have .. the same accepted draw calls in the same order,
-- and whose books agree at each draw in every entry: both command lists have equally many draws there, and no draw differs"
pub same-order : SameOrder
same-order caps rooms rooms' s s' calls calls' e P e' P' q r =
    same-found (shots caps rooms s calls) (shots caps rooms' s' calls') (entries caps rooms s calls) (entries caps rooms' s' calls')
    (order caps rooms s calls e P) (order caps rooms' s' calls' e' P')
    (same-named caps (fed caps rooms (begun caps rooms s).state calls) (fed caps rooms' (begun caps rooms' s').state calls') q r)

-- the same of two runs of the code, by what its functions answered
pub same-order-of-run : SameOrderOfRun
same-order-of-run caps s₀ t₀ s' t' r₀ r r' q₀ q q' a b calls calls' d e R P d' e' Q P' x y =
    same-found (play fresh (commands_of s' r')).shots (play fresh (commands_of t' q')).shots (book_of caps empty (answers R)).draws (book_of caps empty (answers Q)).draws
    (order-of-run caps s₀ s' r₀ r r' a calls d e R P) (order-of-run caps t₀ t' q₀ q q' b calls' d' e' Q P') (same-named caps (answers R) (answers Q) x y)
