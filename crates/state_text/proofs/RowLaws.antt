-- Laws of the state's rows: what is shown of a place, where a place is, and how long the arrays are. Assumes nothing.
use Prim.Native.Nat.{ℕ, zero, suc, ◌+◌, ◌-◌, ◌≤◌, ◌<◌}
use native.Mathlib.Omega.{arith}
use native.Mathlib.Nat.{le_of_suc-le-suc, not-suc-le-zero, add-zero, zero-add}
use mathlib.Core.Path.{◌≡◌, refl, sym, ap, ◌∙◌, subst}
use mathlib.Core.Bool.{Bool, true, false, cond}
use mathlib.Core.List.{List, [], ◌∷◌, ◌++◌, map}
use Rattle.std.specs.Prelude.{IfSome}
use lib.Dec.{T, ltb, lit<}
use lib.ListN.{length, take, drop, get_or, length-take}
use lib.Seq.{drop-cons}
use borrow.Author.Tests.{lt-ltb, le-ltb}
use Rattle.records.specs.declared.command.ColorTargetDesc.{ColorTargetDesc}
use Rattle.std.specs.Prelude.{Option, None, Some}
use Rattle.names.specs.declared.gl.BlendDesc.{BlendDesc}
use Rattle.records.specs.declared.state.State.{State}
use Rattle.text.specs.declared.field.Field.{Field}
use Rattle.text.specs.declared.field.Shown.{Shown}
use Rattle.text.specs.declared.field.Word.TheVariants.{State as state_word}
use Rattle.state_text.specs.declared.state.Place.{Place}
use Rattle.names.specs.Ascii.{ascii}
use Rattle.text.specs.Field.{word_text, spaced}
use Rattle.text.specs.Command.{blend_fields}
use Rattle.text.specs.Shown.{name_at, list_of, padded, built}
use Rattle.state_text.specs.Told.{told_line}
use Rattle.state_text.specs.State.{StateRow, state_rows, state_line, line_at, row_line, target_fields}
use Rattle.state_text.specs.Told.{told_of, TellsRow, no_row, row_at, row_places, place_in}

-- ---- what is shown
padded-list : (n : ℕ) (fs : List Field) → take (length (take n fs)) (padded n fs) ≡ take n fs
padded-list zero fs = refl
padded-list (suc n) [] = refl
padded-list (suc n) (f ∷ fs) = ap (λ t. f ∷ t) (padded-list n fs)

take-all : (n : ℕ) (fs : List Field) → length fs ≤ n → take n fs ≡ fs
take-all zero [] h = refl
take-all zero (f ∷ fs) h = absurd (not-suc-le-zero h)
take-all (suc n) [] h = refl
take-all (suc n) (f ∷ fs) h = ap (λ t. f ∷ t) (take-all n fs (le_of_suc-le-suc h))

line_of : (b : Bool) (n : ℕ) (name : List ℕ) (fs : List Field) → length fs < 15 → name_at n ≡ 32 ∷ name
    → told_line (told_of b n fs) ≡ cond b (ascii "state " ++ (name ++ (spaced fs ++ (10 ∷ [])))) []
line_of false n name fs h e = refl
line_of true n name fs h e =
    ap (λ x. word_text state_word ++ (x ++ (spaced (list_of (built n (length (take 14 fs)) fs)) ++ (10 ∷ [])))) e
    ∙ ap (λ x. ascii "state " ++ (name ++ (spaced x ++ (10 ∷ [])))) (padded-list 14 fs ∙ take-all 14 fs (le_of_suc-le-suc h))

if-there : (b : Bool) (n : ℕ) (fs : List Field) → n < 74 → IfSome (told_of b n fs) (λ s. (s.name < 74) × (s.count ≤ 14))
if-there false n fs h = tt
if-there true n fs h = (h, simp length-take (omega arith))

-- what is built of a row's place shows it
pub tells : (r : StateRow) (i n : ℕ) {t : Option Shown} → t ≡ told_of (r.there i) n (r.fields i) → T (ltb n 74) → length (r.fields i) < 15
    → name_at n ≡ 32 ∷ ascii r.name → TellsRow r i t
tells r i n e w h m =
    record {
      within = rw e (if-there (r.there i) n (r.fields i) (lit< w));
      line = ap told_line e ∙ line_of (r.there i) n (ascii r.name) (r.fields i) h m;
    }

pub at_row : (s : State) (i : ℕ) {row r : ℕ} {t : Option Shown} → row ≡ r → TellsRow (row_at s r) i t → TellsRow (row_at s row) i t
at_row s i {t = t} e h = subst (λ x. TellsRow (row_at s x) i t) (sym e) h

blend-short : (b : Option BlendDesc) → length (blend_fields b) < 14
blend-short None = lit< tt
blend-short (Some b) = lit< tt

pub target-short : (t : ColorTargetDesc) → length (target_fields t) < 15
target-short t = omega (arith, blend-short t.blend)

-- ---- places
pub place_here : (l : List ℕ) (r j i : ℕ) → j < length l → i < get_or l j 0 → place_in (drop j l) r i ≡ record { row = r; i = i }
unfolding place_in
place_here l r j i h p = rw (drop-cons l j 0 h, lt-ltb i (get_or l j 0) p)

pub place-on : (l : List ℕ) (r j i : ℕ) → j < length l → get_or l j 0 ≤ i
    → place_in (drop j l) r i ≡ place_in (drop (suc j) l) (suc r) (i - get_or l j 0)
unfolding place_in
place-on l r j i h p = rw (drop-cons l j 0 h, le-ltb i (get_or l j 0) p)

-- the line at a place of the rows
abbrev pub found : List StateRow → Place → List ℕ
found rs p = row_line (get_or rs p.row no_row) p.i

found-if : (rs : List StateRow) (b : Bool) (p q : Place) (s t : List ℕ) → s ≡ found rs p → t ≡ found rs q → cond b s t ≡ found rs (cond b p q)
found-if rs true p q s t e f = e
found-if rs false p q s t e f = f

-- a place of the rows from row r on is found in them all
line-in : (rs all : List StateRow) (r k : ℕ) → ((j : ℕ) → get_or all (r + j) no_row ≡ get_or rs j no_row)
    → line_at rs k ≡ found all (place_in (map (λ x. x.places) rs) r k)
unfolding line_at place_in
line-in [] all r k h = ap (λ x. row_line x k) (sym (h 0) ∙ ap (λ n. get_or all n no_row) (add-zero r))
line-in (x ∷ rs) all r k h =
    found-if all (ltb k x.places) (record { row = r; i = k }) (place_in (map (λ x. x.places) rs) (suc r) (k - x.places))
    (row_line x k) (line_at rs (k - x.places))
    (ap (λ x. row_line x k) (sym (h 0) ∙ ap (λ n. get_or all n no_row) (add-zero r)))
    (line-in rs all (suc r) (k - x.places) (λ j. ap (λ n. get_or all n no_row) (shift j) ∙ h (suc j)))
  where
    shift : (j : ℕ) → suc r + j ≡ r + suc j
    shift j = omega arith

pub line-found : (s : State) (k : ℕ) → state_line s k ≡ found (state_rows s) (place_in row_places 0 k)
line-found s k = line-in (state_rows s) (state_rows s) 0 k (λ j. ap (λ n. get_or (state_rows s) n no_row) (zero-add j))
