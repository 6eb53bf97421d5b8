-- WHATEVER WAS UNEQUAL REMAINS UNEQUAL (document 02 §12): of two lists whose draws find blend constants that are `f32`s, §3's answer and §12's (`still-unequal`).
-- Where no draw finds a minus zero they are the same (`as_before`). Assumes nothing.
use Prim.Native.Nat.{ℕ, suc, ◌≤◌}
use mathlib.Core.Path.{◌≡◌, refl, sym, ap, ◌∙◌, subst}
use mathlib.Core.Bool.{Bool, true, false, cond, ◌&&◌, true≢false, false≢true}
use mathlib.Core.List.{List, [], ◌∷◌}
use native.Mathlib.Nat.{le_refl}
use native.Mathlib.Omega.{arith}
use lib.Dec.{eqb}
use lib.Ieee.{Float}
use lib.ListN.{length}
use Rattle.records.specs.declared.command.ColorF32.{ColorF32}
use Rattle.machine.specs.Machine.{Gl, Shot}
use Rattle.machine.specs.Found.{fetch_at}
use Rattle.lists.specs.declared.limits.Breaks.{Breaks}
use Rattle.lists.specs.Limits.{either_breaks, Handed, broken_by}
use Rattle.boards.specs.declared.compare.Compared.{Compared}
use Rattle.boards.specs.declared.compare.Compared.TheVariants.{Differs, TooMany, OutOfRange, NoRoom, DrawCounts}
use Rattle.boards.specs.Alike.{same_bits, same_number, same_color, location_alike, same_program, all_below, alike}
use Rattle.boards.specs.Compared.{first_off, by_draws, refused_or, draws_of, compared}
use Rattle.boards.specs.Remains.{Remains, Answered, IsF32, OfEach, OfConstants, FindsF32, NotMinusZero, NoMinusZero}
use Rattle.boards.proofs.Floats.{finer, as_bits}

-- ---- one draw
both : (p q r s : Bool) → (p ≡ true → r ≡ true) → (q ≡ true → s ≡ true) → p && q ≡ true → r && s ≡ true
both true q r s f g e = ap (λ (t : Bool). t && s) (f refl) ∙ g e
both false q r s f g e = absurd (false≢true e)

finer-colors : (x y : ColorF32) → OfEach IsF32 x → OfEach IsF32 y → same_color same_bits x y ≡ true → same_color same_number x y ≡ true
finer-colors x y F G =
    both _ _ _ _ (finer x.r y.r F.0 G.0)
    (both _ _ _ _ (finer x.g y.g F.1 G.1)
    (both _ _ _ _ (finer x.b y.b F.2 G.2) (finer x.a y.a F.3 G.3)))

finer-draws : (g h : Gl) → OfEach IsF32 g.screen.blend → OfEach IsF32 h.screen.blend → alike same_bits g h ≡ true → alike same_number g h ≡ true
finer-draws g h F G =
    under (all_below 16 (λ l. location_alike (fetch_at g.vertices l) (fetch_at h.vertices l)))
    (under (same_program g.fixed.program h.fixed.program) (finer-colors g.screen.blend h.screen.blend F G))
  where
    under : (p : Bool) {q r : Bool} → (q ≡ true → r ≡ true) → p && q ≡ true → p && r ≡ true
    under true f e = f e
    under false f e = e

-- ---- the first draw that differs
-- an answer that counts on from k names no draw before i, where i is at most k
none_before : (same : Float → Float → Bool) (i k : ℕ) (xs ys : List Shot) → i ≤ k → Remains (first_off same k xs ys) (Differs i)
unfolding first_off
none_before same i k [] ys h = refl
none_before same i k (x ∷ xs) [] h = refl
none_before same i k (x ∷ xs) (y ∷ ys) h = go (alike same x.gl y.gl) (none_before same i (suc k) xs ys (omega arith))
  where
    go : (t : Bool) → Remains (first_off same (suc k) xs ys) (Differs i) → Remains (cond t (first_off same (suc k) xs ys) (Differs k)) (Differs i)
    go true r = r
    go false r = (i, h, refl)

first-remains : (k : ℕ) (xs ys : List Shot) → OfConstants IsF32 xs → OfConstants IsF32 ys → Remains (first_off same_number k xs ys) (first_off same_bits k xs ys)
unfolding first_off
first-remains k [] ys F G = refl
first-remains k (x ∷ xs) [] F G = refl
first-remains k (x ∷ xs) (y ∷ ys) F G =
    go (alike same_bits x.gl y.gl) refl (alike same_number x.gl y.gl) refl (first-remains (suc k) xs ys F.1 G.1)
  where
    old : Compared
    old = first_off same_number (suc k) xs ys

    go : (t : Bool) → alike same_bits x.gl y.gl ≡ t → (u : Bool) → alike same_number x.gl y.gl ≡ u → Remains old (first_off same_bits (suc k) xs ys)
        → Remains (cond u old (Differs k)) (cond t (first_off same_bits (suc k) xs ys) (Differs k))
    go true e true f r = r
    go true e false f r = absurd (true≢false (sym (finer-draws x.gl y.gl F.0 G.0 e) ∙ f))
    go false e true f r = none_before same_number k (suc k) xs ys (omega arith)
    go false e false f r = (k, le_refl k, refl)

-- ---- refusals, which no comparison of floats is asked for
counts-remain : (t : Bool) (old new : Compared) → Remains old new → Remains (cond t old DrawCounts) (cond t new DrawCounts)
counts-remain true old new r = r
counts-remain false old new r = refl

refusals-remain : (b : Breaks) (old new : Compared) → Remains old new → Remains (refused_or b old) (refused_or b new)
refusals-remain b old new r = go b.many b.range b.room
  where
    go : (x y z : Bool) → Remains (cond x TooMany (cond y OutOfRange (cond z NoRoom old))) (cond x TooMany (cond y OutOfRange (cond z NoRoom new)))
    go true y z = refl
    go false true z = refl
    go false false true = refl
    go false false false = r

pub still-unequal : (a b : Handed) → FindsF32 a → FindsF32 b → Remains (compared same_number a b) (compared same_bits a b)
still-unequal a b F G =
    refusals-remain (either_breaks (broken_by a) (broken_by b)) (by_draws same_number (draws_of a) (draws_of b)) (by_draws same_bits (draws_of a) (draws_of b))
    (counts-remain (eqb (length (draws_of a)) (length (draws_of b))) (first_off same_number 0 (draws_of a) (draws_of b)) (first_off same_bits 0 (draws_of a) (draws_of b))
    (first-remains 0 (draws_of a) (draws_of b) F G))

-- ---- where no draw finds a minus zero, the answer is §3's
same-draws : (g h : Gl) → OfEach IsF32 g.screen.blend → OfEach IsF32 h.screen.blend → OfEach NotMinusZero g.screen.blend → OfEach NotMinusZero h.screen.blend
    → alike same_number g h ≡ alike same_bits g h
same-draws g h F G M N =
    let x = g.screen.blend in
    let y = h.screen.blend in
    λ i. all_below 16 (λ l. location_alike (fetch_at g.vertices l) (fetch_at h.vertices l))
    && (same_program g.fixed.program h.fixed.program
    && (as_bits x.r y.r F.0 G.0 M.0 N.0 i
    && (as_bits x.g y.g F.1 G.1 M.1 N.1 i
    && (as_bits x.b y.b F.2 G.2 M.2 N.2 i
    && as_bits x.a y.a F.3 G.3 M.3 N.3 i))))

same_first : (k : ℕ) (xs ys : List Shot) → OfConstants IsF32 xs → OfConstants IsF32 ys → OfConstants NotMinusZero xs → OfConstants NotMinusZero ys
    → first_off same_number k xs ys ≡ first_off same_bits k xs ys
unfolding first_off
same_first k [] ys F G M N = refl
same_first k (x ∷ xs) [] F G M N = refl
same_first k (x ∷ xs) (y ∷ ys) F G M N =
    λ i. cond (same-draws x.gl y.gl F.0 G.0 M.0 N.0 i) (same_first (suc k) xs ys F.1 G.1 M.1 N.1 i) (Differs k)

pub as_before : (a b : Handed) → FindsF32 a → FindsF32 b → NoMinusZero a → NoMinusZero b → compared same_bits a b ≡ compared same_number a b
as_before a b F G M N =
    ap (λ (r : Compared). refused_or (either_breaks (broken_by a) (broken_by b)) (cond (eqb (length (draws_of a)) (length (draws_of b))) r DrawCounts))
    (sym (same_first 0 (draws_of a) (draws_of b) F G M N))

-- ---- all that the contract of `compare` says
pub answered : (a b : Handed) → FindsF32 a → FindsF32 b → (r : Compared) → r ≡ compared same_bits a b → Answered a b r
answered a b F G r e = (e, subst (Remains (compared same_number a b)) (sym e) (still-unequal a b F G), λ M N. e ∙ as_before a b F G M N)
