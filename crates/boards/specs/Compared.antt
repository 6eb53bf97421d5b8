-- The answer about two lists: document 02 §3. Definitions only.
use Rattle.std.specs.Prelude.{ℕ, suc, ◌<◌, ◌≡◌, Bool, true, false, cond, not, ◌&&◌, ◌||◌, List, [], ◌∷◌, ◌⊎◌, eqb, Float, length}
use Rattle.machine.specs.Machine.{Shot, fresh_gl}
use Rattle.lists.specs.declared.limits.Breaks.{Breaks}
use Rattle.lists.specs.Shots.{shots_from}
use Rattle.lists.specs.Limits.{either_breaks, Handed, broken_by}
use Rattle.boards.specs.declared.compare.Compared.{Compared}
use Rattle.boards.specs.declared.compare.Compared.TheVariants.{Equal, Differs, TooMany, OutOfRange, NoRoom, DrawCounts}
use Rattle.boards.specs.Alike.{alike}

-- the number of a refusal, document 01's and document 02's; 0 where there is an answer
abbrev pub number : Compared → ℕ
number Equal = 0
number (Differs k) = 0
number TooMany = 2
number OutOfRange = 3
number NoRoom = 7
number DrawCounts = 9

-- "equal, or the number, from 0, of the first draw that differs": the draws are counted on from k
unfoldable pub first_off : (Float → Float → Bool) → ℕ → List Shot → List Shot → Compared
first_off same k [] ys = Equal
first_off same k (x ∷ xs) [] = Equal
first_off same k (x ∷ xs) (y ∷ ys) = cond (alike same x.gl y.gl) (first_off same (suc k) xs ys) (Differs k)

-- "9, unequal numbers of draws; tested before any draw"
abbrev pub by_draws : (Float → Float → Bool) → List Shot → List Shot → Compared
by_draws same xs ys = cond (eqb (length xs) (length ys)) (first_off same 0 xs ys) DrawCounts

-- "turned away like a state": the smallest number whose condition holds of the one list or of the other
abbrev pub refused_or : Breaks → Compared → Compared
refused_or b r = cond b.many TooMany (cond b.range OutOfRange (cond b.room NoRoom r))

-- every draw of each list, "played from a fresh GL machine"
abbrev pub draws_of : Handed → List Shot
draws_of l = shots_from fresh_gl l.commands

-- a is the list with layout, b the one without
abbrev pub compared : (Float → Float → Bool) → Handed → Handed → Compared
compared same a b = refused_or (either_breaks (broken_by a) (broken_by b)) (by_draws same (draws_of a) (draws_of b))

-- condition n holds: 2, 3 and 7 of the one list or of the other, and 9
abbrev pub holds : Handed → Handed → ℕ → Bool
holds a b n =
    (eqb n 2 && ((broken_by a).many || (broken_by b).many))
    || ((eqb n 3 && ((broken_by a).range || (broken_by b).range))
    || ((eqb n 7 && ((broken_by a).room || (broken_by b).room))
    || (eqb n 9 && not (eqb (length (draws_of a)) (length (draws_of b))))))

-- n is "the smallest number whose condition holds", or none holds and n is 0
abbrev pub SmallestOf : Handed → Handed → ℕ → Type 0
SmallestOf a b n = ((holds a b n ≡ true) × ((k : ℕ) → k < n → holds a b k ≡ false)) ⊎ ((n ≡ 0) × ((k : ℕ) → holds a b k ≡ false))
