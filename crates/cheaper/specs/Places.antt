-- Which of the orders tried is chosen: the first of the cheapest. Assumes nothing.
use Rattle.std.specs.Prelude.{ℕ, zero, suc, ◌<◌, ◌≡◌, refl, Bool, true, false, cond, List, [], ◌∷◌, ltb, length, get_or}
use Rattle.std.proofs.Common.{arith, le_of_suc-le-suc, not-suc-le-zero, ltb-true, ltb-false}
use Rattle.cheaper.specs.Prices.{cheapest}
use Rattle.cheaper.specs.Budget.{below-start}
use Rattle.cheaper.specs.Claim.{First}

pub cheapest-first : (f : List ℕ → ℕ) (x : List ℕ) (ys : List (List ℕ)) → First f (x ∷ ys) (cheapest f x ys)
unfolding cheapest
cheapest-first f x [] = record { place = 0; inside = omega arith; here = refl; dearer = λ j h. absurd (not-suc-le-zero h) }
cheapest-first f x (y ∷ ys) = go (ltb (f y) (f x)) refl (λ t. cheapest-first f (cond t y x) ys)
  where
    -- y takes the place of x: all places move on by one
    taken : ltb (f y) (f x) ≡ true → First f (y ∷ ys) (cheapest f y ys) → First f (x ∷ (y ∷ ys)) (cheapest f y ys)
    taken e r =
        record {
          place = suc r.place;
          inside = let h = r.inside in omega arith;
          here = r.here;
          dearer = before;
        }
      where
        before : (j : ℕ) → j < suc r.place → f (cheapest f y ys) < f (get_or (x ∷ (y ∷ ys)) j [])
        before zero h = let a = below-start f y ys in let b = ltb-true (f y) (f x) e in omega arith
        before (suc j) h = r.dearer j (le_of_suc-le-suc h)

    -- y is left out: places past that of x move on by one
    kept : (p : ℕ) → ltb (f y) (f x) ≡ false → p < length (x ∷ ys) → get_or (x ∷ ys) p [] ≡ cheapest f x ys
        → ((j : ℕ) → j < p → f (cheapest f x ys) < f (get_or (x ∷ ys) j [])) → First f (x ∷ (y ∷ ys)) (cheapest f x ys)
    kept zero e i q d = record { place = 0; inside = omega arith; here = q; dearer = λ j h. absurd (not-suc-le-zero h) }
    kept (suc p) e i q d = record { place = suc (suc p); inside = omega arith; here = q; dearer = before }
      where
        before : (j : ℕ) → j < suc (suc p) → f (cheapest f x ys) < f (get_or (x ∷ (y ∷ ys)) j [])
        before zero h = d 0 (omega arith)
        before (suc zero) h = let a = d 0 (omega arith) in let b = ltb-false (f y) (f x) e in omega arith
        before (suc (suc j)) h = d (suc j) (le_of_suc-le-suc h)

    go : (t : Bool) → ltb (f y) (f x) ≡ t → ((u : Bool) → First f (cond u y x ∷ ys) (cheapest f (cond u y x) ys)) → First f (x ∷ (y ∷ ys)) (cheapest f (cond t y x) ys)
    go true e ih = taken e (ih true)
    go false e ih = let r = ih false in kept r.place e r.inside r.here r.dearer
