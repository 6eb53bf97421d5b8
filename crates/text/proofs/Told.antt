-- What is built shows the name and the fields that it was built of. Assumes nothing.
use Prim.Native.Nat.{ℕ, zero, suc, min}
use native.Mathlib.Omega.{arith}
use mathlib.Core.Path.{◌≡◌, refl, sym, ap, ◌∙◌}
use mathlib.Core.List.{List, [], ◌∷◌, ◌++◌}
use lib.Dec.{T, leb, leb→le}
use lib.ListN.{length, take, drop, length-take}
use Rattle.text.specs.declared.field.Field.{Field}
use Rattle.text.specs.declared.field.Shown.{Shown}
use Rattle.text.specs.Shown.{Shows, list_of, padded, built}

pub shows : {s t : Shown} → s ≡ t → T (leb t.count 14) → Shows t.name (list_of t) s
shows {t = t} h w = record { named = ap (λ x. x.name) h; within = rw h (leb→le t.count 14 w); listed = ap list_of h }

-- fields laid over none
padded-is : (n : ℕ) (fs : List Field) → padded n fs ≡ take n fs ++ drop (length (take n fs)) (padded n [])
padded-is zero fs = refl
padded-is (suc n) [] = refl
padded-is (suc n) (f ∷ fs) = ap (λ t. f ∷ t) (padded-is n fs)

take-again : (n : ℕ) (fs : List Field) → take (length (take n fs)) fs ≡ take n fs
take-again zero fs = refl
take-again (suc n) [] = refl
take-again (suc n) (f ∷ fs) = ap (λ t. f ∷ t) (take-again n fs)

pub laid_over : (name n : ℕ) (fs xs : List Field) → n ≡ min (length fs) 14 → xs ≡ take n fs
    → record { name = name; count = n; items = xs ++ drop n (padded 14 []) } ≡ built name (length (take 14 fs)) fs
laid_over name n fs xs h e =
    let k = length (take 14 fs) in
    let l : n ≡ k = omega (arith, h, length-take 14 fs) in
    let x : xs ≡ take 14 fs = e ∙ ap (λ j. take j fs) l ∙ take-again 14 fs in
    ap (λ j. record { name = name; count = j; items = xs ++ drop j (padded 14 []) }) l
    ∙ ap (λ t. record { name = name; count = k; items = t ++ drop k (padded 14 []) }) x
    ∙ ap (λ t. record { name = name; count = k; items = t }) (sym (padded-is 14 fs))
