-- What is left of a list is what the request leaves, and nothing else is. Assumes nothing.
use mathlib.Core.Path.{◌≡◌, refl, sym, ap, ◌∙◌, subst}
use mathlib.Core.Bool.{Bool, true, false, cond}
use mathlib.Core.List.{List, [], ◌∷◌, ◌++◌}
use mathlib.Core.Logic.{inl, inr}
use Rattle.std.specs.Prelude.{Option, None, Some}
use Rattle.records.specs.declared.command.Command.{Command}
use Rattle.machine.specs.Each.{Each}
use Rattle.machine.proofs.Lists.{true-false, false-true}
use Rattle.lists.specs.declared.class.Class.{Class}
use Rattle.lists.specs.declared.class.Class.TheVariants.{Draw, Clear, Dispatch, Reset, Sets, Other}
use Rattle.lists.specs.Class.{class_of}
use Rattle.lists.specs.Things.{Thing, names}
use Rattle.superseding.specs.Superseded.{setting_of, ends, replaced, replaced_setting, superseded, trimmed}
use Rattle.superseding.specs.Claim.{ending, setting, Superseded, Left}
use Rattle.superseding.proofs.Beside.{one, is-self, of_seven, Fact, fact}
use Rattle.superseding.proofs.ByName.{ending-is, setting-is}
use Rattle.superseding.proofs.Marks.{is_some}

-- ---- a setting of x, and a command that names x
sets-unended : (k : Class) → is_some (setting_of k) ≡ true → ends k ≡ false
sets-unended Draw e = false-true e
sets-unended Clear e = false-true e
sets-unended Dispatch e = false-true e
sets-unended Reset e = false-true e
sets-unended (Sets t) e = refl
sets-unended Other e = false-true e

sets-names : (c : Command) (x : Thing) → setting c ≡ Some x → names c x ≡ true
sets-names c x e = (subst (Fact c) (sym (setting-is c) ∙ e) (fact c)).0.0 x ∙ is-self x

names-sets : (c : Command) (x : Thing) → of_seven x ≡ true → names c x ≡ true → setting c ≡ Some x
names-sets c x s n = setting-is c ∙ go (setting_of (class_of c)) (fact c)
  where
    go : (o : Option Thing) → Fact c o → o ≡ Some x
    go None F = true-false (sym n ∙ F x s)
    go (Some y) F = ap Some (sym (one y x (sym (F.0.0 x) ∙ n)))

-- ---- where the later setting stands
abbrev Later : Thing → List Command → Type 0
Later x cs =
    (between : List Command) × (later : Command) × (after : List Command)
    × (cs ≡ between ++ later ∷ after) × Each (λ (d : Command). ending d ≡ false) between × (setting later ≡ Some x)

stands : (x : Thing) → of_seven x ≡ true → (cs : List Command) → replaced x cs ≡ true → Later x cs
unfolding replaced
stands x s [] q = false-true q
stands x s (c ∷ cs) q = go (ends (class_of c)) refl (names c x) refl q (stands x s cs)
  where
    go : (t : Bool) → ends (class_of c) ≡ t → (n : Bool) → names c x ≡ n → cond t false (cond n true (replaced x cs)) ≡ true → (replaced x cs ≡ true → Later x cs) → Later x (c ∷ cs)
    go true e n m q ih = false-true q
    go false e true m q ih = ([], c, cs, refl, tt, names-sets c x s m)
    go false e false m q ih = let l = ih q in (c ∷ l.0, l.1, l.2, ap (λ (k : List Command). c ∷ k) l.3, (ending-is c ∙ e, l.4), l.5)

replaces : (x : Thing) (between : List Command) (later : Command) (after : List Command)
    → Each (λ (d : Command). ending d ≡ false) between → setting later ≡ Some x → replaced x (between ++ later ∷ after) ≡ true
unfolding replaced
replaces x [] later after u e =
    let a = sets-unended (class_of later) (ap is_some (sym (setting-is later) ∙ e)) in
    let b = sets-names later x e in
    λ i. cond (a i) false (cond (b i) true (replaced x after))
replaces x (d ∷ between) later after u e =
    ap (λ (t : Bool). cond t false (cond (names d x) true (replaced x (between ++ later ∷ after)))) (sym (ending-is d) ∙ u.0) ∙ go (names d x) (replaces x between later after u.1 e)
  where
    go : (n : Bool) → replaced x (between ++ later ∷ after) ≡ true → cond n true (replaced x (between ++ later ∷ after)) ≡ true
    go true i = refl
    go false i = i

-- ---- the definition says what the request says
pub superseded-so : (c : Command) (cs : List Command) → Superseded c cs → superseded c cs ≡ true
superseded-so c cs S =
    ap (λ (o : Option Thing). replaced_setting o cs) (sym (setting-is c) ∙ S.sets)
    ∙ ap (replaced S.thing) S.follow ∙ replaces S.thing S.between S.later S.after S.unended S.again

pub so-superseded : (c : Command) (cs : List Command) → superseded c cs ≡ true → Superseded c cs
so-superseded c cs q = go (setting_of (class_of c)) refl (fact c) q
  where
    go : (o : Option Thing) → setting_of (class_of c) ≡ o → Fact c o → replaced_setting o cs ≡ true → Superseded c cs
    go None e F q = false-true q
    go (Some x) e F q =
        let l = stands x F.1 cs q in
        record { thing = x; sets = setting-is c ∙ e; between = l.0; later = l.1; after = l.2; follow = l.3; unended = l.4; again = l.5 }

-- what is left is the trimmed list
pub left : (l : List Command) → Left l (trimmed l)
unfolding Left trimmed
left [] = refl
left (c ∷ cs) = go (superseded c cs) refl (left cs)
  where
    go : (t : Bool) → superseded c cs ≡ t → Left cs (trimmed cs) → Left (c ∷ cs) (cond t (trimmed cs) (c ∷ trimmed cs))
    go true e i = inl (so-superseded c cs e, i)
    go false e i = inr ((λ S. true-false (sym (superseded-so c cs S) ∙ e)), (trimmed cs, (refl, i)))

-- and no other list
pub left_one : (l ds : List Command) → Left l ds → ds ≡ trimmed l
unfolding Left trimmed
left_one [] ds e = e
left_one (c ∷ cs) ds (inl p) = left_one cs ds p.1 ∙ sym (ap (λ (t : Bool). cond t (trimmed cs) (c ∷ trimmed cs)) (superseded-so c cs p.0))
left_one (c ∷ cs) ds (inr p) =
    p.1.1.0 ∙ ap (λ (k : List Command). c ∷ k) (left_one cs p.1.0 p.1.1.1) ∙ sym (ap (λ (t : Bool). cond t (trimmed cs) (c ∷ trimmed cs)) (go (superseded c cs) refl))
  where
    go : (t : Bool) → superseded c cs ≡ t → t ≡ false
    go true e = absurd (p.0 (so-superseded c cs e))
    go false e = refl
