-- Every draw and clear of the trimmed list finds what it found before, and the machine ends as it did. Assumes nothing.
use mathlib.Core.Path.{◌≡◌, refl, sym, ap, ◌∙◌}
use mathlib.Core.Bool.{Bool, true, false, cond}
use mathlib.Core.List.{List, [], ◌∷◌, ◌++◌}
use Rattle.std.specs.Prelude.{Option, None, Some}
use Rattle.records.specs.declared.command.Command.{Command}
use Rattle.machine.specs.Machine.{Gl, Shot}
use Rattle.machine.proofs.Lists.{true-false, false-true}
use Rattle.lists.specs.declared.class.Class.{Class}
use Rattle.lists.specs.declared.class.Class.TheVariants.{Draw, Clear, Dispatch, Reset, Sets, Other}
use Rattle.lists.specs.Class.{class_of}
use Rattle.lists.specs.Shots.{settings_after, settings, shot_of, shots_from}
use Rattle.lists.specs.Things.{Thing, names}
use Rattle.lists.proofs.Laws.{law}
use Rattle.superseding.specs.Superseded.{setting_of, ends, replaced, replaced_setting, superseded, trimmed}
use Rattle.superseding.specs.Claim.{ending, Sight, sights}
use Rattle.superseding.proofs.Beside.{is, one, ext, Beside, Fact, fact}
use Rattle.superseding.proofs.ByName.{ending-is, undrawn}

-- a setting that is superseded ends nothing
pub unended : (k : Class) (cs : List Command) → replaced_setting (setting_of k) cs ≡ true → ends k ≡ false
unended Draw cs e = false-true e
unended Clear cs e = false-true e
unended Dispatch cs e = false-true e
unended Reset cs e = false-true e
unended (Sets t) cs e = refl
unended Other cs e = refl

-- ---- two machines that differ at x alone show the same, where x is set again before anything ends the wait
abbrev Shows : List Command → Gl → Gl → Type 0
Shows cs g h = (sights g cs ≡ sights h cs) × (shots_from g cs ≡ shots_from h cs) × (settings g cs ≡ settings h cs)

-- a command that ends nothing is not shown
abbrev Passes : Command → List Command → Gl → Type 0
Passes c cs g = (sights g (c ∷ cs) ≡ sights (settings_after g c) cs) × (shots_from g (c ∷ cs) ≡ shots_from (settings_after g c) cs)

passes : (c : Command) (cs : List Command) (g : Gl) → ends (class_of c) ≡ false → Passes c cs g
unfolding sights shots_from
passes c cs g e = (
  ap (λ (t : Bool). cond t (record { command = c; gl = g } ∷ sights (settings_after g c) cs) (sights (settings_after g c) cs)) (ending-is c ∙ e),
  ap (λ (l : List Shot). l ++ shots_from (settings_after g c) cs) (undrawn c g e),
)

over-one : (c : Command) (cs : List Command) (g h : Gl) → ends (class_of c) ≡ false → Shows cs (settings_after g c) (settings_after h c) → Shows (c ∷ cs) g h
unfolding settings
over-one c cs g h e z =
    let p = passes c cs g e in
    let q = passes c cs h e in
    (p.0 ∙ z.0 ∙ sym q.0, p.1 ∙ z.1 ∙ sym q.1, z.2)

drop : (x : Thing) (cs : List Command) (g h : Gl) → Beside x g h → replaced x cs ≡ true → Shows cs g h
unfolding replaced
drop x [] g h E r = false-true r
drop x (c ∷ cs) g h E r = go (ends (class_of c)) refl (names c x) refl r (λ n q. drop x cs (settings_after g c) (settings_after h c) n q)
  where
    one-machine : names c x ≡ true → settings_after g c ≡ settings_after h c
    one-machine n = ext (settings_after g c) (settings_after h c) (λ y. law c y g h (λ f. E y (differ y (is y x) refl f)))
      where
        differ : (y : Thing) (t : Bool) → is y x ≡ t → names c y ≡ false → is y x ≡ false
        differ y true e f = true-false (sym n ∙ ap (names c) (sym (one x y e)) ∙ f)
        differ y false e f = e

    go : (t : Bool) → ends (class_of c) ≡ t → (n : Bool) → names c x ≡ n → cond t false (cond n true (replaced x cs)) ≡ true
        → (Beside x (settings_after g c) (settings_after h c) → replaced x cs ≡ true → Shows cs (settings_after g c) (settings_after h c)) → Shows (c ∷ cs) g h
    go true e n m q ih = false-true q
    go false e true m q ih =
        let z = one-machine m in
        over-one c cs g h e (ap (λ (y : Gl). sights y cs) z, ap (λ (y : Gl). shots_from y cs) z, ap (λ (y : Gl). settings y cs) z)
    go false e false m q ih = over-one c cs g h e (ih (λ y f. law c y g h (λ _. E y f)) q)

-- ---- the trimmed list
abbrev Same : List Command → List Command → Gl → Type 0
Same l l' g = (sights g l ≡ sights g l') × (shots_from g l ≡ shots_from g l') × (settings g l ≡ settings g l')

both-shown : (c : Command) (cs : List Command) (g : Gl) → Same (trimmed cs) cs (settings_after g c) → Same (c ∷ trimmed cs) (c ∷ cs) g
unfolding sights shots_from settings
both-shown c cs g k = (ap (λ (l : List Sight). cond (ending c) (record { command = c; gl = g } ∷ l) l) k.0, ap (λ (l : List Shot). shot_of g c ++ l) k.1, k.2)

pub same-sights : (l : List Command) (g : Gl) → Same (trimmed l) l g
unfolding trimmed settings
same-sights [] g = (refl, refl, refl)
same-sights (c ∷ cs) g = pick (superseded c cs) refl (same-sights cs g) (same-sights cs (settings_after g c))
  where
    -- it is superseded: the thing that it sets is set again
    dropped : (o : Option Thing) → Fact c o → replaced_setting o cs ≡ true → Shows cs g (settings_after g c)
    dropped None F q = false-true q
    dropped (Some x) F q = drop x cs g (settings_after g c) (F.0.1 g) q

    pick : (t : Bool) → superseded c cs ≡ t → Same (trimmed cs) cs g → Same (trimmed cs) cs (settings_after g c) → Same (cond t (trimmed cs) (c ∷ trimmed cs)) (c ∷ cs) g
    pick false q i k = both-shown c cs g k
    pick true q i k =
        let d = dropped (setting_of (class_of c)) (fact c) q in
        let p = passes c cs g (unended (class_of c) cs q) in
        (i.0 ∙ d.0 ∙ sym p.0, i.1 ∙ d.1 ∙ sym p.1, i.2 ∙ d.2)
