-- A second treatment takes nothing more; no other command is taken out; the list gets no longer, and breaks no further limit. Assumes nothing.
use Prim.Native.Nat.{suc, ◌≤◌}
use native.Mathlib.Nat.{le_refl}
use native.Mathlib.Omega.{arith}
use mathlib.Core.Path.{◌≡◌, refl, sym, ap, ◌∙◌}
use mathlib.Core.Bool.{Bool, true, false, cond, ◌||◌}
use mathlib.Core.List.{List, [], ◌∷◌}
use Rattle.std.specs.Prelude.{Option, None, Some}
use lib.ListN.{length}
use Rattle.records.specs.Check.{some?}
use Rattle.records.specs.declared.command.Command.{Command}
use Rattle.machine.proofs.Lists.{false-true, or_left, or_right}
use Rattle.lists.specs.Class.{class_of}
use Rattle.lists.specs.Things.{Thing, names}
use Rattle.superseding.specs.Superseded.{setting_of, ends, replaced, replaced_setting, superseded, trimmed}
use Rattle.superseding.specs.Claim.{setting, unless, others}
use Rattle.superseding.proofs.Beside.{one, Fact, fact}
use Rattle.superseding.proofs.ByName.{setting-is}
use Rattle.superseding.proofs.Sights.{unended}

-- a thing that is set again is so in the trimmed list
replaced-still : (x : Thing) (l : List Command) → replaced x (trimmed l) ≡ replaced x l
unfolding trimmed replaced
replaced-still x [] = refl
replaced-still x (c ∷ cs) = pick (superseded c cs) refl (replaced-still x cs)
  where
    rest : Bool
    rest = cond (ends (class_of c)) false (cond (names c x) true (replaced x cs))

    -- its own successor is there
    there : (t : Bool) → names c x ≡ t → (o : Option Thing) → Fact c o → replaced_setting o cs ≡ true → replaced x cs ≡ cond t true (replaced x cs)
    there true e None F q = false-true q
    there true e (Some y) F q = ap (λ (z : Thing). replaced z cs) (one y x (sym (F.0.0 x) ∙ e)) ∙ q
    there false e o F q = refl

    pick : (t : Bool) → superseded c cs ≡ t → replaced x (trimmed cs) ≡ replaced x cs → replaced x (cond t (trimmed cs) (c ∷ trimmed cs)) ≡ rest
    pick false q i = ap (λ (t : Bool). cond (ends (class_of c)) false (cond (names c x) true t)) i
    pick true q i =
        i ∙ there (names c x) refl (setting_of (class_of c)) (fact c) q
        ∙ sym (ap (λ (t : Bool). cond t false (cond (names c x) true (replaced x cs))) (unended (class_of c) cs q))

pub superseded-still : (o : Option Thing) (l : List Command) → replaced_setting o (trimmed l) ≡ replaced_setting o l
superseded-still None l = refl
superseded-still (Some x) l = replaced-still x l

pub once : (l : List Command) → trimmed (trimmed l) ≡ trimmed l
unfolding trimmed
once [] = refl
once (c ∷ cs) = go (superseded c cs) refl (once cs)
  where
    go : (t : Bool) → superseded c cs ≡ t → trimmed (trimmed cs) ≡ trimmed cs → trimmed (cond t (trimmed cs) (c ∷ trimmed cs)) ≡ cond t (trimmed cs) (c ∷ trimmed cs)
    go true e i = i
    go false e i =
        ap (λ (t : Bool). cond t (trimmed (trimmed cs)) (c ∷ trimmed (trimmed cs))) (superseded-still (setting_of (class_of c)) cs ∙ e) ∙ ap (λ (l : List Command). c ∷ l) i

pub same-others : (l : List Command) → others (trimmed l) ≡ others l
unfolding trimmed others
same-others [] = refl
same-others (c ∷ cs) = pick (superseded c cs) refl (same-others cs)
  where
    gone : (o : Option Thing) → replaced_setting o cs ≡ true → others cs ≡ unless o c (others cs)
    gone None q = false-true q
    gone (Some x) q = refl

    pick : (t : Bool) → superseded c cs ≡ t → others (trimmed cs) ≡ others cs → others (cond t (trimmed cs) (c ∷ trimmed cs)) ≡ others (c ∷ cs)
    pick false q i = ap (unless (setting c) c) i
    pick true q i = i ∙ gone (setting_of (class_of c)) q ∙ sym (ap (λ (o : Option Thing). unless o c (others cs)) (setting-is c))

pub shorter : (l : List Command) → length (trimmed l) ≤ length l
unfolding trimmed
shorter [] = le_refl 0
shorter (c ∷ cs) = go (superseded c cs) (shorter cs)
  where
    go : (t : Bool) → length (trimmed cs) ≤ length cs → length (cond t (trimmed cs) (c ∷ trimmed cs)) ≤ suc (length cs)
    go true h = omega arith
    go false h = omega arith

-- what no command of the list does, none of the trimmed one does: it breaks no limit that the list did not break
pub none_more : (p : Command → Bool) (l : List Command) → some? p l ≡ false → some? p (trimmed l) ≡ false
unfolding trimmed some?
none_more p [] e = e
none_more p (c ∷ cs) e = go (superseded c cs) (none_more p cs (or_right (p c) (some? p cs) e))
  where
    both : (a b : Bool) → a ≡ false → b ≡ false → a || b ≡ false
    both true b f g = f
    both false b f g = g

    go : (t : Bool) → some? p (trimmed cs) ≡ false → some? p (cond t (trimmed cs) (c ∷ trimmed cs)) ≡ false
    go true i = i
    go false i = both (p c) (some? p (trimmed cs)) (or_left (p c) (some? p cs) e) i
