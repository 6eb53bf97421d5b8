-- What the two passes do: a blank for each setting that is superseded, and then the blanks are gone. Assumes nothing.
use Prim.Native.Nat.{ℕ, suc}
use mathlib.Core.Path.{◌≡◌, refl, sym, ◌∙◌, ap, ap₂}
use mathlib.Core.Bool.{Bool, true, false, cond, ◌||◌}
use mathlib.Core.List.{List, [], ◌∷◌, map}
use mathlib.Core.Logic.{inl, inr}
use Rattle.std.specs.Prelude.{Option, Some}
use lib.ListN.{length}
use Rattle.mask.specs.Laws.{test_zero, test-set}
use Rattle.records.specs.declared.command.Command.{Command}
use Rattle.records.specs.declared.command.Record.{Record}
use Rattle.machine.specs.Each.{Each}
use Rattle.lists.specs.declared.class.Class.{Class}
use Rattle.lists.specs.Class.{class_of, commands_of}
use Rattle.lists.specs.Things.{Thing, names}
use Rattle.list_walks.specs.Back.{fold_back, map_back}
use Rattle.list_walks.specs.Sift.{put_if, sifted}
use Rattle.superseding.specs.declared.seen.Seen.{Seen}
use Rattle.superseding.specs.declared.seen.Mark.{Mark}
use Rattle.superseding.specs.declared.seen.Mark.TheVariants.{VertexBuffer, Sampler, Single, Nothing}
use Rattle.superseding.specs.Superseded.{setting_of, ends, replaced, replaced_setting, superseded, trimmed}
use Rattle.superseding.specs.Seen.{mark_of, nothing_seen, is_seen, with_mark, seen_before, blanked_by, look_back, stays_of}
use Rattle.superseding.specs.Treated.{record_of, blank_command, blank_of, blanked_list}
use Rattle.superseding.proofs.Marks.{same, thing_at, Known, known, same_names}
use Rattle.superseding.proofs.Ranges.{Low, Kept}

or-false : (a : Bool) → a ≡ a || false
or-false true = refl
or-false false = refl

seen-with : (z : Seen) (s t : Mark) → Low t → is_seen (with_mark z t) s ≡ is_seen z s || same s t
seen-with z (VertexBuffer i) (VertexBuffer j) h = test-set z.buffers i j h
seen-with z (VertexBuffer i) (Sampler v) h = or-false (is_seen z (VertexBuffer i))
seen-with z (VertexBuffer i) (Single m) h = or-false (is_seen z (VertexBuffer i))
seen-with z (VertexBuffer i) Nothing h = or-false (is_seen z (VertexBuffer i))
seen-with z (Sampler u) (VertexBuffer j) h = or-false (is_seen z (Sampler u))
seen-with z (Sampler u) (Sampler v) h = test-set z.samplers u v h
seen-with z (Sampler u) (Single m) h = or-false (is_seen z (Sampler u))
seen-with z (Sampler u) Nothing h = or-false (is_seen z (Sampler u))
seen-with z (Single k) (VertexBuffer j) h = or-false (is_seen z (Single k))
seen-with z (Single k) (Sampler v) h = or-false (is_seen z (Single k))
seen-with z (Single k) (Single m) h = test-set z.singles k m h
seen-with z (Single k) Nothing h = or-false (is_seen z (Single k))
seen-with z Nothing t h = refl

nothing_seen_lem : (s : Mark) → is_seen nothing_seen s ≡ false
nothing_seen_lem (VertexBuffer i) = test_zero i
nothing_seen_lem (Sampler u) = test_zero u
nothing_seen_lem (Single k) = test_zero k
nothing_seen_lem Nothing = refl

-- what is seen before a list
seen_from : List Command → Seen
seen_from [] = nothing_seen
seen_from (c ∷ cs) = seen_before (seen_from cs) (class_of c)

seen-is : (cs : List Command) → Each Kept cs → (s : Mark) (x : Thing) → thing_at s ≡ Some x → is_seen (seen_from cs) s ≡ replaced x cs
unfolding seen_from replaced
seen-is [] k s x p = nothing_seen_lem s
seen-is (c ∷ cs) k s x p = go (ends (class_of c)) (seen-is cs k.1 s x p)
  where
    turned : (a b : Bool) → a || b ≡ cond b true a
    turned true true = refl
    turned true false = refl
    turned false true = refl
    turned false false = refl

    t : Mark
    t = mark_of (class_of c)

    go : (e : Bool) → is_seen (seen_from cs) s ≡ replaced x cs → is_seen (cond e nothing_seen (with_mark (seen_from cs) t)) s ≡ cond e false (cond (names c x) true (replaced x cs))
    go true i = nothing_seen_lem s
    go false i =
        let n = same_names s x p c in
        seen-with (seen_from cs) s t k.0.0 ∙ (λ j. i j || n j) ∙ turned (replaced x cs) (names c x)

-- a command's mark is seen where what follows supersedes it
seen-so : (k : Class) (cs : List Command) → Each Kept cs → is_seen (seen_from cs) (mark_of k) ≡ replaced_setting (setting_of k) cs
seen-so k cs h = go (known k)
  where
    go : Known k → is_seen (seen_from cs) (mark_of k) ≡ replaced_setting (setting_of k) cs
    go (inl e) = ap (is_seen (seen_from cs)) e.0 ∙ sym (ap (λ (o : Option Thing). replaced_setting o cs) e.1)
    go (inr e) = seen-is cs h (mark_of k) e.0 e.1 ∙ sym (ap (λ (o : Option Thing). replaced_setting o cs) e.2)

-- ---- the first pass
fold_is : (i : ℕ) (l : List Record) → fold_back look_back nothing_seen i l ≡ seen_from (commands_of l)
unfolding fold_back seen_from
fold_is i [] = refl
fold_is i (x ∷ l) = ap (λ (z : Seen). seen_before z (class_of x.command)) (fold_is (suc i) l)

pub blanks : (i : ℕ) (l : List Record) → Each Kept (commands_of l) → map_back blanked_by look_back nothing_seen i l ≡ map record_of (blanked_list (commands_of l))
unfolding map_back blanked_list
blanks i [] k = refl
blanks i (x ∷ l) k = ap₂ (λ (y : Record) (ys : List Record). y ∷ ys) head (blanks (suc i) l k.1)
  where
    c : Command
    c = x.command

    either : (t : Bool) → cond t blank_of x ≡ record_of (cond t blank_command c)
    either true = refl
    either false = refl

    head : cond (is_seen (fold_back look_back nothing_seen (suc i) l) (mark_of (class_of c))) blank_of x ≡ record_of (cond (superseded c (commands_of l)) blank_command c)
    head =
        ap (λ (z : Seen). cond (is_seen z (mark_of (class_of c))) blank_of x) (fold_is (suc i) l)
        ∙ ap (λ (t : Bool). cond t blank_of x) (seen-so (class_of c) (commands_of l) k.1) ∙ either (superseded c (commands_of l))

pub blanked-length : (cs : List Command) → length (blanked_list cs) ≡ length cs
unfolding blanked_list
blanked-length [] = refl
blanked-length (c ∷ cs) = ap suc (blanked-length cs)

-- ---- the second pass
pub blanks-gone : (cs : List Command) → Each Kept cs → sifted stays_of (map record_of (blanked_list cs)) ≡ map record_of (trimmed cs)
unfolding sifted blanked_list trimmed
blanks-gone [] k = refl
blanks-gone (c ∷ cs) k = go (superseded c cs) (blanks-gone cs k.1)
  where
    go : (t : Bool) → sifted stays_of (map record_of (blanked_list cs)) ≡ map record_of (trimmed cs)
        → put_if (stays_of (record_of (cond t blank_command c))) (record_of (cond t blank_command c)) (sifted stays_of (map record_of (blanked_list cs))) ≡ map record_of (cond t (trimmed cs) (c ∷ trimmed cs))
    go true i = i
    go false i = ap₂ (λ (b : Bool) (ys : List Record). put_if b (record_of c) ys) k.0.1 i
