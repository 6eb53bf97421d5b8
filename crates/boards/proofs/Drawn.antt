-- The draws of a list from a place on, and how many they are. Assumes nothing.
use Prim.Native.Nat.{suc}
use mathlib.Core.Path.{◌≡◌, refl, ap, ◌∙◌}
use mathlib.Core.Bool.{Bool, true, false, cond}
use mathlib.Core.List.{List, [], ◌∷◌, ◌++◌}
use lib.ListN.{length}
use Rattle.records.specs.declared.command.Command.{Command}
use Rattle.machine.specs.Machine.{Gl, Shot}
use Rattle.lists.specs.Class.{class_of, draws, draw_count}
use Rattle.lists.specs.Shots.{noting, settings_after, shots_from}
use Rattle.lists.proofs.Kept.{keeps-shots, notes-draw}

-- a draw finds the machine as it is
pub at-draw : (g : Gl) (c : Command) (cs : List Command) → draws (class_of c) ≡ true
    → (s : Shot) × (s.gl ≡ g) × (shots_from g (c ∷ cs) ≡ s ∷ shots_from (settings_after g c) cs)
unfolding shots_from
at-draw g c cs e =
    let n = notes-draw c (noting g) e refl in
    (n.0, n.2, ap (λ (l : List Shot). l ++ shots_from (settings_after g c) cs) n.3)

pub at_other : (g : Gl) (c : Command) (cs : List Command) → draws (class_of c) ≡ false → shots_from g (c ∷ cs) ≡ shots_from (settings_after g c) cs
unfolding shots_from
at_other g c cs e = ap (λ (l : List Shot). l ++ shots_from (settings_after g c) cs) (keeps-shots c (noting g) e)

pub counts : (g : Gl) (cs : List Command) → length (shots_from g cs) ≡ draw_count cs
unfolding shots_from draw_count
counts g [] = refl
counts g (c ∷ cs) = go (draws (class_of c)) refl (counts (settings_after g c) cs)
  where
    go : (t : Bool) → draws (class_of c) ≡ t → length (shots_from (settings_after g c) cs) ≡ draw_count cs → length (shots_from g (c ∷ cs)) ≡ cond t (suc (draw_count cs)) (draw_count cs)
    go true e rest = ap length (at-draw g c cs e).2 ∙ ap suc rest
    go false e rest = ap length (at_other g c cs e) ∙ rest
