-- A record sets blend constants of type `f32`, as its type has no others. Assumes nothing.
use mathlib.Core.Path.{sym, subst}
use mathlib.Core.List.{List, [], ◌∷◌, ◌++◌}
use Prim.Native.Nat.{ℕ, min, ◌+◌, ◌≤◌, ◌<◌}
use lib.ListN.{length, get_or, take}
use mir.Val.{Val}
use Rattle.std.specs.Bool.{passes}
use denote.Laws.{Is}
use denote.Struct.Declared.{row}
use Rattle.records.specs.declared.command.ColorF32.{ColorF32}
use Rattle.records.specs.declared.command.Command.{Command}
use Rattle.records.specs.declared.command.Command.TheVariants.{SetBlendConstant}
use Rattle.records.specs.declared.command.Record.{Record}
use Rattle.records.specs.contracts.command.Record.{the_type}
use Rattle.machine.specs.Each.{Each}
use Rattle.list_walks.specs.Fold.{part}
use Rattle.list_walks.proofs.Folded.{part_none, part-next, part-first}
use Rattle.lists.specs.Class.{commands_of}
use Rattle.lists.specs.Floats.{AreF32, SetsF32}
use Rattle.lists.proofs.Surveying.{taken}

-- what a record with blend constants is made of: its command, the variant's one field, and the four floats of that
color-fits : (x : ColorF32) (vs : List Val) → Is (row the_type) (record { command = SetBlendConstant x }) vs → AreF32 x
color-fits x vs g =
    let color = g.1.1.0.1.1.1.1.0.1.1 in
    (passes _ color.0.1, passes _ color.1.0.1, passes _ color.1.1.0.1, passes _ color.1.1.1.0.1)

pub sets-f32 : (x : Record) (vs : List Val) → Is (row the_type) x vs → SetsF32 x.command
sets-f32 x vs g k e = color-fits k vs (subst (λ (c : Command). Is (row the_type) (record { command = c }) vs) e g)

each-more : (l : List Record) (x : Record) → Each SetsF32 (commands_of l) → SetsF32 x.command → Each SetsF32 (commands_of (l ++ (x ∷ [])))
each-more [] x e f = (f, tt)
each-more (y ∷ l) x e f = (e.0, each-more l x e.1 f)

module _ (l : List Record) (from : ℕ) where
  abbrev pub PartF32 : ℕ → Type 0
  PartF32 i = Each SetsF32 (commands_of (part l from i))

  pub part-f32_none : PartF32 from
  part-f32_none = subst (λ (k : List Record). Each SetsF32 (commands_of k)) (sym (part_none l from)) tt

  pub part-f32_more : (i : ℕ) (d : Record) → PartF32 i → from ≤ i → i < length l → SetsF32 (get_or l i d).command → PartF32 (i + 1)
  part-f32_more i d e low less f =
      subst (λ (k : List Record). Each SetsF32 (commands_of k)) (sym (part-next l from i d low less)) (each-more (part l from i) (get_or l i d) e f)

-- of the used records that are there
pub used-f32 : (l : List Record) (n : ℕ) → PartF32 l 0 (min n (length l)) → Each SetsF32 (commands_of (take n l))
used-f32 l n = subst (λ (k : List Record). Each SetsF32 (commands_of k)) (rw (part-first, taken n l))
