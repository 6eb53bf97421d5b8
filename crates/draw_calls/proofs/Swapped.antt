-- A draw whose own commands differ only where it is refused by condition 6 is the same draw. Assumes nothing.
use Prim.Native.Nat.{ℕ, ◌+◌}
use mathlib.Core.Bool.{Bool, true, false, ◌||◌}
use mathlib.Core.List.{List, ◌++◌}
use mathlib.Core.Path.{◌≡◌, refl, sym, ap, ◌∙◌, subst}
use native.Mathlib.Omega.{arith}
use lib.ListN.{length, length-append}
use Rattle.records.specs.Outcome.{accepted}
use Rattle.records.specs.declared.command.Command.{Command}
use Rattle.records.specs.declared.pipeline.PrivateCapabilities.{PrivateCapabilities}
use Rattle.records.specs.declared.state.State.{State}
use Rattle.slots.specs.Prepare.{prepared, prepared_over}
use Rattle.draw_calls.specs.declared.drawn.DrawPlan.{DrawPlan}
use Rattle.draw_calls.specs.Drawn.{DrawOf}
use Rattle.calls.specs.Meaning.{Meaning}
use Rattle.calls.specs.Planned.{outcome_in}
use Rattle.calls.specs.Step.{drawing, outcome_of}
use Rattle.calls.proofs.Judged.{bad, none-holds}

or-true : (t : Bool) → t || true ≡ true
or-true true = refl
or-true false = refl

module _ (room : ℕ) (caps : PrivateCapabilities) (s : State) (w : ℕ) (four : Bool) (cs cs' : List Command) (l : length cs ≡ length cs') where
  abbrev m : List Command → Meaning
  m x = drawing caps s w four true x

  long : length (prepared caps s.vertex w ++ cs) ≡ length (prepared caps s.vertex w ++ cs')
  long = length-append (prepared caps s.vertex w) cs ∙ ap (λ (n : ℕ). length (prepared caps s.vertex w) + n) l ∙ sym (length-append (prepared caps s.vertex w) cs')

  same : outcome_in room s (m cs) ≡ outcome_in room s (m cs')
  unfolding outcome_of
  same = rw long

  refused : accepted (outcome_in room s (m cs)) ≡ false
  unfolding outcome_of
  refused = go (accepted (outcome_in room s (m cs))) refl
    where
      go : (t : Bool) → accepted (outcome_in room s (m cs)) ≡ t → t ≡ false
      go true e = bad (sym (none-holds _ e).sum ∙ or-true (prepared_over caps s.vertex w))
      go false e = refl

  over : (p : DrawPlan) → DrawOf room s (m cs) p → DrawOf room s (m cs') p
  over p h =
      let o = refused in
      let o' : accepted (outcome_in room s (m cs')) ≡ false = sym (ap accepted same) ∙ o in
      let none : p.batch.n ≡ 0 = h.1.count ∙ rw o in (
        (h.0.0 ∙ same, h.0.1 ∙ rw (o, o')),
        record { count = none ∙ rw o'; fits = h.1.fits; behind = h.1.behind; each = λ i k. absurd (omega arith) },
        h.2,
      )

pub swapped : (room : ℕ) (caps : PrivateCapabilities) (s : State) (w : ℕ) (four six : Bool) (cs cs' : List Command) → length cs ≡ length cs' → (six ≡ false → cs ≡ cs')
    → (p : DrawPlan) → DrawOf room s (drawing caps s w four six cs) p → DrawOf room s (drawing caps s w four six cs') p
swapped room caps s w four true cs cs' l e p h = over room caps s w four cs cs' l p h
swapped room caps s w four false cs cs' l e p h = subst (λ (x : List Command). DrawOf room s (drawing caps s w four false x) p) (e refl) h
