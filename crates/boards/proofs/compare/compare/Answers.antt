-- One turn more. What the last one leaves is the answer (`finds`), and the rest follows from the floats of the lent records (`sets-find-f32`, `answered`).
use Rattle.std.proofs.Common.{◌≡◌, ℕ, List, Option, Some, refl, sym, subst}
use Rattle.std.specs.Prelude.{IsSome}
use Rattle.records.specs.declared.command.Record.{Record}
use Rattle.list_walks.specs.Turns.{turns, reading}
use Rattle.list_walks.proofs.Turned.{turned_none, turned_more, turned_end}
use Rattle.lists.specs.declared.limits.Surveyed.{Surveyed}
use Rattle.lists.specs.declared.limits.Used.{Used}
use Rattle.lists.specs.Limits.{handed}
use Rattle.lists.specs.Survey.{survey_of}
use Rattle.boards.specs.declared.compare.Both.{Both}
use Rattle.boards.specs.Alike.{same_bits}
use Rattle.boards.specs.declared.compare.Compared.{Compared}
use Rattle.boards.specs.Compared.{compared}
use Rattle.boards.specs.Side.{no_record, start_of, turn_of, turns_of}
use Rattle.boards.proofs.Finding.{finds}
use Rattle.boards.proofs.Lent.{sets-find-f32}
use Rattle.boards.proofs.StillUnequal.{answered}
use Rattle.boards.proofs.compare.compare.Goals as goal

-- the turns from the start on
played : (l : List Record) (u : Used) (k : List Record) (v : Used) (p q : Surveyed) (d : Record) (n : ℕ) (m₀ m : Both)
    → p ≡ survey_of l u → q ≡ survey_of k v → d ≡ no_record → n ≡ turns_of p q → m₀ ≡ start_of p q
    → m ≡ turns (reading (λ m. m.a.at) (λ m. m.b.at) (turn_of same_bits) l k d) n m₀ → m.answer ≡ Some (compared same_bits (handed l u) (handed k v))
played l u k v p q d n m₀ m ep eq ed en em e = rw (e, em, en, ed, ep, eq) (finds same_bits l u k v)

some : (o : Option Compared) (r : Compared) → o ≡ Some r → IsSome o
some o r e = subst IsSome (sym e) refl

same_value : (o : Option Compared) (r q : Compared) → o ≡ Some r → o ≡ Some q → r ≡ q
same_value o r q e f = cc

pub loop-i-init : goal.loop-i-init
loop-i-init c = turned_none _ _ _ _ _ _ _ _

pub loop-i-preserved : goal.loop-i-preserved
loop-i-preserved c =
    turned_more _ _ _ _ _ _ _ _ _ _ _ _ _ _ _ c.loop-i.invariant c.loop-i-test.true refl c.look-r.ensures refl c.look-s.ensures c.turn-m.ensures

pub unwrap-requires : goal.unwrap-requires
unwrap-requires c =
    let h = played c.args.a.now c.args.used_a c.args.b.now c.args.used_b _ _ _ _ _ _ c.survey-p.ensures.survey c.survey-q.ensures.survey c.no_record-other.ensures c.turns_of-n.ensures c.start-m.ensures
    (turned_end _ _ _ _ _ _ _ _ _ _ c.loop-i.invariant c.loop-i-test.false) in
    some _ _ h

pub returns : goal.returns
returns c =
    let a = c.args.a.now in
    let b = c.args.b.now in
    let u = c.args.used_a in
    let v = c.args.used_b in
    let p = c.survey-p.ensures in
    let q = c.survey-q.ensures in
    let end = turned_end _ _ _ _ _ _ _ _ _ _ c.loop-i.invariant c.loop-i-test.false in
    let known = played a u b v _ _ _ _ _ _ p.survey q.survey c.no_record-other.ensures c.turns_of-n.ensures c.start-m.ensures end in
    answered _ _ (sets-find-f32 a u p.floats) (sets-find-f32 b v q.floats) _ (same_value _ _ _ c.unwrap.ensures known)
