-- `records::outcome::outcome_of` meets its contract: the tests in the order of the numbers. Assumes nothing.
use Rattle.records.specs.Outcome.{smallest}
use Rattle.records.proofs.outcome.outcome_of.Goals as goal

pub returns-then-c : goal.returns-then-c
unfolding smallest
returns-then-c c = simp c.if-c.true

pub returns-then-c-2 : goal.returns-then-c-2
unfolding smallest
returns-then-c-2 c = simp (c.if-c-2.true, c.if-c.false)

pub returns-then-c-3 : goal.returns-then-c-3
unfolding smallest
returns-then-c-3 c = simp (c.if-c-3.true, c.if-c-2.false, c.if-c.false)

pub returns-then-c-4 : goal.returns-then-c-4
unfolding smallest
returns-then-c-4 c = simp (c.if-c-4.true, c.if-c-3.false, c.if-c-2.false, c.if-c.false)

pub returns-then-c-5 : goal.returns-then-c-5
unfolding smallest
returns-then-c-5 c =
    simp (
      c.if-c-5.true,
      c.if-c-4.false,
      c.if-c-3.false,
      c.if-c-2.false,
      c.if-c.false,
    )

pub returns-then-c-6 : goal.returns-then-c-6
unfolding smallest
returns-then-c-6 c =
    simp (
      c.if-c-6.true,
      c.if-c-5.false,
      c.if-c-4.false,
      c.if-c-3.false,
      c.if-c-2.false,
      c.if-c.false,
    )

pub returns-then-c-7 : goal.returns-then-c-7
unfolding smallest
returns-then-c-7 c =
    simp (
      c.if-c-7.true,
      c.if-c-6.false,
      c.if-c-5.false,
      c.if-c-4.false,
      c.if-c-3.false,
      c.if-c-2.false,
      c.if-c.false,
    )

pub returns : goal.returns
unfolding smallest
returns c =
    simp (
      c.if-c-7.false,
      c.if-c-6.false,
      c.if-c-5.false,
      c.if-c-4.false,
      c.if-c-3.false,
      c.if-c-2.false,
      c.if-c.false,
    )
