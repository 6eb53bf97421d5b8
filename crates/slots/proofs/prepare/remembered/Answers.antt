-- `slots::prepare::remembered` meets its contract. Assumes nothing.
use Rattle.std.proofs.Common.{◌≡◌, ℕ, cond, length, get_or, sym, rules}
use borrow.Author.Tests.{tests}
use Rattle.mask.specs.Mask.{test_bit}
use Rattle.tables.specs.Made.{made-is}
use Rattle.slots.proofs.Numbers.{none-remembered}
use Rattle.slots.proofs.prepare.remembered.Goals as goal

-- where no slot is bound the numbers stay
pub returns-then-m-eq0 : goal.returns-then-m-eq0
returns-then-m-eq0 c =
    let a = c.args in
    let e : length a.instances ≡ 16 = search rules in
    rw c.if-m-eq0.true (sym (none-remembered a.instances a.w e))

pub returns : goal.returns
returns c =
    let a = c.args in
    made-is c.from_fn.result _ (λ (i : ℕ). cond (test_bit a.m i) a.w (get_or a.instances i 0)) 16 0 c.from_fn.ensures.items
    (λ i y q h k. search (rules, tests))
