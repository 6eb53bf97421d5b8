-- `pass::place::attach_place` meets its contract, case by case. Assumes nothing.
use borrow.Author.Rules.{rules}
use Rattle.pass.proofs.place.attach_place.Goals as goal

pub returns-in-None : goal.returns-in-None
returns-in-None c = λ h. search rules
