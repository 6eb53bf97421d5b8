-- `text::field::Shown::new` meets its contract: the fields are laid over none. Assumes nothing.
use mathlib.Core.Path.{sym, ap, ◌∙◌}
use Prim.Native.Nat.{min}
use Rattle.text.proofs.Told.{laid_over}
use Rattle.text.proofs.field.Shown.new.Goals as goal

pub returns : goal.returns
returns g c =
    laid_over c.args.name c.min-count.result c.args.fields c.copy_from_slice.new.self
    (c.min-count.ensures ∙ ap (λ n. min n 14) (sym c.well_formed.1.0.1.0.1))
    c.copy_from_slice.ensures.after
