-- `text::put::put_name` meets its contract: a name is short. Assumes nothing.
use native.Mathlib.Omega.{arith}
use mathlib.Core.Path.{ap}
use lib.ListN.{length}
use Rattle.text.proofs.Names.{name-short}
use Rattle.text.proofs.put.put_name.Goals as goal

pub put_text-requires : goal.put_text-requires
put_text-requires c =
    (omega (arith, c.requires.0, ap length c.name.ensures, name-short c.args.place c.requires.2), c.requires.1)
