-- By `copies-moved` of list_walks.
use mathlib.Core.Path.{refl}
use mir.Syntax.{w32}
use Rattle.walks.proofs.Args.{uint}
use Rattle.walk_forms.proofs.Data.{element}
use Rattle.walk_forms.specs.Steps.{moved}
use Rattle.list_walks.proofs.Copying.{copies-moved}
use Rattle.walk_forms.proofs.writes.move_by.Symbol as move_by
use Rattle.walk_forms.proofs.writes.move_by.Met as move_by_thm
use Rattle.walk_forms.specs.contracts.writes.copy_moved.Key as key
use Rattle.walk_forms.proofs.writes.copy_moved.Statement.{statement}
use Rattle.walk_forms.proofs.writes.copy_moved.Code as code

pub copy_moved_spec : {M : Type 1} → statement M
copy_moved_spec 𝓤 𝓛 𝓜 𝓡 wired = copies-moved element (uint w32) moved 𝓛 𝓜 𝓡 𝓡.env key.name move_by.name (code.unfolded 𝓤 𝓛.H 𝓜 𝓡 wired)
    (𝓡.env move_by.name) refl (move_by_thm.met 𝓤 𝓛 𝓜 𝓡 (code.calls-walk_forms::writes::move_by 𝓡.env wired))
