-- By `looks` of list_walks.
use Rattle.walk_forms.proofs.Data.{element}
use Rattle.list_walks.proofs.Reading.{looks}
use Rattle.walk_forms.specs.contracts.reads.look.Key as key
use Rattle.walk_forms.proofs.reads.look.Statement.{statement}
use Rattle.walk_forms.proofs.reads.look.Code as code

pub look_spec : {M : Type 1} → statement M
look_spec 𝓤 𝓛 𝓜 𝓡 wired = looks element 𝓛 𝓜 𝓡 𝓡.env key.name (code.unfolded 𝓤 𝓛.H 𝓜 𝓡 wired)
