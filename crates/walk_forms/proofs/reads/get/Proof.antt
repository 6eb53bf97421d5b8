-- By `gets` of list_walks.
use Rattle.walk_forms.proofs.Data.{element}
use Rattle.walk_forms.specs.Filled.{rec_of}
use Rattle.list_walks.proofs.Reading.{gets}
use Rattle.walk_forms.specs.contracts.reads.get.Key as key
use Rattle.walk_forms.proofs.reads.get.Statement.{statement}
use Rattle.walk_forms.proofs.reads.get.Code as code

pub get_spec : {M : Type 1} → statement M
get_spec 𝓤 𝓛 𝓜 𝓡 wired = gets element (rec_of 0) 𝓛 𝓜 𝓡 𝓡.env key.name (code.unfolded 𝓤 𝓛.H 𝓜 𝓡 wired)
