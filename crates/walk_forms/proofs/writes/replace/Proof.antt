-- By `replaces` of list_walks.
use Rattle.list_walks.proofs.Replacing.{Holder, replaces}
use Rattle.walk_forms.proofs.Data.{element, kinds_of, batch}
use Rattle.walk_forms.specs.Filled.{rec_of}
use Rattle.walk_forms.specs.contracts.writes.replace.Key as key
use Rattle.walk_forms.proofs.writes.replace.Statement.{statement}
use Rattle.walk_forms.proofs.writes.replace.Code as code

abbrev holder : Holder element
holder = record { C = (kinds_of batch).C; wrap = rec_of; wrap_val = (kinds_of batch).wrap_val; wrap_is = (kinds_of batch).wrap_is }

pub replace_spec : {M : Type 1} → statement M
replace_spec 𝓤 𝓛 𝓜 𝓡 wired = replaces element holder 𝓛 𝓜 𝓡 𝓡.env key.name (code.unfolded 𝓤 𝓛.H 𝓜 𝓡 wired)
