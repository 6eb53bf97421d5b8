-- By `compares` of list_walks.
use mathlib.Core.Path.{refl}
use mir.Syntax.{w32}
use Rattle.walks.proofs.Args.{uint}
use Rattle.walk_forms.proofs.Data.{element}
use Rattle.walk_forms.specs.Steps.{place_a, place_b, turned}
use Rattle.list_walks.proofs.Comparing.{compares}
use Rattle.walk_forms.proofs.compares.place_in_a.Symbol as place_in_a
use Rattle.walk_forms.proofs.compares.place_in_a.Met as place_in_a_thm
use Rattle.walk_forms.proofs.compares.place_in_b.Symbol as place_in_b
use Rattle.walk_forms.proofs.compares.place_in_b.Met as place_in_b_thm
use Rattle.walk_forms.proofs.reads.look.Symbol as look
use Rattle.walk_forms.proofs.reads.look.Met as look_thm
use Rattle.walk_forms.proofs.compares.turn.Symbol as turn
use Rattle.walk_forms.proofs.compares.turn.Met as turn_thm
use Rattle.walk_forms.specs.contracts.compares.compare.Key as key
use Rattle.walk_forms.proofs.compares.compare.Statement.{statement}
use Rattle.walk_forms.proofs.compares.compare.Code as code

pub compare_spec : {M : Type 1} → statement M
compare_spec 𝓤 𝓛 𝓜 𝓡 wired = compares element (uint w32) (record { at_a = place_a; at_b = place_b; turn = turned })
    (record { place_a = place_in_a.name; place_b = place_in_b.name; look = look.name; turn = turn.name }) 𝓛 𝓜 𝓡 𝓡.env key.name (code.unfolded 𝓤 𝓛.H 𝓜 𝓡 wired)
    (𝓡.env place_in_a.name) refl (place_in_a_thm.met 𝓤 𝓛 𝓜 𝓡 (code.calls-walk_forms::compares::place_in_a 𝓡.env wired))
    (𝓡.env place_in_b.name) refl (place_in_b_thm.met 𝓤 𝓛 𝓜 𝓡 (code.calls-walk_forms::compares::place_in_b 𝓡.env wired))
    (𝓡.env look.name) refl (look_thm.met 𝓤 𝓛 𝓜 𝓡 (code.calls-walk_forms::reads::look 𝓡.env wired))
    (𝓡.env turn.name) refl (turn_thm.met 𝓤 𝓛 𝓜 𝓡 (code.calls-walk_forms::compares::turn 𝓡.env wired))
