-- By `rewrites-back` of list_walks.
use mathlib.Core.Path.{refl}
use mir.Syntax.{w32}
use Rattle.walks.proofs.Args.{uint}
use Rattle.walk_forms.proofs.Data.{element}
use Rattle.walk_forms.specs.Steps.{newest, changed}
use Rattle.list_walks.proofs.RewritingBack.{rewrites-back}
use Rattle.walk_forms.proofs.writes.change.Symbol as change
use Rattle.walk_forms.proofs.writes.change.Met as change_thm
use Rattle.walk_forms.proofs.folds.step.Symbol as step
use Rattle.walk_forms.proofs.folds.step.Met as step_thm
use Rattle.walk_forms.specs.contracts.writes.rewrite_back.Key as key
use Rattle.walk_forms.proofs.writes.rewrite_back.Statement.{statement}
use Rattle.walk_forms.proofs.writes.rewrite_back.Code as code

pub rewrite_back_spec : {M : Type 1} → statement M
rewrite_back_spec 𝓤 𝓛 𝓜 𝓡 wired = rewrites-back element (uint w32) changed newest 𝓛 𝓜 𝓡 𝓡.env key.name change.name step.name (code.unfolded 𝓤 𝓛.H 𝓜 𝓡 wired)
    (𝓡.env change.name) refl (change_thm.met 𝓤 𝓛 𝓜 𝓡 (code.calls-walk_forms::writes::change 𝓡.env wired))
    (𝓡.env step.name) refl (step_thm.met 𝓤 𝓛 𝓜 𝓡 (code.calls-walk_forms::folds::step 𝓡.env wired))
