-- By `compares-all` of list_walks.
use mathlib.Core.Path.{refl, ◌≡◌}
use mir.Syntax.{w32, w64}
use Prim.Native.Nat.{◌-◌}
use lib.ListN.{length}
use Rattle.walks.proofs.Args.{uint}
use Rattle.list_walks.specs.Turns.{turns, reading}
use Rattle.list_walks.proofs.ComparingAll.{Comparison, compares-all}
use Rattle.walk_forms.proofs.Data.{element}
use Rattle.walk_forms.specs.Filled.{rec_of}
use Rattle.walk_forms.specs.Steps.{place_a, place_b, turned}
use Rattle.walk_forms.proofs.reads.rest.Symbol as rest
use Rattle.walk_forms.proofs.reads.rest.Met as rest_thm
use Rattle.walk_forms.proofs.compares.no_record.Symbol as no_record
use Rattle.walk_forms.proofs.compares.no_record.Met as no_record_thm
use Rattle.walk_forms.proofs.compares.turns_of.Symbol as turns_of
use Rattle.walk_forms.proofs.compares.turns_of.Met as turns_of_thm
use Rattle.walk_forms.proofs.compares.start.Symbol as start
use Rattle.walk_forms.proofs.compares.start.Met as start_thm
use Rattle.walk_forms.proofs.compares.place_in_a.Symbol as place_in_a
use Rattle.walk_forms.proofs.compares.place_in_a.Met as place_in_a_thm
use Rattle.walk_forms.proofs.compares.place_in_b.Symbol as place_in_b
use Rattle.walk_forms.proofs.compares.place_in_b.Met as place_in_b_thm
use Rattle.walk_forms.proofs.reads.look.Symbol as look
use Rattle.walk_forms.proofs.reads.look.Met as look_thm
use Rattle.walk_forms.proofs.compares.turn.Symbol as turn
use Rattle.walk_forms.proofs.compares.turn.Met as turn_thm
use Rattle.walk_forms.proofs.compares.verdict.Symbol as verdict
use Rattle.walk_forms.proofs.compares.verdict.Met as verdict_thm
use Rattle.walk_forms.specs.contracts.compares.compare_all.Key as key
use Rattle.walk_forms.proofs.compares.compare_all.Statement.{statement}
use Rattle.walk_forms.proofs.compares.compare_all.Code as code

abbrev comparison : Comparison element (uint w64) (uint w64) (uint w32) (uint w32)
comparison = record {
  surveyed = λ l x. length l - x;
  turn = record { at_a = place_a; at_b = place_b; turn = turned };
  none = rec_of 0;
  turns_of = λ p q. p;
  start = λ p q. 0;
  verdict = λ m. m;
  Done = λ l x k y r. r ≡ turns (reading place_a place_b turned l k (rec_of 0)) (length l - x) 0;
  does = λ l x k y good good'. refl;
}

pub compare_all_spec : {M : Type 1} → statement M
compare_all_spec 𝓤 𝓛 𝓜 𝓡 wired = compares-all element (uint w64) (uint w64) (uint w32) (uint w32) comparison
    (record {
      survey = rest.name;
      no_record = no_record.name;
      turns_of = turns_of.name;
      start = start.name;
      place_a = place_in_a.name;
      place_b = place_in_b.name;
      look = look.name;
      turn = turn.name;
      verdict = verdict.name;
    }) 𝓛 𝓜 𝓡 𝓡.env key.name (code.unfolded 𝓤 𝓛.H 𝓜 𝓡 wired)
    (record {
      known_survey = rest_thm.met 𝓤 𝓛 𝓜 𝓡 (code.calls-walk_forms::reads::rest 𝓡.env wired);
      known_none = no_record_thm.met 𝓤 𝓛 𝓜 𝓡 (code.calls-walk_forms::compares::no_record 𝓡.env wired);
      known_turns = turns_of_thm.met 𝓤 𝓛 𝓜 𝓡 (code.calls-walk_forms::compares::turns_of 𝓡.env wired);
      known_start = start_thm.met 𝓤 𝓛 𝓜 𝓡 (code.calls-walk_forms::compares::start 𝓡.env wired);
      known_a = place_in_a_thm.met 𝓤 𝓛 𝓜 𝓡 (code.calls-walk_forms::compares::place_in_a 𝓡.env wired);
      known_b = place_in_b_thm.met 𝓤 𝓛 𝓜 𝓡 (code.calls-walk_forms::compares::place_in_b 𝓡.env wired);
      known_look = look_thm.met 𝓤 𝓛 𝓜 𝓡 (code.calls-walk_forms::reads::look 𝓡.env wired);
      known_turn = turn_thm.met 𝓤 𝓛 𝓜 𝓡 (code.calls-walk_forms::compares::turn 𝓡.env wired);
      known_verdict = verdict_thm.met 𝓤 𝓛 𝓜 𝓡 (code.calls-walk_forms::compares::verdict 𝓡.env wired);
    })
