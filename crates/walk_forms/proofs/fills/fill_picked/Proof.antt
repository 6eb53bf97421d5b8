-- By `picks` of walks.
use mathlib.Core.Path.{refl}
use mir.Syntax.{w32}
use lib.Dec.{lit<}
use Rattle.walks.proofs.Args.{uint}
use Rattle.walks.proofs.Picking.{Picks, picks}
use Rattle.walk_forms.specs.Filled.{place_in, PlaceFits, picked_at, PickFits}
use Rattle.walk_forms.proofs.Data.{window, kinds_of}
use Rattle.walk_forms.proofs.fills.at_of.Symbol as at_of
use Rattle.walk_forms.proofs.fills.at_of.Met as at_thm
use Rattle.walk_forms.proofs.fills.count_of.Symbol as count_of
use Rattle.walk_forms.proofs.fills.count_of.Met as count_thm
use Rattle.walk_forms.proofs.fills.place.Symbol as place
use Rattle.walk_forms.proofs.fills.place.Met as place_thm
use Rattle.walk_forms.proofs.fills.picked.Symbol as picked
use Rattle.walk_forms.proofs.fills.picked.Met as picked_thm
use Rattle.walk_forms.specs.contracts.fills.fill_picked.Key as key
use Rattle.walk_forms.proofs.fills.fill_picked.Statement.{statement}
use Rattle.walk_forms.proofs.fills.fill_picked.Code as code

abbrev these : Picks
these =
    record {
      kinds = kinds_of window;
      E = uint w32;
      size = 4;
      none = 0;
      bytes = 4;
      bytes_is = refl;
      bytes_fit = tt;
      all_fit = lit< tt;
      at = λ w. w.at;
      n = λ w. w.n;
      place_at = place_in;
      command_at = picked_at;
      Allowed = PlaceFits;
      Good = PickFits;
      within = λ w i h. h;
    }

pub fill_picked_spec : {M : Type 1} → statement M
fill_picked_spec 𝓤 𝓛 𝓜 𝓡 wired = picks these 𝓛 𝓜 𝓡 𝓡.env key.name at_of.name count_of.name place.name picked.name (code.unfolded 𝓤 𝓛.H 𝓜 𝓡 wired)
    (𝓡.env at_of.name) refl (at_thm.met 𝓤 𝓛 𝓜 𝓡 (code.calls-walk_forms::fills::at_of 𝓡.env wired))
    (𝓡.env count_of.name) refl (count_thm.met 𝓤 𝓛 𝓜 𝓡 (code.calls-walk_forms::fills::count_of 𝓡.env wired))
    (𝓡.env place.name) refl (place_thm.met 𝓤 𝓛 𝓜 𝓡 (code.calls-walk_forms::fills::place 𝓡.env wired))
    (𝓡.env picked.name) refl (picked_thm.met 𝓤 𝓛 𝓜 𝓡 (code.calls-walk_forms::fills::picked 𝓡.env wired))
