-- By `passes` of list_walks.
use mathlib.Core.Path.{refl, ◌≡◌, ap, ◌∙◌, subst, sym}
use mir.Syntax.{w32, w64}
use Prim.Native.Nat.{ℕ, ◌<◌}
use lib.ListN.{length, set}
use Rattle.walks.proofs.Args.{uint}
use Rattle.list_walks.proofs.Passing.{Passes, passes}
use Rattle.walk_forms.proofs.Data.{element}
use Rattle.walk_forms.specs.Filled.{rec_of}
use Rattle.walk_forms.proofs.writes.set_first.Symbol as set_first
use Rattle.walk_forms.proofs.writes.set_first.Met as set_first_thm
use Rattle.walk_forms.proofs.writes.set_second.Symbol as set_second
use Rattle.walk_forms.proofs.writes.set_second.Met as set_second_thm
use Rattle.walk_forms.specs.contracts.writes.both.Key as key
use Rattle.walk_forms.proofs.writes.both.Statement.{statement}
use Rattle.walk_forms.proofs.writes.both.Code as code

abbrev two : Passes
two = record {
  R = element.R;
  A = uint w32;
  B = uint w32;
  E = uint w32;
  C = uint w64;
  Req₁ = λ l n a. n < length l;
  Ens₁ = λ l n a l' r. (l' ≡ set l n (rec_of a)) × (r ≡ a);
  Req₂ = λ l n b. n < length l;
  Ens₂ = λ l n b l' r. (l' ≡ set l n (rec_of b)) × (r ≡ n);
  Req = λ l n a b. n < length l;
  Ens = λ l n a b l' r. (l' ≡ set (set l n (rec_of a)) n (rec_of b)) × (r ≡ n);
  first_may = λ l n a b h. h;
  second_may = λ l l' n a b e h same is. subst (λ (m : ℕ). n < m) (sym same) h;
  both_do = λ l l' l'' n a b e c h is is'. (is'.0 ∙ ap (λ (k : _). set k n (rec_of b)) is.0, is'.1);
}

pub both_spec : {M : Type 1} → statement M
both_spec 𝓤 𝓛 𝓜 𝓡 wired = passes two 𝓛 𝓜 𝓡 𝓡.env key.name set_first.name set_second.name (code.unfolded 𝓤 𝓛.H 𝓜 𝓡 wired)
    (𝓡.env set_first.name) refl (set_first_thm.met 𝓤 𝓛 𝓜 𝓡 (code.calls-walk_forms::writes::set_first 𝓡.env wired))
    (𝓡.env set_second.name) refl (set_second_thm.met 𝓤 𝓛 𝓜 𝓡 (code.calls-walk_forms::writes::set_second 𝓡.env wired))
