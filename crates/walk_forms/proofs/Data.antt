-- The types of plain data of this crate, as the laws take them. Assumes nothing.
use mathlib.Core.Path.{refl}
use mir.Syntax.{w32, w64}
use denote.Struct.Laws as SL
use Rattle.walks.proofs.Args.{Datum, uint, of_struct}
use Rattle.walks.proofs.Filling.{Kinds}
use Rattle.walks.proofs.Recording.{Plans, Answers}
use Rattle.walks.proofs.RecordingFrom.{PlansFrom}
use Rattle.list_walks.proofs.Elements.{Element}
use Rattle.walk_forms.specs.Filled.{rec_of, number_at, NumberFits, read_at, ReadFits}
use Rattle.walk_forms.specs.Planned.{answer_of, answer_from}
use Rattle.walk_forms.specs.contracts.fills.Rec as R
use Rattle.walk_forms.proofs.fills.Rec.TheLaws as R'
use Rattle.walk_forms.specs.contracts.fills.Batch as B
use Rattle.walk_forms.proofs.fills.Batch.TheLaws as B'
use Rattle.walk_forms.specs.contracts.fills.Window as W
use Rattle.walk_forms.proofs.fills.Window.TheLaws as W'
use Rattle.walk_forms.specs.contracts.plans.Plan as P
use Rattle.walk_forms.proofs.plans.Plan.TheLaws as P'
use Rattle.walk_forms.specs.contracts.plans.Reading as G
use Rattle.walk_forms.proofs.plans.Reading.TheLaws as G'
use Rattle.walk_forms.specs.contracts.plans.Answer as A
use Rattle.walk_forms.proofs.plans.Answer.TheLaws as A'

abbrev pub rec : Datum
rec = of_struct R.the_type R'.the_laws R'.the_plain R'.the_copy R'.mir refl

-- a record and its size in bytes
abbrev pub element : Element
element = record { R = rec; bytes = 4; bytes_is = refl; bytes_fit = tt }

abbrev pub batch : Datum
batch = of_struct B.the_type B'.the_laws B'.the_plain B'.the_copy B'.mir refl

abbrev pub window : Datum
window = of_struct W.the_type W'.the_laws W'.the_plain W'.the_copy W'.mir refl

-- a record holds a u32; what it is made from is any
abbrev pub kinds_of : Datum → Kinds
kinds_of from =
    record {
      R = rec;
      C = uint w32;
      P = from;
      wrap = rec_of;
      wrap_val = λ c. refl;
      wrap_is = λ c g. SL.owes R.the_type R'.the_laws (rec_of c) (g, tt);
      bytes = 4;
      bytes_is = refl;
      bytes_fit = tt;
    }

abbrev pub plan : Datum
plan = of_struct P.the_type P'.the_laws P'.the_plain P'.the_copy P'.mir refl

abbrev pub read_plan : Datum
read_plan = of_struct G.the_type G'.the_laws G'.the_plain G'.the_copy G'.mir refl

abbrev pub answer : Datum
answer = of_struct A.the_type A'.the_laws A'.the_plain A'.the_copy A'.mir refl

abbrev pub plans : Plans
plans = record { kinds = kinds_of batch; Pl = plan; batch = λ p. p.batch; at = λ b. b.at; n = λ b. b.n; Allowed = NumberFits; command_at = number_at }

abbrev pub plans_from : PlansFrom
plans_from =
    record { kinds = kinds_of window; Pl = read_plan; batch = λ p. p.window; at = λ w. w.at; n = λ w. w.n; Allowed = ReadFits; command_at = read_at }

abbrev pub answers : Answers plan
answers = record { St = uint w64; An = answer; answer = answer_of }

abbrev pub answers_from : Answers read_plan
answers_from = record { St = uint w64; An = answer; answer = answer_from }
