-- Each accepted call keeps the tie between state, machine and book. Assumes nothing.
use Prim.Native.Nat.{ℕ, zero-le}
use borrow.Author.Tests.{le-ltb}
use mathlib.Core.Path.{◌≡◌, refl, sym, ap, subst}
use mathlib.Core.Bool.{Bool, true, cond}
use mathlib.Core.List.{List, []}
use Rattle.std.specs.Prelude.{Option, None, Some}
use native.Mathlib.Omega.{arith}
use lib.ListN.{get_or}
use Rattle.tables.specs.Tabulate.{tabulate}
use Rattle.mask.specs.Laws.{test_zero}
use Rattle.records.specs.Start.{start_target, start_state}
use Rattle.records.specs.declared.command.Command.{Command}
use Rattle.records.specs.declared.pipeline.PrivateCapabilities.{PrivateCapabilities}
use Rattle.records.specs.declared.pipeline.RenderPipeline.{RenderPipeline}
use Rattle.records.specs.declared.state.Phase.{Phase}
use Rattle.records.specs.declared.state.Phase.TheVariants.{Closed, Open, Render, Compute}
use Rattle.records.specs.declared.state.PassState.{PassState}
use Rattle.records.specs.declared.state.ImmediateState.{ImmediateState}
use Rattle.records.specs.declared.state.State.{State}
use Rattle.bindings.specs.Units.{unit_at, sampler_at, number_at, resolve}
use Rattle.calls.specs.Parts.{with_progress, with_pass, with_immediates}
use Rattle.calls.specs.Meaning.{in_closed, in_open, in_render, in_compute}
use Rattle.machine.proofs.Lists.{false-true}
use Rattle.machine.specs.View.{Stage, before, first, later}
use Rattle.machine.specs.Machine.{Machine, fresh, play}
use Rattle.book.specs.Book.{References, Book, empty, next_stage}
use Rattle.order.proofs.Invariant.{First, Sane, Piped, Tied}
use Rattle.order.proofs.Idle.{Idle}

-- ---- phases and stages
pub closed_is : (p : Phase) → in_closed p ≡ true → p ≡ Closed
closed_is Closed e = refl
closed_is Open e = false-true e
closed_is Render e = false-true e
closed_is Compute e = false-true e

pub open_is : (p : Phase) → in_open p ≡ true → p ≡ Open
open_is Closed e = false-true e
open_is Open e = refl
open_is Render e = false-true e
open_is Compute e = false-true e

pub render-is : (p : Phase) → in_render p ≡ true → p ≡ Render
render-is Closed e = false-true e
render-is Open e = false-true e
render-is Render e = refl
render-is Compute e = false-true e

pub compute-is : (p : Phase) → in_compute p ≡ true → p ≡ Compute
compute-is Closed e = false-true e
compute-is Open e = false-true e
compute-is Render e = false-true e
compute-is Compute e = refl

pub first-is : (st : Stage) → First Render st → st ≡ first
first-is before l = absurd l
first-is first l = refl
first-is later l = absurd l

pub is-first : (st : Stage) → st ≡ first → First Render st
is-first st e = subst (λ (x : Stage). First Render x) (sym e) tt

-- the first pass begins before any other
pub begins : (st : Stage) → First Render (next_stage st) → st ≡ before
begins before l = refl
begins first l = absurd l
begins later l = absurd l

pub sane-on : (st : Stage) → Sane Render (next_stage st)
sane-on before = tt
sane-on first = tt
sane-on later = tt

pub not-early : (st : Stage) → next_stage st ≡ before → ⊥
not-early before e = let z : ◌≡◌ {A = ℕ} 0 1 = cc in omega arith
not-early first e = let z : ◌≡◌ {A = ℕ} 0 1 = cc in omega arith
not-early later e = let z : ◌≡◌ {A = ℕ} 0 1 = cc in omega arith

-- in a render pass it is not early
pub late : (st : Stage) → Sane Render st → st ≡ before → ⊥
late before s e = s
late first s e = let z : ◌≡◌ {A = ℕ} 0 1 = cc in omega arith
late later s e = let z : ◌≡◌ {A = ℕ} 0 1 = cc in omega arith

-- ---- the beginning
pub nothing : {A : Type 0} (f : ℕ → A) → tabulate 0 f ≡ []
unfolding tabulate
nothing f = refl

pub started : (caps : PrivateCapabilities) (n k l : ℕ) → Tied caps (with_progress (record { phase = Open; commands = n; bytes = k; queries = l }) start_state) fresh empty
started caps n k l =
    record {
      stage = refl;
      sane = tt;
      log = tt;
      screen = record { viewport = refl; scissor = refl; blend = refl };
      res = record { buffers = refl; textures = refl; images = refl; index = refl };
      args = record { format = refl; offset = refl };
      units = record { samplers_long = refl; units_long = refl; same = λ k l. none-set k; taken = λ u l. none-taken u };
      lazy = record { bias = refl; alpha = refl; clip = λ j i. sym (le-ltb i 0 zero-le) j; targets = no_targets; primitive = λ ne. absurd (ne refl) };
      steady = record { long = refl };
      spare = λ flat i e. refl;
      early = λ e. record { vertex = refl; unset = refl; empty = λ i. refl };
      slots = λ l. absurd l;
      piped = λ l. absurd l;
    }
  where
    none-set : (k : ℕ) → sampler_at start_state.bind k ≡ None
    none-set k = ap (λ (t : Bool). cond t (Some (get_or start_state.bind.samplers k 0)) None) (test_zero k)

    none-taken : (u : ℕ) → None ≡ resolve start_state.bind (number_at start_state.bind u)
    none-taken u = sym (ap (λ (t : Bool). resolve start_state.bind (cond t (Some (unit_at start_state.bind u).sampler_index) None)) (test_zero u))

    no_targets : tabulate 0 (λ i. start_target) ≡ []
    no_targets = nothing (λ i. start_target)

module _ (caps : PrivateCapabilities) (s : State) (m : Machine) (b : Book) (T : Tied caps s m b) where
  -- only the counts change
  pub recounted : (n k l : ℕ) → Tied caps (with_progress (record { phase = s.progress.phase; commands = n; bytes = k; queries = l }) s) m b
  recounted n k l =
      record { stage = T.stage; sane = T.sane; log = T.log; screen = T.screen; res = T.res; args = T.args; units = T.units; lazy = T.lazy; steady = T.steady; spare = T.spare; early = T.early; slots = T.slots; piped = λ f p e. let P = T.piped f p e in record { drawn = P.drawn; set = P.set; stenciled = P.stenciled; numbered = P.numbered; fetched = P.fetched } }

  -- a call whose commands set nothing and that changes only the parts that no draw finds
  pub idles : (cs : List Command) → Idle cs → (pass : PassState) (i : ImmediateState) (n k l : ℕ)
      → Tied caps (with_progress (record { phase = s.progress.phase; commands = n; bytes = k; queries = l }) (with_pass pass (with_immediates i s))) (play m cs) b
  idles cs h pass i n k l =
      subst (λ (x : Machine). Tied caps (with_progress (record { phase = s.progress.phase; commands = n; bytes = k; queries = l }) (with_pass pass (with_immediates i s))) x b) (sym (h m))
      (record { stage = T.stage; sane = T.sane; log = T.log; screen = T.screen; res = T.res; args = T.args; units = T.units; lazy = T.lazy; steady = T.steady; spare = T.spare; early = T.early; slots = T.slots; piped = λ f p e. repiped (T.piped f p e) })
    where
      repiped : {r : Option References} {p : RenderPipeline} → Piped caps s m.gl r p → Piped caps (with_progress (record { phase = s.progress.phase; commands = n; bytes = k; queries = l }) (with_pass pass (with_immediates i s))) m.gl r p
      repiped P = record { drawn = P.drawn; set = P.set; stenciled = P.stenciled; numbered = P.numbered; fetched = P.fetched }

  -- the same between two phases with no render pass open
  pub moves : (cs : List Command) → Idle cs → (ph : Phase) → ((st : Stage) → First ph st → ⊥) → ((st : Stage) → Sane ph st) → (pass : PassState) (n k l : ℕ)
      → Tied caps (with_progress (record { phase = ph; commands = n; bytes = k; queries = l }) (with_pass pass s)) (play m cs) b
  moves cs h ph shut fine pass n k l =
      subst (λ (x : Machine). Tied caps (with_progress (record { phase = ph; commands = n; bytes = k; queries = l }) (with_pass pass s)) x b) (sym (h m))
      (record {
        stage = T.stage;
        sane = fine b.stage;
        log = T.log;
        screen = T.screen;
        res = T.res;
        args = T.args;
        units = T.units;
        lazy = T.lazy;
        steady = T.steady;
        spare = T.spare;
        early = T.early;
        slots = λ f. absurd (shut b.stage f);
        piped = λ f. absurd (shut b.stage f);
      })
