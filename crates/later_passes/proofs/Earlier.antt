-- Any calls before a pass, refused ones included: past the first pass the tie says only what holds always, and every call keeps it. Then a pass begins, with a book that has
-- neither pipeline nor vertex buffers, and the tie holds again as it does at the beginning of the first. Assumes nothing.
use Prim.Native.Nat.{ℕ}
use mathlib.Core.Path.{◌≡◌, refl, sym, ap, ◌∙◌, subst}
use mathlib.Core.Bool.{Bool, true, false, cond}
use mathlib.Core.List.{List, [], ◌∷◌, ◌++◌}
use Rattle.std.specs.Prelude.{None}
use native.Mathlib.Omega.{arith}
use lib.ListN.{length, take}
use Rattle.records.specs.declared.check.Rooms.{Rooms}
use Rattle.records.specs.declared.pipeline.PrivateCapabilities.{PrivateCapabilities}
use Rattle.records.specs.declared.state.Phase.{Phase}
use Rattle.records.specs.declared.state.Phase.TheVariants.{Closed, Open, Render, Compute}
use Rattle.records.specs.declared.state.State.{State}
use Rattle.calls.specs.Call.{Call, begin_encoding}
use Rattle.calls.specs.Parts.{with_progress}
use Rattle.calls.specs.Step.{meaning, progress_after, step}
use Rattle.machine.proofs.Lists.{false-true, none-some}
use Rattle.machine.proofs.Sweep.{play-append}
use Rattle.machine.specs.View.{before, first, later}
use Rattle.machine.specs.Machine.{Gl, Machine, fresh_gl, fresh, play}
use Rattle.lists.specs.Shots.{noting}
use Rattle.book.specs.Book.{Book, empty, in_stage, enter}
use Rattle.book.specs.Premise.{Premise}
use Rattle.book.specs.Run.{carried, Recording, beginning, record_call, record_calls}
use Rattle.order.proofs.Invariant.{First, Sane, Tied}
use Rattle.order.proofs.Keeps.{started}
use Rattle.order.proofs.Accept.{resumed, accepts}
use Rattle.order.proofs.Induction.{Right}
use Rattle.later_passes.proofs.Grows.{Turn, anew, on, turn, Grown, grown}

-- ---- past the first pass
-- a machine that notes no draw
abbrev pub past : Gl → Machine
past g = record { stage = later; gl = g; shots = [] }

sane-later : (p : Phase) → Sane p later
sane-later Closed = tt
sane-later Open = tt
sane-later Render = tt
sane-later Compute = tt

shut : {A : Type 0} (p : Phase) → First p later → A
shut Closed f = absurd f
shut Open f = absurd f
shut Render f = absurd f
shut Compute f = absurd f

not-early : {A : Type 0} → later ≡ before → A
not-early e = let z : ◌≡◌ {A = ℕ} 0 1 = cc in absurd (omega arith)

begins-past : (caps : PrivateCapabilities) (s : State) → Tied caps s fresh empty → Tied caps s (past fresh_gl) (in_stage later empty)
begins-past caps s T =
    record {
      stage = refl;
      sane = sane-later s.progress.phase;
      log = tt;
      screen = record { viewport = T.screen.viewport; scissor = T.screen.scissor; blend = T.screen.blend };
      res = T.res;
      args = record { format = T.args.format; offset = T.args.offset };
      units = T.units;
      lazy = T.lazy;
      steady = T.steady;
      spare = T.spare;
      early = λ e. not-early e;
      slots = λ f. shut s.progress.phase f;
      piped = λ f. shut s.progress.phase f;
    }

-- an accepted call that goes on with the list
pub stepped : (caps : PrivateCapabilities) (rooms : Rooms) (s : State) (m : Machine) (b : Book) (c : Call) → Tied caps s m b → carried caps rooms s c ≡ true → resumed c m ≡ m → Premise b c
    → Tied caps (step caps rooms s c).state (play m (step caps rooms s c).commands) (enter caps b c)
stepped caps rooms s m b c T e h P =
    subst (λ (t : Bool). Tied caps (cond t (with_progress (progress_after (meaning caps s c)) (meaning caps s c).after) s) (play m (cond t (meaning caps s c).commands [])) (enter caps b c)) (sym e)
    (subst (λ (n : Machine). Tied caps (with_progress (progress_after (meaning caps s c)) (meaning caps s c).after) (play n (meaning caps s c).commands) (enter caps b c)) h
    (accepts caps rooms s m b T c e P))

-- what a recording has at any moment: some book past its first pass is tied to what the whole list leaves
pub record Held (caps : PrivateCapabilities) (r : Recording) : Type 0 where
  pub counted : length r.list ≡ r.state.progress.commands
  pub book : Book
  pub stage : book.stage ≡ later
  pub tied : Tied caps r.state (play (past fresh_gl) r.list) book

pub held_start : (caps : PrivateCapabilities) (s : State) → Right caps (beginning s) empty → Held caps (beginning s)
held_start caps s R = record { counted = R.counted; book = in_stage later empty; stage = refl; tied = begins-past caps s R.tied }

pub one-held : (caps : PrivateCapabilities) (rooms : Rooms) (r : Recording) (c : Call) → Held caps r → Held caps (record_call caps rooms r c)
one-held caps rooms r c H = by (turn caps s H.book c)
  where
    s : State
    s = r.state

    M : Machine
    M = play (past fresh_gl) r.list

    -- a new list
    new : (t : Bool)
        → Held caps
        (record {
          state = cond t (with_progress (progress_after (meaning caps s begin_encoding)) (meaning caps s begin_encoding).after) s;
          list = cond t (take (meaning caps s begin_encoding).after.progress.commands r.list ++ (meaning caps s begin_encoding).commands) r.list;
          bytes = cond t (take (meaning caps s begin_encoding).after.progress.bytes r.bytes ++ (meaning caps s begin_encoding).bytes) r.bytes;
          queries = cond t (take (meaning caps s begin_encoding).after.progress.queries r.queries ++ (meaning caps s begin_encoding).queries) r.queries;
        })
    new true = record { counted = refl; book = in_stage later empty; stage = refl; tied = begins-past caps _ (started caps 0 0 0) }
    new false = record { counted = H.counted; book = H.book; stage = H.stage; tied = H.tied }

    by : Turn caps s H.book c → Held caps (record_call caps rooms r c)
    by (anew e) = subst (λ (x : Call). Held caps (record_call caps rooms r x)) (sym e) (new (carried caps rooms s begin_encoding))
    by (on p h P q) = go (carried caps rooms s c) refl
      where
        G : Grown caps rooms r c
        G = grown caps rooms r c H.counted p

        -- what the call left of the tie, of the whole list
        whole : (b : Book) → Tied caps (step caps rooms s c).state (play M (step caps rooms s c).commands) b
            → Tied caps (step caps rooms s c).state (play (past fresh_gl) (record_call caps rooms r c).list) b
        whole b T =
            subst (λ (m : Machine). Tied caps (step caps rooms s c).state m b) (sym (ap (play (past fresh_gl)) G.list ∙ play-append (past fresh_gl) r.list (step caps rooms s c).commands)) T

        go : (t : Bool) → carried caps rooms s c ≡ t → Held caps (record_call caps rooms r c)
        go true e =
            record {
              counted = G.counted;
              book = enter caps H.book c;
              stage = q H.stage;
              tied = whole (enter caps H.book c) (stepped caps rooms s M H.book c H.tied e (h M) (P H.stage));
            }
        go false e =
            record {
              counted = G.counted;
              book = H.book;
              stage = H.stage;
              tied =
                  whole H.book
                  (subst (λ (t : Bool). Tied caps (cond t (with_progress (progress_after (meaning caps s c)) (meaning caps s c).after) s) (play M (cond t (meaning caps s c).commands [])) H.book)
                  (sym e) H.tied);
            }

pub all_held : (caps : PrivateCapabilities) (rooms : Rooms) (r : Recording) (cs : List Call) → Held caps r → Held caps (record_calls caps rooms r cs)
unfolding record_calls
all_held caps rooms r [] H = H
all_held caps rooms r (c ∷ cs) H = all_held caps rooms (record_call caps rooms r c) cs (one-held caps rooms r c H)

-- ---- a pass begins
-- the book at its beginning: pipeline and vertex buffers are to be set again, everything else is what earlier calls left
abbrev pub reopen : Book → Book
reopen b =
    record {
      stage = first;
      pipeline = None;
      reference = None;
      buffer = λ i. None;
      index = b.index;
      format = b.format;
      offset = b.offset;
      bound = b.bound;
      viewport = b.viewport;
      scissor = b.scissor;
      blend = b.blend;
      draws = [];
    }

sane-first : (p : Phase) → Sane p first
sane-first Closed = tt
sane-first Open = tt
sane-first Render = tt
sane-first Compute = tt

-- in whatever phase: every claim about slots and pipeline is empty, since the book has none
pub reopened : (caps : PrivateCapabilities) (s : State) (m : Machine) (b : Book) → Tied caps s m b → Tied caps s (noting m.gl) (reopen b)
reopened caps s m b T =
    record {
      stage = refl;
      sane = sane-first s.progress.phase;
      log = tt;
      screen = record { viewport = T.screen.viewport; scissor = T.screen.scissor; blend = T.screen.blend };
      res = T.res;
      args = record { format = T.args.format; offset = T.args.offset };
      units = T.units;
      lazy = T.lazy;
      steady = T.steady;
      spare = T.spare;
      early = λ e. early e;
      slots = λ f. record { bound = λ i l h. false-true h; clean = λ layout i l h. false-true h };
      piped = λ f p e. none-some e;
    }
  where
    early : {A : Type 0} → first ≡ before → A
    early e = let z : ◌≡◌ {A = ℕ} 0 1 = cc in absurd (omega arith)
