-- Two lists whose draws one book has, and that break no limit, compare equal. Assumes nothing.
use mathlib.Core.Path.{◌≡◌, sym, ap, ap₂, ◌∙◌, subst}
use mathlib.Core.Bool.{Bool, false, cond}
use mathlib.Core.List.{List}
use lib.Ieee.{Float}
use lib.ListN.{length}
use borrow.Author.Tests.{eq-eqb}
use Rattle.records.specs.declared.check.Rooms.{Rooms}
use Rattle.records.specs.declared.command.Command.{Command}
use Rattle.records.specs.declared.pipeline.PrivateCapabilities.{PrivateCapabilities}
use Rattle.records.specs.declared.state.State.{State}
use Rattle.calls.specs.Call.{Call}
use Rattle.machine.specs.Machine.{Shot, fresh, play}
use Rattle.book.specs.Book.{Entered, Book, Fed, empty, book_of}
use Rattle.book.specs.Run.{beginning, record_calls, fed, Premises}
use Rattle.lists.specs.declared.limits.Breaks.{Breaks}
use Rattle.lists.specs.Limits.{keeps, either_breaks, Handed, broken_by}
use Rattle.boards.specs.declared.compare.Compared.TheVariants.{Equal, DrawCounts}
use Rattle.boards.specs.Alike.{Reflexive}
use Rattle.boards.specs.Compared.{first_off, by_draws, refused_or, draws_of, compared}
use Rattle.order.proofs.Invariant.{Agree}
use Rattle.order.proofs.Induction.{Right, all-calls, as_many}
use Rattle.two_boards.specs.Late.{late_draws}
use Rattle.two_boards.proofs.Noted.{AllNoted, noted-empty}
use Rattle.two_boards.proofs.FirstPass.{all_noted}
use Rattle.two_boards.proofs.Boards.{none-off, same-book, same-premises, same-late}

-- ---- one board: a list's draws are those that its book has
record Shown (caps : PrivateCapabilities) (l : List Command) (ds : List Entered) : Type 0 where
  pub noted : AllNoted l
  pub agree : Agree caps (play fresh l).shots ds

shown : (caps : PrivateCapabilities) (rooms : Rooms) (x : State) (calls : List Call) → Right caps (beginning x) empty → Premises caps empty (fed caps rooms x calls)
    → late_draws caps empty false (fed caps rooms x calls) ≡ false
    → Shown caps (record_calls caps rooms (beginning x) calls).list (book_of caps empty (fed caps rooms x calls)).draws
shown caps rooms x calls R P h =
    record {
      noted = all_noted caps rooms (beginning x) empty false calls R P (λ e. noted-empty) h;
      agree = (all-calls caps rooms (beginning x) empty calls R P).tied.log;
    }

-- ---- two lists
equal-draws : (same : Float → Float → Bool) → Reflexive same → (caps caps' : PrivateCapabilities) → caps'.vertex_buffer_layout ≡ false → (ss ts : List Shot) (ds : List Entered)
    → Agree caps ss ds → Agree caps' ts ds → by_draws same ss ts ≡ Equal
equal-draws same h caps caps' flat ss ts ds a b =
    ap (λ (t : Bool). cond t (first_off same 0 ss ts) DrawCounts) (eq-eqb (length ss) (length ts) (as_many caps ss ds a ∙ sym (as_many caps' ts ds b)))
    ∙ none-off same h caps caps' flat 0 ss ts ds a b

equal-lists : (same : Float → Float → Bool) → Reflexive same → (caps caps' : PrivateCapabilities) → caps'.vertex_buffer_layout ≡ false → (a b : Handed) (ds : List Entered)
    → Shown caps a.commands ds → Shown caps' b.commands ds → broken_by a ≡ keeps → broken_by b ≡ keeps → compared same a b ≡ Equal
equal-lists same h caps caps' flat a b ds S T p q =
    ap₂ (λ (x y : Breaks). refused_or (either_breaks x y) (by_draws same (draws_of a) (draws_of b))) p q
    ∙ ap₂ (λ (x y : List Shot). by_draws same x y) S.noted T.noted
    ∙ equal-draws same h caps caps' flat (play fresh a.commands).shots (play fresh b.commands).shots ds S.agree T.agree

-- the lists that the same calls record from two encoders that have just begun (x and y)
pub equal-recorded : (same : Float → Float → Bool) → Reflexive same
    → (caps caps' : PrivateCapabilities) → caps.fully_featured_instancing ≡ caps'.fully_featured_instancing → caps'.vertex_buffer_layout ≡ false
    → (rooms rooms' : Rooms) (x y : State) (calls : List Call) → Right caps (beginning x) empty → Right caps' (beginning y) empty
    → fed caps rooms x calls ≡ fed caps' rooms' y calls → Premises caps empty (fed caps rooms x calls) → late_draws caps empty false (fed caps rooms x calls) ≡ false
    → (a b : Handed) → a.commands ≡ (record_calls caps rooms (beginning x) calls).list → b.commands ≡ (record_calls caps' rooms' (beginning y) calls).list
    → broken_by a ≡ keeps → broken_by b ≡ keeps → compared same a b ≡ Equal
equal-recorded same h caps caps' alike flat rooms rooms' x y calls R R' f P l a b e e' p q =
    equal-lists same h caps caps' flat a b ds
    (subst (λ (c : List Command). Shown caps c ds) (sym e)
    (subst (λ (z : Book). Shown caps (record_calls caps rooms (beginning x) calls).list z.draws) (same-book caps caps' alike empty fs ∙ ap (book_of caps' empty) f)
    (shown caps rooms x calls R P l)))
    (subst (λ (c : List Command). Shown caps' c ds) (sym e')
    (shown caps' rooms' y calls R' (subst (Premises caps' empty) f (same-premises caps caps' alike empty fs P))
    (ap (late_draws caps' empty false) (sym f) ∙ sym (same-late caps caps' alike empty false fs) ∙ l))) p q
  where
    fs : List Fed
    fs = fed caps rooms x calls

    ds : List Entered
    ds = (book_of caps' empty (fed caps' rooms' y calls)).draws
