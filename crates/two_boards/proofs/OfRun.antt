-- Two boards, of the code's own answers, states and lists: of any two runs in which each call did what its contract says. Assumes nothing.
use mathlib.Core.Path.{◌≡◌, sym, ap, ◌∙◌, subst}
use mathlib.Core.Bool.{false}
use mathlib.Core.List.{List}
use Rattle.records.specs.declared.pipeline.PrivateCapabilities.{PrivateCapabilities}
use Rattle.records.specs.declared.state.Answer.{Answer}
use Rattle.records.specs.declared.state.State.{State}
use Rattle.calls.specs.Call.{Call}
use Rattle.calls.specs.Did.{Runs, rooms_of}
use Rattle.book.specs.Book.{empty}
use Rattle.book.specs.Run.{Recording, beginning, record_calls, fed, Premises}
use Rattle.book.specs.Ran.{Ran, answers, commands_of}
use Rattle.lists.specs.Limits.{handed}
use Rattle.boards.specs.Alike.{same_bits}
use Rattle.boards.proofs.Floats.{bits-self}
use Rattle.order.proofs.OfRun.{Begun, begun-run, answers-are, ran-begun}
use Rattle.recorded.specs.Recorded.{used_of}
use Rattle.recorded.proofs.Fits.{recorded-fits-of-run}
use Rattle.two_boards.specs.Late.{late_draws}
use Rattle.two_boards.specs.Claim.{TwoBoardsOfRunBy, TwoBoardsOfRun}
use Rattle.two_boards.proofs.Equal.{equal-recorded}

list_of : (caps : PrivateCapabilities) {s' : State} {r r' : Runs} {a : Answer} {calls : List Call} → Begun caps r a → Ran caps a.state r calls s' r'
    → commands_of s' r' ≡ (record_calls caps (rooms_of r) (beginning a.state) calls).list
list_of caps B R = ap (λ (y : Recording). y.list) (ran-begun caps B R)

pub two-boards-of-run : TwoBoardsOfRun
two-boards-of-run same h caps caps' alike flat s₀ t₀ s' t' r₀ r r' q₀ q q' a b calls d e R d' e' Q x P l =
    equal-recorded same h caps caps' alike flat (rooms_of r) (rooms_of q) a.state b.state calls B.right C.right
    (sym fs ∙ x ∙ gs) (subst (Premises caps empty) fs P) (ap (late_draws caps empty false) (sym fs) ∙ l)
    (handed r'.commands (used_of s'.progress)) (handed q'.commands (used_of t'.progress)) (list_of caps B R) (list_of caps' C Q)
    (recorded-fits-of-run caps s₀ s' r₀ r r' a calls d e R) (recorded-fits-of-run caps' t₀ t' q₀ q q' b calls d' e' Q)
  where
    B : Begun caps r a
    B = begun-run caps s₀ r₀ r a d e

    C : Begun caps' q b
    C = begun-run caps' t₀ q₀ q b d' e'

    fs : answers R ≡ fed caps (rooms_of r) a.state calls
    fs = answers-are caps R B.within

    gs : answers Q ≡ fed caps' (rooms_of q) b.state calls
    gs = answers-are caps' Q C.within

pub two-boards-of-run-by-bits : TwoBoardsOfRunBy same_bits
two-boards-of-run-by-bits = two-boards-of-run same_bits bits-self
