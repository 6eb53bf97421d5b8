-- TWO BOARDS (document 02 §3): for the same calls, accepted on two boards that both emulate instancing or both do not, with no draw outside of the first render pass,
-- under document 01's premises, the answer about the two lists is equal; shown again by bits (§12). Assumes nothing.
use mathlib.Core.Path.{refl}
use Rattle.boards.specs.Alike.{same_bits}
use Rattle.boards.proofs.Floats.{bits-self}
use Rattle.book.specs.Run.{record_calls, begun}
use Rattle.order.proofs.Induction.{began}
use Rattle.recorded.specs.Recorded.{recorded_of}
use Rattle.recorded.proofs.Fits.{recorded-fits}
use Rattle.two_boards.specs.Claim.{TwoBoardsBy, TwoBoards}
use Rattle.two_boards.proofs.Equal.{equal-recorded}

pub two-boards : TwoBoards
two-boards same h caps caps' alike flat rooms rooms' s s' calls e e' f P l =
    equal-recorded same h caps caps' alike flat rooms rooms' (begun caps rooms s).state (begun caps' rooms' s').state calls
    (began caps rooms s e) (began caps' rooms' s' e') f P l
    (recorded_of rooms (record_calls caps rooms (begun caps rooms s) calls)) (recorded_of rooms' (record_calls caps' rooms' (begun caps' rooms' s') calls)) refl refl
    (recorded-fits caps rooms s calls e) (recorded-fits caps' rooms' s' calls e')

pub two-boards-by-bits : TwoBoardsBy same_bits
two-boards-by-bits = two-boards same_bits bits-self
