-- `state_text::state::put_told` meets its contract: the word has room in front of the rest. Assumes nothing.
use native.Mathlib.Omega.{arith}
use Rattle.text.proofs.Puts.{put-room}
use Rattle.text.proofs.Fields.{body-short}
use Rattle.state_text.proofs.state.put_told.Goals as goal

pub put_word-requires : goal.put_word-requires
put_word-requires c =
    let h = rw c.in-Some.is at c.requires.1 in
    put-room 21 c.put_shown-i.ensures c.put_shown-i.auto.line
    (omega (arith, body-short c.in-Some.shown h.0 h.1))
    (omega (arith, c.requires.0))
