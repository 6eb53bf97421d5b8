use Rattle.calls.proofs.Alone.{alone}
use Rattle.draw_calls.proofs.Owns.{each_fits, record-at}
use Rattle.draw_calls.proofs.drawn.own_command.Goals as goal

pub returns-in-One : goal.returns-in-One
returns-in-One c = λ o. rw c.in-One.is (alone _ _)

pub returns-in-Indirect : goal.returns-in-Indirect
returns-in-Indirect c = λ o. rw c.in-Indirect.is (record-at _ _ _ _ (λ h. rw (c.record_offset.ensures (each_fits 16 _ _ _ (rw c.in-Indirect.is at o) h))))

pub returns-in-IndexedIndirect : goal.returns-in-IndexedIndirect
returns-in-IndexedIndirect c = λ o. rw c.in-IndexedIndirect.is (record-at _ _ _ _ (λ h. rw (c.record_offset-in-IndexedIndirect.ensures (each_fits 20 _ _ _ (rw c.in-IndexedIndirect.is at o) h))))
