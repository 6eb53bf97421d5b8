-- `records::check::bad_masks` meets its contract, by that of the test of one mask. Assumes nothing.
use Rattle.records.proofs.check.bad_masks.Goals as goal

pub returns : goal.returns
returns c =
    simp (
      c.bad_mask.ensures,
      c.bad_mask-2.ensures,
      c.bad_mask-3.ensures,
      c.bad_mask-4.ensures,
      c.bad_mask-5.ensures,
      c.bad_mask-6.ensures,
      c.bad_mask-7.ensures,
    )
