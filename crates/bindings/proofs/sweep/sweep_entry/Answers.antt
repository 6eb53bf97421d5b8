-- `bindings::sweep::sweep_entry` meets its contract. Assumes nothing.
use Rattle.bindings.proofs.sweep.sweep_entry.Goals as goal

pub returns : goal.returns
returns c =
    rw (
      c.offset_over.ensures,
      c.wrong_kind.ensures,
      c.out_of_range.ensures,
      c.samplers_after.ensures,
      c.textures_after.ensures,
      c.entry_state.ensures,
      c.one_if-2.ensures.0,
      c.one_if.ensures.0,
      c.records_one.ensures,
      c.takes_offset-takes.ensures,
    )
