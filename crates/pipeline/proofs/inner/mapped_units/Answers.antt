-- `pipeline::inner::mapped_units` meets its contract. Assumes nothing.
use Rattle.std.proofs.Common.{rules, tests}
use Rattle.tables.specs.Made.{made-is}
use Rattle.records.specs.Start.{start_texture_slot}
use Rattle.pipeline.proofs.inner.mapped_units.Goals as goal

pub returns : goal.returns
returns c = made-is _ _ _ 16 start_texture_slot c.from_fn.ensures.items (λ i y q l k. search (rules, tests))
