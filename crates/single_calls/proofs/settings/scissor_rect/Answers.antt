-- `single_calls::settings::scissor_rect` meets its contract. Assumes nothing.
use Rattle.single_calls.proofs.Whole.{whole}
use Rattle.single_calls.proofs.settings.scissor_rect.Goals as goal

pub returns : goal.returns
returns c =
    rw (
      whole c.as_i32-4.result c.as_i32-4.type_inv c.as_i32-4.ensures,
      whole c.as_i32-3.result c.as_i32-3.type_inv c.as_i32-3.ensures,
      whole c.as_i32-2.result c.as_i32-2.type_inv c.as_i32-2.ensures,
      whole c.as_i32.result c.as_i32.type_inv c.as_i32.ensures,
    )
