-- `single_calls::settings::viewport_rect` meets its contract. Assumes nothing.
use Rattle.single_calls.proofs.Whole.{whole}
use Rattle.single_calls.proofs.settings.viewport_rect.Goals as goal

pub returns : goal.returns
returns c =
    rw (
      whole c.trunc_i32-4.result c.trunc_i32-4.type_inv c.trunc_i32-4.ensures,
      whole c.trunc_i32-3.result c.trunc_i32-3.type_inv c.trunc_i32-3.ensures,
      whole c.trunc_i32-2.result c.trunc_i32-2.type_inv c.trunc_i32-2.ensures,
      whole c.trunc_i32.result c.trunc_i32.type_inv c.trunc_i32.ensures,
    )
