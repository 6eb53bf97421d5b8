-- The starting values of the records that hold GL numbers: document 01, "The state record". Definitions only.
use Rattle.std.specs.Prelude.{false}
use Rattle.names.specs.declared.gl.PrimitiveState.{PrimitiveState}
use Rattle.names.specs.declared.gl.StencilOps.{StencilOps}
use Rattle.names.specs.declared.gl.StencilSide.{StencilSide}
use Rattle.names.specs.declared.gl.StencilState.{StencilState}
use Rattle.names.specs.Gl.{GL_KEEP, GL_ALWAYS}

-- "0 for every primitive number"
abbrev pub start_primitive_state : PrimitiveState
start_primitive_state = record { front_face = 0; cull_face = 0; unclipped_depth = false; polygon_mode = 0 }

-- "keep for the three stencil operations"
abbrev pub start_stencil_ops : StencilOps
start_stencil_ops = record { pass = GL_KEEP; fail = GL_KEEP; depth_fail = GL_KEEP }

-- "always and hexadecimal FF for a stencil side"
abbrev pub start_stencil_side : StencilSide
start_stencil_side =
    record {
      function = GL_ALWAYS;
      mask_read = 0xFF;
      mask_write = 0xFF;
      reference = 0;
      ops = start_stencil_ops;
    }

abbrev pub start_stencil_state : StencilState
start_stencil_state = record { front = start_stencil_side; back = start_stencil_side }
