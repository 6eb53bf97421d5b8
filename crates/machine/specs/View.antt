-- What a draw finds: document 01, "The command list", "By the book each finds its command ... and program; fetches ...; bindings ...; fixed settings". Definitions only.
use Rattle.std.specs.Prelude.{ℕ, Bool, List, ℤ, Option}
use Rattle.names.specs.declared.gl.PrimitiveState.{PrimitiveState}
use Rattle.names.specs.declared.gl.StencilOps.{StencilOps}
use Rattle.records.specs.declared.command.Command.{Command}
use Rattle.records.specs.declared.command.ColorF32.{ColorF32}
use Rattle.records.specs.declared.command.ColorTargetDesc.{ColorTargetDesc}
use Rattle.records.specs.declared.command.DepthBiasState.{DepthBiasState}
use Rattle.records.specs.declared.command.DepthRange.{DepthRange}
use Rattle.records.specs.declared.command.DepthState.{DepthState}
use Rattle.records.specs.declared.command.ImageBinding.{ImageBinding}
use Rattle.records.specs.declared.command.RangeU32.{RangeU32}
use Rattle.records.specs.declared.command.RectI32.{RectI32}
use Rattle.records.specs.declared.command.VertexFormatDesc.{VertexFormatDesc}
use Rattle.records.specs.declared.command.VertexStepMode.{VertexStepMode}

-- which render pass: none yet, the first, a later one
pub data Stage : Type 0 where
  before first later : Stage

-- where an attribute's bytes come from: buffer, stride, step, first byte
pub record Source : Type 0 where
  pub buffer : ℕ
  pub stride : ℕ
  pub step : VertexStepMode
  pub first : ℕ

-- the fetch of one attribute: location, format, slot, and its source where the slot has a buffer
pub record Fetch : Type 0 where
  pub location : ℕ
  pub format : VertexFormatDesc
  pub slot : ℕ
  pub source : Option Source

-- a buffer bound to a target and a slot
pub record BufferRange : Type 0 where
  pub buffer : ℕ
  pub offset : ℤ
  pub size : ℤ

-- a texture slot holds its last `BindTexture` whole
pub record TextureBinding : Type 0 where
  pub texture : ℕ
  pub target : ℕ
  pub aspects : ℕ
  pub mips : RangeU32

pub record Viewport : Type 0 where
  pub rect : RectI32
  pub depth : DepthRange

-- a face's stencil function with its reference, and its operations
pub record StencilFunc : Type 0 where
  pub function : ℕ
  pub reference : ℕ
  pub read : ℕ

pub record FaceOps : Type 0 where
  pub write : ℕ
  pub ops : StencilOps

pub record Stencil : Type 0 where
  pub front : Option StencilFunc
  pub back : Option StencilFunc
  pub front_ops : Option FaceOps
  pub back_ops : Option FaceOps

pub record View : Type 0 where
  -- the draw's own command, and the program
  pub command : Command
  pub program : Option ℕ
  -- per attribute of the pipeline
  pub fetches : List (Option Fetch)
  -- all buffers (by target and slot), textures and images, the sampler of each unit, the index buffer of an indexed draw
  pub buffers : ℕ → ℕ → Option BufferRange
  pub textures : ℕ → Option TextureBinding
  pub images : ℕ → Option ImageBinding
  pub samplers : List (Option ℕ)
  pub index : Option ℕ
  -- viewport, scissor, blend constants
  pub viewport : Option Viewport
  pub scissor : Option RectI32
  pub blend : ColorF32
  -- "the pipeline's five recorded only on change"
  pub primitive : Option PrimitiveState
  pub bias : DepthBiasState
  pub alpha : Bool
  pub targets : List ColorTargetDesc
  -- which clip distances are on
  pub clip : ℕ → Bool
  -- "whether it has depth and stencil, and these and the reference where it does"
  pub has_depth : Option Bool
  pub has_stencil : Option Bool
  pub depth : Option DepthState
  pub stencil : Option Stencil
