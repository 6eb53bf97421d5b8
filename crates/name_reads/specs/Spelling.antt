-- WebGPU's words for its names, as bytes: the enumerations GPUCompareFunction, GPUPrimitiveTopology, GPUFrontFace, GPUCullMode, GPUStencilOperation, GPUBlendFactor and GPUBlendOperation.
-- Definitions only.
use Rattle.std.specs.Prelude.{ℕ, List}
use Rattle.names.specs.declared.wgt.CompareFunction.{CompareFunction}
use Rattle.names.specs.declared.wgt.CompareFunction.TheVariants.{Never, Less, Equal, LessEqual, Greater, NotEqual, GreaterEqual, Always}
use Rattle.names.specs.declared.wgt.PrimitiveTopology.{PrimitiveTopology}
use Rattle.names.specs.declared.wgt.PrimitiveTopology.TheVariants.{PointList, LineList, LineStrip, TriangleList, TriangleStrip}
use Rattle.names.specs.declared.wgt.FrontFace.{FrontFace}
use Rattle.names.specs.declared.wgt.FrontFace.TheVariants.{Ccw, Cw}
use Rattle.names.specs.declared.wgt.CullMode.{CullMode}
use Rattle.names.specs.declared.wgt.CullMode.TheVariants.{None, Front, Back}
use Rattle.names.specs.declared.wgt.StencilOperation.{StencilOperation}
use Rattle.names.specs.declared.wgt.StencilOperation.TheVariants.{Keep, Zero as stencil_zero, Replace, Invert, IncrementClamp, DecrementClamp, IncrementWrap, DecrementWrap}
use Rattle.names.specs.declared.wgt.BlendFactor.{BlendFactor}
use Rattle.names.specs.declared.wgt.BlendFactor.TheVariants.{Zero, One, Src, OneMinusSrc, SrcAlpha, OneMinusSrcAlpha, Dst, OneMinusDst, DstAlpha, OneMinusDstAlpha, SrcAlphaSaturated}
use Rattle.names.specs.declared.wgt.BlendFactor.TheVariants.{Constant, OneMinusConstant, Src1, OneMinusSrc1, Src1Alpha, OneMinusSrc1Alpha}
use Rattle.names.specs.declared.wgt.BlendOperation.{BlendOperation}
use Rattle.names.specs.declared.wgt.BlendOperation.TheVariants.{Add, Subtract, ReverseSubtract, Min, Max}
use Rattle.names.specs.Ascii.{ascii}

-- GPUCompareFunction
abbrev pub compare_word : CompareFunction → List ℕ
compare_word Never = ascii "never"
compare_word Less = ascii "less"
compare_word Equal = ascii "equal"
compare_word LessEqual = ascii "less-equal"
compare_word Greater = ascii "greater"
compare_word NotEqual = ascii "not-equal"
compare_word GreaterEqual = ascii "greater-equal"
compare_word Always = ascii "always"

-- GPUPrimitiveTopology
abbrev pub topology_word : PrimitiveTopology → List ℕ
topology_word PointList = ascii "point-list"
topology_word LineList = ascii "line-list"
topology_word LineStrip = ascii "line-strip"
topology_word TriangleList = ascii "triangle-list"
topology_word TriangleStrip = ascii "triangle-strip"

-- GPUFrontFace
abbrev pub front_word : FrontFace → List ℕ
front_word Ccw = ascii "ccw"
front_word Cw = ascii "cw"

-- GPUCullMode
abbrev pub cull_word : CullMode → List ℕ
cull_word None = ascii "none"
cull_word Front = ascii "front"
cull_word Back = ascii "back"

-- GPUStencilOperation
abbrev pub stencil_op_word : StencilOperation → List ℕ
stencil_op_word Keep = ascii "keep"
stencil_op_word stencil_zero = ascii "zero"
stencil_op_word Replace = ascii "replace"
stencil_op_word Invert = ascii "invert"
stencil_op_word IncrementClamp = ascii "increment-clamp"
stencil_op_word DecrementClamp = ascii "decrement-clamp"
stencil_op_word IncrementWrap = ascii "increment-wrap"
stencil_op_word DecrementWrap = ascii "decrement-wrap"

-- GPUBlendFactor
abbrev pub factor_word : BlendFactor → List ℕ
factor_word Zero = ascii "zero"
factor_word One = ascii "one"
factor_word Src = ascii "src"
factor_word OneMinusSrc = ascii "one-minus-src"
factor_word SrcAlpha = ascii "src-alpha"
factor_word OneMinusSrcAlpha = ascii "one-minus-src-alpha"
factor_word Dst = ascii "dst"
factor_word OneMinusDst = ascii "one-minus-dst"
factor_word DstAlpha = ascii "dst-alpha"
factor_word OneMinusDstAlpha = ascii "one-minus-dst-alpha"
factor_word SrcAlphaSaturated = ascii "src-alpha-saturated"
factor_word Constant = ascii "constant"
factor_word OneMinusConstant = ascii "one-minus-constant"
factor_word Src1 = ascii "src1"
factor_word OneMinusSrc1 = ascii "one-minus-src1"
factor_word Src1Alpha = ascii "src1-alpha"
factor_word OneMinusSrc1Alpha = ascii "one-minus-src1-alpha"

-- GPUBlendOperation
abbrev pub operation_word : BlendOperation → List ℕ
operation_word Add = ascii "add"
operation_word Subtract = ascii "subtract"
operation_word ReverseSubtract = ascii "reverse-subtract"
operation_word Min = ascii "min"
operation_word Max = ascii "max"
