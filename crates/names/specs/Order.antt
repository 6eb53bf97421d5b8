-- WebGPU's order of names: for each enumeration its names as the document lists them, and the place of a name in that list. Definitions only.
use Rattle.std.specs.Prelude.{ℕ, List, [], ◌∷◌}
use Rattle.names.specs.declared.wgt.CompareFunction.{CompareFunction}
use Rattle.names.specs.declared.wgt.CompareFunction.TheVariants.{Never, Less, Equal, LessEqual, Greater, NotEqual, GreaterEqual, Always}
use Rattle.names.specs.declared.wgt.PrimitiveTopology.{PrimitiveTopology}
use Rattle.names.specs.declared.wgt.PrimitiveTopology.TheVariants.{PointList, LineList, LineStrip, TriangleList, TriangleStrip}
use Rattle.names.specs.declared.wgt.FrontFace.{FrontFace}
use Rattle.names.specs.declared.wgt.FrontFace.TheVariants.{Ccw, Cw}
use Rattle.names.specs.declared.wgt.CullMode.{CullMode}
use Rattle.names.specs.declared.wgt.CullMode.TheVariants.{None, Front, Back}
use Rattle.names.specs.declared.wgt.PolygonMode.{PolygonMode}
use Rattle.names.specs.declared.wgt.PolygonMode.TheVariants.{Fill, Line, Point}
use Rattle.names.specs.declared.wgt.StencilOperation.{StencilOperation}
use Rattle.names.specs.declared.wgt.StencilOperation.TheVariants.{Keep, Zero as stencil_zero, Replace, Invert, IncrementClamp, DecrementClamp, IncrementWrap, DecrementWrap}
use Rattle.names.specs.declared.wgt.BlendFactor.{BlendFactor}
use Rattle.names.specs.declared.wgt.BlendFactor.TheVariants.{Zero, One, Src, OneMinusSrc, SrcAlpha, OneMinusSrcAlpha, Dst, OneMinusDst, DstAlpha, OneMinusDstAlpha, SrcAlphaSaturated, Constant, OneMinusConstant, Src1, OneMinusSrc1, Src1Alpha, OneMinusSrc1Alpha}
use Rattle.names.specs.declared.wgt.BlendOperation.{BlendOperation}
use Rattle.names.specs.declared.wgt.BlendOperation.TheVariants.{Add, Subtract, ReverseSubtract, Min, Max}

-- GPUCompareFunction
abbrev pub compare_functions : List CompareFunction
compare_functions =
    Never ∷ Less ∷ Equal ∷ LessEqual ∷ Greater ∷ NotEqual ∷ GreaterEqual ∷ Always ∷ []

abbrev pub compare_place : CompareFunction → ℕ
compare_place Never = 0
compare_place Less = 1
compare_place Equal = 2
compare_place LessEqual = 3
compare_place Greater = 4
compare_place NotEqual = 5
compare_place GreaterEqual = 6
compare_place Always = 7

-- GPUPrimitiveTopology
abbrev pub topologies : List PrimitiveTopology
topologies =
    PointList ∷ LineList ∷ LineStrip ∷ TriangleList ∷ TriangleStrip ∷ []

abbrev pub topology_place : PrimitiveTopology → ℕ
topology_place PointList = 0
topology_place LineList = 1
topology_place LineStrip = 2
topology_place TriangleList = 3
topology_place TriangleStrip = 4

-- GPUFrontFace
abbrev pub front_faces : List FrontFace
front_faces =
    Ccw ∷ Cw ∷ []

abbrev pub front_place : FrontFace → ℕ
front_place Ccw = 0
front_place Cw = 1

-- GPUCullMode
abbrev pub cull_modes : List CullMode
cull_modes =
    None ∷ Front ∷ Back ∷ []

abbrev pub cull_place : CullMode → ℕ
cull_place None = 0
cull_place Front = 1
cull_place Back = 2

-- wgpu-types' PolygonMode (WebGPU has no such name)
abbrev pub polygon_modes : List PolygonMode
polygon_modes =
    Fill ∷ Line ∷ Point ∷ []

abbrev pub polygon_place : PolygonMode → ℕ
polygon_place Fill = 0
polygon_place Line = 1
polygon_place Point = 2

-- GPUStencilOperation
abbrev pub stencil_operations : List StencilOperation
stencil_operations =
    Keep ∷ stencil_zero ∷ Replace ∷ Invert ∷ IncrementClamp ∷ DecrementClamp ∷ IncrementWrap ∷ DecrementWrap ∷ []

abbrev pub stencil_op_place : StencilOperation → ℕ
stencil_op_place Keep = 0
stencil_op_place stencil_zero = 1
stencil_op_place Replace = 2
stencil_op_place Invert = 3
stencil_op_place IncrementClamp = 4
stencil_op_place DecrementClamp = 5
stencil_op_place IncrementWrap = 6
stencil_op_place DecrementWrap = 7

-- GPUBlendFactor
abbrev pub blend_factors : List BlendFactor
blend_factors =
    Zero ∷ One ∷ Src ∷ OneMinusSrc ∷ SrcAlpha ∷ OneMinusSrcAlpha ∷ Dst ∷ OneMinusDst ∷ DstAlpha ∷ OneMinusDstAlpha ∷ SrcAlphaSaturated ∷ Constant ∷ OneMinusConstant ∷ Src1 ∷ OneMinusSrc1 ∷ Src1Alpha ∷ OneMinusSrc1Alpha ∷ []

abbrev pub factor_place : BlendFactor → ℕ
factor_place Zero = 0
factor_place One = 1
factor_place Src = 2
factor_place OneMinusSrc = 3
factor_place SrcAlpha = 4
factor_place OneMinusSrcAlpha = 5
factor_place Dst = 6
factor_place OneMinusDst = 7
factor_place DstAlpha = 8
factor_place OneMinusDstAlpha = 9
factor_place SrcAlphaSaturated = 10
factor_place Constant = 11
factor_place OneMinusConstant = 12
factor_place Src1 = 13
factor_place OneMinusSrc1 = 14
factor_place Src1Alpha = 15
factor_place OneMinusSrc1Alpha = 16

-- GPUBlendOperation
abbrev pub blend_operations : List BlendOperation
blend_operations =
    Add ∷ Subtract ∷ ReverseSubtract ∷ Min ∷ Max ∷ []

abbrev pub operation_place : BlendOperation → ℕ
operation_place Add = 0
operation_place Subtract = 1
operation_place ReverseSubtract = 2
operation_place Min = 3
operation_place Max = 4
