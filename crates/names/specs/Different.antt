-- Each enumeration of WebGPU's names, and that its map gives different numbers for different names (document 02, request 2, reads them back). Assumes nothing.
use Rattle.std.specs.Prelude.{◌<◌, ◌≡◌, refl, length, get_or}
use Rattle.std.proofs.Common.{arith}
use Rattle.names.specs.declared.wgt.CompareFunction.{CompareFunction}
use Rattle.names.specs.declared.wgt.CompareFunction.TheVariants.{Never, Less, Equal, LessEqual, Greater, NotEqual, GreaterEqual, Always}
use Rattle.names.specs.declared.wgt.PrimitiveTopology.{PrimitiveTopology}
use Rattle.names.specs.declared.wgt.PrimitiveTopology.TheVariants.{PointList, LineList, LineStrip, TriangleList, TriangleStrip}
use Rattle.names.specs.declared.wgt.FrontFace.{FrontFace}
use Rattle.names.specs.declared.wgt.FrontFace.TheVariants.{Ccw, Cw}
use Rattle.names.specs.declared.wgt.CullMode.{CullMode}
use Rattle.names.specs.declared.wgt.CullMode.TheVariants.{None, Front, Back}
use Rattle.names.specs.declared.wgt.PolygonMode.{PolygonMode}
use Rattle.names.specs.declared.wgt.PolygonMode.TheVariants.{Fill, Line, Point}
use Rattle.names.specs.declared.wgt.StencilOperation.{StencilOperation}
use Rattle.names.specs.declared.wgt.StencilOperation.TheVariants.{Keep, Zero as stencil_zero, Replace, Invert, IncrementClamp, DecrementClamp, IncrementWrap, DecrementWrap}
use Rattle.names.specs.declared.wgt.BlendFactor.{BlendFactor}
use Rattle.names.specs.declared.wgt.BlendFactor.TheVariants.{Zero, One, Src, OneMinusSrc, SrcAlpha, OneMinusSrcAlpha, Dst, OneMinusDst, DstAlpha, OneMinusDstAlpha, SrcAlphaSaturated, Constant, OneMinusConstant, Src1, OneMinusSrc1, Src1Alpha, OneMinusSrc1Alpha}
use Rattle.names.specs.declared.wgt.BlendOperation.{BlendOperation}
use Rattle.names.specs.declared.wgt.BlendOperation.TheVariants.{Add, Subtract, ReverseSubtract, Min, Max}
use Rattle.names.specs.Order.{compare_functions, compare_place, topologies, topology_place, front_faces, front_place, cull_modes, cull_place, polygon_modes, polygon_place, stencil_operations, stencil_op_place, blend_factors, factor_place, blend_operations, operation_place}
use Rattle.names.specs.Maps.{compare_func, primitive_topology, front_face_of, cull_face_of, polygon_mode_of, stencil_op, blend_factor, blend_equation}
use Rattle.names.specs.Table.{Enumeration, injective}

abbrev compare_below : (a : CompareFunction) → compare_place a < length compare_functions
compare_below Never = omega arith
compare_below Less = omega arith
compare_below Equal = omega arith
compare_below LessEqual = omega arith
compare_below Greater = omega arith
compare_below NotEqual = omega arith
compare_below GreaterEqual = omega arith
compare_below Always = omega arith

abbrev compare_placed : (a : CompareFunction) → get_or compare_functions (compare_place a) Never ≡ a
compare_placed Never = refl
compare_placed Less = refl
compare_placed Equal = refl
compare_placed LessEqual = refl
compare_placed Greater = refl
compare_placed NotEqual = refl
compare_placed GreaterEqual = refl
compare_placed Always = refl

abbrev pub compare_names : Enumeration CompareFunction
compare_names = record { names = compare_functions; place = compare_place; first = Never; below = compare_below; placed = compare_placed }

pub compare-different : (a b : CompareFunction) → compare_func a ≡ compare_func b → a ≡ b
compare-different = injective compare_names compare_func tt

abbrev topology_below : (a : PrimitiveTopology) → topology_place a < length topologies
topology_below PointList = omega arith
topology_below LineList = omega arith
topology_below LineStrip = omega arith
topology_below TriangleList = omega arith
topology_below TriangleStrip = omega arith

abbrev topology_placed : (a : PrimitiveTopology) → get_or topologies (topology_place a) PointList ≡ a
topology_placed PointList = refl
topology_placed LineList = refl
topology_placed LineStrip = refl
topology_placed TriangleList = refl
topology_placed TriangleStrip = refl

abbrev pub topology_names : Enumeration PrimitiveTopology
topology_names = record { names = topologies; place = topology_place; first = PointList; below = topology_below; placed = topology_placed }

pub topology-different : (a b : PrimitiveTopology) → primitive_topology a ≡ primitive_topology b → a ≡ b
topology-different = injective topology_names primitive_topology tt

abbrev front_below : (a : FrontFace) → front_place a < length front_faces
front_below Ccw = omega arith
front_below Cw = omega arith

abbrev front_placed : (a : FrontFace) → get_or front_faces (front_place a) Ccw ≡ a
front_placed Ccw = refl
front_placed Cw = refl

abbrev pub front_names : Enumeration FrontFace
front_names = record { names = front_faces; place = front_place; first = Ccw; below = front_below; placed = front_placed }

pub front-different : (a b : FrontFace) → front_face_of a ≡ front_face_of b → a ≡ b
front-different = injective front_names front_face_of tt

abbrev cull_below : (a : CullMode) → cull_place a < length cull_modes
cull_below None = omega arith
cull_below Front = omega arith
cull_below Back = omega arith

abbrev cull_placed : (a : CullMode) → get_or cull_modes (cull_place a) None ≡ a
cull_placed None = refl
cull_placed Front = refl
cull_placed Back = refl

abbrev pub cull_names : Enumeration CullMode
cull_names = record { names = cull_modes; place = cull_place; first = None; below = cull_below; placed = cull_placed }

pub cull-different : (a b : CullMode) → cull_face_of a ≡ cull_face_of b → a ≡ b
cull-different = injective cull_names cull_face_of tt

abbrev polygon_below : (a : PolygonMode) → polygon_place a < length polygon_modes
polygon_below Fill = omega arith
polygon_below Line = omega arith
polygon_below Point = omega arith

abbrev polygon_placed : (a : PolygonMode) → get_or polygon_modes (polygon_place a) Fill ≡ a
polygon_placed Fill = refl
polygon_placed Line = refl
polygon_placed Point = refl

abbrev pub polygon_names : Enumeration PolygonMode
polygon_names = record { names = polygon_modes; place = polygon_place; first = Fill; below = polygon_below; placed = polygon_placed }

pub polygon-different : (a b : PolygonMode) → polygon_mode_of a ≡ polygon_mode_of b → a ≡ b
polygon-different = injective polygon_names polygon_mode_of tt

abbrev stencil_op_below : (a : StencilOperation) → stencil_op_place a < length stencil_operations
stencil_op_below Keep = omega arith
stencil_op_below stencil_zero = omega arith
stencil_op_below Replace = omega arith
stencil_op_below Invert = omega arith
stencil_op_below IncrementClamp = omega arith
stencil_op_below DecrementClamp = omega arith
stencil_op_below IncrementWrap = omega arith
stencil_op_below DecrementWrap = omega arith

abbrev stencil_op_placed : (a : StencilOperation) → get_or stencil_operations (stencil_op_place a) Keep ≡ a
stencil_op_placed Keep = refl
stencil_op_placed stencil_zero = refl
stencil_op_placed Replace = refl
stencil_op_placed Invert = refl
stencil_op_placed IncrementClamp = refl
stencil_op_placed DecrementClamp = refl
stencil_op_placed IncrementWrap = refl
stencil_op_placed DecrementWrap = refl

abbrev pub stencil_op_names : Enumeration StencilOperation
stencil_op_names = record { names = stencil_operations; place = stencil_op_place; first = Keep; below = stencil_op_below; placed = stencil_op_placed }

pub stencil_op-different : (a b : StencilOperation) → stencil_op a ≡ stencil_op b → a ≡ b
stencil_op-different = injective stencil_op_names stencil_op tt

abbrev factor_below : (a : BlendFactor) → factor_place a < length blend_factors
factor_below Zero = omega arith
factor_below One = omega arith
factor_below Src = omega arith
factor_below OneMinusSrc = omega arith
factor_below SrcAlpha = omega arith
factor_below OneMinusSrcAlpha = omega arith
factor_below Dst = omega arith
factor_below OneMinusDst = omega arith
factor_below DstAlpha = omega arith
factor_below OneMinusDstAlpha = omega arith
factor_below SrcAlphaSaturated = omega arith
factor_below Constant = omega arith
factor_below OneMinusConstant = omega arith
factor_below Src1 = omega arith
factor_below OneMinusSrc1 = omega arith
factor_below Src1Alpha = omega arith
factor_below OneMinusSrc1Alpha = omega arith

abbrev factor_placed : (a : BlendFactor) → get_or blend_factors (factor_place a) Zero ≡ a
factor_placed Zero = refl
factor_placed One = refl
factor_placed Src = refl
factor_placed OneMinusSrc = refl
factor_placed SrcAlpha = refl
factor_placed OneMinusSrcAlpha = refl
factor_placed Dst = refl
factor_placed OneMinusDst = refl
factor_placed DstAlpha = refl
factor_placed OneMinusDstAlpha = refl
factor_placed SrcAlphaSaturated = refl
factor_placed Constant = refl
factor_placed OneMinusConstant = refl
factor_placed Src1 = refl
factor_placed OneMinusSrc1 = refl
factor_placed Src1Alpha = refl
factor_placed OneMinusSrc1Alpha = refl

abbrev pub factor_names : Enumeration BlendFactor
factor_names = record { names = blend_factors; place = factor_place; first = Zero; below = factor_below; placed = factor_placed }

pub factor-different : (a b : BlendFactor) → blend_factor a ≡ blend_factor b → a ≡ b
factor-different = injective factor_names blend_factor tt

abbrev operation_below : (a : BlendOperation) → operation_place a < length blend_operations
operation_below Add = omega arith
operation_below Subtract = omega arith
operation_below ReverseSubtract = omega arith
operation_below Min = omega arith
operation_below Max = omega arith

abbrev operation_placed : (a : BlendOperation) → get_or blend_operations (operation_place a) Add ≡ a
operation_placed Add = refl
operation_placed Subtract = refl
operation_placed ReverseSubtract = refl
operation_placed Min = refl
operation_placed Max = refl

abbrev pub operation_names : Enumeration BlendOperation
operation_names = record { names = blend_operations; place = operation_place; first = Add; below = operation_below; placed = operation_placed }

pub operation-different : (a b : BlendOperation) → blend_equation a ≡ blend_equation b → a ≡ b
operation-different = injective operation_names blend_equation tt
