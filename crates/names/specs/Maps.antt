-- The maps of gles/conv.rs: for each of WebGPU's names the number that OpenGL ES 3.2 gives the same thing. Definitions only.
use Rattle.std.specs.Prelude.{ℕ}
use Rattle.names.specs.declared.wgt.CompareFunction.{CompareFunction}
use Rattle.names.specs.declared.wgt.CompareFunction.TheVariants.{Never, Less, Equal, LessEqual, Greater, NotEqual, GreaterEqual, Always}
use Rattle.names.specs.declared.wgt.PrimitiveTopology.{PrimitiveTopology}
use Rattle.names.specs.declared.wgt.PrimitiveTopology.TheVariants.{PointList, LineList, LineStrip, TriangleList, TriangleStrip}
use Rattle.names.specs.declared.wgt.FrontFace.{FrontFace}
use Rattle.names.specs.declared.wgt.FrontFace.TheVariants.{Ccw, Cw}
use Rattle.names.specs.declared.wgt.CullMode.{CullMode}
use Rattle.names.specs.declared.wgt.CullMode.TheVariants.{None, Front, Back}
use Rattle.names.specs.declared.wgt.PolygonMode.{PolygonMode}
use Rattle.names.specs.declared.wgt.PolygonMode.TheVariants.{Fill, Line, Point}
use Rattle.names.specs.declared.wgt.StencilOperation.{StencilOperation}
use Rattle.names.specs.declared.wgt.StencilOperation.TheVariants.{Keep, Zero as stencil_zero, Replace, Invert, IncrementClamp, DecrementClamp, IncrementWrap, DecrementWrap}
use Rattle.names.specs.declared.wgt.BlendFactor.{BlendFactor}
use Rattle.names.specs.declared.wgt.BlendFactor.TheVariants.{Zero, One, Src, OneMinusSrc, SrcAlpha, OneMinusSrcAlpha, Dst, OneMinusDst, DstAlpha, OneMinusDstAlpha, SrcAlphaSaturated, Constant, OneMinusConstant, Src1, OneMinusSrc1, Src1Alpha, OneMinusSrc1Alpha}
use Rattle.names.specs.declared.wgt.BlendOperation.{BlendOperation}
use Rattle.names.specs.declared.wgt.BlendOperation.TheVariants.{Add, Subtract, ReverseSubtract, Min, Max}
use Rattle.names.specs.declared.wgt.PrimitiveState.{PrimitiveState as WgtPrimitiveState}
use Rattle.names.specs.declared.wgt.StencilFaceState.{StencilFaceState}
use Rattle.names.specs.declared.wgt.StencilState.{StencilState as WgtStencilState}
use Rattle.names.specs.declared.wgt.BlendComponent.{BlendComponent as WgtBlendComponent}
use Rattle.names.specs.declared.wgt.BlendState.{BlendState}
use Rattle.names.specs.declared.gl.PrimitiveState.{PrimitiveState}
use Rattle.names.specs.declared.gl.StencilOps.{StencilOps}
use Rattle.names.specs.declared.gl.StencilSide.{StencilSide}
use Rattle.names.specs.declared.gl.StencilState.{StencilState}
use Rattle.names.specs.declared.gl.BlendComponent.{BlendComponent}
use Rattle.names.specs.declared.gl.BlendDesc.{BlendDesc}
use Rattle.names.specs.Gl.{GL_NEVER, GL_LESS, GL_EQUAL, GL_LEQUAL, GL_GREATER, GL_NOTEQUAL, GL_GEQUAL, GL_ALWAYS, GL_POINTS, GL_LINES, GL_LINE_STRIP, GL_TRIANGLES, GL_TRIANGLE_STRIP, GL_CW, GL_CCW, GL_FRONT, GL_BACK, GL_FILL, GL_LINE, GL_POINT, GL_KEEP, GL_ZERO, GL_REPLACE, GL_INVERT, GL_INCR, GL_DECR, GL_INCR_WRAP, GL_DECR_WRAP, GL_ONE, GL_SRC_COLOR, GL_ONE_MINUS_SRC_COLOR, GL_SRC_ALPHA, GL_ONE_MINUS_SRC_ALPHA, GL_DST_COLOR, GL_ONE_MINUS_DST_COLOR, GL_DST_ALPHA, GL_ONE_MINUS_DST_ALPHA, GL_SRC_ALPHA_SATURATE, GL_CONSTANT_COLOR, GL_ONE_MINUS_CONSTANT_COLOR, GL_SRC1_COLOR, GL_ONE_MINUS_SRC1_COLOR, GL_SRC1_ALPHA, GL_ONE_MINUS_SRC1_ALPHA, GL_FUNC_ADD, GL_FUNC_SUBTRACT, GL_FUNC_REVERSE_SUBTRACT, GL_MIN, GL_MAX}

-- the comparison functions of sections 15.1.2 and 15.1.3
abbrev pub compare_func : CompareFunction → ℕ
compare_func Never = GL_NEVER
compare_func Less = GL_LESS
compare_func Equal = GL_EQUAL
compare_func LessEqual = GL_LEQUAL
compare_func Greater = GL_GREATER
compare_func NotEqual = GL_NOTEQUAL
compare_func GreaterEqual = GL_GEQUAL
compare_func Always = GL_ALWAYS

-- the primitive types of section 10.1
abbrev pub primitive_topology : PrimitiveTopology → ℕ
primitive_topology PointList = GL_POINTS
primitive_topology LineList = GL_LINES
primitive_topology LineStrip = GL_LINE_STRIP
primitive_topology TriangleList = GL_TRIANGLES
primitive_topology TriangleStrip = GL_TRIANGLE_STRIP

-- document 01: `Cw` becomes GL_CCW and `Ccw` becomes GL_CW, since the shaders flip the Y axis
abbrev pub front_face_of : FrontFace → ℕ
front_face_of Ccw = GL_CW
front_face_of Cw = GL_CCW

-- document 01: no cull is 0
abbrev pub cull_face_of : CullMode → ℕ
cull_face_of None = 0
cull_face_of Front = GL_FRONT
cull_face_of Back = GL_BACK

-- `glow`'s polygon modes
abbrev pub polygon_mode_of : PolygonMode → ℕ
polygon_mode_of Fill = GL_FILL
polygon_mode_of Line = GL_LINE
polygon_mode_of Point = GL_POINT

-- the stencil operations of section 15.1.2; a clamped step is the plain GL_INCR or GL_DECR
abbrev pub stencil_op : StencilOperation → ℕ
stencil_op Keep = GL_KEEP
stencil_op stencil_zero = GL_ZERO
stencil_op Replace = GL_REPLACE
stencil_op Invert = GL_INVERT
stencil_op IncrementClamp = GL_INCR
stencil_op DecrementClamp = GL_DECR
stencil_op IncrementWrap = GL_INCR_WRAP
stencil_op DecrementWrap = GL_DECR_WRAP

-- the blending functions of table 15.2; `Src`, `Dst` and `Constant` are the colours
abbrev pub blend_factor : BlendFactor → ℕ
blend_factor Zero = GL_ZERO
blend_factor One = GL_ONE
blend_factor Src = GL_SRC_COLOR
blend_factor OneMinusSrc = GL_ONE_MINUS_SRC_COLOR
blend_factor SrcAlpha = GL_SRC_ALPHA
blend_factor OneMinusSrcAlpha = GL_ONE_MINUS_SRC_ALPHA
blend_factor Dst = GL_DST_COLOR
blend_factor OneMinusDst = GL_ONE_MINUS_DST_COLOR
blend_factor DstAlpha = GL_DST_ALPHA
blend_factor OneMinusDstAlpha = GL_ONE_MINUS_DST_ALPHA
blend_factor SrcAlphaSaturated = GL_SRC_ALPHA_SATURATE
blend_factor Constant = GL_CONSTANT_COLOR
blend_factor OneMinusConstant = GL_ONE_MINUS_CONSTANT_COLOR
blend_factor Src1 = GL_SRC1_COLOR
blend_factor OneMinusSrc1 = GL_ONE_MINUS_SRC1_COLOR
blend_factor Src1Alpha = GL_SRC1_ALPHA
blend_factor OneMinusSrc1Alpha = GL_ONE_MINUS_SRC1_ALPHA

-- the blend equations of table 15.1
abbrev pub blend_equation : BlendOperation → ℕ
blend_equation Add = GL_FUNC_ADD
blend_equation Subtract = GL_FUNC_SUBTRACT
blend_equation ReverseSubtract = GL_FUNC_REVERSE_SUBTRACT
blend_equation Min = GL_MIN
blend_equation Max = GL_MAX

-- field by field
abbrev pub primitive_state : WgtPrimitiveState → PrimitiveState
primitive_state s =
    record {
      front_face = front_face_of s.front_face;
      cull_face = cull_face_of s.cull_mode;
      unclipped_depth = s.unclipped_depth;
      polygon_mode = polygon_mode_of s.polygon_mode;
    }

abbrev pub stencil_ops : StencilFaceState → StencilOps
stencil_ops f = record { pass = stencil_op f.pass_op; fail = stencil_op f.fail_op; depth_fail = stencil_op f.depth_fail_op }

-- one side with the masks of both; the reference is 0
abbrev pub stencil_side : StencilFaceState → ℕ → ℕ → StencilSide
stencil_side f read write =
    record {
      function = compare_func f.compare;
      mask_read = read;
      mask_write = write;
      reference = 0;
      ops = stencil_ops f;
    }

abbrev pub stencil_state : WgtStencilState → StencilState
stencil_state s =
    record {
      front = stencil_side s.front s.read_mask s.write_mask;
      back = stencil_side s.back s.read_mask s.write_mask;
    }

abbrev pub blend_component : WgtBlendComponent → BlendComponent
blend_component b = record { src = blend_factor b.src_factor; dst = blend_factor b.dst_factor; equation = blend_equation b.operation }

abbrev pub blend_desc : BlendState → BlendDesc
blend_desc b = record { alpha = blend_component b.alpha; color = blend_component b.color }
