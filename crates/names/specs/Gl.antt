-- OpenGL ES 3.2's numbers, under their GL names (Khronos' registry, gl.xml). The polygon modes and the four SRC1 factors are no names of OpenGL ES 3.2: they are `glow`'s. Definitions only.
use Rattle.std.specs.Prelude.{ℕ}

-- section 10.1, Primitive Types
abbrev pub GL_POINTS : ℕ
GL_POINTS = 0x0000

abbrev pub GL_LINES : ℕ
GL_LINES = 0x0001

abbrev pub GL_LINE_STRIP : ℕ
GL_LINE_STRIP = 0x0003

abbrev pub GL_TRIANGLES : ℕ
GL_TRIANGLES = 0x0004

abbrev pub GL_TRIANGLE_STRIP : ℕ
GL_TRIANGLE_STRIP = 0x0005

-- sections 15.1.2 and 15.1.3, comparison functions of the stencil and the depth test
abbrev pub GL_NEVER : ℕ
GL_NEVER = 0x0200

abbrev pub GL_LESS : ℕ
GL_LESS = 0x0201

abbrev pub GL_EQUAL : ℕ
GL_EQUAL = 0x0202

abbrev pub GL_LEQUAL : ℕ
GL_LEQUAL = 0x0203

abbrev pub GL_GREATER : ℕ
GL_GREATER = 0x0204

abbrev pub GL_NOTEQUAL : ℕ
GL_NOTEQUAL = 0x0205

abbrev pub GL_GEQUAL : ℕ
GL_GEQUAL = 0x0206

abbrev pub GL_ALWAYS : ℕ
GL_ALWAYS = 0x0207

-- section 15.1.2, stencil operations
abbrev pub GL_ZERO : ℕ
GL_ZERO = 0x0000

abbrev pub GL_INVERT : ℕ
GL_INVERT = 0x150A

abbrev pub GL_KEEP : ℕ
GL_KEEP = 0x1E00

abbrev pub GL_REPLACE : ℕ
GL_REPLACE = 0x1E01

abbrev pub GL_INCR : ℕ
GL_INCR = 0x1E02

abbrev pub GL_DECR : ℕ
GL_DECR = 0x1E03

abbrev pub GL_INCR_WRAP : ℕ
GL_INCR_WRAP = 0x8507

abbrev pub GL_DECR_WRAP : ℕ
GL_DECR_WRAP = 0x8508

-- section 13.7.1, front face and culling
abbrev pub GL_FRONT : ℕ
GL_FRONT = 0x0404

abbrev pub GL_BACK : ℕ
GL_BACK = 0x0405

abbrev pub GL_CW : ℕ
GL_CW = 0x0900

abbrev pub GL_CCW : ℕ
GL_CCW = 0x0901

-- `glow`: polygon modes
abbrev pub GL_POINT : ℕ
GL_POINT = 0x1B00

abbrev pub GL_LINE : ℕ
GL_LINE = 0x1B01

abbrev pub GL_FILL : ℕ
GL_FILL = 0x1B02

-- table 15.2, blending functions (GL_ZERO is above)
abbrev pub GL_ONE : ℕ
GL_ONE = 0x0001

abbrev pub GL_SRC_COLOR : ℕ
GL_SRC_COLOR = 0x0300

abbrev pub GL_ONE_MINUS_SRC_COLOR : ℕ
GL_ONE_MINUS_SRC_COLOR = 0x0301

abbrev pub GL_SRC_ALPHA : ℕ
GL_SRC_ALPHA = 0x0302

abbrev pub GL_ONE_MINUS_SRC_ALPHA : ℕ
GL_ONE_MINUS_SRC_ALPHA = 0x0303

abbrev pub GL_DST_ALPHA : ℕ
GL_DST_ALPHA = 0x0304

abbrev pub GL_ONE_MINUS_DST_ALPHA : ℕ
GL_ONE_MINUS_DST_ALPHA = 0x0305

abbrev pub GL_DST_COLOR : ℕ
GL_DST_COLOR = 0x0306

abbrev pub GL_ONE_MINUS_DST_COLOR : ℕ
GL_ONE_MINUS_DST_COLOR = 0x0307

abbrev pub GL_SRC_ALPHA_SATURATE : ℕ
GL_SRC_ALPHA_SATURATE = 0x0308

abbrev pub GL_CONSTANT_COLOR : ℕ
GL_CONSTANT_COLOR = 0x8001

abbrev pub GL_ONE_MINUS_CONSTANT_COLOR : ℕ
GL_ONE_MINUS_CONSTANT_COLOR = 0x8002

-- `glow`: the second source's factors
abbrev pub GL_SRC1_ALPHA : ℕ
GL_SRC1_ALPHA = 0x8589

abbrev pub GL_SRC1_COLOR : ℕ
GL_SRC1_COLOR = 0x88F9

abbrev pub GL_ONE_MINUS_SRC1_COLOR : ℕ
GL_ONE_MINUS_SRC1_COLOR = 0x88FA

abbrev pub GL_ONE_MINUS_SRC1_ALPHA : ℕ
GL_ONE_MINUS_SRC1_ALPHA = 0x88FB

-- table 15.1, blend equations
abbrev pub GL_FUNC_ADD : ℕ
GL_FUNC_ADD = 0x8006

abbrev pub GL_MIN : ℕ
GL_MIN = 0x8007

abbrev pub GL_MAX : ℕ
GL_MAX = 0x8008

abbrev pub GL_FUNC_SUBTRACT : ℕ
GL_FUNC_SUBTRACT = 0x800A

abbrev pub GL_FUNC_REVERSE_SUBTRACT : ℕ
GL_FUNC_REVERSE_SUBTRACT = 0x800B

-- sections 6 and 10.3.1, buffer targets
abbrev pub GL_UNIFORM_BUFFER : ℕ
GL_UNIFORM_BUFFER = 0x8A11

abbrev pub GL_SHADER_STORAGE_BUFFER : ℕ
GL_SHADER_STORAGE_BUFFER = 0x90D2

abbrev pub GL_COPY_READ_BUFFER : ℕ
GL_COPY_READ_BUFFER = 0x8F36

abbrev pub GL_COPY_WRITE_BUFFER : ℕ
GL_COPY_WRITE_BUFFER = 0x8F37

-- section 9.2, attachment points; colour place i is COLOR_ATTACHMENT0 + i
abbrev pub GL_COLOR_ATTACHMENT0 : ℕ
GL_COLOR_ATTACHMENT0 = 0x8CE0

abbrev pub GL_DEPTH_ATTACHMENT : ℕ
GL_DEPTH_ATTACHMENT = 0x8D00

abbrev pub GL_STENCIL_ATTACHMENT : ℕ
GL_STENCIL_ATTACHMENT = 0x8D20

abbrev pub GL_DEPTH_STENCIL_ATTACHMENT : ℕ
GL_DEPTH_STENCIL_ATTACHMENT = 0x821A

-- section 10.5, index types
abbrev pub GL_UNSIGNED_SHORT : ℕ
GL_UNSIGNED_SHORT = 0x1403

abbrev pub GL_UNSIGNED_INT : ℕ
GL_UNSIGNED_INT = 0x1405

-- section 15.1.2, both faces
abbrev pub GL_FRONT_AND_BACK : ℕ
GL_FRONT_AND_BACK = 0x0408
