-- Document 02, request 2: a GL number read back as the WebGPU name that the map gives it for, and 8 where it gives it for none. Definitions only.
use Rattle.std.specs.Prelude.{ℕ, ◌≡◌, ◌⊎◌, ◌↔◌, cond, List, [], ◌∷◌, eqb, Option, Some, None}
use Rattle.names.specs.declared.wgt.CompareFunction.{CompareFunction}
use Rattle.names.specs.declared.wgt.PrimitiveTopology.{PrimitiveTopology}
use Rattle.names.specs.declared.wgt.FrontFace.{FrontFace}
use Rattle.names.specs.declared.wgt.CullMode.{CullMode}
use Rattle.names.specs.declared.wgt.StencilOperation.{StencilOperation}
use Rattle.names.specs.declared.wgt.BlendFactor.{BlendFactor}
use Rattle.names.specs.declared.wgt.BlendOperation.{BlendOperation}
use Rattle.names.specs.Order.{compare_functions, topologies, front_faces, cull_modes, stencil_operations, blend_factors, blend_operations}
use Rattle.names.specs.Maps.{compare_func, primitive_topology, front_face_of, cull_face_of, stencil_op, blend_factor, blend_equation}

-- the name of a list for which a map gives n, if there is one
unfoldable pub name_of : {A : Type 0} → (A → ℕ) → ℕ → List A → Option A
name_of g n [] = None
name_of g n (a ∷ l) = cond (eqb (g a) n) (Some a) (name_of g n l)

-- what the request asks of a map and the reader of its numbers; `name` is the answer with a name, `number` an answer's number
pub record ReadsBack {A R : Type 0} (map : A → ℕ) (read : ℕ → R) (name : A → R) (number : R → ℕ) : Type 0 where
  -- "Reading what a map gave returns its input"
  pub returns-input : (a : A) → read (map a) ≡ name a
  -- "mapping a name that was read returns the number"
  pub returns-number : (n : ℕ) (a : A) → read n ≡ name a → map a ≡ n
  -- "8, a number that the map never gives"
  pub never_given : (n : ℕ) → number (read n) ≡ 8 ↔ ((a : A) → map a ≡ n → ⊥)
  -- "these calls have no other": an answer is 8, or a name, whose number is 0
  pub no_other : (n : ℕ) → (number (read n) ≡ 8) ⊎ ((number (read n) ≡ 0) × (a : A) × (read n ≡ name a))

-- the number of an answer
abbrev pub answer_number : {A : Type 0} → Option A → ℕ
answer_number (Some a) = 0
answer_number None = 8

-- the comparison functions
abbrev pub compare_read : ℕ → Option CompareFunction
compare_read n = name_of compare_func n compare_functions

-- the primitive types: 0 is GL_POINTS
abbrev pub topology_read : ℕ → Option PrimitiveTopology
topology_read n = name_of primitive_topology n topologies

-- the front faces: GL_CW reads `Ccw`, as the map turns them
abbrev pub front_read : ℕ → Option FrontFace
front_read n = name_of front_face_of n front_faces

-- the cull faces: 0 reads `None`
abbrev pub cull_read : ℕ → Option CullMode
cull_read n = name_of cull_face_of n cull_modes

-- the stencil operations: 0 is GL_ZERO
abbrev pub stencil_op_read : ℕ → Option StencilOperation
stencil_op_read n = name_of stencil_op n stencil_operations

-- the blending functions: 0 is GL_ZERO, 1 is GL_ONE
abbrev pub factor_read : ℕ → Option BlendFactor
factor_read n = name_of blend_factor n blend_factors

-- the blend equations
abbrev pub operation_read : ℕ → Option BlendOperation
operation_read n = name_of blend_equation n blend_operations
