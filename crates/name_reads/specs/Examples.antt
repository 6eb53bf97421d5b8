-- Document 02, request 2, worked: numbers read back, with the answer's number, and words as they are shown. Assumes nothing.
use Rattle.std.specs.Prelude.{◌≡◌, refl, [], Some, None}
use Rattle.names.specs.declared.wgt.CompareFunction.TheVariants.{Equal}
use Rattle.names.specs.declared.wgt.PrimitiveTopology.TheVariants.{PointList}
use Rattle.names.specs.declared.wgt.FrontFace.{FrontFace}
use Rattle.names.specs.declared.wgt.FrontFace.TheVariants.{Ccw, Cw}
use Rattle.names.specs.declared.wgt.CullMode.TheVariants.{None as cull_none, Back}
use Rattle.names.specs.declared.wgt.StencilOperation.TheVariants.{Keep, Zero as stencil_zero, IncrementWrap}
use Rattle.names.specs.declared.wgt.BlendFactor.TheVariants.{Zero, One, Src1}
use Rattle.names.specs.declared.wgt.BlendOperation.TheVariants.{Max}
use Rattle.names.specs.Ascii.{ascii}
use Rattle.names.specs.Order.{front_faces}
use Rattle.names.specs.Gl.{GL_CW, GL_CCW, GL_EQUAL, GL_KEEP, GL_INCR_WRAP, GL_SRC1_COLOR, GL_MAX}
use Rattle.name_reads.specs.declared.word.Map.TheVariants.{CompareFunc, BlendFactor}
use Rattle.name_reads.specs.Read.{name_of, answer_number, compare_read, topology_read, front_read, cull_read, stencil_op_read, factor_read, operation_read}
use Rattle.name_reads.specs.Word.{word_read}

-- the map turns front faces, so GL's GL_CW reads `Ccw`
pub front-faces : (front_read GL_CW ≡ Some Ccw) × (front_read GL_CCW ≡ Some Cw)
unfolding name_of
front-faces = (refl, refl)

-- 0 is a name where a map gives it
pub zero-named : (topology_read 0 ≡ Some PointList) × (cull_read 0 ≡ Some cull_none) × (stencil_op_read 0 ≡ Some stencil_zero) × (factor_read 0 ≡ Some Zero)
unfolding name_of
zero-named = (refl, refl, refl, refl)

-- and 8 where none does
pub zero-unknown : (answer_number (compare_read 0) ≡ 8) × (answer_number (front_read 0) ≡ 8) × (answer_number (operation_read 0) ≡ 8)
unfolding name_of
zero-unknown = (refl, refl, refl)

-- 1 is GL_LINES, no cull face, no stencil operation, and GL_ONE
pub one-read : (answer_number (topology_read 1) ≡ 0) × (cull_read 1 ≡ None) × (stencil_op_read 1 ≡ None) × (factor_read 1 ≡ Some One)
unfolding name_of
one-read = (refl, refl, refl, refl)

pub names-read : (compare_read GL_EQUAL ≡ Some Equal) × (cull_read 0x405 ≡ Some Back) × (stencil_op_read GL_KEEP ≡ Some Keep)
    × (stencil_op_read GL_INCR_WRAP ≡ Some IncrementWrap) × (factor_read GL_SRC1_COLOR ≡ Some Src1) × (operation_read GL_MAX ≡ Some Max)
unfolding name_of
names-read = (refl, refl, refl, refl, refl, refl)

-- numbers of OpenGL ES that no map gives: LINE_LOOP, TRIANGLE_FAN, FRONT_AND_BACK
pub not-given : (topology_read 2 ≡ None) × (topology_read 6 ≡ None) × (cull_read 0x408 ≡ None)
unfolding name_of
not-given = (refl, refl, refl)

-- the largest number
pub largest : (compare_read 4294967295 ≡ None) × (topology_read 4294967295 ≡ None) × (front_read 4294967295 ≡ None) × (cull_read 4294967295 ≡ None)
    × (stencil_op_read 4294967295 ≡ None) × (factor_read 4294967295 ≡ None) × (operation_read 4294967295 ≡ None)
unfolding name_of
largest = (refl, refl, refl, refl, refl, refl, refl)

-- a name, and 8, by their numbers
pub numbers_of : (answer_number (stencil_op_read GL_KEEP) ≡ 0) × (answer_number (cull_read 0x408) ≡ 8) × (answer_number (factor_read 2) ≡ 8)
unfolding name_of
numbers_of = (refl, refl, refl)

-- the longest word; a number without a name shows none
pub words : (word_read BlendFactor 0x88fb ≡ ascii "one-minus-src1-alpha")
    × (word_read CompareFunc 515 ≡ ascii "less-equal") × (word_read CompareFunc 5 ≡ [])
unfolding name_of
words = (refl, refl, refl)

-- why the numbers must be different: of a map that gives 0 twice, 0 reads as the first name
pub same-number-twice : name_of (λ (f : FrontFace). 0) 0 front_faces ≡ Some Ccw
unfolding name_of
same-number-twice = refl
