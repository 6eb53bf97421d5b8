-- Worked examples of truncations and of `Nearest`, each computed by antt. Those of the other definitions stand in specs/Examples.antt. Assumes nothing.
use Rattle.std.specs.Prelude.{◌≡◌, ℕ, false, pos, negsuc, refl, Float}
use Rattle.std.proofs.Common.{◌∙◌, subst, arith}
use Rattle.std.specs.Float.{nan, inf, fin, binary32}
use Rattle.std.specs.Float.Ieee.{of_bits}
use Rattle.numbers.specs.Convert.{signed, unsigned, clamp_to, trunc_to}
use Rattle.numbers.specs.Nearest.{Nearest}
use Rattle.numbers.proofs.RoundsNearest.{convert-nearest, nearest-is}
use Rattle.numbers.specs.Examples.{convert-8}

-- -2.9 to -2, and to 0 where the type has no sign
trunc-1 : trunc_to signed 32 (of_bits binary32 0xc039_999a) ≡ negsuc 1
unfolding of_bits clamp_to
trunc-1 = refl

trunc-2 : trunc_to unsigned 32 (of_bits binary32 0xc039_999a) ≡ pos 0
unfolding of_bits clamp_to
trunc-2 = refl

-- 3e9, past the end of the one and in the other; -3e9; the NaN; the infinities
trunc-3 : trunc_to signed 32 (of_bits binary32 0x4f32_d05e) ≡ pos 2147483647
unfolding of_bits clamp_to
trunc-3 = refl

trunc-4 : trunc_to unsigned 32 (of_bits binary32 0x4f32_d05e) ≡ pos 3000000000
unfolding of_bits clamp_to
trunc-4 = refl

trunc-5 : trunc_to signed 32 (of_bits binary32 0xcf32_d05e) ≡ negsuc 2147483647
unfolding of_bits clamp_to
trunc-5 = refl

trunc-6 : trunc_to signed 32 nan ≡ pos 0
unfolding clamp_to
trunc-6 = refl

trunc-7 : trunc_to unsigned 32 (inf false) ≡ pos 4294967295
unfolding clamp_to
trunc-7 = refl

-- 1 is what 1 + 2 ^ -24 is rounded to, and 1 + 2 ^ -23, which is as near, is not
nearest-1 : Nearest binary32 false 16777217 16777216 (fin false 1 (pos 0))
nearest-1 = subst (λ (y : Float). Nearest binary32 false 16777217 16777216 y) convert-8 (convert-nearest binary32 false 16777217 (negsuc 23))

nearest-2 : Nearest binary32 false 16777217 16777216 (fin false 8388609 (negsuc 22)) → ⊥
nearest-2 h =
    let e : fin false 8388609 (negsuc 22) ≡ fin false 1 (pos 0) = nearest-is binary32 false 16777217 (negsuc 23) (fin false 8388609 (negsuc 22)) h ∙ convert-8 in
    let z : ◌≡◌ {A = ℕ} 8388609 1 = cc in
    omega arith
