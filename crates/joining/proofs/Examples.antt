-- Joins worked out: the answers, what is put in, and lists joined. Assumes nothing.
use Prim.Native.Nat.{ℕ}
use mathlib.Core.Path.{◌≡◌, refl}
use mathlib.Core.Bool.{Bool, true, false}
use mathlib.Core.List.{List, [], ◌∷◌}
use lib.IntN.{pos}
use lib.Ieee.{binary32, of_bits}
use Rattle.numbers.specs.Convert.{bits32}
use Rattle.mask.specs.Mask.{places_from}
use Rattle.records.specs.Start.{start_depth_bias}
use Rattle.records.specs.declared.command.ColorF32.{ColorF32}
use Rattle.records.specs.declared.command.Command.{Command}
use Rattle.records.specs.declared.command.Command.TheVariants.{Draw, CopyQueryResults, SetDepthBias, SetAlphaToCoverage, SetBlendConstant, BindSampler, PushDebugGroup, PopDebugGroup, SetImmediates, SetClipDistances}
use Rattle.records.specs.declared.command.DepthBiasState.{DepthBiasState}
use Rattle.records.specs.declared.command.ImmediateDesc.{ImmediateDesc}
use Rattle.std.specs.Prelude.{None, Some}
use Rattle.lists.specs.declared.limits.Surveyed.{Surveyed}
use Rattle.lists.specs.declared.limits.Used.{Used}
use Rattle.lists.specs.Shots.{settings}
use Rattle.joining.specs.declared.ending.Ending.{Ending}
use Rattle.joining.specs.declared.plan.Asked.{Asked}
use Rattle.joining.specs.Joined.{no_color, end_of, put_in, joined, samplers_off, bound_from}
use Rattle.joining.specs.Joins.{number}
use Rattle.joining.specs.Ending.{fresh_ending}
use Rattle.joining.specs.Plan.{asked_of, planned_of}

-- ---- the answers
abbrev used : ℕ → ℕ → ℕ → Used
used c b q = record { commands = c; bytes = b; queries = q }

abbrev broken : Bool → Bool → Bool → Used → Surveyed
broken m r o u = record { used = u; breaks = record { many = m; range = r; room = o }; draws = 0 }

abbrev well : Used → Surveyed
well u = broken false false false u

-- with alpha to coverage on at its end one command is put in
abbrev lit : Ending
lit = record { units = 0; bias = start_depth_bias; blend = no_color; alpha = true; clip = 0 }

abbrev answer : ℕ → Ending → Asked → Surveyed → Surveyed → ℕ
answer room e x a s = number (planned_of x (record { surveyed = a; ending = e; room = room }) s).outcome

-- both lists well
abbrev fits : ℕ → Ending → Asked → ℕ
fits room e x = answer room e x (well x.used) (well x.other)

-- runs as long as the limits
abbrev ample : Used → Used → Asked
ample u v = asked_of 65536 1024 65536 1024 u v

pub record Row : Type 0 where
  pub found : ℕ
  pub named : ℕ

-- what is found, and the number that is named
pub rows : List Row
rows =
    -- "16, commands, bytes or queries beyond the limits of one list": at the limit, and one more
    record { found = fits 4096 fresh_ending (ample (used 4000 0 0) (used 96 0 0)); named = 0 }
    ∷ record { found = fits 5000 fresh_ending (ample (used 4000 0 0) (used 97 0 0)); named = 16 }
    ∷ record { found = fits 4096 fresh_ending (ample (used 0 65000 0) (used 0 536 0)); named = 0 }
    ∷ record { found = fits 4096 fresh_ending (asked_of 99999 1024 65536 1024 (used 0 65000 0) (used 0 537 0)); named = 16 }
    ∷ record { found = fits 4096 fresh_ending (ample (used 0 0 1000) (used 0 0 24)); named = 0 }
    ∷ record { found = fits 4096 fresh_ending (asked_of 65536 9999 65536 1024 (used 0 0 1000) (used 0 0 25)); named = 16 }
    -- what is put in is counted
    ∷ record { found = fits 4096 lit (ample (used 4000 0 0) (used 95 0 0)); named = 0 }
    ∷ record { found = fits 5000 lit (ample (used 4000 0 0) (used 96 0 0)); named = 16 }
    -- "7, which is left for lent runs too small": the first's runs, one less than is needed
    ∷ record { found = fits 99 fresh_ending (ample (used 60 0 0) (used 40 0 0)); named = 7 }
    ∷ record { found = fits 100 fresh_ending (ample (used 60 0 0) (used 40 0 0)); named = 0 }
    ∷ record { found = fits 100 lit (ample (used 60 0 0) (used 40 0 0)); named = 7 }
    ∷ record { found = fits 4096 fresh_ending (asked_of 9 1024 4 1024 (used 0 6 0) (used 0 4 0)); named = 7 }
    ∷ record { found = fits 4096 fresh_ending (asked_of 65536 9 65536 4 (used 0 0 6) (used 0 0 4)); named = 7 }
    -- and the second's, shorter than its counts
    ∷ record { found = fits 4096 fresh_ending (asked_of 65536 1024 3 1024 (used 0 6 0) (used 0 4 0)); named = 7 }
    ∷ record { found = fits 4096 fresh_ending (asked_of 65536 1024 65536 3 (used 0 0 6) (used 0 0 4)); named = 7 }
    -- "it comes before 7"
    ∷ record { found = fits 0 fresh_ending (asked_of 0 0 0 0 (used 4000 0 0) (used 97 0 0)); named = 16 }
    -- a list's own count above the limit of one list: the sum is, too
    ∷ record { found = answer 9999 fresh_ending (ample (used 4097 0 0) (used 0 0 0)) (broken false false true (used 4097 0 0)) (well (used 0 0 0)); named = 16 }
    ∷ record { found = answer 9999 fresh_ending (ample (used 0 0 0) (used 4097 0 0)) (well (used 0 0 0)) (broken false false true (used 4097 0 0)); named = 16 }
    -- "turned away like a state, a range beyond its run by 7": the smaller number comes first, of either list; 16 is larger than 2 and 3
    ∷ record { found = answer 100 fresh_ending (ample (used 60 0 0) (used 40 0 0)) (well (used 60 0 0)) (broken false false true (used 40 0 0)); named = 7 }
    ∷ record { found = answer 100 fresh_ending (ample (used 60 0 0) (used 40 0 0)) (broken false true true (used 60 0 0)) (well (used 40 0 0)); named = 3 }
    ∷ record { found = answer 100 fresh_ending (ample (used 60 0 0) (used 40 0 0)) (broken false true false (used 60 0 0)) (broken true false false (used 40 0 0)); named = 2 }
    ∷ record { found = answer 5000 fresh_ending (ample (used 4000 0 0) (used 97 0 0)) (well (used 4000 0 0)) (broken false true false (used 97 0 0)); named = 3 }
    ∷ record { found = answer 5000 fresh_ending (ample (used 4000 0 0) (used 97 0 0)) (broken true false false (used 4000 0 0)) (well (used 97 0 0)); named = 2 }
    ∷ record { found = answer 5000 fresh_ending (ample (used 4000 0 0) (used 97 0 0)) (broken false false true (used 4000 0 0)) (well (used 97 0 0)); named = 16 }
    ∷ []

abbrev Agrees : List Row → Type 0
Agrees [] = Unit {0}
Agrees (r ∷ rs) = (r.found ≡ r.named) × Agrees rs

-- ---- what is put in
abbrev colour : ℕ → ColorF32
colour bits = record { r = of_bits binary32 0; g = of_bits binary32 0; b = of_bits binary32 bits; a = of_bits binary32 0 }

abbrev bias : ℕ → DepthBiasState
bias n = record { constant = pos n; slope_scale = 0; clamp = 0 }

nothing : put_in [] ≡ []
unfolding settings samplers_off bound_from bits32 of_bits lib.Ieee.to_bits
nothing = refl

-- "in the order named, units ascending"
all-five : put_in (SetClipDistances 0 3 ∷ SetAlphaToCoverage true ∷ SetBlendConstant (colour 0x3f800000) ∷ BindSampler 5 (Some 7) ∷ SetDepthBias (bias 2) ∷ BindSampler 3 (Some 9) ∷ [])
    ≡ BindSampler 3 None ∷ BindSampler 5 None ∷ SetDepthBias start_depth_bias ∷ SetBlendConstant no_color ∷ SetAlphaToCoverage false ∷ SetClipDistances 3 0 ∷ []
unfolding settings samplers_off bound_from bits32 of_bits lib.Ieee.to_bits
all-five = refl

-- "Only settings that differ .. at the first's end": set and set back; the last count is 1
set_back : put_in (BindSampler 5 (Some 7) ∷ BindSampler 5 None ∷ SetDepthBias (bias 2) ∷ SetDepthBias start_depth_bias ∷ SetAlphaToCoverage true ∷ SetAlphaToCoverage false ∷ SetClipDistances 0 3 ∷ SetClipDistances 3 1 ∷ [])
    ≡ SetClipDistances 1 0 ∷ []
unfolding settings samplers_off bound_from bits32 of_bits lib.Ieee.to_bits
set_back = refl

-- "floats by bits, zero being +0"
minus-zero : put_in (SetBlendConstant (colour 0x80000000) ∷ []) ≡ SetBlendConstant no_color ∷ []
unfolding settings samplers_off bound_from bits32 of_bits lib.Ieee.to_bits
minus-zero = refl

-- ---- "its marker, immediate and query ranges moved"
abbrev drawn : Command
drawn = Draw 4 0 3 0 1 None

abbrev word : ImmediateDesc → Command
word d = SetImmediates d 4

ranges-moved : (d : ImmediateDesc) → joined (record { commands = drawn ∷ []; bytes = 1 ∷ 2 ∷ 3 ∷ []; queries = 8 ∷ 9 ∷ [] })
    (record { commands = PushDebugGroup (record { start = 0; end = 4 }) ∷ SetImmediates d 4 ∷ CopyQueryResults (record { start = 0; end = 1 }) 7 8 9 ∷ drawn ∷ PopDebugGroup ∷ []; bytes = 5 ∷ []; queries = 6 ∷ [] })
    ≡ record {
      commands = drawn ∷ PushDebugGroup (record { start = 3; end = 7 }) ∷ SetImmediates d 7 ∷ CopyQueryResults (record { start = 2; end = 3 }) 7 8 9 ∷ drawn ∷ PopDebugGroup ∷ [];
      bytes = 1 ∷ 2 ∷ 3 ∷ 5 ∷ [];
      queries = 8 ∷ 9 ∷ 6 ∷ [];
    }
unfolding settings samplers_off bound_from bits32 of_bits lib.Ieee.to_bits
ranges-moved d = refl

-- ---- lists whose old counts are not the counts before
-- the last count is 0, and a clip distance is on: it is switched off
abbrev unchained : List Command
unchained = SetClipDistances 0 1 ∷ SetClipDistances 0 0 ∷ []

above-last : (put_in unchained ≡ SetClipDistances 1 0 ∷ []) × ((end_of unchained).fixed.clip 0 ≡ true)
unfolding settings samplers_off bound_from bits32 of_bits lib.Ieee.to_bits
above-last = (refl, refl)

-- the last count is 3, and none was switched on: nothing is put in
none-on : put_in (SetClipDistances 5 3 ∷ []) ≡ []
unfolding settings samplers_off bound_from bits32 of_bits lib.Ieee.to_bits
none-on = refl

-- the bound need not be the least one: none is on at the end, and the last count is taken
not_least : (put_in (SetClipDistances 2 3 ∷ SetClipDistances 3 1 ∷ []) ≡ SetClipDistances 1 0 ∷ []) × ((end_of (SetClipDistances 2 3 ∷ SetClipDistances 3 1 ∷ [])).fixed.clip 0 ≡ false)
unfolding settings samplers_off bound_from bits32 of_bits lib.Ieee.to_bits
not_least = (refl, refl)

pub worked : Agrees rows
unfolding rows bits32 of_bits lib.Ieee.to_bits places_from
worked = (refl, (refl, (refl, (refl, (refl, (refl, (refl, (refl, (refl, (refl, (refl, (refl, (refl, (refl, (refl, (refl, (refl, (refl, (refl, (refl, (refl, (refl, (refl, (refl, tt))))))))))))))))))))))))
