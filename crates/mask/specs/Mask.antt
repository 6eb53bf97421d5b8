-- Slot masks: document 01, "The dirty mask is a u32 whose bit i is slot i". A mask is a number read by its binary digits, lowest first: digit i is place i.
-- A mask has 32 places; a place of 32 or more is in no mask. Definitions only.
use Rattle.std.specs.Prelude.{ℕ, zero, suc, ◌+◌, ◌-◌, ◌*◌, ◌/◌, ◌%◌, ◌^◌, Bool, true, false, cond, List, [], ◌∷◌, ltb}
use Rattle.std.specs.Int.Bits.{bit_and, bit_or}
use Rattle.std.specs.Int.Count.{count_trailing_zeros}

abbrev pub is_one : ℕ → Bool
is_one zero = false
is_one (suc n) = true

abbrev pub digit_of : Bool → ℕ
digit_of true = 1
digit_of false = 0

-- the lowest digit is set
abbrev pub odd : ℕ → Bool
odd m = is_one (m % 2)

-- place i is in m
unfoldable pub test_bit : ℕ → ℕ → Bool
test_bit m zero = odd m
test_bit m (suc i) = test_bit (m / 2) i

-- the mask whose only place is i
unfoldable pub bit_at : ℕ → ℕ
bit_at i = cond (ltb i 32) (2 ^ i) 0

-- m with place i
unfoldable pub set_bit : ℕ → ℕ → ℕ
set_bit m i = bit_or m (bit_at i)

-- m with place i where b says so
unfoldable pub set_bit_if : Bool → ℕ → ℕ → ℕ
set_bit_if true m i = set_bit m i
set_bit_if false m i = m

-- the places of a that are not in b
unfoldable pub without : ℕ → ℕ → ℕ
without a b = bit_and a ((2 ^ 32 - 1) - b)

-- m without place i
unfoldable pub clear_bit : ℕ → ℕ → ℕ
clear_bit m i = without m (bit_at i)

-- the lowest place, 32 where there is none
abbrev pub lowest : ℕ → ℕ
lowest m = count_trailing_zeros 32 m

-- the mask without its lowest place
abbrev pub rest : ℕ → ℕ
rest m = bit_and m (m - 1)

-- the mask of a list of flags, place 0 first, and the flags of a mask of k places
unfoldable pub mask_of : List Bool → ℕ
mask_of [] = 0
mask_of (b ∷ bs) = mask_of bs * 2 + digit_of b

unfoldable pub flags_of : ℕ → ℕ → List Bool
flags_of zero m = []
flags_of (suc k) m = odd m ∷ flags_of k (m / 2)

-- the places of the k-place mask m, ascending, counted from i
abbrev pub cons? : Bool → ℕ → List ℕ → List ℕ
cons? true i l = i ∷ l
cons? false i l = l

unfoldable pub places_from : ℕ → ℕ → ℕ → List ℕ
places_from zero i m = []
places_from (suc k) i m = cons? (odd m) i (places_from k (suc i) (m / 2))

-- the places of a 32-place mask, ascending
abbrev pub places : ℕ → List ℕ
places m = places_from 32 0 m
