-- The flags of the attributes, one by one. Assumes nothing.
use Prim.Native.Nat.{ℕ, zero, suc, ◌<◌}
use mathlib.Core.Path.{◌≡◌, refl, ap}
use mathlib.Core.Bool.{Bool}
use mathlib.Core.List.{List, [], ◌∷◌, map}
use native.Mathlib.Nat.{not-suc-le-zero, le_of_suc-le-suc}
use lib.ListN.{length, get_or}
use Rattle.tables.specs.Tabulate.{tabulate}
use Rattle.mask.specs.Mask.{test_bit, mask_of}
use Rattle.mask.specs.By.{mask_by}
use Rattle.records.specs.declared.command.AttributeDesc.{AttributeDesc}
use Rattle.slots.specs.Sent.{sent_flags}

pub map_at : {A B : Type 0} (f : A → B) (l : List A) (i : ℕ) (d : A) (e : B) → i < length l → get_or (map f l) i e ≡ f (get_or l i d)
map_at f [] i d e h = absurd (not-suc-le-zero h)
map_at f (x ∷ l) zero d e h = refl
map_at f (x ∷ l) (suc i) d e h = map_at f l i d e (le_of_suc-le-suc h)

table_of : (m : ℕ) (l : List AttributeDesc) (d : AttributeDesc) → tabulate (length l) (λ i. test_bit m (get_or l i d).buffer_index) ≡ sent_flags m l
unfolding tabulate
table_of m [] d = refl
table_of m (a ∷ l) d = ap (λ (bs : List Bool). test_bit m a.buffer_index ∷ bs) (table_of m l d)

-- the places in the list of the attributes whose slot is in m
pub flags-by : (m : ℕ) (l : List AttributeDesc) (d : AttributeDesc) → mask_by (length l) (λ i. test_bit m (get_or l i d).buffer_index) ≡ mask_of (sent_flags m l)
unfolding mask_by
flags-by m l d = ap mask_of (table_of m l d)
