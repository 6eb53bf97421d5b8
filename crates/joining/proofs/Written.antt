-- What is handed back where the answer is `Done`: the first's commands, what is put in, and the second's, moved. Assumes nothing.
use Prim.Native.Nat.{ℕ, zero, suc, ◌+◌, ◌≤◌, min}
use mathlib.Core.Path.{◌≡◌, refl, sym, ap, ap₂, ◌∙◌}
use mathlib.Core.List.{List, [], ◌∷◌, ◌++◌, map, map-append, append_assoc, append-nil}
use native.Mathlib.Nat.{add_assoc}
use native.Mathlib.Omega.{arith}
use lib.ListN.{length, get_or, take, drop, length-append, length-take}
use lib.Seq.{paste, take-suc, take-paste, drop-paste, take-append_seam}
use Rattle.walks.specs.Fill.{filled, firsts}
use Rattle.walks.proofs.Filled.{filled_is, filled-rest, filled-length, firsts-length}
use Rattle.list_walks.specs.Map.{map_at}
use Rattle.list_walks.proofs.Mapped.{map_at-length, map_at-map}
use Rattle.records.specs.declared.command.Command.{Command}
use Rattle.records.specs.declared.command.Command.TheVariants.{PopDebugGroup}
use Rattle.records.specs.declared.command.Record.{Record}
use Rattle.lists.specs.Class.{commands_of}
use Rattle.joining.specs.declared.plan.Asked.{Asked}
use Rattle.joining.specs.declared.plan.Looked.{Looked}
use Rattle.joining.specs.declared.plan.JoinPlan.{JoinPlan}
use Rattle.joining.specs.Joins.{record_of}
use Rattle.joining.specs.Ending.{resets_by}
use Rattle.joining.specs.Plan.{done_plan, list_by, moved_in, moved_record}

-- ---- lists
pub firsts-take : {X Y : Type 0} (g : X → Y) (xs : List X) (d : X) (n : ℕ) → n ≤ length xs → firsts (λ i. g (get_or xs i d)) n ≡ map g (take n xs)
unfolding firsts
firsts-take g xs d zero h = refl
firsts-take {X} {Y} g xs d (suc n) h =
    ap (λ (l : List Y). l ++ (g (get_or xs n d) ∷ [])) (firsts-take g xs d n (omega arith)) ∙ sym (map-append g (take n xs) (get_or xs n d ∷ [])) ∙ ap (map g) (sym (take-suc xs n d (omega arith)))

firsts-all : {X Y : Type 0} (g : X → Y) (xs : List X) (d : X) → firsts (λ i. g (get_or xs i d)) (length xs) ≡ map g xs
firsts-all {X} g xs d = firsts-take g xs d (length xs) (omega arith) ∙ ap (map g) (ap (take (length xs)) (sym (append-nil xs)) ∙ take-append_seam xs [])

take-map : {X Y : Type 0} (f : X → Y) (n : ℕ) (xs : List X) → take n (map f xs) ≡ map f (take n xs)
take-map f zero xs = refl
take-map f (suc n) [] = refl
take-map {X} {Y} f (suc n) (x ∷ xs) = ap (λ (l : List Y). f x ∷ l) (take-map f n xs)

-- ---- commands of records
pub commands-of : (cs : List Command) → commands_of (map record_of cs) ≡ cs
commands-of [] = refl
commands-of (c ∷ cs) = ap (λ (l : List Command). c ∷ l) (commands-of cs)

commands-by : (h : Command → Command) (xs : List Record) → commands_of (map (λ (x : Record). record_of (h x.command)) xs) ≡ map h (commands_of xs)
commands-by h [] = refl
commands-by h (x ∷ xs) = ap (λ (l : List Command). h x.command ∷ l) (commands-by h xs)

pub written : (x : Asked) (a : Looked) (l m : List Record) → x.used.commands + (length (resets_by a.ending) + x.other.commands) ≤ length l → x.other.commands ≤ length m
    → commands_of (take (done_plan x a (length (resets_by a.ending))).used.commands (list_by (done_plan x a (length (resets_by a.ending))) l m))
    ≡ commands_of (take x.used.commands l) ++ (resets_by a.ending ++ map (moved_in x.used.bytes x.used.queries) (commands_of (take x.other.commands m)))
written x a l m fits long =
    ap (λ (k : ℕ). commands_of (take k (paste F (A + n) xs b))) (sym (add_assoc A n b))
    ∙ ap commands_of (take-paste F (A + n) xs b (omega (arith, filled-length f l A n)) (omega (arith, map_at-length (moved_record p) 0 m)))
    ∙ ap₂ (λ (s t : List Record). commands_of (s ++ t)) front behind
    ∙ map-append (λ (r : Record). r.command) (take A l ++ map record_of cs) (map moving (take b m))
    ∙ ap₂ (λ (s t : List Command). s ++ t) (map-append (λ (r : Record). r.command) (take A l) (map record_of cs) ∙ ap (λ (t : List Command). commands_of (take A l) ++ t) (commands-of cs)) (commands-by (moved_in x.used.bytes x.used.queries) (take b m))
    ∙ append_assoc (commands_of (take A l)) cs (map (moved_in x.used.bytes x.used.queries) (commands_of (take b m)))
  where
    cs : List Command
    cs = resets_by a.ending

    A : ℕ
    A = x.used.commands

    n : ℕ
    n = length cs

    b : ℕ
    b = x.other.commands

    f : ℕ → Record
    f i = record_of (get_or cs i PopDebugGroup)

    F : List Record
    F = filled f l A n

    p : JoinPlan
    p = done_plan x a n

    xs : List Record
    xs = map_at (moved_record p) 0 m

    moving : Record → Record
    moving r = record_of (moved_in x.used.bytes x.used.queries r.command)

    Y : List Record
    Y = take A l ++ firsts f n

    long-front : length Y ≡ A + n
    long-front = length-append (take A l) (firsts f n) ∙ ap₂ (λ (s t : ℕ). s + t) (length-take A l ∙ least) (firsts-length f l A n)
      where
        least : min A (length l) ≡ A
        least = omega arith

    front : take (A + n) F ≡ take A l ++ map record_of cs
    front =
        ap (take (A + n)) (filled_is f l A n (omega arith)) ∙ ap (λ (k : ℕ). take k (Y ++ drop (A + n) l)) (sym long-front) ∙ take-append_seam Y (drop (A + n) l)
        ∙ ap (λ (t : List Record). take A l ++ t) (firsts-all record_of cs PopDebugGroup)

    behind : take b xs ≡ map moving (take b m)
    behind = ap (take b) (map_at-map moving 0 m) ∙ take-map moving b m

-- and behind it the run is as it was
pub rest-written : (x : Asked) (a : Looked) (l m : List Record) → x.used.commands + (length (resets_by a.ending) + x.other.commands) ≤ length l → x.other.commands ≤ length m
    → drop (done_plan x a (length (resets_by a.ending))).used.commands (list_by (done_plan x a (length (resets_by a.ending))) l m) ≡ drop (done_plan x a (length (resets_by a.ending))).used.commands l
rest-written x a l m fits long =
    ap (λ (k : ℕ). drop k (paste F (A + n) xs b)) (sym (add_assoc A n b))
    ∙ drop-paste F (A + n) xs b (omega (arith, filled-length f l A n)) (omega (arith, map_at-length (moved_record p) 0 m))
    ∙ filled-rest f l A (A + n + b) n (omega arith)
    ∙ ap (λ (k : ℕ). drop k l) (add_assoc A n b)
  where
    A : ℕ
    A = x.used.commands

    n : ℕ
    n = length (resets_by a.ending)

    b : ℕ
    b = x.other.commands

    p : JoinPlan
    p = done_plan x a n

    f : ℕ → Record
    f i = record_of (get_or (resets_by a.ending) i PopDebugGroup)

    F : List Record
    F = filled f l A n

    xs : List Record
    xs = map_at (moved_record p) 0 m

-- ---- a run of numbers that is written behind another
pub taken-front : {X : Type 0} (f : ℕ → X) (l : List X) (at n : ℕ) → at + n ≤ length l → take (at + n) (filled f l at n) ≡ take at l ++ firsts f n
taken-front {X} f l at n h =
    ap (take (at + n)) (filled_is f l at n h) ∙ ap (λ (k : ℕ). take k ((take at l ++ firsts f n) ++ drop (at + n) l)) (sym long) ∙ take-append_seam (take at l ++ firsts f n) (drop (at + n) l)
  where
    least : min at (length l) ≡ at
    least = omega arith

    long : length (take at l ++ firsts f n) ≡ at + n
    long = length-append (take at l) (firsts f n) ∙ ap₂ (λ (s t : ℕ). s + t) (length-take at l ∙ least) (firsts-length f l at n)

map_same : {X : Type 0} (xs : List X) → map (λ (x : X). x) xs ≡ xs
map_same [] = refl
map_same {X} (x ∷ xs) = ap (λ (l : List X). x ∷ l) (map_same xs)

pub numbers-behind : (bs cs : List ℕ) (at n : ℕ) → at + n ≤ length bs → n ≤ length cs → take (at + n) (filled (λ i. get_or cs i 0) bs at n) ≡ take at bs ++ take n cs
numbers-behind bs cs at n h k = taken-front (λ i. get_or cs i 0) bs at n h ∙ ap (λ (l : List ℕ). take at bs ++ l) (firsts-take (λ (z : ℕ). z) cs 0 n k ∙ map_same (take n cs))
