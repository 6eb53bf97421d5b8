-- From a plan that is right and written to the contract of a call, by the runs that it is handed. Assumes nothing.
use Prim.Native.Nat.{ℕ, zero, suc, ◌+◌, ◌<◌, ◌≤◌}
use mathlib.Core.Bool.{Bool, true, false, cond}
use mathlib.Core.List.{List, [], ◌∷◌, ◌++◌, map, append_assoc}
use mathlib.Core.Path.{◌≡◌, refl, sym, ap, ◌∙◌, subst}
use native.Mathlib.Nat.{le_of_suc-le-suc, add-zero}
use native.Mathlib.Omega.{arith}
use lib.ListN.{length, get_or, take, drop, length-map, take-append-drop}
use Rattle.walks.specs.Fill.{filled, firsts}
use Rattle.walks.proofs.Filled.{filled_is}
use Rattle.records.specs.Outcome.{accepted, number, Smallest}
use Rattle.records.specs.Least.{smallest-is}
use Rattle.records.specs.declared.check.Rooms.{Rooms}
use Rattle.records.specs.declared.command.Command.{Command}
use Rattle.records.specs.declared.command.Command.TheVariants.{PopDebugGroup}
use Rattle.records.specs.declared.command.Record.{Record}
use Rattle.records.specs.declared.outcome.Outcome.{Outcome}
use Rattle.records.specs.declared.pipeline.PrivateCapabilities.{PrivateCapabilities}
use Rattle.records.specs.declared.state.Answer.{Answer}
use Rattle.records.specs.declared.state.State.{State}
use Rattle.calls.specs.Call.{Call}
use Rattle.calls.specs.Did.{Did, Runs, rooms_of, Lists, Marks, Resolves, Keeps, written, record_of}
use Rattle.calls.specs.Judge.{taken}
use Rattle.calls.specs.Meaning.{Meaning}
use Rattle.calls.specs.Planned.{list_rooms, byte_rooms, query_rooms, no_rooms, Put, Laid, Answered, outcome_in, state_in}
use Rattle.calls.specs.Step.{meaning, conditions_of, outcome_of}

module _ {X Y : Type 0} (w : Y → X) where
  one_more : (ys : List Y) (n : ℕ) (d : Y) → n < length ys → take (suc n) ys ≡ take n ys ++ (get_or ys n d ∷ [])
  one_more [] n d h = absurd (omega arith)
  one_more (y ∷ ys) zero d h = refl
  one_more (y ∷ ys) (suc n) d h = ap (λ (l : List Y). y ∷ l) (one_more ys n d (le_of_suc-le-suc h))

  map-append : (xs ys : List Y) → map w (xs ++ ys) ≡ map w xs ++ map w ys
  map-append [] ys = refl
  map-append (x ∷ xs) ys = ap (λ (l : List X). w x ∷ l) (map-append xs ys)

  -- the first n of a list, by place
  pub firsts-are : (f : ℕ → Y) (ys : List Y) (d : Y) (n : ℕ) → n ≤ length ys → ((i : ℕ) → i < n → f i ≡ get_or ys i d) → firsts (λ i. w (f i)) n ≡ map w (take n ys)
  unfolding firsts
  firsts-are f ys d zero h e = refl
  firsts-are f ys d (suc n) h e =
      rw (firsts-are f ys d n (omega arith) (λ i l. e i (omega arith)), e n (omega arith), one_more ys n d h) (sym (map-append (take n ys) (get_or ys n d ∷ [])))

take_all : {Y : Type 0} (ys : List Y) → take (length ys) ys ≡ ys
take_all [] = refl
take_all (y ∷ ys) = ap (λ (l : List _). y ∷ l) (take_all ys)

-- nothing is written
none_written : {X : Type 0} (run : List X) (p : ℕ) → written run p [] ≡ run
none_written run p = ap (λ (k : ℕ). take p run ++ drop k run) (add-zero p) ∙ take-append-drop p run

-- a filled run has the elements behind its used part
pub laid-written : {X Y : Type 0} (w : Y → X) (none : Y) (run : List X) (at p n : ℕ) (f : ℕ → Y) (ys : List Y) → n ≡ length ys → at + n ≤ length run → (0 < n → at ≡ p)
    → ((i : ℕ) → i < n → f i ≡ get_or ys i none) → filled (λ i. w (f i)) run at n ≡ written run p (map w ys)
unfolding filled
laid-written w none run at p n f [] m fits behind e = rw m (sym (none_written run p))
laid-written w none run at p n f (c ∷ cs) m fits behind e =
    let here : at ≡ p = behind (omega arith) in
    let all : firsts (λ i. w (f i)) n ≡ map w (c ∷ cs) =
    firsts-are w f (c ∷ cs) none n (omega arith) e ∙ ap (map w) (ap (λ (k : ℕ). take k (c ∷ cs)) m ∙ take_all (c ∷ cs)) in
    let long : n ≡ length (map w (c ∷ cs)) = m ∙ sym (length-map (c ∷ cs) w) in
    filled_is (λ i. w (f i)) run at n fits
    ∙ append_assoc (take at run) _ _
    ∙ ap (λ (l : List _). take at run ++ (l ++ drop (at + n) run)) all
    ∙ ap (λ (k : ℕ). take k run ++ (map w (c ∷ cs) ++ drop (k + n) run)) here
    ∙ ap (λ (k : ℕ). take p run ++ (map w (c ∷ cs) ++ drop (p + k) run)) long

pub map_same : {X : Type 0} (xs : List X) → map (λ x. x) xs ≡ xs
map_same [] = refl
map_same (x ∷ xs) = ap (λ (l : List _). x ∷ l) (map_same xs)

-- the commands, and the numbers, that a plan puts into a run
pub commands-put : (run : List Record) (s : State) (o : Outcome) (cs : List Command) (at n : ℕ) (f : ℕ → Command) → Laid (length run) s o cs at n f
    → filled (λ i. record_of (f i)) run at n ≡ written run s.progress.commands (map record_of (taken o cs []))
commands-put run s o cs at n f l = laid-written record_of PopDebugGroup run at s.progress.commands n f (taken o cs []) l.count l.fits l.behind l.each

pub numbers-put : (run : List ℕ) (used : ℕ) (o : Outcome) (xs : List ℕ) (at n : ℕ) (f : ℕ → ℕ) → Put (length run) used o xs 0 at n f → filled f run at n ≡ written run used (taken o xs [])
numbers-put run used o xs at n f l = laid-written (λ x. x) 0 run at used n f (taken o xs []) l.count l.fits l.behind l.each ∙ ap (written run used) (map_same (taken o xs []))

cond-none : {X : Type 0} (t : Bool) → ◌≡◌ {A = List X} (cond t [] []) []
cond-none true = refl
cond-none false = refl

-- a run to which a call appends nothing
untouched : {X : Type 0} (run : List X) (used : ℕ) (o : Outcome) (xs : List X) → xs ≡ [] → run ≡ written run used (taken o xs [])
untouched run used o xs e = rw (e, cond-none {X = _} (accepted o)) (sym (none_written run used))

module _ (caps : PrivateCapabilities) (s : State) (c : Call) where
  abbrev m : Meaning
  m = meaning caps s c

  -- the outcome looks at no run but those that the call is handed
  same_outcome : (rooms rooms' : Rooms) → m.handed rooms ≡ m.handed rooms' → outcome_of rooms s m ≡ outcome_of rooms' s m
  unfolding outcome_of
  same_outcome rooms rooms' e = rw e

  -- the outcome's number is the smallest whose condition holds
  least : (rooms : Rooms) (o : Outcome) → o ≡ outcome_of rooms s m → Smallest (conditions_of rooms s m) (number o)
  unfolding outcome_of
  least rooms o e = subst (λ (x : Outcome). Smallest (conditions_of rooms s m) (number x)) (sym e) (smallest-is (conditions_of rooms s m))

  -- the contract, from the answer and the three runs
  did : (runs runs' : Runs) (a : Answer) (rooms : Rooms) (outcome : Outcome) (next : State) → m.handed rooms ≡ m.handed (rooms_of runs) → Answered s (outcome_of rooms s m) (state_in m) outcome next
      → a ≡ record { outcome = outcome; state = next }
      → runs'.commands ≡ written runs.commands s.progress.commands (map record_of (taken (outcome_of rooms s m) m.commands []))
      → runs'.bytes ≡ written runs.bytes s.progress.bytes (taken (outcome_of rooms s m) m.bytes [])
      → runs'.queries ≡ written runs.queries s.progress.queries (taken (outcome_of rooms s m) m.queries []) → Did caps s runs c a runs'
  did runs runs' a rooms outcome next h ans e cs bs qs =
      let same : outcome_of rooms s m ≡ outcome_of (rooms_of runs) s m = same_outcome rooms (rooms_of runs) h in
      let lists = cs ∙ ap (λ (o : Outcome). written runs.commands s.progress.commands (map record_of (taken o m.commands []))) same in
      let marks = bs ∙ ap (λ (o : Outcome). written runs.bytes s.progress.bytes (taken o m.bytes [])) same in
      let asks = qs ∙ ap (λ (o : Outcome). written runs.queries s.progress.queries (taken o m.queries [])) same in
      let told : a.outcome ≡ outcome_of (rooms_of runs) s m = ap (λ (x : Answer). x.outcome) e ∙ ans.0 ∙ same in
      record {
        smallest = least (rooms_of runs) a.outcome told;
        outcome = told;
        state = ap (λ (x : Answer). x.state) e ∙ ans.1 ∙ ap (λ (o : Outcome). taken o (state_in m) s) same;
        runs = λ i. record { commands = lists i; bytes = marks i; queries = asks i };
      }

  -- a call that is handed the command list alone
  pub lists-done : ((r : Rooms) → m.handed r ≡ list_rooms r.commands) → m.bytes ≡ [] → m.queries ≡ []
      → (run run' : List Record) (a : Answer) (outcome : Outcome) (next : State) (at n : ℕ) (f : ℕ → Command)
      → Answered s (outcome_in (length run) s m) (state_in m) outcome next → Laid (length run) s (outcome_in (length run) s m) m.commands at n f
      → a ≡ record { outcome = outcome; state = next } → run' ≡ filled (λ i. record_of (f i)) run at n → Lists caps s c run a run'
  lists-done alone no_bytes no-queries run run' a outcome next at n f ans laid e z bytes queries =
      did (record { commands = run; bytes = bytes; queries = queries }) (record { commands = run'; bytes = bytes; queries = queries }) a (list_rooms (length run)) outcome next
      (alone (list_rooms (length run)) ∙ sym (alone _)) ans e (z ∙ commands-put run s (outcome_in (length run) s m) m.commands at n f laid)
      (untouched bytes s.progress.bytes (outcome_in (length run) s m) m.bytes no_bytes) (untouched queries s.progress.queries (outcome_in (length run) s m) m.queries no-queries)

  -- the marker bytes beside it
  pub marks-done : ((r : Rooms) → m.handed r ≡ byte_rooms r.commands r.bytes) → m.queries ≡ []
      → (run run' : List Record) (bytes bytes' : List ℕ) (a : Answer) (outcome : Outcome) (next : State) (at n : ℕ) (f : ℕ → Command)
      → Answered s (outcome_of (byte_rooms (length run) (length bytes)) s m) (state_in m) outcome next
      → Laid (length run) s (outcome_of (byte_rooms (length run) (length bytes)) s m) m.commands at n f
      → a ≡ record { outcome = outcome; state = next } → run' ≡ filled (λ i. record_of (f i)) run at n
      → bytes' ≡ written bytes s.progress.bytes (taken (outcome_of (byte_rooms (length run) (length bytes)) s m) m.bytes []) → Marks caps s c run bytes a run' bytes'
  marks-done handed no-queries run run' bytes bytes' a outcome next at n f ans laid e z w queries =
      did (record { commands = run; bytes = bytes; queries = queries }) (record { commands = run'; bytes = bytes'; queries = queries }) a (byte_rooms (length run) (length bytes)) outcome next
      (handed (byte_rooms (length run) (length bytes)) ∙ sym (handed _)) ans e (z ∙ commands-put run s (outcome_of (byte_rooms (length run) (length bytes)) s m) m.commands at n f laid) w
      (untouched queries s.progress.queries (outcome_of (byte_rooms (length run) (length bytes)) s m) m.queries no-queries)

  -- the query list beside it
  pub resolves-done : ((r : Rooms) → m.handed r ≡ query_rooms r.commands r.queries) → m.bytes ≡ []
      → (run run' : List Record) (queries queries' : List ℕ) (a : Answer) (outcome : Outcome) (next : State) (at n : ℕ) (f : ℕ → Command)
      → Answered s (outcome_of (query_rooms (length run) (length queries)) s m) (state_in m) outcome next
      → Laid (length run) s (outcome_of (query_rooms (length run) (length queries)) s m) m.commands at n f
      → a ≡ record { outcome = outcome; state = next } → run' ≡ filled (λ i. record_of (f i)) run at n
      → queries' ≡ written queries s.progress.queries (taken (outcome_of (query_rooms (length run) (length queries)) s m) m.queries []) → Resolves caps s c run queries a run' queries'
  resolves-done handed no_bytes run run' queries queries' a outcome next at n f ans laid e z w bytes =
      did (record { commands = run; bytes = bytes; queries = queries }) (record { commands = run'; bytes = bytes; queries = queries' }) a (query_rooms (length run) (length queries)) outcome next
      (handed (query_rooms (length run) (length queries)) ∙ sym (handed _)) ans e (z ∙ commands-put run s (outcome_of (query_rooms (length run) (length queries)) s m) m.commands at n f laid)
      (untouched bytes s.progress.bytes (outcome_of (query_rooms (length run) (length queries)) s m) m.bytes no_bytes) w

  -- no run, and nothing is appended
  pub keeps-done : ((r : Rooms) → m.handed r ≡ no_rooms) → m.commands ≡ [] → m.bytes ≡ [] → m.queries ≡ []
      → (a : Answer) → a.outcome ≡ outcome_of no_rooms s m → a.state ≡ taken (outcome_of no_rooms s m) (state_in m) s → Keeps caps s c a
  keeps-done alone no-commands no_bytes no-queries a o st runs =
      did runs runs a no_rooms a.outcome a.state (alone no_rooms ∙ sym (alone _)) (o, st) refl
      (rw (no-commands, cond-none {X = Command} (accepted (outcome_of no_rooms s m))) (sym (none_written runs.commands s.progress.commands)))
      (untouched runs.bytes s.progress.bytes (outcome_of no_rooms s m) m.bytes no_bytes) (untouched runs.queries s.progress.queries (outcome_of no_rooms s m) m.queries no-queries)
