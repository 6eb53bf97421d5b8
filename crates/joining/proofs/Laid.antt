-- A list that is written into runs: what they hold then, how long they are, and another list over it. Assumes nothing.
use Prim.Native.Nat.{ℕ, ◌+◌, ◌-◌, ◌≤◌}
use mathlib.Core.Path.{◌≡◌, sym, ap, ap₂, ◌∙◌}
use mathlib.Core.List.{List, ◌++◌, map}
use native.Mathlib.Omega.{arith}
use lib.ListN.{length, take, drop, length-append, length-map}
use lib.Seq.{length-take-le, length_front, take_at, drop_at, drop-append_seam, take-append_seam, drop-drop, drop-append-add}
use Rattle.list_walks.specs.Sift.{over}
use Rattle.records.specs.declared.command.Command.{Command}
use Rattle.records.specs.declared.command.Record.{Record}
use Rattle.lists.specs.declared.limits.Used.{Used}
use Rattle.lists.specs.Class.{commands_of}
use Rattle.joining.specs.Joined.{Listed, moved, put_in, joined}
use Rattle.joining.specs.Joins.{Lent, list_of, record_of, size_of, laid, total_of}
use Rattle.joining.specs.Claim.{FitsIn}
use Rattle.joining.proofs.Written.{commands-of}

-- ---- the list is what is held
pub listed_back : (j : Listed) (a : Lent) → list_of (laid j a) ≡ j
listed_back j a =
    let ks = map record_of j.commands in
    let c = ap commands_of (take_at ks (drop (length ks) a.list) (length j.commands) (length-map j.commands record_of)) ∙ commands-of j.commands in
    let b = take-append_seam j.bytes (drop (length j.bytes) a.bytes) in
    let q = take-append_seam j.queries (drop (length j.queries) a.queries) in
    λ i. record { commands = c i; bytes = b i; queries = q i }

-- ---- what runs hold of their counts
pub record Own (a : Lent) : Type 0 where
  pub list : a.used.commands ≤ length a.list
  pub bytes : a.used.bytes ≤ length a.bytes
  pub queries : a.used.queries ≤ length a.queries

own-over : {X : Type 0} (ks l : List X) → length ks ≤ length (over ks l)
own-over ks l = omega (arith, length-append ks (drop (length ks) l))

pub own-laid : (j : Listed) (a : Lent) → Own (laid j a)
own-laid j a =
    record {
      list = (let h = own-over (map record_of j.commands) a.list in omega (arith, h, length-map j.commands record_of));
      bytes = own-over j.bytes a.bytes;
      queries = own-over j.queries a.queries;
    }

-- the runs are as long as they were
length_over : {X : Type 0} (ks l : List X) → length ks ≤ length l → length (over ks l) ≡ length l
length_over ks l h = length_front l ks (length ks) (sym (length-take-le (length ks) l h))

pub record SameRooms (a b : Lent) : Type 0 where
  pub list : length a.list ≡ length b.list
  pub bytes : length a.bytes ≡ length b.bytes
  pub queries : length a.queries ≡ length b.queries

pub same-rooms : (j : Listed) (a : Lent) → FitsIn j a → SameRooms (laid j a) a
same-rooms j a h =
    record {
      list = length_over (map record_of j.commands) a.list (omega (arith, h.0, length-map j.commands record_of));
      bytes = length_over j.bytes a.bytes h.1;
      queries = length_over j.queries a.queries h.2;
    }

-- ---- behind it the runs are as they were
pub rest-laid : (j : Listed) (a : Lent) → (drop (length j.commands) (laid j a).list ≡ drop (length j.commands) a.list)
    × (drop (length j.bytes) (laid j a).bytes ≡ drop (length j.bytes) a.bytes) × (drop (length j.queries) (laid j a).queries ≡ drop (length j.queries) a.queries)
rest-laid j a =
    let ks = map record_of j.commands in
    let n = length-map j.commands record_of in (
      drop_at ks (drop (length ks) a.list) (length j.commands) n ∙ ap (λ (k : ℕ). drop k a.list) n,
      drop-append_seam j.bytes (drop (length j.bytes) a.bytes),
      drop-append_seam j.queries (drop (length j.queries) a.queries),
    )

-- ---- a list over another that is no longer
over-over : {X : Type 0} (ks js l : List X) → length js ≤ length ks → over ks (over js l) ≡ over ks l
over-over {X} ks js l h = ap (λ (z : List X). ks ++ z) (past (length ks) js l h)
  where
    past : (n : ℕ) (js l : List X) → length js ≤ n → drop n (js ++ drop (length js) l) ≡ drop n l
    past n js l h =
        let split : length js + (n - length js) ≡ n = omega (arith, h) in
        ap (λ (k : ℕ). drop k (js ++ drop (length js) l)) (sym split) ∙ drop-append-add js (drop (length js) l) (n - length js) ∙ drop-drop (n - length js) (length js) l ∙ ap (λ (k : ℕ). drop k l) split

pub laid-laid : (j k : Listed) (a : Lent) → length j.commands ≤ length k.commands → length j.bytes ≤ length k.bytes → length j.queries ≤ length k.queries → laid k (laid j a) ≡ laid k a
laid-laid j k a hc hb hq =
    let c = over-over (map record_of k.commands) (map record_of j.commands) a.list (omega (arith, hc, length-map j.commands record_of, length-map k.commands record_of)) in
    let b = over-over k.bytes j.bytes a.bytes hb in
    let q = over-over k.queries j.queries a.queries hq in
    λ i. record { list = c i; bytes = b i; queries = q i; used = size_of k }

-- ---- how long the joined list is, where the runs hold their counts
pub own-size : (a : Lent) → Own a → size_of (list_of a) ≡ a.used
own-size a o =
    let c = length-map (take a.used.commands a.list) (λ (x : Record). x.command) ∙ length-take-le a.used.commands a.list o.list in
    let b = length-take-le a.used.bytes a.bytes o.bytes in
    let q = length-take-le a.used.queries a.queries o.queries in
    λ i. record { commands = c i; bytes = b i; queries = q i }

pub size-joined : (a b : Lent) → Own a → Own b → size_of (joined (list_of a) (list_of b)) ≡ total_of a b
size-joined a b o p =
    let c =
    length-append (list_of a).commands (put_in (list_of a).commands ++ map move (list_of b).commands)
    ∙ ap₂ (λ (i j : ℕ). i + j) (ap (λ (w : Used). w.commands) (own-size a o)) (length-append (put_in (list_of a).commands) (map move (list_of b).commands)
    ∙ ap (λ (i : ℕ). length (put_in (list_of a).commands) + i) (length-map (list_of b).commands move ∙ ap (λ (w : Used). w.commands) (own-size b p))) in
    let s = length-append (list_of a).bytes (list_of b).bytes ∙ ap₂ (λ (i j : ℕ). i + j) (ap (λ (w : Used). w.bytes) (own-size a o)) (ap (λ (w : Used). w.bytes) (own-size b p)) in
    let q = length-append (list_of a).queries (list_of b).queries ∙ ap₂ (λ (i j : ℕ). i + j) (ap (λ (w : Used). w.queries) (own-size a o)) (ap (λ (w : Used). w.queries) (own-size b p)) in
    λ i. record { commands = c i; bytes = s i; queries = q i }
  where
    move : Command → Command
    move = moved (length (list_of a).bytes) (length (list_of a).queries)
