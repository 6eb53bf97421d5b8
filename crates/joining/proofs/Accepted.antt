-- When two lists are joined: the conditions of `Done`, one by one; and the joined list breaks no limit. Assumes nothing.
use Prim.Native.Nat.{◌≤◌}
use mathlib.Core.Path.{◌≡◌, refl, sym, ap, ◌∙◌, subst}
use mathlib.Core.Bool.{Bool, false, ◌||◌}
use mathlib.Core.List.{List, [], ◌∷◌}
use native.Mathlib.Omega.{arith}
use lib.Dec.{ltb}
use lib.ListN.{length}
use borrow.Author.Tests.{ltb-false, le-ltb}
use Rattle.records.specs.Check.{some?}
use Rattle.records.specs.declared.command.Command.{Command}
use Rattle.machine.specs.Each.{Each}
use Rattle.machine.proofs.Lists.{or_left, or_right}
use Rattle.lists.specs.declared.limits.Breaks.{Breaks}
use Rattle.lists.specs.declared.limits.Used.{Used}
use Rattle.lists.specs.Limits.{breaks, broken, over_counts}
use Rattle.joining.specs.declared.plan.Joining.TheVariants.{Done}
use Rattle.joining.specs.Joined.{Listed, joined}
use Rattle.joining.specs.Joins.{Lent, list_of, size_of, laid, broken_in, total_of, too_long, short_of, too_small, verdict, answer_of}
use Rattle.joining.specs.Claim.{FitsIn}
use Rattle.joining.proofs.Fits.{Keeps, joined-fits}
use Rattle.joining.proofs.Judging.{all-false}
use Rattle.joining.proofs.Laid.{Own, listed_back, own-size, size-joined, same-rooms}
use Rattle.joining.proofs.Planning.{counts-in}

neither : {a b : Bool} → a ≡ false → b ≡ false → a || b ≡ false
neither p q = λ i. p i || q i

-- ---- the conditions
pub record Fine (a b : Lent) : Type 0 where
  -- neither list breaks a limit
  pub first : broken (broken_in a) ≡ false
  pub second : broken (broken_in b) ≡ false
  -- the joined list is within the limits of one list
  pub commands : (total_of a b).commands ≤ 4096
  pub bytes : (total_of a b).bytes ≤ 65536
  pub queries : (total_of a b).queries ≤ 1024
  -- and within the first's runs
  pub in_list : (total_of a b).commands ≤ length a.list
  pub in_bytes : (total_of a b).bytes ≤ length a.bytes
  pub in_queries : (total_of a b).queries ≤ length a.queries
  -- the second's runs hold what it uses
  pub other_bytes : b.used.bytes ≤ length b.bytes
  pub other_queries : b.used.queries ≤ length b.queries

module _ (a b : Lent) where
  abbrev t : Used
  t = total_of a b

  abbrev x : Breaks
  x = broken_in a

  abbrev y : Breaks
  y = broken_in b

  abbrev over_bytes : Bool
  over_bytes = ltb 65536 t.bytes || ltb 1024 t.queries

  abbrev short_first : Bool
  short_first = ltb (length a.list) t.commands || short_of a t

  abbrev short_second : Bool
  short_second = short_of b b.used

  pub accepted : answer_of a b ≡ Done → Fine a b
  accepted e =
      let f = all-false (x.many || y.many) (x.range || y.range) (too_long t) (too_small a b t) e in
      let long = or_right (ltb 4096 t.commands) over_bytes f.2 in
      let own = or_left (x.room || y.room) (short_first || short_second) f.3 in
      let short = or_right (x.room || y.room) (short_first || short_second) f.3 in
      let room = or_left short_first short_second short in
      let numbers = or_right (ltb (length a.list) t.commands) (short_of a t) room in
      let others = or_right short_first short_second short in
      record {
        first = neither (or_left x.many y.many f.0) (neither (or_left x.range y.range f.1) (or_left x.room y.room own));
        second = neither (or_right x.many y.many f.0) (neither (or_right x.range y.range f.1) (or_right x.room y.room own));
        commands = ltb-false 4096 t.commands (or_left (ltb 4096 t.commands) over_bytes f.2);
        bytes = ltb-false 65536 t.bytes (or_left (ltb 65536 t.bytes) (ltb 1024 t.queries) long);
        queries = ltb-false 1024 t.queries (or_right (ltb 65536 t.bytes) (ltb 1024 t.queries) long);
        in_list = ltb-false (length a.list) t.commands (or_left (ltb (length a.list) t.commands) (short_of a t) room);
        in_bytes = ltb-false (length a.bytes) t.bytes (or_left (ltb (length a.bytes) t.bytes) (ltb (length a.queries) t.queries) numbers);
        in_queries = ltb-false (length a.queries) t.queries (or_right (ltb (length a.bytes) t.bytes) (ltb (length a.queries) t.queries) numbers);
        other_bytes = ltb-false (length b.bytes) b.used.bytes (or_left (ltb (length b.bytes) b.used.bytes) (ltb (length b.queries) b.used.queries) others);
        other_queries = ltb-false (length b.queries) b.used.queries (or_right (ltb (length b.bytes) b.used.bytes) (ltb (length b.queries) b.used.queries) others);
      }

  pub accepts : Fine a b → answer_of a b ≡ Done
  accepts F =
      let r₁ = or_right x.many (x.range || x.room) F.first in
      let r₂ = or_right y.many (y.range || y.room) F.second in
      let m : x.many || y.many ≡ false = neither (or_left x.many (x.range || x.room) F.first) (or_left y.many (y.range || y.room) F.second) in
      let r : x.range || y.range ≡ false = neither (or_left x.range x.room r₁) (or_left y.range y.room r₂) in
      let l : too_long t ≡ false = neither (le-ltb 4096 t.commands F.commands) (neither (le-ltb 65536 t.bytes F.bytes) (le-ltb 1024 t.queries F.queries)) in
      let s : too_small a b t ≡ false =
      neither (neither (or_right x.range x.room r₁) (or_right y.range y.room r₂))
      (neither (neither (le-ltb (length a.list) t.commands F.in_list) (neither (le-ltb (length a.bytes) t.bytes F.in_bytes) (le-ltb (length a.queries) t.queries F.in_queries)))
      (neither (le-ltb (length b.bytes) b.used.bytes F.other_bytes) (le-ltb (length b.queries) b.used.queries F.other_queries))) in
      λ i. verdict (m i) (r i) (l i) (s i)

-- ---- the runs hold what they use
in-own : (a : Lent) → broken (broken_in a) ≡ false → a.used.commands ≤ length a.list
in-own a e = counts-in a.list a.used (or_right (broken_in a).range (broken_in a).room (or_right (broken_in a).many ((broken_in a).range || (broken_in a).room) e))

pub own_first : (a b : Lent) → Fine a b → Own a
own_first a b F = record { list = in-own a F.first; bytes = omega (arith, F.in_bytes); queries = omega (arith, F.in_queries) }

pub own-second : (a b : Lent) → Fine a b → Own b
own-second a b F = record { list = in-own b F.second; bytes = F.other_bytes; queries = F.other_queries }

pub fine-size : (a b : Lent) → Fine a b → size_of (joined (list_of a) (list_of b)) ≡ total_of a b
fine-size a b F = size-joined a b (own_first a b F) (own-second a b F)

pub fine-fits : (a b : Lent) → Fine a b → FitsIn (joined (list_of a) (list_of b)) a
fine-fits a b F =
    let s = fine-size a b F in
    (omega (arith, ap (λ (w : Used). w.commands) s, F.in_list), omega (arith, ap (λ (w : Used). w.bytes) s, F.in_bytes), omega (arith, ap (λ (w : Used). w.queries) s, F.in_queries))

-- ---- limits that no command breaks
keeps-each : (u : Used) (cs : List Command) → some? (λ c. (breaks u c).many) cs ≡ false → some? (λ c. (breaks u c).range) cs ≡ false → some? (λ c. (breaks u c).room) cs ≡ false → Each (Keeps u) cs
unfolding some?
keeps-each u [] m r o = tt
keeps-each u (c ∷ cs) m r o =
    let k = λ (p : Breaks → Bool). some? (λ z. p (breaks u z)) cs in (
      (or_left (breaks u c).many (k (λ z. z.many)) m, or_left (breaks u c).range (k (λ z. z.range)) r, or_left (breaks u c).room (k (λ z. z.room)) o),
      keeps-each u cs (or_right (breaks u c).many (k (λ z. z.many)) m) (or_right (breaks u c).range (k (λ z. z.range)) r) (or_right (breaks u c).room (k (λ z. z.room)) o),
    )

none-breaks : (u : Used) (cs : List Command) → Each (Keeps u) cs
    → (some? (λ c. (breaks u c).many) cs ≡ false) × (some? (λ c. (breaks u c).range) cs ≡ false) × (some? (λ c. (breaks u c).room) cs ≡ false)
unfolding some?
none-breaks u [] h = (refl, refl, refl)
none-breaks u (c ∷ cs) h = let r = none-breaks u cs h.1 in (neither h.0.0 r.0, neither h.0.1 r.1, neither h.0.2 r.2)

-- of a list that breaks none
pub keeps-list : (a : Lent) → Own a → broken (broken_in a) ≡ false → Each (Keeps (size_of (list_of a))) (list_of a).commands
keeps-list a o e =
    let x = broken_in a in
    let r = or_right x.many (x.range || x.room) e in
    let cs = (list_of a).commands in
    subst (λ (u : Used). Each (Keeps u) cs) (sym (own-size a o))
    (keeps-each a.used cs (or_left x.many (x.range || x.room) e) (or_left x.range x.room r)
    (or_right (over_counts (length a.list) a.used) (some? (λ c. (breaks a.used c).room) cs) (or_right x.range x.room r)))

-- ---- the joined list may be handed in again
pub fine-within : (a b : Lent) → Fine a b → broken (broken_in (laid (joined (list_of a) (list_of b)) a)) ≡ false
fine-within a b F =
    let j = joined (list_of a) (list_of b) in
    let cs = (list_of (laid j a)).commands in
    let s = fine-size a b F in
    let h = fine-fits a b F in
    let back : cs ≡ j.commands = ap (λ (z : Listed). z.commands) (listed_back j a) in
    let n = none-breaks (size_of j) j.commands (joined-fits (list_of a) (list_of b) (keeps-list a (own_first a b F) F.first) (keeps-list b (own-second a b F) F.second)) in
    let room : over_counts (length (laid j a).list) (size_of j) ≡ false =
    neither (le-ltb 4096 (size_of j).commands (omega (arith, ap (λ (w : Used). w.commands) s, F.commands)))
    (neither (le-ltb 65536 (size_of j).bytes (omega (arith, ap (λ (w : Used). w.bytes) s, F.bytes)))
    (neither (le-ltb 1024 (size_of j).queries (omega (arith, ap (λ (w : Used). w.queries) s, F.queries)))
    (le-ltb (length (laid j a).list) (size_of j).commands (omega (arith, h.0, (same-rooms j a h).list))))) in
    neither (ap (some? (λ c. (breaks (size_of j) c).many)) back ∙ n.0)
    (neither (ap (some? (λ c. (breaks (size_of j) c).range)) back ∙ n.1) (neither room (ap (some? (λ c. (breaks (size_of j) c).room)) back ∙ n.2)))
