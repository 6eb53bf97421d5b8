-- What `take_out_superseded` hands back keeps the request's sentences. Assumes nothing.
use Prim.Native.Nat.{ℕ, zero, suc, ◌≤◌}
use native.Mathlib.Nat.{not-suc-le-zero, le_of_suc-le-suc}
use native.Mathlib.Omega.{arith}
use mathlib.Core.Path.{◌≡◌, refl, sym, ◌∙◌, ap, ap₂, subst, fun_ext}
use mathlib.Core.Bool.{Bool, true, false, cond, ◌||◌}
use mathlib.Core.List.{List, [], ◌∷◌, ◌++◌, map}
use lib.Dec.{ltb}
use lib.ListN.{length, take, drop, length-map, length-append, length-drop}
use lib.Seq.{take-append_seam, drop-append_seam, drop-nil, length-take-le}
use borrow.Author.Tests.{ltb-false, le-ltb}
use Rattle.records.specs.Check.{some?}
use Rattle.records.specs.Least.{smallest-is}
use Rattle.records.specs.Outcome.{smallest}
use Rattle.records.specs.declared.outcome.Outcome.TheVariants.{TooMany, OutOfRange, NoRoom, Done}
use Rattle.records.specs.declared.command.Command.{Command}
use Rattle.records.specs.declared.command.Record.{Record}
use Rattle.machine.proofs.Lists.{true-false, or_left, or_right}
use Rattle.lists.specs.declared.limits.Breaks.{Breaks}
use Rattle.lists.specs.declared.limits.Used.{Used}
use Rattle.lists.specs.Class.{class_of, commands_of}
use Rattle.lists.specs.Limits.{breaks, over_counts, handed, broken_by, broken, conditions_of, refusal_of}
use Rattle.lists.specs.Shots.{settings, shots_from}
use Rattle.list_walks.specs.Sift.{over}
use Rattle.superseding.specs.declared.treat.Treated.{Treated}
use Rattle.superseding.specs.Superseded.{setting_of, superseded, trimmed}
use Rattle.superseding.specs.Treated.{record_of, blank_command, blanked_list, answer_by, left_run, Treats}
use Rattle.superseding.specs.Claim.{sights, others, Left, commands, Promised}
use Rattle.superseding.proofs.Sights.{same-sights}
use Rattle.superseding.proofs.Once.{superseded-still, once, same-others, shorter, none_more}
use Rattle.superseding.proofs.Exact.{left as left-exactly}
use Rattle.superseding.proofs.Ranges.{by-use}
use Rattle.superseding.proofs.Treating.{fits, long}

both : {a b : Bool} → a ≡ false → b ≡ false → a || b ≡ false
both {a} {b} p q = ap (λ (t : Bool). t || b) p ∙ q

-- a list that breaks nothing is treated
done : (b : Breaks) → broken b ≡ false → refusal_of b ≡ Done
unfolding smallest
done b e =
    let m = or_left b.many (b.range || b.room) e in
    let r = or_right b.many (b.range || b.room) e in
    let p = or_left b.range b.room r in
    let q = or_right b.range b.room r in
    λ i. cond (m i) TooMany (cond (p i) OutOfRange (cond (q i) NoRoom Done))

-- a trimmed list has no blanks
unblanked : (l : List Command) → blanked_list (trimmed l) ≡ trimmed l
unfolding blanked_list trimmed
unblanked [] = refl
unblanked (c ∷ cs) = go (superseded c cs) refl (unblanked cs)
  where
    go : (t : Bool) → superseded c cs ≡ t → blanked_list (trimmed cs) ≡ trimmed cs → blanked_list (cond t (trimmed cs) (c ∷ trimmed cs)) ≡ cond t (trimmed cs) (c ∷ trimmed cs)
    go true e i = i
    go false e i = ap₂ (λ (t : Bool) (l : List Command). cond t blank_command c ∷ l) (superseded-still (setting_of (class_of c)) cs ∙ e) i

-- the commands of records that were made of commands
back : (cs : List Command) → commands_of (map record_of cs) ≡ cs
back [] = refl
back (c ∷ cs) = ap (λ (l : List Command). c ∷ l) (back cs)

-- past the elements that are put in front, the list is as it was
drop-over : {X : Type 0} (ks l : List X) (n : ℕ) → length ks ≤ n → drop n (over ks l) ≡ drop n l
drop-over [] l n h = refl
drop-over (k ∷ ks) l zero h = absurd (not-suc-le-zero h)
drop-over (k ∷ ks) [] (suc n) h = ap (λ z. drop n (ks ++ z)) (sym (drop-nil (length ks))) ∙ drop-over ks [] n (le_of_suc-le-suc h) ∙ drop-nil n
drop-over (k ∷ ks) (x ∷ l) (suc n) h = drop-over ks l n (le_of_suc-le-suc h)

module _ (run : List Record) (u : Used) where
  abbrev b : Breaks
  b = broken_by (handed run u)

  abbrev cs : List Command
  cs = commands run u

  abbrev n : ℕ
  n = u.commands

  abbrev m : ℕ
  m = length (trimmed cs)

  abbrev ks : List Record
  ks = map record_of (trimmed cs)

  ks-long : length ks ≡ m
  ks-long = length-map (trimmed cs) record_of

  -- ---- of a list that was treated: the run, and what is used of it
  module _ (fine : broken b ≡ false) where
    abbrev behind : List Record
    behind = map record_of (blanked_list cs) ++ drop n run

    abbrev left : List Record
    left = left_run run n cs

    abbrev now : Used
    now = record { commands = m; bytes = u.bytes; queries = u.queries }

    m-fits : m ≤ n
    m-fits = omega (arith, shorter cs, length-map (take n run) (λ (x : Record). x.command), length-take-le n run (fits run u fine))

    behind-long : length behind ≡ length run
    behind-long = length-append (map record_of (blanked_list cs)) (drop n run) ∙ omega (arith, long run u fine, length-drop n run, fits run u fine)

    left-long : length left ≡ length run
    left-long = length-append ks (drop (length ks) behind) ∙ omega (arith, ks-long, length-drop (length ks) behind, behind-long, m-fits, fits run u fine)

    in-front : take m left ≡ ks
    in-front = ap (λ (k : ℕ). take k left) (sym ks-long) ∙ take-append_seam ks (drop (length ks) behind)

    now-are : commands left now ≡ trimmed cs
    now-are = ap commands_of in-front ∙ back (trimmed cs)

    -- it breaks no limit
    same-breaks : (c : Command) → breaks now c ≡ breaks u c
    same-breaks c = let w = by-use now u c in λ i. record { many = w.0 i; range = w.1 i; room = w.2 refl refl i }

    none_of : (p : Breaks → Bool) → some? (λ c. p (breaks u c)) cs ≡ false → some? (λ c. p (breaks now c)) (commands left now) ≡ false
    none_of p e =
        ap (λ (f : Command → Bool). some? f (commands left now)) (fun_ext (λ (c : Command). ap p (same-breaks c)))
        ∙ ap (some? (λ c. p (breaks u c))) now-are ∙ none_more (λ c. p (breaks u c)) cs e

    many-not : b.many ≡ false
    many-not = or_left b.many (b.range || b.room) fine

    rest-not : b.range || b.room ≡ false
    rest-not = or_right b.many (b.range || b.room) fine

    room-not : b.room ≡ false
    room-not = or_right b.range b.room rest-not

    counts : over_counts (length run) u ≡ false
    counts = or_left (over_counts (length run) u) (some? (λ c. (breaks u c).room) cs) room-not

    abbrev few : Bool
    few = ltb 1024 u.queries || ltb (length run) n

    counts-now : over_counts (length left) now ≡ false
    counts-now =
        let many : n ≤ 4096 = ltb-false 4096 n (or_left (ltb 4096 n) (ltb 65536 u.bytes || few) counts) in
        let bytes = or_right (ltb 4096 n) (ltb 65536 u.bytes || few) counts in
        let queries = or_right (ltb 65536 u.bytes) few bytes in
        both (le-ltb 4096 m (omega (arith, many, m-fits)))
        (both (or_left (ltb 65536 u.bytes) few bytes) (both (or_left (ltb 1024 u.queries) (ltb (length run) n) queries)
        (le-ltb (length left) m (omega (arith, left-long, m-fits, fits run u fine)))))

    abbrev b' : Breaks
    b' = broken_by (handed left now)

    fine-now : broken b' ≡ false
    fine-now =
        both (none_of (λ x. x.many) many-not) (both (none_of (λ x. x.range) (or_left b.range b.room rest-not))
        (both counts-now (none_of (λ x. x.room) (or_right (over_counts (length run) u) (some? (λ c. (breaks u c).room) cs) room-not))))

    -- a second treatment
    same_answer : answer_by b' m (length (trimmed (commands left now))) ≡ answer_by b n m
    same_answer =
        let o : refusal_of b' ≡ refusal_of b = done b' fine-now ∙ sym (done b fine) in
        let k : cond (broken b') m (length (trimmed (commands left now))) ≡ cond (broken b) n m =
        ap (λ (t : Bool). cond t m (length (trimmed (commands left now)))) fine-now ∙ ap (λ (l : List Command). length (trimmed l)) now-are
        ∙ ap length (once cs) ∙ sym (ap (λ (t : Bool). cond t n m) fine) in
        λ i. record { outcome = o i; commands = k i }

    same-run : left_run left m (commands left now) ≡ left
    same-run =
        ap (left_run left m) now-are
        ∙ ap₂ (λ (xs ys : List Command). over (map record_of xs) (map record_of ys ++ drop m left)) (once cs) (unblanked cs)
        ∙ ap (λ (k : List Record). ks ++ k) (drop-append_seam ks (drop m left) ∙ ap (λ (k : ℕ). drop k left) (sym ks-long) ∙ drop-append_seam ks (drop (length ks) behind))

    -- past the list
    past : drop n left ≡ drop n run
    past =
        drop-over ks behind n (omega (arith, ks-long, m-fits))
        ∙ ap (λ (k : ℕ). drop k behind) (sym (long run u fine)) ∙ drop-append_seam (map record_of (blanked_list cs)) (drop n run)

    treated : Promised run u left (answer_by b n m)
    treated = subst (λ (k : ℕ). Promised run u left (record { outcome = refusal_of b; commands = k })) (sym (ap (λ (t : Bool). cond t n m) fine)) (record {
      answered = smallest-is (conditions_of b);
      away = λ e. true-false (sym e ∙ fine);
      within = λ _. fine-now;
      left = λ _. subst (Left cs) (sym now-are) (left-exactly cs);
      kept = ap others now-are ∙ same-others cs;
      draws = λ g. ap (shots_from g) now-are ∙ (same-sights cs g).1;
      found = λ g. ap (sights g) now-are ∙ (same-sights cs g).0;
      ended = λ g. ap (settings g) now-are ∙ (same-sights cs g).2;
      once = λ run'' r' t. (
        t.0 ∙ same_answer ∙ ap (λ (k : ℕ). record { outcome = refusal_of b; commands = k }) (ap (λ (t : Bool). cond t n m) fine),
        t.1 ∙ ap (λ (t : Bool). cond t left (left_run left m (commands left now))) fine-now ∙ same-run,
      );
      rest = past;
    })

  -- ---- of a list that was turned away
  refused : broken b ≡ true → Promised run u run (answer_by b n m)
  refused e = subst (λ (k : ℕ). Promised run u run (record { outcome = refusal_of b; commands = k })) (sym (ap (λ (t : Bool). cond t n m) e)) (record {
    answered = smallest-is (conditions_of b);
    away = λ _. (refl, refl);
    within = λ f. f;
    left = λ f. true-false (sym e ∙ f);
    kept = refl;
    draws = λ g. refl;
    found = λ g. refl;
    ended = λ g. refl;
    once = λ run'' r' t. (t.0 ∙ ap (λ (k : ℕ). record { outcome = refusal_of b; commands = k }) (ap (λ (t : Bool). cond t n m) e), t.1 ∙ ap (λ (t : Bool). cond t run (left_run run n cs)) e);
    rest = refl;
  })

  pub promised : (run' : List Record) (r : Treated) → Treats run u run' r → Promised run u run' r
  promised run' r t = go (broken b) refl t.1
    where
      go : (x : Bool) → broken b ≡ x → run' ≡ cond x run (left_run run n cs) → Promised run u run' r
      go true e f = subst (Promised run u run') (sym t.0) (subst (λ (z : List Record). Promised run u z (answer_by b n m)) (sym f) (refused e))
      go false e f = subst (Promised run u run') (sym t.0) (subst (λ (z : List Record). Promised run u z (answer_by b n m)) (sym f) (treated e))
