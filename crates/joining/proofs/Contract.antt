-- What the two halves of `join` do, the list and the runs of numbers, is what its contract says (specs/Joins.antt). Assumes nothing.
use Prim.Native.Nat.{ℕ, suc, ◌+◌, ◌≤◌}
use mathlib.Core.Path.{◌≡◌, refl, sym, ap, ap₂, ◌∙◌, subst}
use mathlib.Core.Bool.{Bool, true, false, cond, ◌||◌}
use mathlib.Core.List.{List, [], ◌∷◌, ◌++◌, map}
use native.Mathlib.Omega.{arith}
use lib.Dec.{ltb}
use lib.ListN.{length, get_or, take, drop, length-map, take-append-drop}
use lib.Seq.{length-take-le, paste-zero}
use Rattle.machine.proofs.Lists.{or_left, or_right, false-true}
use Rattle.machine.specs.Machine.{fresh_gl}
use Rattle.records.specs.Check.{some?}
use Rattle.records.specs.declared.command.Command.{Command}
use Rattle.records.specs.declared.command.Record.{Record}
use Rattle.walks.proofs.Filled.{filled_none, filled-rest}
use Rattle.list_walks.specs.Fold.{fold_at}
use Rattle.list_walks.specs.Map.{map_at}
use Rattle.list_walks.specs.Sift.{over}
use Rattle.lists.specs.declared.limits.Breaks.{Breaks}
use Rattle.lists.specs.declared.limits.Surveyed.{Surveyed}
use Rattle.lists.specs.declared.limits.Used.{Used}
use Rattle.lists.specs.Class.{commands_of}
use Rattle.lists.specs.Limits.{breaks, over_counts}
use Rattle.lists.specs.Shots.{settings}
use Rattle.lists.specs.Survey.{survey_record, survey_of}
use Rattle.lists.proofs.Surveying.{from_start}
use Rattle.joining.specs.declared.plan.Asked.{Asked}
use Rattle.joining.specs.declared.plan.Looked.{Looked}
use Rattle.joining.specs.declared.plan.Joining.{Joining}
use Rattle.joining.specs.declared.plan.Joining.TheVariants.{Done, TooMany, OutOfRange, TooLong, NoRoom}
use Rattle.joining.specs.declared.plan.Joined as out
use Rattle.joining.specs.declared.plan.JoinPlan.{JoinPlan}
use Rattle.joining.specs.Joined.{Listed, moved, put_in, joined, bound_from}
use Rattle.joining.specs.Joins.{Lent, lent, list_of, record_of, size_of, laid, is_done, broken_in, total_by, too_long, short_of, verdict, answer_of, Joins}
use Rattle.joining.specs.Ending.{resets_by}
use Rattle.joining.specs.Plan.{look_record, first_look, to_first, looked_of, asked_of, total, small_by, judged_by, refused_plan, done_plan, plan_by}
use Rattle.joining.specs.Plan.{moved_record, list_by, numbers_by, ListJoined, RunsJoined}
use Rattle.joining.proofs.Judging.{all-false}
use Rattle.joining.proofs.Lent.{taken}
use Rattle.joining.proofs.Sums.{short-bytes, short-queries}
use Rattle.joining.proofs.Planning.{in-other, in-room, in_bytes, in_queries, in-other-bytes, in-other-queries, room-is, counts-in}
use Rattle.joining.proofs.Laid.{size-joined}
use Rattle.joining.proofs.Written.{written, rest-written, numbers-behind}
use Rattle.joining.proofs.Reading.{read-list, resets-read, all_moved}

-- ---- the look at the first list
surveyed-fold : (i : ℕ) (l : Looked) (xs : List Record) → (fold_at look_record l i xs).surveyed ≡ fold_at survey_record l.surveyed i xs
unfolding fold_at
surveyed-fold i l [] = refl
surveyed-fold i l (x ∷ xs) = surveyed-fold (suc i) (look_record l i x) xs

surveyed-is : (l : List Record) (x : Asked) → (looked_of l x).surveyed ≡ survey_of l x.used
surveyed-is l x = surveyed-fold 0 (first_look x (length l)) (take (to_first x (length l)) l) ∙ from_start l x.used

puts-in : (l : List Record) (x : Asked) → (survey_of l x.used).breaks.range ≡ false → resets_by (looked_of l x).ending ≡ put_in (commands_of (take x.used.commands l))
puts-in l x e =
    resets-read (looked_of l x).ending (settings fresh_gl (commands_of xs)) (bound_from 0 (commands_of xs)) (read-list x.used xs (first_look x (length l)) refl
    (ap (λ (k : List Record). some? (λ c. (breaks x.used c).range) (commands_of k)) (taken x.used.commands l) ∙ e))
    ∙ ap (λ (k : List Record). put_in (commands_of k)) (taken x.used.commands l)
  where
    xs : List Record
    xs = take (to_first x (length l)) l

-- ---- the answer
outcome-is : (o : Joining) (x : Asked) (a : Looked) (n : ℕ) → (plan_by o x a n).outcome ≡ o
outcome-is Done x a n = refl
outcome-is TooMany x a n = refl
outcome-is OutOfRange x a n = refl
outcome-is TooLong x a n = refl
outcome-is NoRoom x a n = refl

-- where a range is broken, the rest does not matter
same-range : (m r l s l' s' : Bool) → r ≡ true → verdict m r l s ≡ verdict m r l' s'
same-range true r l s l' s' e = refl
same-range false true l s l' s' e = refl
same-range false false l s l' s' e = false-true e

-- a run that begins with ks, and is behind them as it was
laid-over : {X : Type 0} (l l' ks : List X) (k : ℕ) → take k l' ≡ ks → length ks ≡ k → drop k l' ≡ drop k l → l' ≡ over ks l
laid-over {X} l l' ks k t n d = sym (take-append-drop k l') ∙ ap₂ (λ (x y : List X). x ++ y) t (d ∙ ap (λ (i : ℕ). drop i l) (sym n))

records-of : (xs : List Record) → map record_of (commands_of xs) ≡ xs
records-of [] = refl
records-of (x ∷ xs) = ap (λ (l : List Record). x ∷ l) (records-of xs)

module _ (l : List Record) (bs qs : List ℕ) (m : List Record) (cs rs : List ℕ) (u v : Used) where
  abbrev A : Lent
  A = lent l bs qs u

  abbrev B : Lent
  B = lent m cs rs v

  -- the joined list
  abbrev J : Listed
  J = joined (list_of A) (list_of B)

  abbrev x : Asked
  x = asked_of (length bs) (length qs) (length cs) (length rs) u v

  abbrev a : Looked
  a = looked_of l x

  abbrev s : Surveyed
  s = survey_of m v

  abbrev n : ℕ
  n = length (resets_by a.ending)

  abbrev q : JoinPlan
  q = done_plan x a n

  -- the runs after a plan
  abbrev ran_by : JoinPlan → Lent
  ran_by t = record { list = list_by t l m; bytes = numbers_by bs t.from.bytes cs t.copied.bytes; queries = numbers_by qs t.from.queries rs t.copied.queries; used = t.used }

  -- nothing is written
  unwritten : (o : Joining) → ran_by (refused_plan o x a) ≡ A
  unwritten o =
      let c = sym (paste-zero _ 0 (map_at (moved_record (refused_plan o x a)) 0 m)) ∙ filled_none _ l 0 in
      let b = filled_none (λ i. get_or cs i 0) bs 0 in
      let k = filled_none (λ i. get_or rs i 0) qs 0 in
      λ j. record { list = c j; bytes = b j; queries = k j; used = u }

  module _ (judged : judged_by x a s (total x n) ≡ Done) where
    clean : (a.surveyed.breaks.many || s.breaks.many ≡ false) × (a.surveyed.breaks.range || s.breaks.range ≡ false) × (too_long (total x n) ≡ false) × (small_by x a s (total x n) ≡ false)
    clean = all-false (a.surveyed.breaks.many || s.breaks.many) (a.surveyed.breaks.range || s.breaks.range) (too_long (total x n)) (small_by x a s (total x n)) judged

    first_range : (survey_of l u).breaks.range ≡ false
    first_range = ap (λ (z : Surveyed). z.breaks.range) (sym (surveyed-is l x)) ∙ or_left a.surveyed.breaks.range s.breaks.range clean.1

    second_range : s.breaks.range ≡ false
    second_range = or_right a.surveyed.breaks.range s.breaks.range clean.1

    second-room : some? (λ c. (breaks v c).room) (commands_of (take v.commands m)) ≡ false
    second-room = or_right (over_counts (length m) v) (some? (λ c. (breaks v c).room) (commands_of (take v.commands m))) (in-other x a s (total x n) clean.3)

    long-bytes : u.bytes + v.bytes ≤ 65536
    long-bytes = short-bytes x n clean.2

    long-queries : u.queries + v.queries ≤ 1024
    long-queries = short-queries x n clean.2

    room-bytes : u.bytes + v.bytes ≤ length bs
    room-bytes = in_bytes x a s (total x n) clean.3

    room-queries : u.queries + v.queries ≤ length qs
    room-queries = in_queries x a s (total x n) clean.3

    room-commands : u.commands + (n + v.commands) ≤ length l
    room-commands = let r = in-room x a s (total x n) clean.3 in subst (λ (k : ℕ). u.commands + (n + v.commands) ≤ k) (room-is l x a refl) r

    other-commands : v.commands ≤ length m
    other-commands = counts-in m v (in-other x a s (total x n) clean.3)

    commands : commands_of (take q.used.commands (list_by q l m)) ≡ (joined (list_of A) (list_of B)).commands
    commands =
        written x a l m room-commands other-commands
        ∙ ap₂ (λ (i j : List Command). commands_of (take u.commands l) ++ (i ++ j)) (puts-in l x first_range)
        (all_moved v u.bytes u.queries (commands_of (take v.commands m)) (omega (arith, long-bytes), omega (arith, long-queries)) (omega (arith, long-bytes)) (omega (arith, long-queries)) second_range second-room
        ∙ ap₂ (λ (i j : ℕ). map (moved i j) (commands_of (take v.commands m))) (sym (length-take-le u.bytes bs (omega (arith, room-bytes)))) (sym (length-take-le u.queries qs (omega (arith, room-queries)))))

    -- as long as the counts say
    as_long : size_of J ≡ q.used
    as_long =
        size-joined A B (record { list = omega (arith, room-commands); bytes = omega (arith, room-bytes); queries = omega (arith, room-queries) })
        (record { list = other-commands; bytes = in-other-bytes x a s (total x n) clean.3; queries = in-other-queries x a s (total x n) clean.3 })
        ∙ ap (λ (w : List Command). total_by u (length w) v) (sym (puts-in l x first_range))

    -- the runs that a plan writes: what they hold is the joined list, and behind it they are as they were
    done-runs : ran_by q ≡ laid J A
    done-runs =
        let c = laid-over l (list_by q l m) (map record_of J.commands) q.used.commands (sym (records-of (take q.used.commands (list_by q l m))) ∙ ap (map record_of) commands)
        (length-map J.commands record_of ∙ ap (λ (w : Used). w.commands) as_long) (rest-written x a l m room-commands other-commands) in
        let b = laid-over bs (numbers_by bs u.bytes cs v.bytes) J.bytes (u.bytes + v.bytes) (numbers-behind bs cs u.bytes v.bytes room-bytes (in-other-bytes x a s (total x n) clean.3))
        (ap (λ (w : Used). w.bytes) as_long) (filled-rest (λ i. get_or cs i 0) bs u.bytes (u.bytes + v.bytes) v.bytes (omega arith)) in
        let k = laid-over qs (numbers_by qs u.queries rs v.queries) J.queries (u.queries + v.queries) (numbers-behind qs rs u.queries v.queries room-queries (in-other-queries x a s (total x n) clean.3))
        (ap (λ (w : Used). w.queries) as_long) (filled-rest (λ i. get_or rs i 0) qs u.queries (u.queries + v.queries) v.queries (omega arith)) in
        λ j. record { list = c j; bytes = b j; queries = k j; used = sym as_long j }

  -- nothing is written where the answer is another
  by_answer : (o : Joining) → judged_by x a s (total x n) ≡ o → ran_by (plan_by o x a n) ≡ cond (is_done o) (laid J A) A
  by_answer Done e = done-runs e
  by_answer TooMany e = unwritten TooMany
  by_answer OutOfRange e = unwritten OutOfRange
  by_answer TooLong e = unwritten TooLong
  by_answer NoRoom e = unwritten NoRoom

  -- the code's answer is the definition's: where a number of the first is out of range it is told without what is put in
  judged-is : judged_by x a s (total x n) ≡ answer_of A B
  judged-is =
      ap₂ (λ (z : Breaks) (k : ℕ). by_breaks z k (resets_by a.ending)) (ap (λ (z : Surveyed). z.breaks) (surveyed-is l x)) (room-is l x a refl) ∙ go (broken_in A).range refl
    where
      long : List Command → Bool
      long w = too_long (total_by u (length w) v)

      small : Breaks → ℕ → List Command → Bool
      small z k w = (z.room || (broken_in B).room) || ((ltb k (total_by u (length w) v).commands || short_of A (total_by u (length w) v)) || short_of B v)

      by_breaks : Breaks → ℕ → List Command → Joining
      by_breaks z k w = verdict (z.many || (broken_in B).many) (z.range || (broken_in B).range) (long w) (small z k w)

      go : (t : Bool) → (broken_in A).range ≡ t → by_breaks (broken_in A) (length l) (resets_by a.ending) ≡ by_breaks (broken_in A) (length l) (put_in (list_of A).commands)
      go true e =
          same-range ((broken_in A).many || (broken_in B).many) ((broken_in A).range || (broken_in B).range) (long (resets_by a.ending)) (small (broken_in A) (length l) (resets_by a.ending))
          (long (put_in (list_of A).commands)) (small (broken_in A) (length l) (put_in (list_of A).commands)) (ap (λ (t : Bool). t || (broken_in B).range) e)
      go false e = ap (by_breaks (broken_in A) (length l)) (puts-in l x e)

-- what the two halves of the code do is what the contract says
pub runs_done : (l : List Record) (bs qs : List ℕ) (m : List Record) (cs rs : List ℕ) (u v : Used) (l' : List Record) (p : JoinPlan) (bs' qs' : List ℕ) (r : out.Joined)
    → ListJoined l m (asked_of (length bs) (length qs) (length cs) (length rs) u v) l' p → RunsJoined bs qs cs rs p bs' qs' r
    → Joins (lent l bs qs u) (lent m cs rs v) (lent l' bs' qs' r.used) r.outcome
runs_done l bs qs m cs rs u v l' p bs' qs' r h k =
    let o = judged_by (x l bs qs m cs rs u v) (a l bs qs m cs rs u v) (s l bs qs m cs rs u v) (total (x l bs qs m cs rs u v) (n l bs qs m cs rs u v)) in
    let e : o ≡ answer_of (lent l bs qs u) (lent m cs rs v) = judged-is l bs qs m cs rs u v in
    let w : lent l' bs' qs' r.used ≡ ran_by l bs qs m cs rs u v p = λ j. record { list = h.1 j; bytes = k.0.0 j; queries = k.0.1 j; used = (k.1 j).used } in
    record {
      answer = ap (λ (z : out.Joined). z.outcome) k.1 ∙ ap (λ (z : JoinPlan). z.outcome) h.0 ∙ outcome-is o (x l bs qs m cs rs u v) (a l bs qs m cs rs u v) (n l bs qs m cs rs u v) ∙ e;
      after =
          w ∙ ap (ran_by l bs qs m cs rs u v) h.0 ∙ by_answer l bs qs m cs rs u v o refl
          ∙ ap (λ (z : Joining). cond (is_done z) (laid (joined (list_of (lent l bs qs u)) (list_of (lent m cs rs v))) (lent l bs qs u)) (lent l bs qs u)) e;
      floats = h.2;
    }
