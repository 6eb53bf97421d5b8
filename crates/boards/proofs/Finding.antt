-- Two lists played side by side give the answer, whatever the comparison of floats. Assumes nothing.
use Prim.Native.Nat.{ℕ, zero, suc, ◌+◌, ◌-◌, ◌≤◌, ◌<◌}
use mathlib.Core.Path.{◌≡◌, refl, sym, ap, ap₂, ◌∙◌, subst}
use mathlib.Core.Bool.{Bool, true, false, cond, not, ◌&&◌}
use mathlib.Core.List.{List, [], ◌∷◌}
use Rattle.std.specs.Prelude.{Option, None, Some, is_some}
use native.Mathlib.Nat.{not-suc-le-zero, le_of_suc-le-suc, min-eq_left}
use native.Mathlib.Omega.{arith}
use lib.Dec.{eqb, ltb}
use lib.Ieee.{Float}
use lib.ListN.{length, get_or, take, drop, drop_of_length-le}
use lib.Seq.{drop-cons, get_or-take, length-take-le}
use borrow.Author.Tests.{ltb-true, ltb-false, lt-ltb}
use Rattle.records.specs.declared.command.Command.{Command}
use Rattle.records.specs.declared.command.Record.{Record}
use Rattle.list_walks.specs.Turns.{turns, reading}
use Rattle.machine.specs.Each.{Each}
use Rattle.machine.specs.Machine.{Gl, Shot, fresh_gl}
use Rattle.machine.proofs.Lists.{or_left, or_right, each-not}
use Rattle.lists.specs.declared.limits.Breaks.{Breaks}
use Rattle.lists.specs.declared.limits.Used.{Used}
use Rattle.lists.specs.Class.{commands_of, draw_count}
use Rattle.lists.specs.Limits.{breaks, over_counts, either_breaks, handed, broken_by}
use Rattle.lists.specs.Shots.{settings_after, shots_from}
use Rattle.lists.specs.Survey.{survey_of}
use Rattle.boards.specs.declared.compare.Both.{Both}
use Rattle.boards.specs.declared.compare.Compared.{Compared}
use Rattle.boards.specs.declared.compare.Compared.TheVariants.{Equal, Differs, TooMany, OutOfRange, NoRoom, DrawCounts}
use Rattle.boards.specs.declared.compare.Side.{Side}
use Rattle.boards.specs.declared.settings.Settings.{Settings}
use Rattle.boards.specs.Alike.{alike}
use Rattle.boards.specs.Compared.{first_off, refused_or, draws_of, compared}
use Rattle.boards.specs.Settings.{placed, gl_of}
use Rattle.boards.specs.Side.{no_record, turns_of, first_side, start_of, is_draw, has_more, one_more, with_a, with_b, told, moved, turn_of}
use Rattle.boards.proofs.Sees.{Sees, fresh-sees, placed-sees, sees-alike}
use Rattle.boards.proofs.Drawn.{at-draw, at_other, counts}

-- ---- turns
turns-first : {A : Type 0} (f : A → A) (n : ℕ) (a : A) → turns f (suc n) a ≡ turns f n (f a)
unfolding turns
turns-first f zero a = refl
turns-first f (suc n) a = ap f (turns-first f n a)

turns-still : {A : Type 0} (f : A → A) (n : ℕ) (a : A) → f a ≡ a → turns f n a ≡ a
unfolding turns
turns-still f zero a e = refl
turns-still f (suc n) a e = ap f (turns-still f n a e) ∙ e

module _ (same : Float → Float → Bool) (l k : List Record) where
  abbrev turn : Both → Both
  turn = reading (λ m. m.a.at) (λ m. m.b.at) (turn_of same) l k no_record

  stays : (n : ℕ) (m : Both) (r : Compared) → m.answer ≡ Some r → turns turn n m ≡ m
  stays n m r e = turns-still turn n m (ap (λ (t : Option Compared). cond (is_some t) m (moved same m (get_or l m.a.at no_record) (get_or k m.b.at no_record))) e)

-- ---- the used records xs of a lent run l that breaks no limit
record Held (l xs : List Record) : Type 0 where
  short : length xs ≤ 4096
  here : (i : ℕ) → i < length xs → drop i xs ≡ get_or l i no_record ∷ drop (i + 1) xs
  sees : (i : ℕ) (s : Settings) (g : Gl) → i < length xs → Sees s g → Sees (placed s (get_or l i no_record).command) (settings_after g (get_or l i no_record).command)

module _ (same : Float → Float → Bool) (l xs k ys : List Record) (p : Held l xs) (q : Held k ys) where
  abbrev shots : Gl → List Record → ℕ → List Shot
  shots g zs i = shots_from g (commands_of (drop i zs))

  -- the answer, and how many turns are left
  abbrev value : Option Compared → Both → Gl → Gl → Compared
  value (Some r) m g h = r
  value None m g h = first_off same m.draws (shots g xs m.a.at) (shots h ys m.b.at)

  abbrev left : Option Compared → Both → ℕ
  left (Some r) m = 0
  left None m = suc ((length xs - m.a.at) + (length ys - m.b.at))

  -- the machines g and h have the settings
  record Stands (m : Both) (g h : Gl) : Type 0 where
    sees_a : Sees m.a.settings g
    sees_b : Sees m.b.settings h
    count_a : m.a.count ≡ length xs
    count_b : m.b.count ≡ length ys
    few : m.draws ≤ m.a.at

  -- a turn finds nothing new and leaves less
  record Went (m : Both) (g h : Gl) (n : Both) : Type 0 where
    g' : Gl
    h' : Gl
    stands : Stands n g' h'
    kept : value n.answer n g' h' ≡ value None m g h
    less : left n.answer n < left None m

  abbrev next : Side → Record → Side
  next s x = record { count = s.count; at = s.at + 1; settings = placed s.settings x.command }

  module _ (m : Both) (g h : Gl) (w : Stands m g h) (f : m.answer ≡ None) where
    abbrev x : Record
    x = get_or l m.a.at no_record

    abbrev y : Record
    y = get_or k m.b.at no_record

    abbrev gx : Gl
    gx = settings_after g x.command

    abbrev hy : Gl
    hy = settings_after h y.command

    more-a : has_more m.a ≡ true → m.a.at < length xs
    more-a e = subst (λ (n : ℕ). m.a.at < n) w.count_a (ltb-true m.a.at m.a.count e)

    more-b : has_more m.b ≡ true → m.b.at < length ys
    more-b e = subst (λ (n : ℕ). m.b.at < n) w.count_b (ltb-true m.b.at m.b.count e)

    done-a : has_more m.a ≡ false → shots g xs m.a.at ≡ []
    unfolding shots_from
    done-a e = ap (λ zs. shots_from g (commands_of zs)) (drop_of_length-le xs (subst (λ (n : ℕ). n ≤ m.a.at) w.count_a (ltb-false m.a.at m.a.count e)))

    done-b : has_more m.b ≡ false → shots h ys m.b.at ≡ []
    unfolding shots_from
    done-b e = ap (λ zs. shots_from h (commands_of zs)) (drop_of_length-le ys (subst (λ (n : ℕ). n ≤ m.b.at) w.count_b (ltb-false m.b.at m.b.count e)))

    shots-a : has_more m.a ≡ true → shots g xs m.a.at ≡ shots_from g (x.command ∷ commands_of (drop (m.a.at + 1) xs))
    shots-a e = ap (λ zs. shots_from g (commands_of zs)) (p.here m.a.at (more-a e))

    shots-b : has_more m.b ≡ true → shots h ys m.b.at ≡ shots_from h (y.command ∷ commands_of (drop (m.b.at + 1) ys))
    shots-b e = ap (λ zs. shots_from h (commands_of zs)) (q.here m.b.at (more-b e))

    unknown : (n : Both) (g' h' : Gl) → n.answer ≡ m.answer → value n.answer n g' h' ≡ value None n g' h'
    unknown n g' h' e = ap (λ (t : Option Compared). value t n g' h') (e ∙ f)

    fewer : (n : Both) → n.answer ≡ m.answer → left None n < left None m → left n.answer n < left None m
    fewer n e d = subst (λ (t : Option Compared). left t n < left None m) (sym (e ∙ f)) d

    tells : (r : Compared) → r ≡ value None m g h → Went m g h (told r m)
    tells r e =
        record {
          g' = g;
          h' = h;
          stands = record { sees_a = w.sees_a; sees_b = w.sees_b; count_a = w.count_a; count_b = w.count_b; few = w.few };
          kept = e;
          less = omega arith;
        }

    goes-a : has_more m.a ≡ true → is_draw x ≡ false → Went m g h (with_a (next m.a x) m)
    goes-a e d =
        let low = more-a e in
        let n = with_a (next m.a x) m in
        record {
          g' = gx;
          h' = h;
          stands =
              record {
                sees_a = p.sees m.a.at m.a.settings g low w.sees_a;
                sees_b = w.sees_b;
                count_a = w.count_a;
                count_b = w.count_b;
                few = omega (arith, w.few);
              };
          kept =
              unknown n gx h refl
              ∙ ap (λ (z : List Shot). first_off same m.draws z (shots h ys m.b.at)) (sym (shots-a e ∙ at_other g x.command (commands_of (drop (m.a.at + 1) xs)) d));
          less = fewer n refl (omega arith);
        }

    goes-b : has_more m.b ≡ true → is_draw y ≡ false → Went m g h (with_b (next m.b y) m)
    goes-b e d =
        let low = more-b e in
        let n = with_b (next m.b y) m in
        record {
          g' = g;
          h' = hy;
          stands = record { sees_a = w.sees_a; sees_b = q.sees m.b.at m.b.settings h low w.sees_b; count_a = w.count_a; count_b = w.count_b; few = w.few };
          kept =
              unknown n g hy refl
              ∙ ap (first_off same m.draws (shots g xs m.a.at)) (sym (shots-b e ∙ at_other h y.command (commands_of (drop (m.b.at + 1) ys)) d));
          less = fewer n refl (omega arith);
        }

    -- at two draws
    abbrev both : Both
    both = record { a = next m.a x; b = next m.b y; draws = one_more m.draws; answer = m.answer }

    one_more_lem : (n : ℕ) → n < 4096 → one_more n ≡ suc n
    one_more_lem n e = ap (λ (t : Bool). cond t (n + 1) n) (lt-ltb n 4096 e) ∙ omega arith

    compares : has_more m.a ≡ true → is_draw x ≡ true → has_more m.b ≡ true → is_draw y ≡ true
        → Went m g h (cond (alike same (gl_of m.a.settings) (gl_of m.b.settings)) both (told (Differs m.draws) m))
    unfolding first_off
    compares e d e' d' = go (alike same (gl_of m.a.settings) (gl_of m.b.settings)) refl
      where
        low : m.a.at < length xs
        low = more-a e

        low' : m.b.at < length ys
        low' = more-b e'

        after : Compared
        after = first_off same (suc m.draws) (shots gx xs (m.a.at + 1)) (shots hy ys (m.b.at + 1))

        grown : one_more m.draws ≡ suc m.draws
        grown = one_more_lem m.draws (omega (arith, low, w.few, p.short))

        now : value None m g h ≡ cond (alike same (gl_of m.a.settings) (gl_of m.b.settings)) after (Differs m.draws)
        now =
            let r = at-draw g x.command (commands_of (drop (m.a.at + 1) xs)) d in
            let s = at-draw h y.command (commands_of (drop (m.b.at + 1) ys)) d' in
            ap₂ (λ (z v : List Shot). first_off same m.draws z v) (shots-a e ∙ r.2) (shots-b e' ∙ s.2)
            ∙ ap (λ (t : Bool). cond t after (Differs m.draws))
            (ap₂ (λ (z v : Gl). alike same z v) r.1 s.1 ∙ sym (sees-alike same m.a.settings m.b.settings g h w.sees_a w.sees_b))

        go : (t : Bool) → alike same (gl_of m.a.settings) (gl_of m.b.settings) ≡ t → Went m g h (cond t both (told (Differs m.draws) m))
        go true t =
            record {
              g' = gx;
              h' = hy;
              stands =
                  record {
                    sees_a = p.sees m.a.at m.a.settings g low w.sees_a;
                    sees_b = q.sees m.b.at m.b.settings h low' w.sees_b;
                    count_a = w.count_a;
                    count_b = w.count_b;
                    few = omega (arith, w.few, grown);
                  };
              kept =
                  unknown both gx hy refl ∙ ap (λ (n : ℕ). first_off same n (shots gx xs (m.a.at + 1)) (shots hy ys (m.b.at + 1))) grown
                  ∙ sym (now ∙ ap (λ (b : Bool). cond b after (Differs m.draws)) t);
              less = fewer both refl (omega (arith, low, low'));
            }
        go false t = tells (Differs m.draws) (sym (now ∙ ap (λ (b : Bool). cond b after (Differs m.draws)) t))

    went : Went m g h (moved same m x y)
    unfolding first_off
    went = go (has_more m.a) refl (is_draw x) refl (has_more m.b) refl (is_draw y) refl
      where
        ends-a : has_more m.a ≡ false → Equal ≡ value None m g h
        ends-a e = sym (ap (λ (z : List Shot). first_off same m.draws z (shots h ys m.b.at)) (done-a e))

        go : (s : Bool) → has_more m.a ≡ s → (d : Bool) → is_draw x ≡ d → (t : Bool) → has_more m.b ≡ t → (d' : Bool) → is_draw y ≡ d'
            → Went m g h
            (cond (s && not d) (with_a (cond s (next m.a x) m.a) m)
            (cond (t && not d') (with_b (cond t (next m.b y) m.b) m)
            (cond (s && t)
            (cond (alike same (gl_of m.a.settings) (gl_of m.b.settings))
            (record { a = cond s (next m.a x) m.a; b = cond t (next m.b y) m.b; draws = one_more m.draws; answer = m.answer })
            (told (Differs m.draws) m))
            (told Equal m))))
        go true e false d t e' d' f' = goes-a e d
        go true e true d true e' false f' = goes-b e' f'
        go false e d c true e' false f' = goes-b e' f'
        go true e true d true e' true f' = compares e d e' f'
        go true e true d false e' d' f' =
            let s = at-draw g x.command (commands_of (drop (m.a.at + 1) xs)) d in
            tells Equal (sym (ap₂ (λ (z v : List Shot). first_off same m.draws z v) (shots-a e ∙ s.2) (done-b e')))
        go false e d c true e' true f' = tells Equal (ends-a e)
        go false e d c false e' d' f' = tells Equal (ends-a e)

  -- enough turns find it
  abbrev Found : ℕ → Type 0
  Found n = (m : Both) (g h : Gl) → Stands m g h → left m.answer m ≤ n → (turns (turn same l k) n m).answer ≡ Some (value m.answer m g h)

  finds-from : (n : ℕ) → Found n
  unfolding turns
  finds-from zero m g h w d = go m.answer refl d
    where
      go : (t : Option Compared) → m.answer ≡ t → left t m ≤ 0 → m.answer ≡ Some (value t m g h)
      go (Some r) e d = e
      go None e d = absurd (not-suc-le-zero d)
  finds-from (suc n) m g h w d = go m.answer refl d (finds-from n)
    where
      fewer : (i j n : ℕ) → i < j → j ≤ suc n → i ≤ n
      fewer i j n a b = omega arith

      go : (t : Option Compared) → m.answer ≡ t → left t m ≤ suc n → Found n → (turns (turn same l k) (suc n) m).answer ≡ Some (value t m g h)
      go (Some a) e d rest = ap (λ (r : Both). r.answer) (stays same l k (suc n) m a e) ∙ e
      go None e d rest =
          let by = went m g h w e in
          let r = moved same m (get_or l m.a.at no_record) (get_or k m.b.at no_record) in
          ap (λ (z : Both). z.answer) (turns-first (turn same l k) n m)
          ∙ ap (λ (t : Option Compared). (turns (turn same l k) n (cond (is_some t) m r)).answer) e
          ∙ rest r by.g' by.h' by.stands (fewer (left r.answer r) (left None m) n by.less d)
          ∙ ap (λ (c : Compared). Some c) by.kept

-- ---- before the first turn
each_at : (P : Command → Type 0) (zs : List Record) (i : ℕ) → i < length zs → Each P (commands_of zs) → P (get_or zs i no_record).command
each_at P [] i h e = absurd (not-suc-le-zero h)
each_at P (z ∷ zs) zero h e = e.0
each_at P (z ∷ zs) (suc i) h e = each_at P zs i (le_of_suc-le-suc h) e.1

-- no limit of a number or a count is broken
module _ (l : List Record) (u : Used) (range : (broken_by (handed l u)).range ≡ false) (room : (broken_by (handed l u)).room ≡ false) where
  abbrev used : List Record
  used = take u.commands l

  over : over_counts (length l) u ≡ false
  over = or_left (over_counts (length l) u) _ room

  counted : u.commands ≤ 4096
  counted = ltb-false 4096 u.commands (or_left (ltb 4096 u.commands) _ over)

  long : length used ≡ u.commands
  long =
      let beyond = or_right (ltb 1024 u.queries) _ (or_right (ltb 65536 u.bytes) _ (or_right (ltb 4096 u.commands) _ over)) in
      length-take-le u.commands l (ltb-false (length l) u.commands beyond)

  held : Held l used
  held =
      record {
        short = subst (λ (n : ℕ). n ≤ 4096) (sym long) counted;
        here = λ i h. drop-cons used i no_record h ∙ ap₂ (λ (x : Record) (n : ℕ). x ∷ drop n used) (reads i h) (after i);
        sees = λ i s g h e. placed-sees s g u (get_or l i no_record).command (allowed i h) e;
      }
    where
      reads : (i : ℕ) → i < length used → get_or used i no_record ≡ get_or l i no_record
      reads i h = get_or-take u.commands l i no_record (subst (λ (n : ℕ). i < n) long h)

      after : (i : ℕ) → suc i ≡ i + 1
      after i = omega arith

      allowed : (i : ℕ) → i < length used → (breaks u (get_or l i no_record).command).range ≡ false
      allowed i h =
          ap (λ (x : Record). (breaks u x.command).range) (sym (reads i h))
          ∙ each_at (λ c. (breaks u c).range ≡ false) used i h (each-not (λ c. (breaks u c).range) (commands_of used) range)

pub finds : (same : Float → Float → Bool) (l : List Record) (u : Used) (k : List Record) (v : Used)
    → (turns (reading (λ m. m.a.at) (λ m. m.b.at) (turn_of same) l k no_record) (turns_of (survey_of l u) (survey_of k v)) (start_of (survey_of l u) (survey_of k v))).answer
    ≡ Some (compared same (handed l u) (handed k v))
finds same l u k v =
    go broken.many broken.range refl broken.room refl (eqb (draw_count (handed l u).commands) (draw_count (handed k v).commands))
    ∙ ap₂ (λ (i j : ℕ). Some (refused_or broken (cond (eqb i j) first DrawCounts))) (sym (counts fresh_gl (handed l u).commands)) (sym (counts fresh_gl (handed k v).commands))
  where
    broken : Breaks
    broken = either_breaks (broken_by (handed l u)) (broken_by (handed k v))

    first : Compared
    first = first_off same 0 (draws_of (handed l u)) (draws_of (handed k v))

    start : Option Compared → Both
    start r = record { a = first_side (survey_of l u); b = first_side (survey_of k v); draws = 0; answer = r }

    answer : Option Compared → Option Compared
    answer r = (turns (turn same l k) (turns_of (survey_of l u) (survey_of k v)) (start r)).answer

    refused : (r : Compared) → answer (Some r) ≡ Some r
    refused r = ap (λ (m : Both). m.answer) (stays same l k (turns_of (survey_of l u) (survey_of k v)) (start (Some r)) r refl)

    plays : broken.range ≡ false → broken.room ≡ false → answer None ≡ Some first
    plays e f =
        let range = (broken_by (handed l u)).range in
        let room = (broken_by (handed l u)).room in
        let e₁ = or_left range _ e in
        let e₂ = or_right range _ e in
        let f₁ = or_left room _ f in
        let f₂ = or_right room _ f in
        finds-from same l (take u.commands l) k (take v.commands k) (held l u e₁ f₁) (held k v e₂ f₂) (turns_of (survey_of l u) (survey_of k v)) (start None) fresh_gl fresh_gl
        (record { sees_a = fresh-sees; sees_b = fresh-sees; count_a = sym (long l u e₁ f₁); count_b = sym (long k v e₂ f₂); few = omega arith })
        (omega (arith, long l u e₁ f₁, long k v e₂ f₂, min-eq_left (counted l u e₁ f₁), min-eq_left (counted k v e₂ f₂)))

    go : (a b : Bool) → broken.range ≡ b → (c : Bool) → broken.room ≡ c → (d : Bool)
        → answer (cond a (Some TooMany) (cond b (Some OutOfRange) (cond c (Some NoRoom) (cond d None (Some DrawCounts)))))
        ≡ Some (cond a TooMany (cond b OutOfRange (cond c NoRoom (cond d first DrawCounts))))
    go true b e c f d = refused TooMany
    go false true e c f d = refused OutOfRange
    go false false e true f d = refused NoRoom
    go false false e false f false = refused DrawCounts
    go false false e false f true = plays e f
