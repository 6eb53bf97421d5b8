-- Facts of the survey: its draws never pass the place, and from the start it is `survey_of`. Assumes nothing.
use mathlib.Core.Path.{◌≡◌, refl, ◌∙◌, ap, sym}
use mathlib.Core.Bool.{Bool, true, false, cond, ◌||◌}
use mathlib.Core.List.{List, [], ◌∷◌}
use Prim.Native.Nat.{ℕ, suc, ◌+◌, ◌≤◌, ◌<◌, ◌^◌, min}
use native.Mathlib.Nat.{add-zero, zero-add}
use native.Mathlib.Omega.{arith}
use lib.ListN.{length, take, drop, length-take, take-append-drop}
use lib.Seq.{take-append_seam}
use Rattle.records.specs.Check.{some?}
use Rattle.records.specs.declared.command.Command.{Command}
use Rattle.records.specs.declared.command.Record.{Record}
use Rattle.list_walks.specs.Fold.{fold_at}
use Rattle.lists.specs.declared.limits.Surveyed.{Surveyed}
use Rattle.lists.specs.declared.limits.Used.{Used}
use Rattle.lists.specs.Class.{class_of, draws, commands_of, draw_count}
use Rattle.lists.specs.Limits.{breaks, handed, broken_by}
use Rattle.lists.specs.Survey.{looked_at, first_survey, survey_record, survey_of}

one_more : (b : Bool) (n i : ℕ) → n ≤ i → cond b (n + 1) n ≤ i + 1
one_more true n i h = omega arith
one_more false n i h = omega arith

pub next : (i : ℕ) (s : Surveyed) (x : Record) → s.draws ≤ i → (survey_record s i x).draws ≤ i + 1
next i s x h = one_more (draws (class_of x.command)) s.draws i h

pub may : (i : ℕ) (s : Surveyed) → s.draws ≤ i → i + 1 < 2 ^ 64 → s.draws + 1 < 2 ^ 64
may i s h less = omega arith

-- the draws of the rest are added
after : (b : Bool) (n k : ℕ) → cond b (n + 1) n + k ≡ n + cond b (suc k) k
after true n k = omega arith
after false n k = refl

or_assoc : (a b c : Bool) → (a || b) || c ≡ a || (b || c)
or_assoc true b c = refl
or_assoc false b c = refl

or-false : (a : Bool) → a || false ≡ a
or-false true = refl
or-false false = refl

-- the survey s, and then what the commands break and draw
abbrev further : Surveyed → List Command → Surveyed
further s cs =
    record {
      used = s.used;
      breaks =
          record {
            many = s.breaks.many || some? (λ c. (breaks s.used c).many) cs;
            range = s.breaks.range || some? (λ c. (breaks s.used c).range) cs;
            room = s.breaks.room || some? (λ c. (breaks s.used c).room) cs;
          };
      draws = s.draws + draw_count cs;
    }

same : (u : Used) (a b c a' b' c' : Bool) (n n' : ℕ) → a ≡ a' → b ≡ b' → c ≡ c' → n ≡ n'
    → ◌≡◌ {A = Surveyed} (record { used = u; breaks = record { many = a; range = b; room = c }; draws = n }) (record { used = u; breaks = record { many = a'; range = b'; room = c' }; draws = n' })
same u a b c a' b' c' n n' p q r s = λ i. record { used = u; breaks = record { many = p i; range = q i; room = r i }; draws = s i }

folded : (s : Surveyed) (i : ℕ) (l : List Record) → fold_at survey_record s i l ≡ further s (commands_of l)
unfolding fold_at draw_count some?
folded s i [] =
    same s.used s.breaks.many s.breaks.range s.breaks.room (s.breaks.many || false) (s.breaks.range || false) (s.breaks.room || false) s.draws (s.draws + 0)
    (sym (or-false s.breaks.many)) (sym (or-false s.breaks.range)) (sym (or-false s.breaks.room)) (sym (add-zero s.draws))
folded s i (x ∷ l) =
    folded (survey_record s i x) (suc i) l
    ∙ (let b = breaks s.used x.command in
    let rest = commands_of l in
    λ j. record {
      used = s.used;
      breaks =
          record {
            many = or_assoc s.breaks.many b.many (some? (λ c. (breaks s.used c).many) rest) j;
            range = or_assoc s.breaks.range b.range (some? (λ c. (breaks s.used c).range) rest) j;
            room = or_assoc s.breaks.room b.room (some? (λ c. (breaks s.used c).room) rest) j;
          };
      draws = after (draws (class_of x.command)) s.draws (draw_count rest) j;
    })

-- looking at the used records that are there is looking at the used ones
pub taken : (n : ℕ) (l : List Record) → take (min n (length l)) l ≡ take n l
taken n l =
    ap (λ (m : ℕ). take m l) (sym (length-take n l)) ∙ ap (take (length (take n l))) (sym (take-append-drop n l)) ∙ take-append_seam (take n l) (drop n l)

pub from_start : (l : List Record) (u : Used) → fold_at survey_record (first_survey u (length l)) 0 (take (looked_at u (length l)) l) ≡ survey_of l u
from_start l u =
    folded (first_survey u (length l)) 0 (take (looked_at u (length l)) l)
    ∙ ap (λ (k : List Record). further (first_survey u (length l)) (commands_of k)) (taken u.commands l)
    ∙ ap (λ (n : ℕ). record { used = u; breaks = broken_by (handed l u); draws = n }) (zero-add (draw_count (commands_of (take u.commands l))))
