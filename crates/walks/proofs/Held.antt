-- The locals of plain data of a function: the first m of them have a value, the others are room. What a walk does with them, whatever they are.
--     Pre, hold        the values of the first m, and their locals, in one item of the context
--     arg_vals, opds-held       some of them, by their numbers, passed on to a callee
--     numbers, passed          all parameters, passed on.        last         the one let, where there is one
--     out, back        the first that has no value is taken out, and put back with one
--     pass-hold, free-hold     the parameters are stored, and all are freed
-- Says nothing of the crate. Assumes `Logic`.
use mathlib.Core.Path.{◌≡◌, refl, sym, ◌∙◌, ap, subst}
use Prim.Native.Nat.{ℕ, zero, suc}
use mathlib.Core.List.{List, [], ◌∷◌, ◌++◌}
use lib.ListN.{get_or}
use seplogic.Ra.Ura.{Ura}
use base.Fraction.{full_share}
use mir.Syntax.{Ty, place, Opd as Operand, copy}
use mir.Val.{Val}
use base.Logic.{ent, sep, id⊢}
use base.Fml.{Fml, ftrue, fsep, fat, froom, fdies}
use prog.Wp.{Env}
use types.Logic.{Logic, sem}
use types.Kit.{Item, Goal, Step, passes, frees, ‵, ◌⊛◌, nth, step, ◌$◌, ◌∵◌, !, qed, move, drop, use1, use2, split, fsplit, fjoin, frame, done}
use types.Run.{Reads, Opd, Opds, init, forget, stop, load, and_then, no_more, pass1, pass0, free1}
use types.Part.{Part, look_in}
use denote.Shadow.{shadow}
use Rattle.walks.proofs.Args.{Datum, boolean, Dens, Facts, vals_of, Blocks, rooms, env_of, Locals, no_local, Spots, from_at, Within, within-here, within-next, part_of}

abbrev pub Pre : List Datum → ℕ → Type 0
Pre [] m = Unit {0}
Pre (D ∷ Vs) zero = Unit {0}
Pre (D ∷ Vs) (suc m) = D.D × Pre Vs m

abbrev pub no_values : (Vs : List Datum) → Pre Vs zero
no_values [] = tt
no_values (D ∷ Vs) = tt

abbrev pub datum_at : List Datum → ℕ → Datum
datum_at [] i = boolean
datum_at (D ∷ Vs) zero = D
datum_at (D ∷ Vs) (suc i) = datum_at Vs i

abbrev pub Known : List Datum → ℕ → ℕ → Type 0
Known [] m i = ⊥
Known (D ∷ Vs) zero i = ⊥
Known (D ∷ Vs) (suc m) zero = Unit {0}
Known (D ∷ Vs) (suc m) (suc i) = Known Vs m i

abbrev pub value_at : (Vs : List Datum) (m : ℕ) → Pre Vs m → (i : ℕ) → Known Vs m i → (datum_at Vs i).D
value_at [] m d i k = absurd k
value_at (D ∷ Vs) zero d i k = absurd k
value_at (D ∷ Vs) (suc m) d zero k = d.0
value_at (D ∷ Vs) (suc m) d (suc i) k = value_at Vs m d.1 i k

-- there is one past the first m
abbrev pub Vacant : List Datum → ℕ → Type 0
Vacant [] m = ⊥
Vacant (D ∷ Vs) zero = Unit {0}
Vacant (D ∷ Vs) (suc m) = Vacant Vs m

abbrev pub with_next : (Vs : List Datum) (m : ℕ) → Pre Vs m → (datum_at Vs m).D → Pre Vs (suc m)
with_next [] m d v = tt
with_next (D ∷ Vs) zero d v = (v, no_values Vs)
with_next (D ∷ Vs) (suc m) d v = (d.0, with_next Vs m d.1 v)

abbrev pub Sound : (Vs : List Datum) (m : ℕ) → Pre Vs m → Type 0
Sound [] m d = Unit {0}
Sound (D ∷ Vs) zero d = Unit {0}
Sound (D ∷ Vs) (suc m) d = shadow (D.own d.0 (D.val d.0 ∷ [])) × Sound Vs m d.1

pub sound_none : (Vs : List Datum) → Sound Vs zero (no_values Vs)
sound_none [] = tt
sound_none (D ∷ Vs) = tt

pub sound-next : (Vs : List Datum) (m : ℕ) (d : Pre Vs m) (v : (datum_at Vs m).D) → Sound Vs m d → shadow ((datum_at Vs m).own v ((datum_at Vs m).val v ∷ [])) → Sound Vs (suc m) (with_next Vs m d v)
sound-next [] m d v s g = tt
sound-next (D ∷ Vs) zero d v s g = (g, sound_none Vs)
sound-next (D ∷ Vs) (suc m) d v s g = (s.0, sound-next Vs m d.1 v s.1 g)

pub sound-at : (Vs : List Datum) (m : ℕ) (d : Pre Vs m) (i : ℕ) (k : Known Vs m i) → Sound Vs m d → shadow ((datum_at Vs i).own (value_at Vs m d i k) ((datum_at Vs i).val (value_at Vs m d i k) ∷ []))
sound-at [] m d i k s = absurd k
sound-at (D ∷ Vs) zero d i k s = absurd k
sound-at (D ∷ Vs) (suc m) d zero k s = s.0
sound-at (D ∷ Vs) (suc m) d (suc i) k s = sound-at Vs m d.1 i k s.1

-- ---- arguments, by their numbers
abbrev pub arg_ds : List Datum → List ℕ → List Datum
arg_ds Vs [] = []
arg_ds Vs (i ∷ is) = datum_at Vs i ∷ arg_ds Vs is

abbrev pub Knowns : List Datum → ℕ → List ℕ → Type 0
Knowns Vs m [] = Unit {0}
Knowns Vs m (i ∷ is) = Known Vs m i × Knowns Vs m is

abbrev pub arg_vals : (Vs : List Datum) (m : ℕ) → Pre Vs m → (is : List ℕ) → Knowns Vs m is → Dens (arg_ds Vs is)
arg_vals Vs m d [] k = tt
arg_vals Vs m d (i ∷ is) k = (value_at Vs m d i k.0, arg_vals Vs m d is k.1)

pub arg-facts : (Vs : List Datum) (m : ℕ) (d : Pre Vs m) (is : List ℕ) (k : Knowns Vs m is) → Sound Vs m d → Facts (arg_ds Vs is) (arg_vals Vs m d is k)
arg-facts Vs m d [] k s = tt
arg-facts Vs m d (i ∷ is) k s = (sound-at Vs m d i k.0 s, arg-facts Vs m d is k.1 s)

-- the local of number i, where the first is k
abbrev pub numbered : ℕ → ℕ → ℕ
numbered k zero = k
numbered k (suc i) = numbered (suc k) i

-- k: the number of the first
abbrev pub arg_copies : ℕ → List ℕ → List Operand
arg_copies k [] = []
arg_copies k (i ∷ is) = copy (place (numbered k i) []) ∷ arg_copies k is

-- ---- their locals
abbrev pub block_at : (Vs : List Datum) → Blocks Vs → ℕ → ℕ
block_at [] bs i = 0
block_at (D ∷ Vs) bs zero = bs.0
block_at (D ∷ Vs) bs (suc i) = block_at Vs bs.1 i

pub spot-at : (Vs : List Datum) (bs : Blocks Vs) (E : Locals) (i k : ℕ) → Vacant Vs i → Spots Vs bs E k → get_or E (numbered k i) no_local ≡ ((datum_at Vs i).ty, block_at Vs bs i)
spot-at [] bs E i k v s = absurd v
spot-at (D ∷ Vs) bs E zero k v s = s.0
spot-at (D ∷ Vs) bs E (suc i) k v s = spot-at Vs bs.1 E i (suc k) v s.1

abbrev pub hold : (Vs : List Datum) → Blocks Vs → (m : ℕ) → Pre Vs m → Fml
hold [] bs m d = ftrue
hold (D ∷ Vs) bs zero d = fsep (fsep (froom D.ty bs.0 0) (fdies D.ty bs.0)) (hold Vs bs.1 zero (no_values Vs))
hold (D ∷ Vs) bs (suc m) d = fsep (fsep (fat full_share D.ty bs.0 0 (D.val d.0)) (fdies D.ty bs.0)) (hold Vs bs.1 m d.1)

-- without the room of the first that has no value
abbrev pub but : (Vs : List Datum) → Blocks Vs → (m : ℕ) → Pre Vs m → Fml
but [] bs m d = ftrue
but (D ∷ Vs) bs zero d = fsep (fdies D.ty bs.0) (hold Vs bs.1 zero (no_values Vs))
but (D ∷ Vs) bs (suc m) d = fsep (fsep (fat full_share D.ty bs.0 0 (D.val d.0)) (fdies D.ty bs.0)) (but Vs bs.1 m d.1)

rooms-hold : (Vs : List Datum) (bs : Blocks Vs) → rooms Vs bs ≡ hold Vs bs zero (no_values Vs)
rooms-hold [] bs = refl
rooms-hold (D ∷ Vs) bs = ap (fsep (fsep (froom D.ty bs.0 0) (fdies D.ty bs.0))) (rooms-hold Vs bs.1)

abbrev pub count : List Datum → ℕ
count [] = zero
count (D ∷ Vs) = suc (count Vs)

abbrev pub start : (As Ls : List Datum) → Dens As → Pre (As ++ Ls) (count As)
start [] Ls d = no_values Ls
start (D ∷ As) Ls d = (d.0, start As Ls d.1)

pub sound-start : (As Ls : List Datum) (d : Dens As) → Facts As d → Sound (As ++ Ls) (count As) (start As Ls d)
sound-start [] Ls d f = sound_none Ls
sound-start (D ∷ As) Ls d f = (f.0, sound-start As Ls d.1 f.1)

-- ---- all parameters, by their numbers
abbrev raised : List ℕ → List ℕ
raised [] = []
raised (i ∷ is) = suc i ∷ raised is

abbrev pub numbers : List Datum → List ℕ
numbers [] = []
numbers (A ∷ As) = 0 ∷ raised (numbers As)

abbrev knowns_raised : (A : Datum) (Vs : List Datum) (m : ℕ) (is : List ℕ) → Knowns Vs m is → Knowns (A ∷ Vs) (suc m) (raised is)
knowns_raised A Vs m [] ks = tt
knowns_raised A Vs m (i ∷ is) ks = (ks.0, knowns_raised A Vs m is ks.1)

abbrev pub knowns : (As Ls : List Datum) → Knowns (As ++ Ls) (count As) (numbers As)
knowns [] Ls = tt
knowns (A ∷ As) Ls = (tt, knowns_raised A (As ++ Ls) (count As) (numbers As) (knowns As Ls))

abbrev lowered : (A : Datum) (Vs : List Datum) (is : List ℕ) → Dens (arg_ds (A ∷ Vs) (raised is)) → Dens (arg_ds Vs is)
lowered A Vs [] d = tt
lowered A Vs (i ∷ is) d = (d.0, lowered A Vs is d.1)

abbrev pub passed : (As Ls : List Datum) → Dens (arg_ds (As ++ Ls) (numbers As)) → Dens As
passed [] Ls d = tt
passed (A ∷ As) Ls d = (d.0, passed As Ls (lowered A (As ++ Ls) (numbers As) d.1))

lowered_is : (A : Datum) (Vs : List Datum) (m : ℕ) (a : A.D) (d : Pre Vs m) (is : List ℕ) (ks : Knowns Vs m is) → lowered A Vs is (arg_vals (A ∷ Vs) (suc m) (a, d) (raised is) (knowns_raised A Vs m is ks)) ≡ arg_vals Vs m d is ks
lowered_is A Vs m a d [] ks = refl
lowered_is A Vs m a d (i ∷ is) ks = λ j. (value_at Vs m d i ks.0, lowered_is A Vs m a d is ks.1 j)

pub passed_is : (As Ls : List Datum) (d : Dens As) → passed As Ls (arg_vals (As ++ Ls) (count As) (start As Ls d) (numbers As) (knowns As Ls)) ≡ d
passed_is [] Ls d = refl
passed_is (A ∷ As) Ls d = λ j. (d.0, (ap (passed As Ls) (lowered_is A (As ++ Ls) (count As) d.0 (start As Ls d.1) (numbers As) (knowns As Ls)) ∙ passed_is As Ls d.1) j)

-- ---- the one let, where there is one
module _ (L : Datum) where
  abbrev pub vacant : (As : List Datum) → Vacant (As ++ (L ∷ [])) (count As)
  vacant [] = tt
  vacant (A ∷ As) = vacant As

  abbrev pub known : (As : List Datum) → Known (As ++ (L ∷ [])) (suc (count As)) (count As)
  known [] = tt
  known (A ∷ As) = known As

  abbrev pub last : (As : List Datum) → (datum_at (As ++ (L ∷ [])) (count As)).D → L.D
  last [] x = x
  last (A ∷ As) x = last As x

  pub last-is : (As : List Datum) (d : Pre (As ++ (L ∷ [])) (count As)) (x : (datum_at (As ++ (L ∷ [])) (count As)).D) → value_at (As ++ (L ∷ [])) (suc (count As)) (with_next (As ++ (L ∷ [])) (count As) d x) (count As) (known As) ≡ x
  last-is [] d x = refl
  last-is (A ∷ As) d x = last-is As d.1 x

module _ {M : Type 1} {𝓤 : Ura M} (𝓛 : Logic 𝓤) where
  pub out : (Vs : List Datum) (bs : Blocks Vs) (m : ℕ) (d : Pre Vs m) → Vacant Vs m → ent 𝓤 (sem 𝓛 (hold Vs bs m d)) (sep 𝓤 (sem 𝓛 (froom (datum_at Vs m).ty (block_at Vs bs m) 0)) (sem 𝓛 (but Vs bs m d)))
  out [] bs m d v = absurd v
  out (D ∷ Vs) bs zero d v = qed 𝓛 (‵ (hold (D ∷ Vs) bs zero d) ∷ []) ∵ fsplit ! $ fsplit ! $ frame ! $ fjoin ! $ done !
  out (D ∷ Vs) bs (suc m) d v =
      qed 𝓛 (‵ (hold (D ∷ Vs) bs (suc m) d) ∷ []) ∵ fsplit ! $ move ! (1 ∷ []) $ use1 𝓛 (‵ (froom (datum_at Vs m).ty (block_at Vs bs.1 m) 0) ⊛ ‵ (but Vs bs.1 m d.1)) (out Vs bs.1 m d.1 v) $ split ! $ frame ! $ move ! (1 ∷ 0 ∷ []) $ fjoin ! $ done !

  pub back : (Vs : List Datum) (bs : Blocks Vs) (m : ℕ) (d : Pre Vs m) (v : (datum_at Vs m).D) → Vacant Vs m
      → ent 𝓤 (sep 𝓤 (sem 𝓛 (fat full_share (datum_at Vs m).ty (block_at Vs bs m) 0 ((datum_at Vs m).val v))) (sem 𝓛 (but Vs bs m d))) (sem 𝓛 (hold Vs bs (suc m) (with_next Vs m d v)))
  back [] bs m d v k = absurd k
  back (D ∷ Vs) bs zero d v k = qed 𝓛 (‵ (fat full_share D.ty bs.0 0 (D.val v)) ∷ ‵ (but (D ∷ Vs) bs zero d) ∷ []) ∵ move ! (1 ∷ []) $ fsplit ! $ move ! (2 ∷ 0 ∷ []) $ fjoin ! $ fjoin ! $ done !
  back (D ∷ Vs) bs (suc m) d v k =
      qed 𝓛 (‵ (fat full_share (datum_at Vs m).ty (block_at Vs bs.1 m) 0 ((datum_at Vs m).val v)) ∷ ‵ (but (D ∷ Vs) bs (suc m) d) ∷ []) ∵ move ! (1 ∷ []) $ fsplit ! $ move ! (2 ∷ 1 ∷ []) $
      use2 𝓛 (‵ (hold Vs bs.1 (suc m) (with_next Vs m d.1 v))) (back Vs bs.1 m d.1 v k) $ move ! (1 ∷ 0 ∷ []) $ fjoin ! $ done !

module _ {M : Type 1} {𝓤 : Ura M} {𝓛 : Logic 𝓤} {K : Type 0} where
  open 𝓛 use {H}

  pub pass-hold : K → (As Ls : List Datum) (bs : Blocks (As ++ Ls)) (d : Dens As) → Facts As d → (E : Env 𝓤 H) {Γ : List (Item 𝓤)} {g : Goal 𝓤 H} → Step K 𝓛 (‵ (hold (As ++ Ls) bs (count As) (start As Ls d)) ∷ Γ) g (‵ (rooms (As ++ Ls) bs) ∷ Γ) (passes (env_of (As ++ Ls) bs ++ E) (vals_of As d) g)
  pass-hold t [] Ls bs d f E = step (λ s. pass0 t $ use1 𝓛 (‵ (hold Ls bs zero (no_values Ls))) (subst (λ (P : Fml). ent 𝓤 (sem 𝓛 (rooms Ls bs)) (sem 𝓛 P)) (rooms-hold Ls bs) (id⊢ 𝓤 _)) $ s)
  pass-hold t (D ∷ As) Ls bs d f E = step (λ s. fsplit t $ fsplit t $ pass1 t (init t 0 refl (D.typed 𝓛 d.0 (D.val d.0) f.0)) $ move t (2 ∷ []) $ pass-hold t As Ls bs.1 d.1 f.1 E $ move t (1 ∷ 2 ∷ []) $ fjoin t $ fjoin t $ s)

  pub free-hold : K → (Vs : List Datum) (bs : Blocks Vs) (m : ℕ) (d : Pre Vs m) {Γ : List (Item 𝓤)} {E : Env 𝓤 H} {g : Goal 𝓤 H} → Step K 𝓛 Γ (frees E g) (‵ (hold Vs bs m d) ∷ Γ) (frees (env_of Vs bs ++ E) g)
  free-hold t [] bs m d = step (λ s. drop t $ s)
  free-hold t (D ∷ Vs) bs zero d = step (λ s. fsplit t $ fsplit t $ free1 t $ free-hold t Vs bs.1 zero (no_values Vs) $ s)
  free-hold t (D ∷ Vs) bs (suc m) d = step (λ s. fsplit t $ fsplit t $ forget t 0 refl $ free1 t $ free-hold t Vs bs.1 m d.1 $ s)

  opd-held : K → {Γ : List (Item 𝓤)} {E : Env 𝓤 H} (Vs : List Datum) (bs : Blocks Vs) (m : ℕ) (d : Pre Vs m) (i k : ℕ) (kn : Known Vs m i) → Spots Vs bs E k
      → ((τ : Ty) (b : ℕ) (v : Val) (back : Val → Fml) → Within 𝓛 (hold Vs bs m d) full_share τ b 0 v back → Reads K 𝓛 Γ τ b 0 v) → Opd K 𝓛 Γ E (copy (place (numbered k i) [])) ((datum_at Vs i).val (value_at Vs m d i kn))
  opd-held t [] bs m d i k kn s deep = absurd kn
  opd-held t (D ∷ Vs) bs zero d i k kn s deep = absurd kn
  opd-held t (D ∷ Vs) bs (suc m) d zero k kn s deep = load t (from_at t s.0 (stop t)) (deep _ _ _ _ (within-here 𝓛))
  opd-held t (D ∷ Vs) bs (suc m) d (suc i) k kn s deep = opd-held t Vs bs.1 m d.1 i (suc k) kn s.1 (λ τ b v back w. deep τ b v _ (within-next 𝓛 _ w))

  pub opds-held : K → {Γ : List (Item 𝓤)} {E : Env 𝓤 H} (n k : ℕ) (Vs : List Datum) (bs : Blocks Vs) (m : ℕ) (d : Pre Vs m) (is : List ℕ) (ks : Knowns Vs m is)
      → nth 𝓛 n Γ ≡ ‵ (hold Vs bs m d) → Spots Vs bs E k → Opds K 𝓛 Γ E (arg_copies k is) (vals_of (arg_ds Vs is) (arg_vals Vs m d is ks))
  opds-held t n k Vs bs m d [] ks e s = no_more t
  opds-held t n k Vs bs m d (i ∷ is) ks e s =
      and_then t (opd-held t Vs bs m d i k ks.0 s (λ τ b v back w. look_in t n (subst (λ (j : Item 𝓤). Part K 𝓛 j full_share τ b 0 v (λ u. ‵ (back u))) (sym e) (part_of w))))
      (opds-held t n k Vs bs m d is ks.1 e s)
