-- Every function of the form
--     fn f(list: &mut [R], a: A, ..) -> An { S; ..; S; answer(x, ..) }        or with no result
--     fn f(list: &mut [R], run: &mut [uN], load: &[uM], set: &[uK], a: A, ..) -> An { S; ..; S; answer(x, ..) }
-- where each S is `let y = g(x, ..);`, `let y = g(list.len(), x, ..);`, `let y = g(list, x, ..);` (`let_asked` where g requires something of the list's length) or `g(list, x, ..);`, in the second form once `let y = g(list, run, load, set, x, ..);`, and the x are parameters and what was let before, of any types of plain data (`Args.antt`'s `Datum`): its MIR (`function`) meets every contract that follows from what the callees ensure (`Chain`). The list is lent again for each call that takes it.
--     Prog m i b       the statements that are left, where m locals of plain data have a value, i calls have taken the list, and b: the runs are still to be lent
--     Chain            what is to be shown of them: that a call may be made, and that the contract follows. `Cites`      that the callees meet their contracts
-- An argument is the number of its local, 0 for the first plain parameter. The lets are numbered on from the parameters, in their order.
-- In the MIR the local that holds `list.len()` stands first behind those, the one that holds `()` next, and then those of each call that takes the list. The compiler numbers them as they first occur, so it makes this MIR where `list.len()` is asked before any call takes the list, and where, if a call that takes it returns nothing, the first such call does.
-- Assumes `Logic`, and that the callees meet their contracts.
use mathlib.Core.Path.{◌≡◌, refl, sym, ◌∙◌, ap, subst}
use mathlib.Core.Bool.{Bool, true, false}
use Prim.Native.Nat.{ℕ, suc}
use mathlib.Core.List.{[], ◌∷◌, ◌++◌, List}
use lib.ListN.{length, get_or}
use lib.Dec.{T as Holds}
use seplogic.Ra.Ura.{Ura}
use base.Fraction.{full_share}
use mir.Syntax.{Callee, Ty, Width, Body, named, mut, imm, w64, ty_int, ty_unit, ty_ref, place, field, deref, copy, seq, assign, call, return, rv_opd, opd_unit, addr_of, aggregate}
use mir.Val.{Val, vint, vunit}
use base.Logic.{SProp, ent, emp, via, fst∗, sep, id⊢}
use base.Fml.{Lft, Share, GName, Fml, ftrue, fsep, fat, froom, fdies, flft, flent, fobs, fauth, fbor, fobor}
use prog.Routine.{Routine, Env as Routines}
use prog.Model.{Model}
use contract.Running.{Running, tables, tables_of}
use prog.Wp.{Env, Tables}
use types.Logic.{Logic, sem}
use contract.Monad.{fact, fact_i}
use contract.Lifetimes.{Lfts}
use types.Kit.{Item, Goal, Seq, Step, frees, runs, lands, at_ret, ‵, ◌⊛◌, ⋆, some, later, step, ◌$◌, by, move, drop, use1, use2, use3, split, pick, await, rewrite, fsplit, fjoin}
use types.Run.{look, init, forget, stop, hop, fld, from, load, addr, unit_lit, of_opd, and_then, no_more, assigns, land, returns, free1, free0}
use types.Part.{agg, whole, sub, look_in}
use types.SemTy.{cells, Arr}
use types.Tokens.{lft_new, lft_end}
use sound.WpLaws.{fm_of}
use denote.Shadow.{shadow}
use denote.Memory.{pointee, mem}
use denote.Laws.{Is}
use denote.Plain.{unit-row_laws, uint_row_laws, UInt, Nothing, uint_Makes, Nothing-Lawful, Nothing-Tells, Nothing-Makes}
use denote.Builtin.{usize}
use denote.Ref.{Bor, MutBor}
use denote.Slice.{slice_ty, slice_val, MutSlice, ShrSlice, Room, heres, coded_holeys, shr_slice_copy}
use denote.Lend.{Held, lends_slice, slice_back}
use denote.Index.{row as cells-row, whole_in, whole_out, closes_slice}
use denote.Copied.{Nothing-Copied}
use denote.Steps.{only}
use denote.Exit.{yes}
use denote.Signature.{plain}
use denote.Triple.Spec.{triple_of}
use denote.Triple.Statement.{Triple, Contract}
use denote.Triple.Table.{cited}
use denote.Triple.Clauses.{Ended, Clauses, closing}
use denote.Triple.Walked.{needs}
use Rattle.walks.proofs.Args.{Datum, row, Dens, slots, kepts, up, down, vdown, are-down, flat-down, makess, Blocks, env_of, past, Locals, no_local, Spots, spots-next, spots-here, past_is, from_at}
use Rattle.walks.proofs.Slices.{mend, calls-marks, recast}
use Rattle.walks.proofs.Calls.{gave, end, lend, calls-plain, calls-list}
use Rattle.walks.proofs.Held.{Pre, datum_at, Vacant, with_next, Sound, sound-next, arg_ds, Knowns, arg_vals, arg-facts, numbered, arg_copies, block_at, spot-at, hold, but, out, back, free-hold, opds-held}
use Rattle.walks.proofs.Lent.{word, may_env, may_item, behind, may-spot, behind-spot, may-out, may-back, free-may, lent_ref, lent, run_ref, run_lent, Pairs, Here, Both, both-here, begins, ref_block, lent_block, run_ref_block, run_lent_block, pair_env, spare, without, neither, ref-spot, slice-spot, run-ref-spot, run-slice-spot, list_pair, run_pair, pair-out, pair-back, run_out, run-back, free-pairs}

-- `()`
abbrev pub none : Datum
none = record {
  D = Unit {0};
  written = Nothing.written;
  reaches = Nothing.reaches;
  own = Nothing.own_val;
  lives = Nothing.lives;
  shared = Nothing.shr_at;
  coded = Nothing.coded;
  copied = λ 𝓛. Nothing-Copied 𝓛;
  shared_laws = unit-row_laws;
  ty = ty_unit;
  val = λ _. vunit;
  tells = Nothing-Tells;
  typed = λ 𝓛 x v g. ((Nothing-Lawful 𝓛).typed x _ g).0;
  makes = λ 𝓛. Nothing-Makes 𝓛;
}

pub up-down : (n : ℕ) (κs : Lfts n) (As : List Datum) (d : Dens As) → up n κs As (down n κs As d) ≡ d
up-down n κs [] d = refl
up-down n κs (D ∷ As) d = λ i. (d.0, up-down n κs As d.1 i)

-- what a contract asks of its arguments
pub data Ask (X : Type 0) : Type 1 where
  free : Ask X
  asks : (X → Type 0) → Ask X

abbrev pub Asked : {X : Type 0} → Ask X → X → Type 0
Asked free x = Unit {0}
Asked (asks P) x = P x

abbrev pub asked : {X : Type 0} {M : Type 1} (𝓤 : Ura M) → Ask X → X → SProp 𝓤
asked 𝓤 free x = emp 𝓤
asked 𝓤 (asks P) x = fact 𝓤 (P x)

given-it : {X : Type 0} {M : Type 1} (𝓤 : Ura M) (a : Ask X) (x : X) → Asked a x → ent 𝓤 (emp 𝓤) (asked 𝓤 a x)
given-it 𝓤 free x g = id⊢ 𝓤 (emp 𝓤)
given-it 𝓤 (asks P) x g = fact_i 𝓤 _ (emp 𝓤) g

pub take-it : {X : Type 0} {M : Type 1} (𝓤 : Ura M) (a : Ask X) (x : X) (P Q : SProp 𝓤) → (Asked a x → ent 𝓤 P Q) → ent 𝓤 (sep 𝓤 P (asked 𝓤 a x)) Q
take-it 𝓤 free x P Q k = via 𝓤 P (fst∗ 𝓤 P (emp 𝓤)) (k tt)
take-it 𝓤 (asks A) x P Q k = needs 𝓤 (A x) _ k

-- what such a function is, but for its statements and its plain locals
pub record Shape : Type 2 where
  -- an element of the list, and the result
  pub R : Datum
  pub An : Datum
  -- the numbers of the run, the load and the set (any, where there are none)
  pub N : Width
  pub N' : Width
  pub N'' : Width
  -- `list.len()` occurs; a call that returns nothing occurs; of each call that takes the list, whether it takes the runs too
  pub len : Bool
  pub unit : Bool
  pub lends : List Bool

-- the number of the first plain local, and of one past the plain ones, where the runs are parameters
abbrev pub first : Bool → ℕ
first true = 5
first false = 2

abbrev pub beyond : Bool → ℕ → ℕ
beyond true j = suc (suc (suc (suc (suc j))))
beyond false j = suc (suc j)

abbrev pub slice : Datum → Ty
slice R = slice_ty (ty_ref (named 0) mut (pointee R.written))

abbrev pub run_slice : Width → Ty
run_slice N = slice_ty (ty_ref (named 1) mut (ty_int N))

abbrev pub load_slice : Width → Ty
load_slice N = slice_ty (ty_ref (named 2) imm (ty_int N))

abbrev pub set_slice : Width → Ty
set_slice N = slice_ty (ty_ref (named 3) imm (ty_int N))

-- ---- the runs that a function is lent: lifetimes, shares, references
pub record Lend : Type 0 where
  pub κ' : Lft
  pub κ'' : Lft
  pub κ''' : Lft
  pub q' : Share
  pub q'' : Share
  pub q''' : Share
  pub run : MutBor (List ℕ)
  pub load : Bor (List ℕ)
  pub set : Bor (List ℕ)

abbrev pub val : Bor (List ℕ) → Val
val x = slice_val x.ref_ptr (length x.now)

abbrev pub mut_val : MutBor (List ℕ) → Val
mut_val x = slice_val x.ref_ptr (length x.now)

module _ (N N' N'' : Width) where
  abbrev pub run_env : Bool → ℕ × ℕ × ℕ → Locals
  run_env true e = (run_slice N, e.0) ∷ (load_slice N', e.1) ∷ (set_slice N'', e.2) ∷ []
  run_env false e = []

  -- their locals
  abbrev pub run_locals : Bool → Lend → ℕ × ℕ × ℕ → Fml
  run_locals true x e =
      fsep (fsep (fat full_share (run_slice N) e.0 0 (mut_val x.run)) (fdies (run_slice N) e.0))
      (fsep (fsep (fat full_share (load_slice N') e.1 0 (val x.load)) (fdies (load_slice N') e.1))
      (fsep (fat full_share (set_slice N'') e.2 0 (val x.set)) (fdies (set_slice N'') e.2)))
  run_locals false x e = ftrue

  -- the run: whole, or lent for good and left as zs
  abbrev pub run_is : Bool → Lend → List ℕ → Fml
  run_is true x zs = (MutSlice (named 1) x.κ' (UInt N)).own_val x.run (mut_val x.run ∷ [])
  run_is false x zs = gave (UInt N) x.κ' x.run zs

  -- what is owned of them
  abbrev pub run_owns : Bool → Bool → Lend → List ℕ → Fml
  run_owns true b x zs =
      fsep (run_is b x zs) (fsep ((ShrSlice (named 2) x.κ'' (UInt N')).own_val x.load (val x.load ∷ [])) (fsep ((ShrSlice (named 3) x.κ''' (UInt N'')).own_val x.set (val x.set ∷ []))
      (fsep (flft x.κ' x.q') (fsep (flft x.κ'' x.q'') (flft x.κ''' x.q''')))))
  run_owns false b x zs = ftrue

  run_at : (rs : Bool) (e : ℕ × ℕ × ℕ) (E : Locals) → Holds rs → get_or (run_env rs e ++ E) 0 no_local ≡ (run_slice N, e.0)
  run_at true e E h = refl
  run_at false e E h = absurd h

  load_at : (rs : Bool) (e : ℕ × ℕ × ℕ) (E : Locals) → Holds rs → get_or (run_env rs e ++ E) 1 no_local ≡ (load_slice N', e.1)
  load_at true e E h = refl
  load_at false e E h = absurd h

  set_at : (rs : Bool) (e : ℕ × ℕ × ℕ) (E : Locals) → Holds rs → get_or (run_env rs e ++ E) 2 no_local ≡ (set_slice N'', e.2)
  set_at true e E h = refl
  set_at false e E h = absurd h

  past-runs : (rs : Bool) (e : ℕ × ℕ × ℕ) (a b : Ty × ℕ) (E : Locals) (j : ℕ) → get_or (a ∷ b ∷ (run_env rs e ++ E)) (beyond rs j) no_local ≡ get_or E j no_local
  past-runs true e a b E j = refl
  past-runs false e a b E j = refl

  spots-past : (rs : Bool) (e : ℕ × ℕ × ℕ) (a b : Ty × ℕ) (Vs : List Datum) (bs : Blocks Vs) (tail : Locals) → Spots Vs bs (a ∷ b ∷ (run_env rs e ++ (env_of Vs bs ++ tail))) (first rs)
  spots-past true e a b Vs bs tail = spots-next Vs bs _ 4 a (spots-next Vs bs _ 3 b (spots-next Vs bs _ 2 (run_slice N, e.0) (spots-next Vs bs _ 1 (load_slice N', e.1) (spots-next Vs bs _ 0 (set_slice N'', e.2) (spots-here Vs bs tail)))))
  spots-past false e a b Vs bs tail = spots-next Vs bs _ 1 a (spots-next Vs bs _ 0 b (spots-here Vs bs tail))

  module _ {M : Type 1} {𝓤 : Ura M} (𝓛 : Logic 𝓤) where
    opens-locals : (rs : Bool) (x : Lend) (e : ℕ × ℕ × ℕ) → Holds rs → ent 𝓤 (sem 𝓛 (run_locals rs x e)) (sem 𝓛 (run_locals true x e))
    opens-locals true x e h = id⊢ 𝓤 _
    opens-locals false x e h = absurd h

    closes-locals : (rs : Bool) (x : Lend) (e : ℕ × ℕ × ℕ) → Holds rs → ent 𝓤 (sem 𝓛 (run_locals true x e)) (sem 𝓛 (run_locals rs x e))
    closes-locals true x e h = id⊢ 𝓤 _
    closes-locals false x e h = absurd h

    opens-runs : (rs b : Bool) (x : Lend) (zs : List ℕ) → Holds rs → ent 𝓤 (sem 𝓛 (run_owns rs b x zs)) (sem 𝓛 (run_owns true b x zs))
    opens-runs true b x zs h = id⊢ 𝓤 _
    opens-runs false b x zs h = absurd h

    closes-runs : (rs b : Bool) (x : Lend) (zs : List ℕ) → Holds rs → ent 𝓤 (sem 𝓛 (run_owns true b x zs)) (sem 𝓛 (run_owns rs b x zs))
    closes-runs true b x zs h = id⊢ 𝓤 _
    closes-runs false b x zs h = absurd h

  module _ {M : Type 1} {𝓤 : Ura M} {𝓛 : Logic 𝓤} {K : Type 0} where
    open 𝓛 use {H}

    free-runs : K → (rs : Bool) (x : Lend) (e : ℕ × ℕ × ℕ) {Γ : List (Item 𝓤)} {E : Env 𝓤 H} {g : Goal 𝓤 H} → Step K 𝓛 Γ (frees E g) (‵ (run_locals rs x e) ∷ Γ) (frees (run_env rs e ++ E) g)
    free-runs t true x e = step (λ s. fsplit t $ fsplit t $ forget t 0 refl $ free1 t $ fsplit t $ fsplit t $ forget t 0 refl $ free1 t $ fsplit t $ forget t 0 refl $ free1 t $ s)
    free-runs t false x e = step (λ s. drop t $ s)

module _ (𝓢 : Shape) (rs : Bool) (Vs : List Datum) where
  pub data Prog : ℕ → ℕ → Bool → Type 1 where
    answer : {m i : ℕ} (g : Callee) (is : List ℕ) → Knowns Vs m is → (Dens (arg_ds Vs is) → 𝓢.An.D → Type 0) → Prog m i false
    finish : {m i : ℕ} (x : 𝓢.An.D) → shadow (𝓢.An.own x (vunit ∷ [])) → Prog m i false
    let_be : {m i : ℕ} {b : Bool} (f : Callee) (is : List ℕ) → Knowns Vs m is → Vacant Vs m → (a : Ask (Dens (arg_ds Vs is))) (gives : Dens (arg_ds Vs is) → (datum_at Vs m).D → Type 0) → Prog (suc m) i b → Prog m i b
    let_len : {m i : ℕ} {b : Bool} → Holds 𝓢.len → (f : Callee) (is : List ℕ) → Knowns Vs m is → Vacant Vs m → (a : Ask (ℕ × Dens (arg_ds Vs is))) (gives : ℕ → Dens (arg_ds Vs is) → (datum_at Vs m).D → Type 0) → Prog (suc m) i b → Prog m i b
    onto : {m i : ℕ} {b : Bool} → Holds 𝓢.unit → (g : Callee) (is : List ℕ) → Knowns Vs m is → Here 𝓢.lends i → (Dens (arg_ds Vs is) → ℕ → Type 0) → (Dens (arg_ds Vs is) → List 𝓢.R.D → List 𝓢.R.D) → Prog m (suc i) b → Prog m i b
    let_list : {m i : ℕ} {b : Bool} (f : Callee) (is : List ℕ) → Knowns Vs m is → Vacant Vs m → Here 𝓢.lends i → (List 𝓢.R.D → Dens (arg_ds Vs is) → List 𝓢.R.D → (datum_at Vs m).D → Type 0) → Prog (suc m) (suc i) b → Prog m i b
    let_asked : {m i : ℕ} {b : Bool} (f : Callee) (is : List ℕ) → Knowns Vs m is → Vacant Vs m → Here 𝓢.lends i → (a : Ask (ℕ × Dens (arg_ds Vs is))) → (List 𝓢.R.D → Dens (arg_ds Vs is) → List 𝓢.R.D → (datum_at Vs m).D → Type 0) → Prog (suc m) (suc i) b → Prog m i b
    let_runs : {m i : ℕ} → Holds rs → (f : Callee) (is : List ℕ) → Knowns Vs m is → Vacant Vs m → Both 𝓢.lends i
        → (List 𝓢.R.D → List ℕ → List ℕ → List ℕ → Dens (arg_ds Vs is) → List 𝓢.R.D → List ℕ → (datum_at Vs m).D → Type 0) → Prog (suc m) (suc i) false → Prog m i true

  -- a local past the plain ones: the count, (), and those of the i-th call
  abbrev tmp : ℕ → ℕ
  tmp j = beyond rs (past Vs j)

  abbrev unit_no : ℕ
  unit_no = tmp (behind 𝓢.len 0)

  abbrev lent_no : ℕ → ℕ
  lent_no k = tmp (behind 𝓢.len (behind 𝓢.unit k))

  -- the list, and the run, lent again
  abbrev lend_list : ℕ → Body → Body
  lend_list i rest =
      seq (assign (place (lent_no (begins 𝓢.lends i)) []) (addr_of (place 1 (field 0 ∷ deref 𝓢.R.ty ∷ []))))
      (seq (assign (place (lent_no (suc (begins 𝓢.lends i))) []) (aggregate (copy (place (lent_no (begins 𝓢.lends i)) []) ∷ copy (place 1 (field 1 ∷ [])) ∷ []))) rest)

  abbrev lend_run : ℕ → Body → Body
  lend_run i rest =
      seq (assign (place (lent_no (suc (suc (begins 𝓢.lends i)))) []) (addr_of (place 2 (field 0 ∷ deref (ty_int 𝓢.N) ∷ []))))
      (seq (assign (place (lent_no (suc (suc (suc (begins 𝓢.lends i))))) []) (aggregate (copy (place (lent_no (suc (suc (begins 𝓢.lends i)))) []) ∷ copy (place 2 (field 1 ∷ [])) ∷ []))) rest)

  abbrev pub compile : (m i : ℕ) (b : Bool) → Prog m i b → Body
  compile m i b (answer g is ks gives) = seq (call g (arg_copies (first rs) is) (place 0 [])) return
  compile m i b (finish x s) = seq (assign (place 0 []) (rv_opd opd_unit)) return
  compile m i b (let_be f is ks v a gives p) = seq (call f (arg_copies (first rs) is) (place (numbered (first rs) m) [])) (compile (suc m) i b p)
  compile m i b (let_len h f is ks v a gives p) =
      seq (assign (place (tmp 0) []) (rv_opd (copy (place 1 (field 1 ∷ []))))) (seq (call f (copy (place (tmp 0) []) ∷ arg_copies (first rs) is) (place (numbered (first rs) m) [])) (compile (suc m) i b p))
  compile m i b (onto h g is ks w a writes p) = lend_list i (seq (call g (copy (place (lent_no (suc (begins 𝓢.lends i))) []) ∷ arg_copies (first rs) is) (place unit_no [])) (compile m (suc i) b p))
  compile m i b (let_list f is ks v h gives p) = lend_list i (seq (call f (copy (place (lent_no (suc (begins 𝓢.lends i))) []) ∷ arg_copies (first rs) is) (place (numbered (first rs) m) [])) (compile (suc m) (suc i) b p))
  compile m i b (let_asked f is ks v h a gives p) = lend_list i (seq (call f (copy (place (lent_no (suc (begins 𝓢.lends i))) []) ∷ arg_copies (first rs) is) (place (numbered (first rs) m) [])) (compile (suc m) (suc i) b p))
  compile m i b (let_runs h f is ks v w gives p) =
      lend_list i (lend_run i (seq (call f (copy (place (lent_no (suc (begins 𝓢.lends i))) []) ∷ copy (place (lent_no (suc (suc (suc (begins 𝓢.lends i))))) []) ∷ copy (place 3 []) ∷ copy (place 4 []) ∷ arg_copies (first rs) is) (place (numbered (first rs) m) []))
      (compile (suc m) (suc i) false p)))

  -- in a list of n, with load and set
  abbrev pub Chain : ℕ → List ℕ → List ℕ → (List 𝓢.R.D → List ℕ → 𝓢.An.D → Type 0) → (m i : ℕ) (b : Bool) → Prog m i b → Pre Vs m → List 𝓢.R.D → List ℕ → Type 0
  Chain n ls ns Done m i b (answer g is ks gives) d l z = (r : 𝓢.An.D) → gives (arg_vals Vs m d is ks) r → Done l z r
  Chain n ls ns Done m i b (finish x s) d l z = Done l z x
  Chain n ls ns Done m i b (let_be f is ks v a gives p) d l z = Asked a (arg_vals Vs m d is ks) × ((r : (datum_at Vs m).D) → gives (arg_vals Vs m d is ks) r → Chain n ls ns Done (suc m) i b p (with_next Vs m d r) l z)
  Chain n ls ns Done m i b (let_len h f is ks v a gives p) d l z = Asked a (n, arg_vals Vs m d is ks) × ((r : (datum_at Vs m).D) → gives n (arg_vals Vs m d is ks) r → Chain n ls ns Done (suc m) i b p (with_next Vs m d r) l z)
  Chain n ls ns Done m i b (onto h g is ks w a writes p) d l z = a (arg_vals Vs m d is ks) n × Chain n ls ns Done m (suc i) b p d (writes (arg_vals Vs m d is ks) l) z
  Chain n ls ns Done m i b (let_list f is ks v h gives p) d l z = (r : (datum_at Vs m).D) (l' : List 𝓢.R.D) → gives l (arg_vals Vs m d is ks) l' r → Chain n ls ns Done (suc m) (suc i) b p (with_next Vs m d r) l' z
  Chain n ls ns Done m i b (let_asked f is ks v h a gives p) d l z = Asked a (n, arg_vals Vs m d is ks) × ((r : (datum_at Vs m).D) (l' : List 𝓢.R.D) → gives l (arg_vals Vs m d is ks) l' r → Chain n ls ns Done (suc m) (suc i) b p (with_next Vs m d r) l' z)
  Chain n ls ns Done m i b (let_runs h f is ks v w gives p) d l z =
      (r : (datum_at Vs m).D) (l' : List 𝓢.R.D) (z' : List ℕ) → gives l z ls ns (arg_vals Vs m d is ks) l' z' r → Chain n ls ns Done (suc m) (suc i) false p (with_next Vs m d r) l' z'

  -- the callees' contracts
  module _ {M : Type 1} {𝓤 : Ura M} (𝓛 : Logic 𝓤) where
    open 𝓛 use {H}

    abbrev pub plain_ended : List Datum → Datum → Ended
    plain_ended Ds D = end (slots 0 Ds) (plain (λ _. row D)) (kepts 0 Ds)

    abbrev pub plain_clauses : (Ds : List Datum) (D : Datum) → Ask (Dens Ds) → (Dens Ds → D.D → Type 0) → Clauses 𝓤 (plain_ended Ds D)
    plain_clauses Ds D a gives κs x = record { ghost = Unit {0}; requires = λ _. asked 𝓤 a (up 0 tt Ds x); ensures = λ _ r e. fact 𝓤 (gives (up 0 tt Ds x) r) }

    abbrev pub plain_contract : (Ds : List Datum) (D : Datum) → Ask (Dens Ds) → (Dens Ds → D.D → Type 0) → Contract 𝓤
    plain_contract Ds D a gives = triple_of 𝓛 (plain_ended Ds D).signature (closing 𝓛 (plain_ended Ds D) (plain_clauses Ds D a gives))

    abbrev pub len_ended : List Datum → Datum → Ended
    len_ended Ds D = end (plain (λ _. usize) ∷ slots 0 Ds) (plain (λ _. row D)) (yes, kepts 0 Ds)

    abbrev pub len_clauses : (Ds : List Datum) (D : Datum) → Ask (ℕ × Dens Ds) → (ℕ → Dens Ds → D.D → Type 0) → Clauses 𝓤 (len_ended Ds D)
    len_clauses Ds D a gives κs x = record { ghost = Unit {0}; requires = λ _. asked 𝓤 a (x.0, up 0 tt Ds x.1); ensures = λ _ r e. fact 𝓤 (gives x.0 (up 0 tt Ds x.1) r) }

    abbrev pub len_contract : (Ds : List Datum) (D : Datum) → Ask (ℕ × Dens Ds) → (ℕ → Dens Ds → D.D → Type 0) → Contract 𝓤
    len_contract Ds D a gives = triple_of 𝓛 (len_ended Ds D).signature (closing 𝓛 (len_ended Ds D) (len_clauses Ds D a gives))

    abbrev pub onto_ended : List Datum → Ended
    onto_ended Ds = lend (row 𝓢.R) (slots 1 Ds) (plain (λ _. Nothing)) (kepts 1 Ds)

    abbrev pub onto_clauses : (Ds : List Datum) → (Dens Ds → ℕ → Type 0) → (Dens Ds → List 𝓢.R.D → List 𝓢.R.D) → Clauses 𝓤 (onto_ended Ds)
    onto_clauses Ds a writes κs x = record { ghost = Unit {0}; requires = λ _. fact 𝓤 (a (up 1 κs Ds x.1) (length x.0.now)); ensures = λ _ r e. fact 𝓤 (e.0.now ≡ writes (up 1 κs Ds x.1) x.0.now) }

    abbrev pub onto_contract : (Ds : List Datum) → (Dens Ds → ℕ → Type 0) → (Dens Ds → List 𝓢.R.D → List 𝓢.R.D) → Contract 𝓤
    onto_contract Ds a writes = triple_of 𝓛 (onto_ended Ds).signature (closing 𝓛 (onto_ended Ds) (onto_clauses Ds a writes))

    abbrev pub list_ended : List Datum → Datum → Ended
    list_ended Ds D = lend (row 𝓢.R) (slots 1 Ds) (plain (λ _. row D)) (kepts 1 Ds)

    abbrev pub list_clauses : (Ds : List Datum) (D : Datum) → Ask (ℕ × Dens Ds) → (List 𝓢.R.D → Dens Ds → List 𝓢.R.D → D.D → Type 0) → Clauses 𝓤 (list_ended Ds D)
    list_clauses Ds D a gives κs x = record { ghost = Unit {0}; requires = λ _. asked 𝓤 a (length x.0.now, up 1 κs Ds x.1); ensures = λ _ r e. fact 𝓤 (gives x.0.now (up 1 κs Ds x.1) e.0.now r) }

    abbrev pub list_contract : (Ds : List Datum) (D : Datum) → Ask (ℕ × Dens Ds) → (List 𝓢.R.D → Dens Ds → List 𝓢.R.D → D.D → Type 0) → Contract 𝓤
    list_contract Ds D a gives = triple_of 𝓛 (list_ended Ds D).signature (closing 𝓛 (list_ended Ds D) (list_clauses Ds D a gives))

    abbrev pub runs_ended : List Datum → Datum → Ended
    runs_ended Ds D = mend (row 𝓢.R) (UInt 𝓢.N) (UInt 𝓢.N') (UInt 𝓢.N'') (slots 4 Ds) (plain (λ _. row D)) (kepts 4 Ds)

    abbrev pub runs_clauses : (Ds : List Datum) (D : Datum) → (List 𝓢.R.D → List ℕ → List ℕ → List ℕ → Dens Ds → List 𝓢.R.D → List ℕ → D.D → Type 0) → Clauses 𝓤 (runs_ended Ds D)
    runs_clauses Ds D gives κs x =
        record { ghost = Unit {0}; requires = λ _. emp 𝓤; ensures = λ _ r e. fact 𝓤 (gives x.0.now x.1.0.now x.1.1.0.now x.1.1.1.0.now (up 4 κs Ds x.1.1.1.1) e.0.now e.1.0.now r) }

    abbrev pub runs_contract : (Ds : List Datum) (D : Datum) → (List 𝓢.R.D → List ℕ → List ℕ → List ℕ → Dens Ds → List 𝓢.R.D → List ℕ → D.D → Type 0) → Contract 𝓤
    runs_contract Ds D gives = triple_of 𝓛 (runs_ended Ds D).signature (closing 𝓛 (runs_ended Ds D) (runs_clauses Ds D gives))

    abbrev pub Meeting : Tables 𝓤 H → (m i : ℕ) (b : Bool) → Prog m i b → Type 1
    Meeting 𝓣 m i b (answer g is ks gives) = Triple 𝓤 (𝓣.C g) (plain_contract (arg_ds Vs is) 𝓢.An free gives)
    Meeting 𝓣 m i b (finish x s) = Unit {1}
    Meeting 𝓣 m i b (let_be f is ks v a gives p) = Triple 𝓤 (𝓣.C f) (plain_contract (arg_ds Vs is) (datum_at Vs m) a gives) × Meeting 𝓣 (suc m) i b p
    Meeting 𝓣 m i b (let_len h f is ks v a gives p) = Triple 𝓤 (𝓣.C f) (len_contract (arg_ds Vs is) (datum_at Vs m) a gives) × Meeting 𝓣 (suc m) i b p
    Meeting 𝓣 m i b (onto h g is ks w a writes p) = Triple 𝓤 (𝓣.C g) (onto_contract (arg_ds Vs is) a writes) × Meeting 𝓣 m (suc i) b p
    Meeting 𝓣 m i b (let_list f is ks v h gives p) = Triple 𝓤 (𝓣.C f) (list_contract (arg_ds Vs is) (datum_at Vs m) free gives) × Meeting 𝓣 (suc m) (suc i) b p
    Meeting 𝓣 m i b (let_asked f is ks v h a gives p) = Triple 𝓤 (𝓣.C f) (list_contract (arg_ds Vs is) (datum_at Vs m) a gives) × Meeting 𝓣 (suc m) (suc i) b p
    Meeting 𝓣 m i b (let_runs h f is ks v w gives p) = Triple 𝓤 (𝓣.C f) (runs_contract (arg_ds Vs is) (datum_at Vs m) gives) × Meeting 𝓣 (suc m) (suc i) false p

  -- ---- the walk
  module _ {M : Type 1} {𝓤 : Ura M} (𝓛 : Logic 𝓤) (𝓣 : Tables 𝓤 𝓛.H) (κ : Lft) (q : Share) (b o : ℕ) (γ : GName) (ys : List 𝓢.R.D) (room : Room (row 𝓢.R) (length ys)) (x : Lend) (run_room : Holds rs → Room (UInt 𝓢.N) (length x.run.now))
      (Post : Val → SProp 𝓤) (Done : List 𝓢.R.D → List ℕ → 𝓢.An.D → Type 0)
      (exits : (l : List 𝓢.R.D) (z : List ℕ) (r : 𝓢.An.D) (w : Val) → length l ≡ length ys → length z ≡ length x.run.now → Is (row 𝓢.An) r (w ∷ []) → Done l z r
      → ent 𝓤 (⋆ 𝓛 (‵ (run_owns 𝓢.N 𝓢.N' 𝓢.N'' rs false x z) ∷ ‵ (fobs γ ((coded_holeys (row 𝓢.R)).code (heres (row 𝓢.R) l))) ∷ ‵ (fbor κ (Held (row 𝓢.R) (length l) b o γ)) ∷ ‵ (flft κ q) ∷ [])) (Post w))
      (l₀ l₁ : ℕ) (es : ℕ × ℕ × ℕ) (bs : Blocks Vs) (w u : ℕ) (ps : Pairs 𝓢.lends) where
    open 𝓛 use {H}

    abbrev R : Datum
    R = 𝓢.R

    abbrev An : Datum
    An = 𝓢.An

    abbrev tail : Locals
    tail = may_env 𝓢.len word w ++ (may_env 𝓢.unit ty_unit u ++ pair_env 𝓢.R 𝓢.N 𝓢.lends ps)

    abbrev E : Env 𝓤 H
    E = (𝓢.An.ty, l₀) ∷ (slice 𝓢.R, l₁) ∷ (run_env 𝓢.N 𝓢.N' 𝓢.N'' rs es ++ (env_of Vs bs ++ tail))

    spots : Spots Vs bs E (first rs)
    spots = spots-past 𝓢.N 𝓢.N' 𝓢.N'' rs es (𝓢.An.ty, l₀) (slice 𝓢.R, l₁) Vs bs tail

    at-tmp : (j : ℕ) → get_or E (tmp j) no_local ≡ get_or tail j no_local
    at-tmp j = past-runs 𝓢.N 𝓢.N' 𝓢.N'' rs es (𝓢.An.ty, l₀) (slice 𝓢.R, l₁) (env_of Vs bs ++ tail) (past Vs j) ∙ past_is Vs bs tail j

    at-word : Holds 𝓢.len → get_or E (tmp 0) no_local ≡ (word, w)
    at-word h = at-tmp 0 ∙ may-spot 𝓢.len word w _ h

    at_unit : Holds 𝓢.unit → get_or E unit_no no_local ≡ (ty_unit, u)
    at_unit h = at-tmp (behind 𝓢.len 0) ∙ behind-spot 𝓢.len word w _ 0 ∙ may-spot 𝓢.unit ty_unit u _ h

    at-pairs : (k : ℕ) → get_or E (lent_no k) no_local ≡ get_or (pair_env 𝓢.R 𝓢.N 𝓢.lends ps) k no_local
    at-pairs k = at-tmp (behind 𝓢.len (behind 𝓢.unit k)) ∙ behind-spot 𝓢.len word w _ (behind 𝓢.unit k) ∙ behind-spot 𝓢.unit ty_unit u _ k

    at_ref : (i : ℕ) → Here 𝓢.lends i → get_or E (lent_no (begins 𝓢.lends i)) no_local ≡ (lent_ref 𝓢.R, ref_block 𝓢.lends ps i)
    at_ref i h = at-pairs (begins 𝓢.lends i) ∙ ref-spot 𝓢.R 𝓢.N 𝓢.lends ps i h

    at-lent : (i : ℕ) → Here 𝓢.lends i → get_or E (lent_no (suc (begins 𝓢.lends i))) no_local ≡ (lent 𝓢.R, lent_block 𝓢.lends ps i)
    at-lent i h = at-pairs (suc (begins 𝓢.lends i)) ∙ slice-spot 𝓢.R 𝓢.N 𝓢.lends ps i h

    at-run-ref : (i : ℕ) → Both 𝓢.lends i → get_or E (lent_no (suc (suc (begins 𝓢.lends i)))) no_local ≡ (run_ref 𝓢.N, run_ref_block 𝓢.lends ps i)
    at-run-ref i h = at-pairs (suc (suc (begins 𝓢.lends i))) ∙ run-ref-spot 𝓢.R 𝓢.N 𝓢.lends ps i h

    at-run-lent : (i : ℕ) → Both 𝓢.lends i → get_or E (lent_no (suc (suc (suc (begins 𝓢.lends i))))) no_local ≡ (run_lent 𝓢.N, run_lent_block 𝓢.lends ps i)
    at-run-lent i h = at-pairs (suc (suc (suc (begins 𝓢.lends i)))) ∙ run-slice-spot 𝓢.R 𝓢.N 𝓢.lends ps i h

    at-run : Holds rs → get_or E 2 no_local ≡ (run_slice 𝓢.N, es.0)
    at-run h = run_at 𝓢.N 𝓢.N' 𝓢.N'' rs es (env_of Vs bs ++ tail) h

    at_load : Holds rs → get_or E 3 no_local ≡ (load_slice 𝓢.N', es.1)
    at_load h = load_at 𝓢.N 𝓢.N' 𝓢.N'' rs es (env_of Vs bs ++ tail) h

    at_set : Holds rs → get_or E 4 no_local ≡ (set_slice 𝓢.N'', es.2)
    at_set h = set_at 𝓢.N 𝓢.N' 𝓢.N'' rs es (env_of Vs bs ++ tail) h

    abbrev s : Val
    s = slice_val (b, o) (length ys)

    -- what is kept between two statements
    abbrev items : (l : List 𝓢.R.D) (m : ℕ) → Pre Vs m → Bool → List ℕ → List (Item 𝓤)
    items l m d left z = ‵ (cells-row (row R) full_share l b o) ∷ ‵ (fobor κ q (Held (row R) (length ys) b o γ)) ∷ ‵ (fobs γ ((coded_holeys (row R)).code (heres (row R) ys))) ∷ ‵ (fauth γ ((coded_holeys (row R)).code (heres (row R) ys)))
        ∷ ‵ (hold Vs bs m d) ∷ ‵ (spare R 𝓢.N 𝓢.lends ps) ∷ ‵ (may_item 𝓢.len word w) ∷ ‵ (may_item 𝓢.unit ty_unit u) ∷ ‵ (fat full_share (slice R) l₁ 0 s) ∷ ‵ (fdies (slice R) l₁) ∷ ‵ (froom An.ty l₀ 0) ∷ ‵ (fdies An.ty l₀)
        ∷ ‵ (run_locals 𝓢.N 𝓢.N' 𝓢.N'' rs x es) ∷ ‵ (run_owns 𝓢.N 𝓢.N' 𝓢.N'' rs left x z) ∷ []

    ended_at : {K : Type 0} → K → (m : ℕ) (d : Pre Vs m) (l : List 𝓢.R.D) (z : List ℕ) → length l ≡ length ys → length z ≡ length x.run.now → (r : 𝓢.An.D) (v : Val) → Is (row An) r (v ∷ []) → Done l z r
        → Seq K 𝓛 (‵ (cells-row (row R) full_share l b o) ∷ ‵ (fobor κ q (Held (row R) (length ys) b o γ)) ∷ ‵ (fobs γ ((coded_holeys (row R)).code (heres (row R) ys))) ∷ ‵ (fauth γ ((coded_holeys (row R)).code (heres (row R) ys)))
        ∷ ‵ (hold Vs bs m d) ∷ ‵ (spare R 𝓢.N 𝓢.lends ps) ∷ ‵ (may_item 𝓢.len word w) ∷ ‵ (may_item 𝓢.unit ty_unit u) ∷ ‵ (fat full_share (slice R) l₁ 0 s) ∷ ‵ (fdies (slice R) l₁) ∷ ‵ (fat full_share An.ty l₀ 0 v) ∷ ‵ (fdies An.ty l₀)
        ∷ ‵ (run_locals 𝓢.N 𝓢.N' 𝓢.N'' rs x es) ∷ ‵ (run_owns 𝓢.N 𝓢.N' 𝓢.N'' rs false x z) ∷ []) (runs 𝓣.C 𝓣.Λ E return (at_ret E Post))
    ended_at t m d l z same same' r v is dn =
        closes_slice t tt (row R) ys l same b o $
        -- [obs; the borrow; the token; the plain ones; what is lent; the count; (); list; …; the result; …; the runs' locals; the runs]
        returns t (look t 9 refl) $ forget t 7 refl $ forget t 9 refl $ move t (9 ∷ 10 ∷ []) $ free1 t $ move t (7 ∷ 8 ∷ []) $ free1 t $ move t (7 ∷ []) $ free-runs 𝓢.N 𝓢.N' 𝓢.N'' t rs x es $
        move t (3 ∷ []) $ free-hold t Vs bs m d $ move t (4 ∷ []) $ free-may t 𝓢.len word w $ move t (4 ∷ []) $ free-may t 𝓢.unit ty_unit u $ move t (3 ∷ []) $ free-pairs R 𝓢.N t 𝓢.lends ps $ free0 t $
        move t (3 ∷ []) $ by t (exits l z r v same same' is dn)

    -- a let: the callee's result is put into its local
    lands-in : {K : Type 0} → K → (m : ℕ) (d : Pre Vs m) (l : List 𝓢.R.D) (left : Bool) (z : List ℕ) (vac : Vacant Vs m) (r : (datum_at Vs m).D) (v : Val) → Is (row (datum_at Vs m)) r (v ∷ []) → (rest : Body)
        → Seq K 𝓛 (items l (suc m) (with_next Vs m d r) left z) (runs 𝓣.C 𝓣.Λ E rest (at_ret E Post)) → Seq K 𝓛 (items l m d left z) (lands 𝓣.C 𝓣.Λ E (place (numbered (first rs) m) []) v rest (at_ret E Post))
    lands-in t m d l left z vac r v is rest k =
        move t (4 ∷ []) $ use1 𝓛 (‵ (froom (datum_at Vs m).ty (block_at Vs bs m) 0) ⊛ ‵ (but Vs bs m d)) (out 𝓛 Vs bs m d vac) $ split t $
        land t (from_at t (spot-at Vs bs E m (first rs) vac spots) (stop t)) (init t 0 refl ((datum_at Vs m).typed 𝓛 r _ is)) $
        rewrite t 0 (λ (x : Val). ‵ (fat full_share (datum_at Vs m).ty (block_at Vs bs m) 0 x)) (ap only ((datum_at Vs m).tells r (v ∷ []) is)) refl $
        use2 𝓛 (‵ (hold Vs bs (suc m) (with_next Vs m d r))) (back 𝓛 Vs bs m d r vac) $ move t (1 ∷ 2 ∷ 3 ∷ 4 ∷ 0 ∷ []) $ k

    sound-with : (m : ℕ) (d : Pre Vs m) (r : (datum_at Vs m).D) (v : Val) → Sound Vs m d → Is (row (datum_at Vs m)) r (v ∷ []) → Sound Vs (suc m) (with_next Vs m d r)
    sound-with m d r v sd is = sound-next Vs m d r sd (subst (λ (us : List Val). shadow ((datum_at Vs m).own r us)) ((datum_at Vs m).tells r (v ∷ []) is) is)

    does-answer : {K : Type 0} → K → (m : ℕ) (g : Callee) (is : List ℕ) (ks : Knowns Vs m is) (gives : Dens (arg_ds Vs is) → 𝓢.An.D → Type 0) (d : Pre Vs m) (l : List 𝓢.R.D) (z : List ℕ) → length l ≡ length ys → length z ≡ length x.run.now → Sound Vs m d
        → Triple 𝓤 (𝓣.C g) (plain_contract 𝓛 (arg_ds Vs is) 𝓢.An free gives)
        → ((r : 𝓢.An.D) → gives (arg_vals Vs m d is ks) r → Done l z r) → Seq K 𝓛 (items l m d false z) (runs 𝓣.C 𝓣.Λ E (seq (call g (arg_copies (first rs) is) (place 0 [])) return) (at_ret E Post))
    does-answer t m g is ks gives d l z same same' sd met ch =
        let Ds : List Datum = arg_ds Vs is in
        let av : Dens (arg_ds Vs is) = arg_vals Vs m d is ks in
        calls-plain t (fm_of 𝓤 H 𝓛.laws 𝓣) (slots 0 Ds) (plain (λ _. row 𝓢.An)) (kepts 0 Ds) (plain_clauses 𝓛 Ds 𝓢.An free gives) met
        (makess 0 tt 𝓛 Ds) (down 0 tt Ds av) (vdown 0 tt Ds av) (are-down 0 tt Ds av (arg-facts Vs m d is ks sd)) tt (id⊢ 𝓤 (emp 𝓤))
        (λ r. gives av r) (λ r ws. subst (λ (x : Dens Ds). ent 𝓤 (fact 𝓤 (gives x r)) (fact 𝓤 (gives av r))) (sym (up-down 0 tt Ds av)) (id⊢ 𝓤 _))
        (recast (sym (flat-down 0 tt Ds av)) (opds-held t 5 (first rs) Vs bs m d is ks refl spots)) (λ r v is-r e.
        land t (from t (stop t)) (init t 10 refl (𝓢.An.typed 𝓛 r _ is-r)) $ ended_at t m d l z same same' r v is-r (ch r e))

    does-finish : {K : Type 0} → K → (m : ℕ) (y : 𝓢.An.D) → shadow (𝓢.An.own y (vunit ∷ [])) → (d : Pre Vs m) (l : List 𝓢.R.D) (z : List ℕ) → length l ≡ length ys → length z ≡ length x.run.now → Done l z y
        → Seq K 𝓛 (items l m d false z) (runs 𝓣.C 𝓣.Λ E (seq (assign (place 0 []) (rv_opd opd_unit)) return) (at_ret E Post))
    does-finish t m y sh d l z same same' ch =
        assigns t (of_opd t (unit_lit t)) (from t (stop t)) (init t 10 refl (𝓢.An.typed 𝓛 y vunit sh)) $ ended_at t m d l z same same' y vunit sh ch

    does-let : {K : Type 0} → K → (m : ℕ) (f : Callee) (is : List ℕ) (ks : Knowns Vs m is) (vac : Vacant Vs m) (a : Ask (Dens (arg_ds Vs is))) (gives : Dens (arg_ds Vs is) → (datum_at Vs m).D → Type 0) (rest : Body) (d : Pre Vs m) (l : List 𝓢.R.D) (left : Bool) (z : List ℕ) → Sound Vs m d
        → Triple 𝓤 (𝓣.C f) (plain_contract 𝓛 (arg_ds Vs is) (datum_at Vs m) a gives)
        → Asked a (arg_vals Vs m d is ks) → ((r : (datum_at Vs m).D) → gives (arg_vals Vs m d is ks) r → Sound Vs (suc m) (with_next Vs m d r) → Seq K 𝓛 (items l (suc m) (with_next Vs m d r) left z) (runs 𝓣.C 𝓣.Λ E rest (at_ret E Post)))
        → Seq K 𝓛 (items l m d left z) (runs 𝓣.C 𝓣.Λ E (seq (call f (arg_copies (first rs) is) (place (numbered (first rs) m) [])) rest) (at_ret E Post))
    does-let t m f is ks vac a gives rest d l left z sd met may k =
        let Ds : List Datum = arg_ds Vs is in
        let av : Dens (arg_ds Vs is) = arg_vals Vs m d is ks in
        calls-plain t (fm_of 𝓤 H 𝓛.laws 𝓣) (slots 0 Ds) (plain (λ _. row (datum_at Vs m))) (kepts 0 Ds) (plain_clauses 𝓛 Ds (datum_at Vs m) a gives) met
        (makess 0 tt 𝓛 Ds) (down 0 tt Ds av) (vdown 0 tt Ds av) (are-down 0 tt Ds av (arg-facts Vs m d is ks sd)) tt (given-it 𝓤 a _ (subst (Asked a) (sym (up-down 0 tt Ds av)) may))
        (λ r. gives av r) (λ r ws. subst (λ (x : Dens Ds). ent 𝓤 (fact 𝓤 (gives x r)) (fact 𝓤 (gives av r))) (sym (up-down 0 tt Ds av)) (id⊢ 𝓤 _))
        (recast (sym (flat-down 0 tt Ds av)) (opds-held t 5 (first rs) Vs bs m d is ks refl spots)) (λ r v is-r e.
        lands-in t m d l left z vac r v is-r rest (k r e (sound-with m d r v sd is-r)))

    does-len : {K : Type 0} → K → (m : ℕ) (h : Holds 𝓢.len) (f : Callee) (is : List ℕ) (ks : Knowns Vs m is) (vac : Vacant Vs m) (a : Ask (ℕ × Dens (arg_ds Vs is))) (gives : ℕ → Dens (arg_ds Vs is) → (datum_at Vs m).D → Type 0) (rest : Body) (d : Pre Vs m) (l : List 𝓢.R.D) (left : Bool) (z : List ℕ) → Sound Vs m d
        → Triple 𝓤 (𝓣.C f) (len_contract 𝓛 (arg_ds Vs is) (datum_at Vs m) a gives)
        → Asked a (length ys, arg_vals Vs m d is ks) → ((r : (datum_at Vs m).D) → gives (length ys) (arg_vals Vs m d is ks) r → Sound Vs (suc m) (with_next Vs m d r) → Seq K 𝓛 (items l (suc m) (with_next Vs m d r) left z) (runs 𝓣.C 𝓣.Λ E rest (at_ret E Post)))
        → Seq K 𝓛 (items l m d left z) (runs 𝓣.C 𝓣.Λ E (seq (assign (place (tmp 0) []) (rv_opd (copy (place 1 (field 1 ∷ []))))) (seq (call f (copy (place (tmp 0) []) ∷ arg_copies (first rs) is) (place (numbered (first rs) m) [])) rest)) (at_ret E Post))
    does-len t m h f is ks vac a gives rest d l left z sd met may k =
        let Ds : List Datum = arg_ds Vs is in
        let av : Dens (arg_ds Vs is) = arg_vals Vs m d is ks in
        let n : ℕ = length ys in
        move t (6 ∷ []) $ use1 𝓛 (‵ (froom word w 0) ⊛ ‵ (fdies word w)) (may-out 𝓛 𝓢.len word w h) $ split t $
        assigns t (of_opd t (load t (from t (fld t refl (stop t))) (look_in t 9 (sub t 1 refl (whole t))))) (from_at t (at-word h) (stop t)) (init t 0 refl (tt, record { fits = room.0 })) $
        calls-plain t (fm_of 𝓤 H 𝓛.laws 𝓣) (plain (λ _. usize) ∷ slots 0 Ds) (plain (λ _. row (datum_at Vs m))) (yes, kepts 0 Ds) (len_clauses 𝓛 Ds (datum_at Vs m) a gives) met
        (uint_Makes 𝓛 w64, makess 0 tt 𝓛 Ds) (n, down 0 tt Ds av) (vint w64 n ∷ [], vdown 0 tt Ds av) ((refl, room.0), are-down 0 tt Ds av (arg-facts Vs m d is ks sd)) tt (given-it 𝓤 a _ (subst (λ (x : Dens Ds). Asked a (n, x)) (sym (up-down 0 tt Ds av)) may))
        (λ r. gives n av r) (λ r ws. subst (λ (x : Dens Ds). ent 𝓤 (fact 𝓤 (gives n x r)) (fact 𝓤 (gives n av r))) (sym (up-down 0 tt Ds av)) (id⊢ 𝓤 _))
        (recast (ap (λ (vs : List Val). vint w64 n ∷ vs) (sym (flat-down 0 tt Ds av))) (and_then t (load t (from_at t (at-word h) (stop t)) (look t 1 refl)) (opds-held t 7 (first rs) Vs bs m d is ks refl spots))) (λ r v is-r e.
        forget t 0 refl $ use2 𝓛 (‵ (may_item 𝓢.len word w)) (may-back 𝓛 𝓢.len word w h) $ move t (1 ∷ 2 ∷ 3 ∷ 4 ∷ 5 ∷ 6 ∷ 0 ∷ []) $
        lands-in t m d l left z vac r v is-r rest (k r e (sound-with m d r v sd is-r)))

    does-onto : {K : Type 0} → K → (m i : ℕ) (un : Holds 𝓢.unit) (g : Callee) (is : List ℕ) (ks : Knowns Vs m is) (h : Here 𝓢.lends i) (a : Dens (arg_ds Vs is) → ℕ → Type 0) (writes : Dens (arg_ds Vs is) → List 𝓢.R.D → List 𝓢.R.D) (rest : Body) (d : Pre Vs m) (l : List 𝓢.R.D) (left : Bool) (z : List ℕ)
        → length l ≡ length ys → Sound Vs m d → Triple 𝓤 (𝓣.C g) (onto_contract 𝓛 (arg_ds Vs is) a writes)
        → a (arg_vals Vs m d is ks) (length ys) → (length (writes (arg_vals Vs m d is ks) l) ≡ length ys → Seq K 𝓛 (items (writes (arg_vals Vs m d is ks) l) m d left z) (runs 𝓣.C 𝓣.Λ E rest (at_ret E Post)))
        → Seq K 𝓛 (items l m d left z) (runs 𝓣.C 𝓣.Λ E (lend_list i (seq (call g (copy (place (lent_no (suc (begins 𝓢.lends i))) []) ∷ arg_copies (first rs) is) (place unit_no [])) rest)) (at_ret E Post))
    does-onto t m i un g is ks h a writes rest d l left z same sd met may k =
        let Ds : List Datum = arg_ds Vs is in
        let av : Dens (arg_ds Vs is) = arg_vals Vs m d is ks in
        move t (7 ∷ []) $ use1 𝓛 (‵ (froom ty_unit u 0) ⊛ ‵ (fdies ty_unit u)) (may-out 𝓛 𝓢.unit ty_unit u un) $ split t $ move t (2 ∷ 3 ∷ 4 ∷ 5 ∷ 6 ∷ 7 ∷ 8 ∷ 0 ∷ 1 ∷ []) $
        move t (5 ∷ []) $ use1 𝓛 (‵ (list_pair R 𝓢.N 𝓢.lends ps i) ⊛ ‵ (without R 𝓢.N 𝓢.lends ps i)) (pair-out R 𝓢.N 𝓛 𝓢.lends ps i h) $ split t $ fsplit t $ fsplit t $ move t (2 ∷ []) $ fsplit t $
        -- [what is lent; …; its pointer; …; the other pairs; row; the open borrow; obs; auth; the plain ones; the count; (); …; list; …; the result; …]
        assigns t (addr t (from t (fld t refl (hop t (look_in t 13 (sub t 0 refl (whole t))) (stop t))))) (from_at t (at_ref i h) (stop t)) (init t 2 refl (tt, tt)) $
        assigns t (agg t (and_then t (load t (from_at t (at_ref i h) (stop t)) (look t 2 refl)) (and_then t (load t (from t (fld t refl (stop t))) (look_in t 13 (sub t 1 refl (whole t)))) (no_more t)))) (from_at t (at-lent i h) (stop t)) (init t 0 refl (tt, (tt, (record { fits = room.0 }, tt)))) $
        rewrite t 0 (λ (k : ℕ). ‵ (fat full_share (lent R) (lent_block 𝓢.lends ps i) 0 (slice_val (b, o) k))) (sym same) refl $
        -- the list is lent for a lifetime ν
        lft_new t tt (λ ν. move t (6 ∷ []) $ use1 𝓛 (‵ (cells (mem (row R)) l b o)) (whole_in 𝓛 (row R) l b o) $
        use1 𝓛 (later (some (λ (δ : GName). ‵ ((MutSlice (named 0) (ν ∷ []) (row R)).own_val (record { ref_ptr = (b, o); ghost_name = δ; now = l }) (slice_val (b, o) (length l) ∷ [])) ⊛ ‵ (flent (ν ∷ []) (Held (row R) (length l) b o δ)))))
        (lends_slice 𝓛 (row R) (named 0) (ν ∷ []) l b o (subst (Room (row R)) (sym same) room)) $ await t tt $ pick t (λ δ. split t $ move t (2 ∷ 0 ∷ []) $
        -- [ν's token; list; what is lent of it; what is lent; …; its pointer; …; the other pairs; the open borrow; obs; auth; the plain ones; the count; (); …; list; …; the result; …]
        let κs : Lfts 1 = (ν ∷ [], tt) in
        calls-list t (fm_of 𝓤 H 𝓛.laws 𝓣) (row R) (slots 1 Ds) (plain (λ _. Nothing)) (kepts 1 Ds) (onto_clauses 𝓛 Ds a writes) met (ν ∷ []) full_share
        (makess 1 κs 𝓛 Ds) (record { ref_ptr = (b, o); ghost_name = δ; now = l }) (slice_val (b, o) (length l)) (down 1 κs Ds av) (vdown 1 κs Ds av) (are-down 1 κs Ds av (arg-facts Vs m d is ks sd)) tt
        (fact_i 𝓤 _ (emp 𝓤) (subst (λ (x : Dens Ds). a x (length l)) (sym (up-down 1 κs Ds av)) (subst (a av) (sym same) may)))
        (λ _ zs. zs ≡ writes av l) (λ r ws. subst (λ (x : Dens Ds). ent 𝓤 (fact 𝓤 (ws.0 ≡ writes x l)) (fact 𝓤 (ws.0 ≡ writes av l))) (sym (up-down 1 κs Ds av)) (id⊢ 𝓤 _))
        (recast (ap (λ (vs : List Val). slice_val (b, o) (length l) ∷ vs) (sym (flat-down 1 κs Ds av))) (and_then t (load t (from_at t (at-lent i h) (stop t)) (look t 2 refl)) (opds-held t 10 (first rs) Vs bs m d is ks refl spots))) (λ r v zs is-r long e.
        land t (from_at t (at_unit un) (stop t)) (init t 13 refl ((Nothing-Lawful 𝓛).typed r _ is-r).0) $
        lft_end t tt $ move t (1 ∷ []) $ fsplit t $ move t (1 ∷ []) $ drop t $ move t (1 ∷ 2 ∷ 0 ∷ []) $ use3 𝓛 (later (‵ ((Arr (mem (row R)) (length l)).own_at zs b o))) (slice_back 𝓛 (row R) (ν ∷ []) δ zs (length l) b o) $ await t tt $ fsplit t $ drop t $
        use1 𝓛 (‵ (cells-row (row R) full_share zs b o)) (whole_out 𝓛 (row R) zs b o) $ rewrite t 0 (λ (x : List 𝓢.R.D). ‵ (cells-row (row R) full_share x b o)) e refl $
        -- [row; what is lent; …; its pointer; …; the other pairs; the open borrow; obs; auth; the plain ones; the count; (); …; list; …; the result; …]
        forget t 1 refl $ forget t 3 refl $ forget t 11 refl $ move t (3 ∷ 4 ∷ []) $ fjoin t $ move t (2 ∷ 3 ∷ []) $ fjoin t $ move t (1 ∷ 0 ∷ []) $ fjoin t $ move t (0 ∷ 2 ∷ []) $
        use2 𝓛 (‵ (spare R 𝓢.N 𝓢.lends ps)) (pair-back R 𝓢.N 𝓛 𝓢.lends ps i h) $ move t (7 ∷ 8 ∷ []) $ use2 𝓛 (‵ (may_item 𝓢.unit ty_unit u)) (may-back 𝓛 𝓢.unit ty_unit u un) $ move t (2 ∷ 3 ∷ 4 ∷ 5 ∷ 6 ∷ 1 ∷ 7 ∷ 0 ∷ []) $
        k (ap length (sym e) ∙ long ∙ same))))

    does-list : {K : Type 0} → K → (m i : ℕ) (f : Callee) (is : List ℕ) (ks : Knowns Vs m is) (vac : Vacant Vs m) (h : Here 𝓢.lends i) (a : Ask (ℕ × Dens (arg_ds Vs is))) (gives : List 𝓢.R.D → Dens (arg_ds Vs is) → List 𝓢.R.D → (datum_at Vs m).D → Type 0) (rest : Body) (d : Pre Vs m) (l : List 𝓢.R.D) (left : Bool) (z : List ℕ)
        → length l ≡ length ys → Sound Vs m d → Triple 𝓤 (𝓣.C f) (list_contract 𝓛 (arg_ds Vs is) (datum_at Vs m) a gives) → Asked a (length ys, arg_vals Vs m d is ks)
        → ((r : (datum_at Vs m).D) (l' : List 𝓢.R.D) → length l' ≡ length ys → gives l (arg_vals Vs m d is ks) l' r → Sound Vs (suc m) (with_next Vs m d r) → Seq K 𝓛 (items l' (suc m) (with_next Vs m d r) left z) (runs 𝓣.C 𝓣.Λ E rest (at_ret E Post)))
        → Seq K 𝓛 (items l m d left z) (runs 𝓣.C 𝓣.Λ E (lend_list i (seq (call f (copy (place (lent_no (suc (begins 𝓢.lends i))) []) ∷ arg_copies (first rs) is) (place (numbered (first rs) m) [])) rest)) (at_ret E Post))
    does-list t m i f is ks vac h a gives rest d l left z same sd met may k =
        let Ds : List Datum = arg_ds Vs is in
        let av : Dens (arg_ds Vs is) = arg_vals Vs m d is ks in
        move t (5 ∷ []) $ use1 𝓛 (‵ (list_pair R 𝓢.N 𝓢.lends ps i) ⊛ ‵ (without R 𝓢.N 𝓢.lends ps i)) (pair-out R 𝓢.N 𝓛 𝓢.lends ps i h) $ split t $ fsplit t $ fsplit t $ move t (2 ∷ []) $ fsplit t $
        -- [what is lent; …; its pointer; …; the other pairs; row; the open borrow; obs; auth; the plain ones; the count; (); list; …; the result; …]
        assigns t (addr t (from t (fld t refl (hop t (look_in t 12 (sub t 0 refl (whole t))) (stop t))))) (from_at t (at_ref i h) (stop t)) (init t 2 refl (tt, tt)) $
        assigns t (agg t (and_then t (load t (from_at t (at_ref i h) (stop t)) (look t 2 refl)) (and_then t (load t (from t (fld t refl (stop t))) (look_in t 12 (sub t 1 refl (whole t)))) (no_more t)))) (from_at t (at-lent i h) (stop t)) (init t 0 refl (tt, (tt, (record { fits = room.0 }, tt)))) $
        rewrite t 0 (λ (k : ℕ). ‵ (fat full_share (lent R) (lent_block 𝓢.lends ps i) 0 (slice_val (b, o) k))) (sym same) refl $
        -- the list is lent for a lifetime ν
        lft_new t tt (λ ν. move t (6 ∷ []) $ use1 𝓛 (‵ (cells (mem (row R)) l b o)) (whole_in 𝓛 (row R) l b o) $
        use1 𝓛 (later (some (λ (δ : GName). ‵ ((MutSlice (named 0) (ν ∷ []) (row R)).own_val (record { ref_ptr = (b, o); ghost_name = δ; now = l }) (slice_val (b, o) (length l) ∷ [])) ⊛ ‵ (flent (ν ∷ []) (Held (row R) (length l) b o δ)))))
        (lends_slice 𝓛 (row R) (named 0) (ν ∷ []) l b o (subst (Room (row R)) (sym same) room)) $ await t tt $ pick t (λ δ. split t $ move t (2 ∷ 0 ∷ []) $
        let κs : Lfts 1 = (ν ∷ [], tt) in
        calls-list t (fm_of 𝓤 H 𝓛.laws 𝓣) (row R) (slots 1 Ds) (plain (λ _. row (datum_at Vs m))) (kepts 1 Ds) (list_clauses 𝓛 Ds (datum_at Vs m) a gives) met (ν ∷ []) full_share
        (makess 1 κs 𝓛 Ds) (record { ref_ptr = (b, o); ghost_name = δ; now = l }) (slice_val (b, o) (length l)) (down 1 κs Ds av) (vdown 1 κs Ds av) (are-down 1 κs Ds av (arg-facts Vs m d is ks sd)) tt
        (given-it 𝓤 a _ (subst (λ (x : Dens Ds). Asked a (length l, x)) (sym (up-down 1 κs Ds av)) (subst (λ (n : ℕ). Asked a (n, av)) (sym same) may)))
        (λ r zs. gives l av zs r) (λ r ws. subst (λ (x : Dens Ds). ent 𝓤 (fact 𝓤 (gives l x ws.0 r)) (fact 𝓤 (gives l av ws.0 r))) (sym (up-down 1 κs Ds av)) (id⊢ 𝓤 _))
        (recast (ap (λ (vs : List Val). slice_val (b, o) (length l) ∷ vs) (sym (flat-down 1 κs Ds av))) (and_then t (load t (from_at t (at-lent i h) (stop t)) (look t 2 refl)) (opds-held t 10 (first rs) Vs bs m d is ks refl spots))) (λ r v zs is-r long e.
        lft_end t tt $ move t (1 ∷ []) $ fsplit t $ move t (1 ∷ []) $ drop t $ move t (1 ∷ 2 ∷ 0 ∷ []) $ use3 𝓛 (later (‵ ((Arr (mem (row R)) (length l)).own_at zs b o))) (slice_back 𝓛 (row R) (ν ∷ []) δ zs (length l) b o) $ await t tt $ fsplit t $ drop t $
        use1 𝓛 (‵ (cells-row (row R) full_share zs b o)) (whole_out 𝓛 (row R) zs b o) $
        -- [row; what is lent; …; its pointer; …; the other pairs; the open borrow; obs; auth; the plain ones; the count; (); list; …; the result; …]
        forget t 1 refl $ forget t 3 refl $ move t (3 ∷ 4 ∷ []) $ fjoin t $ move t (2 ∷ 3 ∷ []) $ fjoin t $ move t (1 ∷ 0 ∷ []) $ fjoin t $ move t (0 ∷ 2 ∷ []) $
        use2 𝓛 (‵ (spare R 𝓢.N 𝓢.lends ps)) (pair-back R 𝓢.N 𝓛 𝓢.lends ps i h) $ move t (1 ∷ 2 ∷ 3 ∷ 4 ∷ 5 ∷ 0 ∷ []) $
        lands-in t m d zs left z vac r v is-r rest (k r zs (long ∙ same) e (sound-with m d r v sd is-r)))))

    does-runs : {K : Type 0} → K → (m i : ℕ) (on : Holds rs) (f : Callee) (is : List ℕ) (ks : Knowns Vs m is) (vac : Vacant Vs m) (two : Both 𝓢.lends i)
        (gives : List 𝓢.R.D → List ℕ → List ℕ → List ℕ → Dens (arg_ds Vs is) → List 𝓢.R.D → List ℕ → (datum_at Vs m).D → Type 0) (rest : Body) (d : Pre Vs m) (l : List 𝓢.R.D) (z : List ℕ)
        → length l ≡ length ys → Sound Vs m d → Triple 𝓤 (𝓣.C f) (runs_contract 𝓛 (arg_ds Vs is) (datum_at Vs m) gives)
        → ((r : (datum_at Vs m).D) (l' : List 𝓢.R.D) (z' : List ℕ) → length l' ≡ length ys → length z' ≡ length x.run.now → gives l x.run.now x.load.now x.set.now (arg_vals Vs m d is ks) l' z' r → Sound Vs (suc m) (with_next Vs m d r)
        → Seq K 𝓛 (items l' (suc m) (with_next Vs m d r) false z') (runs 𝓣.C 𝓣.Λ E rest (at_ret E Post)))
        → Seq K 𝓛 (items l m d true z) (runs 𝓣.C 𝓣.Λ E (lend_list i (lend_run i (seq (call f (copy (place (lent_no (suc (begins 𝓢.lends i))) []) ∷ copy (place (lent_no (suc (suc (suc (begins 𝓢.lends i))))) [])
        ∷ copy (place 3 []) ∷ copy (place 4 []) ∷ arg_copies (first rs) is) (place (numbered (first rs) m) [])) rest))) (at_ret E Post))
    does-runs t m i on f is ks vac two gives rest d l z same sd met k =
        let Ds : List Datum = arg_ds Vs is in
        let av : Dens (arg_ds Vs is) = arg_vals Vs m d is ks in
        let h : Here 𝓢.lends i = both-here 𝓢.lends i two in
        let Shr : Fml = (ShrSlice (named 2) x.κ'' (UInt 𝓢.N')).own_val x.load (val x.load ∷ []) in
        let Shr' : Fml = (ShrSlice (named 3) x.κ''' (UInt 𝓢.N'')).own_val x.set (val x.set ∷ []) in
        -- the runs' locals and what is owned of them are taken apart, load and set twice
        move t (12 ∷ 13 ∷ []) $ use1 𝓛 (‵ (run_locals 𝓢.N 𝓢.N' 𝓢.N'' true x es)) (opens-locals 𝓢.N 𝓢.N' 𝓢.N'' 𝓛 rs x es on) $ fsplit t $ fsplit t $ move t (2 ∷ []) $ fsplit t $ fsplit t $ move t (2 ∷ []) $ fsplit t $
        move t (6 ∷ []) $ use1 𝓛 (‵ (run_owns 𝓢.N 𝓢.N' 𝓢.N'' true true x z)) (opens-runs 𝓢.N 𝓢.N' 𝓢.N'' 𝓛 rs true x z on) $ fsplit t $ move t (1 ∷ []) $ fsplit t $
        use1 𝓛 (‵ Shr ⊛ ‵ Shr) ((shr_slice_copy 𝓛 (named 2) x.κ'' (UInt 𝓢.N') (uint_row_laws 𝓢.N')).twice x.load (val x.load ∷ [])) $ split t $ move t (2 ∷ []) $ fsplit t $
        use1 𝓛 (‵ Shr' ⊛ ‵ Shr') ((shr_slice_copy 𝓛 (named 3) x.κ''' (UInt 𝓢.N'') (uint_row_laws 𝓢.N'')).twice x.set (val x.set ∷ [])) $ split t $ move t (2 ∷ []) $ fsplit t $ move t (1 ∷ []) $ fsplit t $
        -- [κ''; κ'''; κ'; set; set; load; load; run; set's local; …; load's; …; run's; …; row; the open borrow; obs; auth; the plain ones; what is lent; the count; (); list; …; the result; …]
        move t (19 ∷ []) $ use1 𝓛 (‵ (list_pair R 𝓢.N 𝓢.lends ps i) ⊛ ‵ (without R 𝓢.N 𝓢.lends ps i)) (pair-out R 𝓢.N 𝓛 𝓢.lends ps i h) $ split t $ fsplit t $ fsplit t $ move t (2 ∷ []) $ fsplit t $
        assigns t (addr t (from t (fld t refl (hop t (look_in t 26 (sub t 0 refl (whole t))) (stop t))))) (from_at t (at_ref i h) (stop t)) (init t 2 refl (tt, tt)) $
        assigns t (agg t (and_then t (load t (from_at t (at_ref i h) (stop t)) (look t 2 refl)) (and_then t (load t (from t (fld t refl (stop t))) (look_in t 26 (sub t 1 refl (whole t)))) (no_more t)))) (from_at t (at-lent i h) (stop t)) (init t 0 refl (tt, (tt, (record { fits = room.0 }, tt)))) $
        rewrite t 0 (λ (k : ℕ). ‵ (fat full_share (lent R) (lent_block 𝓢.lends ps i) 0 (slice_val (b, o) k))) (sym same) refl $
        move t (4 ∷ []) $ use1 𝓛 (‵ (run_pair R 𝓢.N 𝓢.lends ps i) ⊛ ‵ (neither R 𝓢.N 𝓢.lends ps i)) (run_out R 𝓢.N 𝓛 𝓢.lends ps i two) $ split t $ fsplit t $ fsplit t $ move t (2 ∷ []) $ fsplit t $
        -- [what is lent of the run; …; its pointer; …; the other pairs; what is lent; …; its pointer; …; κ''; κ'''; κ'; set; set; load; load; run; set's local; …; load's; …; run's; …; row; …]
        assigns t (addr t (from_at t (at-run on) (fld t refl (hop t (look_in t 21 (sub t 0 refl (whole t))) (stop t))))) (from_at t (at-run-ref i two) (stop t)) (init t 2 refl (tt, tt)) $
        assigns t (agg t (and_then t (load t (from_at t (at-run-ref i two) (stop t)) (look t 2 refl)) (and_then t (load t (from_at t (at-run on) (fld t refl (stop t))) (look_in t 21 (sub t 1 refl (whole t)))) (no_more t)))) (from_at t (at-run-lent i two) (stop t)) (init t 0 refl (tt, (tt, (record { fits = (run_room on).0 }, tt)))) $
        -- the list is lent for a lifetime ν
        lft_new t tt (λ ν. move t (24 ∷ []) $ use1 𝓛 (‵ (cells (mem (row R)) l b o)) (whole_in 𝓛 (row R) l b o) $
        use1 𝓛 (later (some (λ (δ : GName). ‵ ((MutSlice (named 0) (ν ∷ []) (row R)).own_val (record { ref_ptr = (b, o); ghost_name = δ; now = l }) (slice_val (b, o) (length l) ∷ [])) ⊛ ‵ (flent (ν ∷ []) (Held (row R) (length l) b o δ)))))
        (lends_slice 𝓛 (row R) (named 0) (ν ∷ []) l b o (subst (Room (row R)) (sym same) room)) $ await t tt $ pick t (λ δ. split t $ move t (2 ∷ 14 ∷ 12 ∷ 13 ∷ 0 ∷ 19 ∷ 17 ∷ 15 ∷ []) $
        let κs : Lfts 4 = (ν ∷ [], (x.κ', (x.κ'', (x.κ''', tt)))) in
        calls-marks (row R) (UInt 𝓢.N) (UInt 𝓢.N') (UInt 𝓢.N'') (slots 4 Ds) (plain (λ _. row (datum_at Vs m))) (kepts 4 Ds) 𝓛 (runs_clauses 𝓛 Ds (datum_at Vs m) gives) (ν ∷ []) x.κ' x.κ'' x.κ''' full_share x.q' x.q'' x.q'''
        (record { ref_ptr = (b, o); ghost_name = δ; now = l }) (slice_val (b, o) (length l)) x.run (mut_val x.run) x.load (val x.load) x.set (val x.set) (down 4 κs Ds av) (vdown 4 κs Ds av) tt 𝓣.C 𝓣.Λ t (fm_of 𝓤 H 𝓛.laws 𝓣) met
        (makess 4 κs 𝓛 Ds) (are-down 4 κs Ds av (arg-facts Vs m d is ks sd)) (id⊢ 𝓤 (emp 𝓤)) (λ r zs zs'. gives l x.run.now x.load.now x.set.now av zs zs' r)
        (λ r ws. subst (λ (y : Dens Ds). ent 𝓤 (fact 𝓤 (gives l x.run.now x.load.now x.set.now y ws.0 ws.1.0 r)) (fact 𝓤 (gives l x.run.now x.load.now x.set.now av ws.0 ws.1.0 r))) (sym (up-down 4 κs Ds av)) (id⊢ 𝓤 _))
        (recast (ap (λ (vs : List Val). slice_val (b, o) (length l) ∷ mut_val x.run ∷ val x.load ∷ val x.set ∷ vs) (sym (flat-down 4 κs Ds av)))
        (and_then t (load t (from_at t (at-lent i h) (stop t)) (look t 7 refl)) (and_then t (load t (from_at t (at-run-lent i two) (stop t)) (look t 2 refl)) (and_then t (load t (from_at t (at_load on) (stop t)) (look t 15 refl)) (and_then t (load t (from_at t (at_set on) (stop t)) (look t 13 refl))
        (opds-held t 22 (first rs) Vs bs m d is ks refl spots)))))) (λ r v zs zs' is-r long long' e.
        -- [ν's token; κ'; κ''; κ'''; the last list; the last run; what is lent of the list; what is lent of the run; …; its pointer; …; the other pairs; what is lent; …; its pointer; …; set; load; the runs' locals; the open borrow; …]
        lft_end t tt $ move t (4 ∷ []) $ fsplit t $ move t (1 ∷ []) $ drop t $ move t (1 ∷ 6 ∷ 0 ∷ []) $ use3 𝓛 (later (‵ ((Arr (mem (row R)) (length l)).own_at zs b o))) (slice_back 𝓛 (row R) (ν ∷ []) δ zs (length l) b o) $ await t tt $ fsplit t $ drop t $
        use1 𝓛 (‵ (cells-row (row R) full_share zs b o)) (whole_out 𝓛 (row R) zs b o) $ forget t 5 refl $ forget t 7 refl $ forget t 10 refl $ forget t 12 refl $
        move t (7 ∷ 8 ∷ []) $ fjoin t $ move t (6 ∷ 7 ∷ []) $ fjoin t $ move t (1 ∷ 0 ∷ []) $ fjoin t $ move t (0 ∷ 6 ∷ []) $ use2 𝓛 (‵ (without R 𝓢.N 𝓢.lends ps i)) (run-back R 𝓢.N 𝓛 𝓢.lends ps i two) $
        move t (8 ∷ 9 ∷ []) $ fjoin t $ move t (7 ∷ 8 ∷ []) $ fjoin t $ move t (1 ∷ 0 ∷ []) $ fjoin t $ use2 𝓛 (‵ (spare R 𝓢.N 𝓢.lends ps)) (pair-back R 𝓢.N 𝓛 𝓢.lends ps i h) $
        -- [what is lent; row; κ'; κ''; κ'''; the last run; set; load; the runs' locals; the open borrow; …]
        move t (3 ∷ 4 ∷ []) $ fjoin t $ move t (3 ∷ 0 ∷ []) $ fjoin t $ move t (4 ∷ 0 ∷ []) $ fjoin t $ move t (4 ∷ 0 ∷ []) $ fjoin t $ move t (3 ∷ 0 ∷ []) $ fjoin t $
        use1 𝓛 (‵ (run_owns 𝓢.N 𝓢.N' 𝓢.N'' rs false x zs')) (closes-runs 𝓢.N 𝓢.N' 𝓢.N'' 𝓛 rs false x zs' on) $
        move t (3 ∷ 4 ∷ []) $ fjoin t $ move t (4 ∷ 5 ∷ []) $ fjoin t $ fjoin t $ move t (4 ∷ 5 ∷ []) $ fjoin t $ fjoin t $ use1 𝓛 (‵ (run_locals 𝓢.N 𝓢.N' 𝓢.N'' rs x es)) (closes-locals 𝓢.N 𝓢.N' 𝓢.N'' 𝓛 rs x es on) $
        move t (3 ∷ 4 ∷ 5 ∷ 6 ∷ 7 ∷ 2 ∷ 8 ∷ 9 ∷ 10 ∷ 11 ∷ 12 ∷ 13 ∷ 0 ∷ 1 ∷ []) $
        lands-in t m d zs false zs' vac r v is-r rest (k r zs zs' (long ∙ same) long' e (sound-with m d r v sd is-r)))))

    pub goes_on : {K : Type 0} → K → (m i : ℕ) (left : Bool) (p : Prog m i left) (d : Pre Vs m) (l : List 𝓢.R.D) (z : List ℕ) → length l ≡ length ys → length z ≡ length x.run.now → (Holds left → z ≡ x.run.now) → Sound Vs m d → Meeting 𝓛 𝓣 m i left p
        → Chain (length ys) x.load.now x.set.now Done m i left p d l z → Seq K 𝓛 (items l m d left z) (runs 𝓣.C 𝓣.Λ E (compile m i left p) (at_ret E Post))
    goes_on t m i left (answer g is ks gives) d l z same same' whole sd met ch = does-answer t m g is ks gives d l z same same' sd met ch
    goes_on t m i left (finish y sh) d l z same same' whole sd met ch = does-finish t m y sh d l z same same' ch
    goes_on t m i left (let_be f is ks vac a gives p) d l z same same' whole sd met ch =
        does-let t m f is ks vac a gives (compile (suc m) i left p) d l left z sd met.0 ch.0 (λ r e sd'. goes_on t (suc m) i left p (with_next Vs m d r) l z same same' whole sd' met.1 (ch.1 r e))
    goes_on t m i left (let_len h f is ks vac a gives p) d l z same same' whole sd met ch =
        does-len t m h f is ks vac a gives (compile (suc m) i left p) d l left z sd met.0 ch.0 (λ r e sd'. goes_on t (suc m) i left p (with_next Vs m d r) l z same same' whole sd' met.1 (ch.1 r e))
    goes_on t m i left (onto un g is ks h a writes p) d l z same same' whole sd met ch =
        does-onto t m i un g is ks h a writes (compile m (suc i) left p) d l left z same sd met.0 ch.0 (λ same''. goes_on t m (suc i) left p d (writes (arg_vals Vs m d is ks) l) z same'' same' whole sd met.1 ch.1)
    goes_on t m i left (let_list f is ks vac h gives p) d l z same same' whole sd met ch =
        does-list t m i f is ks vac h free gives (compile (suc m) (suc i) left p) d l left z same sd met.0 tt (λ r l' same'' e sd'. goes_on t (suc m) (suc i) left p (with_next Vs m d r) l' z same'' same' whole sd' met.1 (ch r l' e))
    goes_on t m i left (let_asked f is ks vac h a gives p) d l z same same' whole sd met ch =
        does-list t m i f is ks vac h a gives (compile (suc m) (suc i) left p) d l left z same sd met.0 ch.0 (λ r l' same'' e sd'. goes_on t (suc m) (suc i) left p (with_next Vs m d r) l' z same'' same' whole sd' met.1 (ch.1 r l' e))
    goes_on t m i left (let_runs on f is ks vac two gives p) d l z same same' whole sd met ch =
        does-runs t m i on f is ks vac two gives (compile (suc m) (suc i) false p) d l z same sd met.0 (λ r l' z' same'' long e sd'.
        goes_on t (suc m) (suc i) false p (with_next Vs m d r) l' z' same'' long (λ no. absurd no) sd' met.1 (ch r l' z' (subst (λ (y : List ℕ). gives l y x.load.now x.set.now (arg_vals Vs m d is ks) l' z' r) (sym (whole tt)) e)))

-- ---- the callees meet their contracts: of each its routine, that the environment has it, and its theorem
module _ (𝓢 : Shape) (rs : Bool) (Vs : List Datum) {M : Type 1} {𝓤 : Ura M} (𝓛 : Logic 𝓤) (𝓜 : Model 𝓤 𝓛.H) (𝓡 : Running 𝓤 𝓛.H 𝓜) (γ : Routines) where
  open 𝓛 use {H}

  abbrev pub Cited : Callee → Contract 𝓤 → Type 1
  Cited f k = (r : Routine) × ((γ f ≡ r) × Triple 𝓤 (𝓡.run r) k)

  abbrev pub Cites : (m i : ℕ) (b : Bool) → Prog 𝓢 rs Vs m i b → Type 1
  Cites m i b (answer g is ks gives) = Cited g (plain_contract 𝓢 rs Vs 𝓛 (arg_ds Vs is) 𝓢.An free gives)
  Cites m i b (finish x s) = Unit {1}
  Cites m i b (let_be f is ks v a gives p) = Cited f (plain_contract 𝓢 rs Vs 𝓛 (arg_ds Vs is) (datum_at Vs m) a gives) × Cites (suc m) i b p
  Cites m i b (let_len h f is ks v a gives p) = Cited f (len_contract 𝓢 rs Vs 𝓛 (arg_ds Vs is) (datum_at Vs m) a gives) × Cites (suc m) i b p
  Cites m i b (onto h g is ks w a writes p) = Cited g (onto_contract 𝓢 rs Vs 𝓛 (arg_ds Vs is) a writes) × Cites m (suc i) b p
  Cites m i b (let_list f is ks v h gives p) = Cited f (list_contract 𝓢 rs Vs 𝓛 (arg_ds Vs is) (datum_at Vs m) free gives) × Cites (suc m) (suc i) b p
  Cites m i b (let_asked f is ks v h a gives p) = Cited f (list_contract 𝓢 rs Vs 𝓛 (arg_ds Vs is) (datum_at Vs m) a gives) × Cites (suc m) (suc i) b p
  Cites m i b (let_runs h f is ks v w gives p) = Cited f (runs_contract 𝓢 rs Vs 𝓛 (arg_ds Vs is) (datum_at Vs m) gives) × Cites (suc m) (suc i) false p

  pub meeting : (m i : ℕ) (b : Bool) (p : Prog 𝓢 rs Vs m i b) → Cites m i b p → Meeting 𝓢 rs Vs 𝓛 (tables_of 𝓤 H 𝓜 (tables 𝓤 H 𝓜 𝓡 γ)) m i b p
  unfolding tables_of
  meeting m i b (answer g is ks gives) k = cited 𝓤 H _ 𝓜 𝓡 γ g k.0 k.1.0 k.1.1
  meeting m i b (finish x s) k = tt
  meeting m i b (let_be f is ks v a gives p) k = (cited 𝓤 H _ 𝓜 𝓡 γ f k.0.0 k.0.1.0 k.0.1.1, meeting (suc m) i b p k.1)
  meeting m i b (let_len h f is ks v a gives p) k = (cited 𝓤 H _ 𝓜 𝓡 γ f k.0.0 k.0.1.0 k.0.1.1, meeting (suc m) i b p k.1)
  meeting m i b (onto h g is ks w a writes p) k = (cited 𝓤 H _ 𝓜 𝓡 γ g k.0.0 k.0.1.0 k.0.1.1, meeting m (suc i) b p k.1)
  meeting m i b (let_list f is ks v h gives p) k = (cited 𝓤 H _ 𝓜 𝓡 γ f k.0.0 k.0.1.0 k.0.1.1, meeting (suc m) (suc i) b p k.1)
  meeting m i b (let_asked f is ks v h a gives p) k = (cited 𝓤 H _ 𝓜 𝓡 γ f k.0.0 k.0.1.0 k.0.1.1, meeting (suc m) (suc i) b p k.1)
  meeting m i b (let_runs h f is ks v w gives p) k = (cited 𝓤 H _ 𝓜 𝓡 γ f k.0.0 k.0.1.0 k.0.1.1, meeting (suc m) (suc i) false p k.1)
