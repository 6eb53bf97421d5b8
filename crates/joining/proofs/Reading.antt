-- The five that the code keeps are the machine's, and what it puts in and moves is what the definition says, for lists that break no limit. Assumes nothing.
use Prim.Native.Nat.{ℕ, zero, suc, ◌+◌, ◌≤◌, ◌<◌}
use mathlib.Core.Path.{◌≡◌, refl, sym, ap, ap₂, ◌∙◌, subst}
use mathlib.Core.Bool.{Bool, true, false, cond, not, ◌&&◌, ◌||◌}
use mathlib.Core.List.{List, [], ◌∷◌, ◌++◌, map, append-nil, append_assoc}
use native.Mathlib.Nat.{add-zero, add-suc, suc-add, add_comm}
use native.Mathlib.Omega.{arith}
use lib.Dec.{eqb, ltb}
use borrow.Author.Tests.{eqb-true, ltb-false, leb-false}
use Rattle.tables.specs.Tabulate.{upd}
use Rattle.mask.specs.Mask.{odd, test_bit, cons?, places_from}
use Rattle.mask.specs.Laws.{test_zero, test-set, test-clear}
use Rattle.machine.proofs.Lists.{or_left, or_right, true-false, false-true}
use Rattle.machine.specs.Machine.{Gl, fresh_gl}
use Rattle.records.specs.Check.{some?}
use Rattle.records.specs.Start.{start_depth_bias}
use Rattle.records.specs.Same.{same_depth_bias}
use Rattle.records.specs.declared.command.Command.{Command}
use Rattle.records.specs.declared.command.Command.TheVariants.{Draw, DrawIndexed, DrawIndirect, DrawIndexedIndirect, Dispatch, DispatchIndirect, ClearBuffer, CopyBufferToBuffer}
use Rattle.records.specs.declared.command.Command.TheVariants.{SetIndexBuffer, BeginQuery, EndQuery, TimestampQuery, CopyQueryResults, ResetFramebuffer, BindAttachment}
use Rattle.records.specs.declared.command.Command.TheVariants.{ResolveAttachment, InvalidateAttachments, SetDrawColorBuffers, ClearColorF, ClearColorU, ClearColorI, ClearDepth}
use Rattle.records.specs.declared.command.Command.TheVariants.{ClearStencil, ClearDepthAndStencil, BufferBarrier, TextureBarrier, SetViewport, SetScissor, SetStencilFunc}
use Rattle.records.specs.declared.command.Command.TheVariants.{SetStencilOps, SetDepth, SetDepthBias, ConfigureDepthStencil, SetAlphaToCoverage, SetVertexAttribute}
use Rattle.records.specs.declared.command.Command.TheVariants.{UnsetVertexAttribute, SetVertexBuffer, SetProgram, SetPrimitive, SetBlendConstant, SetColorTarget, BindBuffer}
use Rattle.records.specs.declared.command.Command.TheVariants.{BindSampler, BindTexture, BindImage, PushDebugGroup, PopDebugGroup, SetImmediates, SetClipDistances}
use Rattle.std.specs.Prelude.{Option, None, Some}
use Rattle.records.specs.declared.command.RangeU32.{RangeU32}
use Rattle.records.specs.declared.command.Record.{Record}
use Rattle.list_walks.specs.Fold.{fold_at}
use Rattle.lists.specs.declared.limits.Used.{Used}
use Rattle.lists.specs.Class.{commands_of}
use Rattle.lists.specs.Limits.{breaks, reversed}
use Rattle.lists.specs.Shots.{settings_after, settings}
use Rattle.joining.specs.declared.ending.Ending.{Ending}
use Rattle.joining.specs.declared.plan.Looked.{Looked}
use Rattle.lists.specs.Clips.{clip_of}
use Rattle.joining.specs.Joined.{range_by, moved, bound_after, bound_by, bound_from, off, samplers_off, no_color, zero_color, only, resets}
use Rattle.joining.specs.Ending.{fresh_ending, units_after, ending_after, unset, resets_by}
use Rattle.joining.specs.Plan.{look_record, shifted_by, moved_in}
use Rattle.joining.proofs.Sums.{shift-here}

-- ---- the five
abbrev on : Option ℕ → Bool
on None = false
on (Some s) = true

abbrev pub Reads : Ending → Gl → ℕ → Type 0
Reads e g n =
    ((u : ℕ) → u < 32 → on (g.bindings.samplers u) ≡ test_bit e.units u) × ((u : ℕ) → 16 ≤ u → g.bindings.samplers u ≡ None)
    × (e.bias ≡ g.fixed.bias) × (e.blend ≡ g.screen.blend) × (e.alpha ≡ g.fixed.alpha) × (e.clip ≡ n)

put-unit : (e : Ending) (g : Gl) (u : ℕ) (s : Option ℕ) → u < 16 → ((i : ℕ) → i < 32 → on (g.bindings.samplers i) ≡ test_bit e.units i) → (i : ℕ) → i < 32 → on (upd g.bindings.samplers u s i) ≡ test_bit (units_after e.units u s) i
put-unit e g u None l h i k = go (eqb i u) refl ∙ sym (test-clear e.units i u k (omega arith))
  where
    go : (t : Bool) → eqb i u ≡ t → on (cond t None (g.bindings.samplers i)) ≡ (test_bit e.units i && not t)
    go true q = sym (both (test_bit e.units i))
      where
        both : (b : Bool) → (b && false) ≡ false
        both true = refl
        both false = refl
    go false q = h i k ∙ sym (both (test_bit e.units i))
      where
        both : (b : Bool) → (b && true) ≡ b
        both true = refl
        both false = refl
put-unit e g u (Some s) l h i k = go (eqb i u) refl ∙ sym (test-set e.units i u (omega arith))
  where
    go : (t : Bool) → eqb i u ≡ t → on (cond t (Some s) (g.bindings.samplers i)) ≡ (test_bit e.units i || t)
    go true q = sym (both (test_bit e.units i))
      where
        both : (b : Bool) → (b || true) ≡ true
        both true = refl
        both false = refl
    go false q = h i k ∙ sym (both (test_bit e.units i))
      where
        both : (b : Bool) → (b || false) ≡ b
        both true = refl
        both false = refl

put-high : (g : Gl) (u : ℕ) (s : Option ℕ) → u < 16 → ((i : ℕ) → 16 ≤ i → g.bindings.samplers i ≡ None) → (i : ℕ) → 16 ≤ i → upd g.bindings.samplers u s i ≡ None
put-high g u s l h i k = go (eqb i u) refl
  where
    go : (t : Bool) → eqb i u ≡ t → cond t s (g.bindings.samplers i) ≡ None
    go true q = let z : i ≡ u = eqb-true i u q in absurd (omega (arith, z))
    go false q = h i k

step : (w : Used) (c : Command) (e : Ending) (g : Gl) (n' : ℕ) → (breaks w c).range ≡ false → Reads e g n' → Reads (ending_after e c) (settings_after g c) (bound_by n' (clip_of c))
step w (Draw t fv vc fi ic l) e g n' k h = h
step w (DrawIndexed t ty n o bv fi ic l) e g n' k h = h
step w (DrawIndirect t raw o l) e g n' k h = h
step w (DrawIndexedIndirect t ty raw o l) e g n' k h = h
step w (Dispatch a b c) e g n' k h = h
step w (DispatchIndirect raw o) e g n' k h = h
step w (ClearBuffer raw t r) e g n' k h = h
step w (CopyBufferToBuffer a b c d o) e g n' k h = h
step w (SetIndexBuffer raw) e g n' k h = h
step w (BeginQuery q t) e g n' k h = h
step w (EndQuery t) e g n' k h = h
step w (TimestampQuery q) e g n' k h = h
step w (CopyQueryResults r dst t o) e g n' k h = h
step w (ResetFramebuffer d) e g n' k h = h
step w (BindAttachment a v d s) e g n' k h = h
step w (ResolveAttachment a v s) e g n' k h = h
step w (InvalidateAttachments s) e g n' k h = h
step w (SetDrawColorBuffers n) e g n' k h = h
step w (ClearColorF n c) e g n' k h = h
step w (ClearColorU n c) e g n' k h = h
step w (ClearColorI n c) e g n' k h = h
step w (ClearDepth d) e g n' k h = h
step w (ClearStencil s) e g n' k h = h
step w (ClearDepthAndStencil d s) e g n' k h = h
step w (BufferBarrier b u) e g n' k h = h
step w (TextureBarrier u) e g n' k h = h
step w (SetViewport r d) e g n' k h = h
step w (SetScissor r) e g n' k h = h
step w (SetStencilFunc at f r n) e g n' k h = h
step w (SetStencilOps at x o) e g n' k h = h
step w (SetDepth d) e g n' k h = h
step w (SetDepthBias d) e g n' k h = (h.0, h.1, refl, h.3, h.4, h.5)
step w (ConfigureDepthStencil a) e g n' k h = h
step w (SetAlphaToCoverage a) e g n' k h = (h.0, h.1, h.2, h.3, refl, h.5)
step w (SetVertexAttribute b d a) e g n' k h = h
step w (UnsetVertexAttribute l) e g n' k h = h
step w (SetVertexBuffer i b d) e g n' k h = h
step w (SetProgram p) e g n' k h = h
step w (SetPrimitive p) e g n' k h = h
step w (SetBlendConstant c) e g n' k h = (h.0, h.1, h.2, refl, h.4, h.5)
step w (SetColorTarget None t) e g n' k h = h
step w (SetColorTarget (Some i) t) e g n' k h = h
step w (BindBuffer ta i b o s) e g n' k h = h
step w (BindSampler u s) e g n' k h = (put-unit e g u s (leb-false 16 u k) h.0, put-high g u s (leb-false 16 u k) h.1, h.2, h.3, h.4, h.5)
step w (BindTexture i te ta a mips) e g n' k h = h
step w (BindImage i x) e g n' k h = h
step w (PushDebugGroup r) e g n' k h = h
step w PopDebugGroup e g n' k h = h
step w (SetImmediates d o) e g n' k h = h
step w (SetClipDistances old n) e g n' k h = (h.0, h.1, h.2, h.3, h.4, ap (λ (b : ℕ). bound_after b old n) h.5)

along : (w : Used) (xs : List Record) (i : ℕ) (l : Looked) (g : Gl) (n : ℕ) → some? (λ c. (breaks w c).range) (commands_of xs) ≡ false → Reads l.ending g n
    → Reads (fold_at look_record l i xs).ending (settings g (commands_of xs)) (bound_from n (commands_of xs))
unfolding fold_at settings bound_from some?
along w [] i l g n k h = h
along w (x ∷ xs) i l g n k h =
    along w xs (suc i) (look_record l i x) (settings_after g x.command) (bound_by n (clip_of x.command)) (or_right (breaks w x.command).range (some? (λ c. (breaks w c).range) (commands_of xs)) k)
    (step w x.command l.ending g n (or_left (breaks w x.command).range (some? (λ c. (breaks w c).range) (commands_of xs)) k) h)

pub reads-fresh : Reads fresh_ending fresh_gl 0
reads-fresh = ((λ u l. sym (test_zero u)), (λ u l. refl), refl, refl, refl, refl)

pub read-list : (w : Used) (xs : List Record) (l : Looked) → l.ending ≡ fresh_ending → some? (λ c. (breaks w c).range) (commands_of xs) ≡ false
    → Reads (fold_at look_record l 0 xs).ending (settings fresh_gl (commands_of xs)) (bound_from 0 (commands_of xs))
read-list w xs l e k = along w xs 0 l fresh_gl 0 k (subst (λ (z : Ending). Reads z fresh_gl 0) (sym e) reads-fresh)

-- ---- what is put in
cons-off : (t : Bool) (o : Option ℕ) (i : ℕ) (l : List ℕ) (r : List Command) → on o ≡ t → map unset l ≡ r → map unset (cons? t i l) ≡ off i o ++ r
cons-off true None i l r e h = false-true e
cons-off true (Some s) i l r e h = ap (λ (z : List Command). unset i ∷ z) h
cons-off false None i l r e h = h
cons-off false (Some s) i l r e h = true-false e

units-off : (k i m : ℕ) (s : ℕ → Option ℕ) → ((j : ℕ) → j < k → on (s (i + j)) ≡ test_bit m j) → map unset (places_from k i m) ≡ samplers_off k i s
unfolding places_from samplers_off test_bit
units-off zero i m s h = refl
units-off (suc k) i m s h =
    cons-off (odd m) (s i) i (places_from k (suc i) _) (samplers_off k (suc i) s) (ap (λ (j : ℕ). on (s j)) (sym (add-zero i)) ∙ h 0 (omega arith))
    (units-off k (suc i) _ s (λ j l. ap (λ (p : ℕ). on (s p)) (suc-add i j ∙ sym (add-suc i j)) ∙ h (suc j) (omega arith)))

off-none : (k i : ℕ) (s : ℕ → Option ℕ) → ((j : ℕ) → i ≤ j → s j ≡ None) → samplers_off k i s ≡ []
unfolding samplers_off
off-none zero i s h = refl
off-none (suc k) i s h = ap (λ (o : Option ℕ). off i o ++ samplers_off k (suc i) s) (h i (omega arith)) ∙ off-none k (suc i) s (λ j l. h j (omega arith))

off-app : (a b i : ℕ) (s : ℕ → Option ℕ) → samplers_off (a + b) i s ≡ samplers_off a i s ++ samplers_off b (i + a) s
unfolding samplers_off
off-app zero b i s = ap₂ (λ (m p : ℕ). samplers_off m p s) (let z : 0 + b ≡ b = omega arith in z) (sym (add-zero i))
off-app (suc a) b i s =
    ap (λ (m : ℕ). samplers_off m i s) (suc-add a b) ∙ ap (λ (l : List Command). off i (s i) ++ l) (off-app a b (suc i) s ∙ ap (λ (p : ℕ). samplers_off a (suc i) s ++ samplers_off b p s) (suc-add i a ∙ sym (add-suc i a)))
    ∙ sym (append_assoc (off i (s i)) (samplers_off a (suc i) s) (samplers_off b (i + suc a) s))

low_half : (s : ℕ → Option ℕ) → ((j : ℕ) → 16 ≤ j → s j ≡ None) → samplers_off 32 0 s ≡ samplers_off 16 0 s
low_half s h = off-app 16 16 0 s ∙ ap (λ (l : List Command). samplers_off 16 0 s ++ l) (off-none 16 16 s (λ j l. h j l)) ∙ append-nil (samplers_off 16 0 s)

pub resets-read : (e : Ending) (g : Gl) (n : ℕ) → Reads e g n → resets_by e ≡ resets g n
resets-read e g n h =
    let u = units-off 32 0 e.units g.bindings.samplers (λ j l. ap (λ (p : ℕ). on (g.bindings.samplers p)) (let z : 0 + j ≡ j = omega arith in z) ∙ h.0 j l) ∙ low_half g.bindings.samplers h.1 in
    let d = h.2 in
    let c = h.3 in
    let a = h.4 in
    let q = h.5 in
    λ j.
    u j
    ++ (only (not (same_depth_bias (d j) start_depth_bias)) (SetDepthBias start_depth_bias)
    ++ (only (not (zero_color (c j))) (SetBlendConstant no_color)
    ++ (only (a j) (SetAlphaToCoverage false)
    ++ only (not (eqb (q j) 0)) (SetClipDistances (q j) 0))))

-- ---- what is moved
num-same : (by n : ℕ) → by ≤ 65536 → n ≤ 65536 → shifted_by by n ≡ by + n
num-same by n h k = sym (shift-here by n h (omega arith)) ∙ add_comm n by

range_same : (by : ℕ) (r : RangeU32) → by ≤ 65536 → r.end ≤ 65536 → r.start ≤ r.end → range_by (shifted_by by) r ≡ record { start = by + r.start; end = by + r.end }
range_same by r h k l = let s = num-same by r.start h (omega arith) in let t = num-same by r.end h k in λ j. record { start = s j; end = t j }

moved_same : (w : Used) (m k : ℕ) (c : Command) → (w.bytes ≤ 65536) × (w.queries ≤ 65536) → m ≤ 65536 → k ≤ 65536 → (breaks w c).range ≡ false → (breaks w c).room ≡ false → moved_in m k c ≡ moved m k c
moved_same w m k (Draw t fv vc fi ic l) lim hm hk a b = refl
moved_same w m k (DrawIndexed t ty n o bv fi ic l) lim hm hk a b = refl
moved_same w m k (DrawIndirect t raw o l) lim hm hk a b = refl
moved_same w m k (DrawIndexedIndirect t ty raw o l) lim hm hk a b = refl
moved_same w m k (Dispatch x y z) lim hm hk a b = refl
moved_same w m k (DispatchIndirect raw o) lim hm hk a b = refl
moved_same w m k (ClearBuffer raw t r) lim hm hk a b = refl
moved_same w m k (CopyBufferToBuffer c d e f g) lim hm hk a b = refl
moved_same w m k (SetIndexBuffer raw) lim hm hk a b = refl
moved_same w m k (BeginQuery q t) lim hm hk a b = refl
moved_same w m k (EndQuery t) lim hm hk a b = refl
moved_same w m k (TimestampQuery q) lim hm hk a b = refl
moved_same w m k (CopyQueryResults r dst t o) lim hm hk a b = ap (λ (z : RangeU32). CopyQueryResults z dst t o) (range_same k r hk (omega (arith, lim.1, ltb-false w.queries r.end b)) (ltb-false r.end r.start a))
moved_same w m k (ResetFramebuffer d) lim hm hk a b = refl
moved_same w m k (BindAttachment x v d s) lim hm hk a b = refl
moved_same w m k (ResolveAttachment x v s) lim hm hk a b = refl
moved_same w m k (InvalidateAttachments s) lim hm hk a b = refl
moved_same w m k (SetDrawColorBuffers n) lim hm hk a b = refl
moved_same w m k (ClearColorF n c) lim hm hk a b = refl
moved_same w m k (ClearColorU n c) lim hm hk a b = refl
moved_same w m k (ClearColorI n c) lim hm hk a b = refl
moved_same w m k (ClearDepth d) lim hm hk a b = refl
moved_same w m k (ClearStencil s) lim hm hk a b = refl
moved_same w m k (ClearDepthAndStencil d s) lim hm hk a b = refl
moved_same w m k (BufferBarrier x u) lim hm hk a b = refl
moved_same w m k (TextureBarrier u) lim hm hk a b = refl
moved_same w m k (SetViewport r d) lim hm hk a b = refl
moved_same w m k (SetScissor r) lim hm hk a b = refl
moved_same w m k (SetStencilFunc at f r n) lim hm hk a b = refl
moved_same w m k (SetStencilOps at x o) lim hm hk a b = refl
moved_same w m k (SetDepth d) lim hm hk a b = refl
moved_same w m k (SetDepthBias d) lim hm hk a b = refl
moved_same w m k (ConfigureDepthStencil x) lim hm hk a b = refl
moved_same w m k (SetAlphaToCoverage x) lim hm hk a b = refl
moved_same w m k (SetVertexAttribute x d y) lim hm hk a b = refl
moved_same w m k (UnsetVertexAttribute l) lim hm hk a b = refl
moved_same w m k (SetVertexBuffer i x d) lim hm hk a b = refl
moved_same w m k (SetProgram p) lim hm hk a b = refl
moved_same w m k (SetPrimitive p) lim hm hk a b = refl
moved_same w m k (SetBlendConstant c) lim hm hk a b = refl
moved_same w m k (SetColorTarget i t) lim hm hk a b = refl
moved_same w m k (BindBuffer ta i x o s) lim hm hk a b = refl
moved_same w m k (BindSampler u s) lim hm hk a b = refl
moved_same w m k (BindTexture i te ta x mips) lim hm hk a b = refl
moved_same w m k (BindImage i x) lim hm hk a b = refl
moved_same w m k (PushDebugGroup r) lim hm hk a b = ap PushDebugGroup (range_same m r hm (omega (arith, lim.0, ltb-false w.bytes r.end (or_right (reversed r) (ltb w.bytes r.end) b))) (ltb-false r.end r.start (or_left (reversed r) (ltb w.bytes r.end) b)))
moved_same w m k PopDebugGroup lim hm hk a b = refl
moved_same w m k (SetImmediates d o) lim hm hk a b = ap (SetImmediates d) (num-same m o hm (omega (arith, lim.0, ltb-false w.bytes (o + d.size_bytes) b)))
moved_same w m k (SetClipDistances old n) lim hm hk a b = refl

pub all_moved : (w : Used) (m k : ℕ) (cs : List Command) → (w.bytes ≤ 65536) × (w.queries ≤ 65536) → m ≤ 65536 → k ≤ 65536 → some? (λ c. (breaks w c).range) cs ≡ false → some? (λ c. (breaks w c).room) cs ≡ false
    → map (moved_in m k) cs ≡ map (moved m k) cs
unfolding some?
all_moved w m k [] lim hm hk a b = refl
all_moved w m k (c ∷ cs) lim hm hk a b =
    ap₂ (λ (x : Command) (l : List Command). x ∷ l)
    (moved_same w m k c lim hm hk (or_left (breaks w c).range (some? (λ z. (breaks w z).range) cs) a) (or_left (breaks w c).room (some? (λ z. (breaks w z).room) cs) b))
    (all_moved w m k cs lim hm hk (or_right (breaks w c).range (some? (λ z. (breaks w z).range) cs) a) (or_right (breaks w c).room (some? (λ z. (breaks w z).room) cs) b))
