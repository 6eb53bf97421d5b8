-- The parts of what the end of a pass records: how many commands each has, and the one at a place. Assumes nothing.
use Prim.Native.Nat.{ℕ, zero, suc, ◌+◌, ◌≤◌, ◌<◌}
use mathlib.Core.Path.{◌≡◌, refl}
use mathlib.Core.Bool.{Bool, true, false, not, cond, ◌||◌}
use mathlib.Core.List.{List, [], ◌∷◌, ◌++◌, map}
use native.Mathlib.Nat.{not-suc-le-zero, le_of_suc-le-suc}
use native.Mathlib.Omega.{arith}
use lib.Dec.{eqb}
use lib.ListN.{length, get_or, length-append, length-map}
use Rattle.mask.specs.Mask.{digit_of}
use Rattle.records.specs.Check.{some?}
use Rattle.records.specs.declared.command.Command.TheVariants.{InvalidateAttachments, PopDebugGroup}
use Rattle.std.specs.Prelude.{Option, None, Some}
use Rattle.records.specs.declared.state.PassState.{PassState}
use Rattle.records.specs.declared.state.VertexState.{VertexState}
use Rattle.slots.specs.Vertex.{attributes_of}
use Rattle.slots.specs.Place.{Stands}
use Rattle.pipeline.specs.Vertex.{unset_attribute}
use Rattle.pass.specs.Marks.{timestamp, pop_label}
use Rattle.pass.specs.Render.{resolve_command, invalidate_command, end_render_commands}
use Rattle.pass.specs.End.{resolves_in, resolve_commands, after_resolves, unsetting}

-- where nothing in a list passes a test, the element at each place does not
pub none-at : {A : Type 0} (f : A → Bool) (l : List A) (k : ℕ) (d : A) → k < length l → some? f l ≡ false → f (get_or l k d) ≡ false
unfolding some?
none-at f [] k d h e = absurd (not-suc-le-zero h)
none-at f (x ∷ l) k d h e = go (f x) refl k h e (λ j. none-at f l j d)
  where
    go : (b : Bool) → f x ≡ b → (k : ℕ) → k < length (x ∷ l) → b || some? f l ≡ false → ((j : ℕ) → j < length l → some? f l ≡ false → f (get_or l j d) ≡ false) → f (get_or (x ∷ l) k d) ≡ false
    go true q k h e ih = let z : ◌≡◌ {A = ℕ} 0 1 = cc in absurd (omega arith)
    go false q zero h e ih = q
    go false q (suc k) h e ih = ih k (le_of_suc-le-suc h) e

pub few-stamp : (q : Option ℕ) → length (timestamp q) ≤ 1
few-stamp None = omega arith
few-stamp (Some n) = omega arith

pub invalid-one : (m : ℕ) → length (invalidate_command m) ≡ digit_of (not (eqb m 0))
invalid-one m = go (eqb m 0)
  where
    go : (b : Bool) → length (cond b [] (InvalidateAttachments m ∷ [])) ≡ digit_of (not b)
    go true = refl
    go false = refl

pub pop-one : (b : Bool) → length (pop_label b) ≡ digit_of b
pop-one true = refl
pop-one false = refl

pub pop-at : (b : Bool) (k : ℕ) → Stands PopDebugGroup k (pop_label b)
pop-at true zero h d = refl
pop-at true (suc k) h d = absurd (omega arith)
pop-at false k h d = absurd (not-suc-le-zero h)

pub end-long : (s : PassState) (v : VertexState) → length (end_render_commands s (map unset_attribute (attributes_of v)))
    ≡ length (resolves_in s) + digit_of (not (eqb s.invalidate_attachments 0)) + digit_of s.has_pass_label + length (attributes_of v) + length (timestamp s.end_of_pass_timestamp)
end-long s v =
    let r = length-map (resolves_in s) (resolve_command s.render_size) in
    let u = length-map (attributes_of v) unset_attribute in
    let i = invalid-one s.invalidate_attachments in
    let p = pop-one s.has_pass_label in
    let a = length-append (resolve_commands s) (after_resolves s v) in
    let b = length-append (invalidate_command s.invalidate_attachments) (pop_label s.has_pass_label ++ unsetting s v) in
    let e = length-append (pop_label s.has_pass_label) (unsetting s v) in
    let f = length-append (map unset_attribute (attributes_of v)) (timestamp s.end_of_pass_timestamp) in
    omega (arith, r, u, i, p, a, b, e, f)
