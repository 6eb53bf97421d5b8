-- The resolves of a pass, laid one after the other over an array. Assumes nothing.
-- `resolve-gather`: they are those of the resolved places. `lay-next`: one more is appended.
use Rattle.std.specs.Prelude.{ℕ, zero, suc, ◌+◌, ◌≤◌, ◌<◌, ◌≡◌, refl, Bool, true, false, cond, not, ◌&&◌, List, [], ◌∷◌, ◌++◌, length, set, drop, Option, None, Some}
use Rattle.std.proofs.Common.{ap, append-nil, not-suc-le-zero, arith, length-append, length-drop}
use Rattle.records.specs.declared.pass.ColorPlace.{ColorPlace}
use Rattle.records.specs.declared.command.TextureView.{TextureView}
use Rattle.records.specs.declared.pass.ColorAttachment.{ColorAttachment}
use Rattle.records.specs.declared.pipeline.PrivateCapabilities.{PrivateCapabilities}
use Rattle.records.specs.declared.state.ResolveDesc.{ResolveDesc}
use Rattle.pass.specs.Render.{resolves_in_place, resolve_of, resolve_place, resolves_from}
use Rattle.pass.specs.Places.{has_view, is_resolved, resolve_to, resolve_desc}
use Rattle.pass.specs.Gather.{gather}
use Rattle.pass.specs.declared.resolves.Resolves.{Resolves}

-- the list laid over the beginning of an array
abbrev pub laid_over : List ResolveDesc → List ResolveDesc → Resolves
laid_over xs old = record { at = xs ++ drop (length xs) old; count = length xs }

-- one resolve appended, where b says so
abbrev pub append_if : Bool → ResolveDesc → Resolves → Resolves
append_if true a r = record { at = set r.at r.count a; count = r.count + 1 }
append_if false a r = r

abbrev pub resolves_at : PrivateCapabilities → ℕ → ColorPlace → Bool
resolves_at caps i p = is_resolved caps i p.attachment

abbrev pub resolve_at : ℕ → ColorPlace → ResolveDesc
resolve_at i p = resolve_desc i p.attachment

pub resolve-gather : (caps : PrivateCapabilities) (i : ℕ) (ps : List ColorPlace) → resolves_from caps i ps ≡ gather (resolves_at caps) resolve_at i ps
unfolding resolves_from gather
resolve-gather caps i [] = refl
resolve-gather caps i (p ∷ ps) = rw (resolve-gather caps (suc i) ps) (go p.attachment)
  where
    l : List ResolveDesc
    l = gather (resolves_at caps) resolve_at (suc i) ps

    by : (v : Option TextureView) (b : Bool) → resolve_of b i v ++ l ≡ cond (has_view v && not b) (resolve_to i v ∷ l) l
    by None b = refl
    by (Some v) true = refl
    by (Some v) false = refl

    go : (o : Option ColorAttachment) → resolve_place caps i o ++ l ≡ cond (is_resolved caps i o) (resolve_desc i o ∷ l) l
    go None = refl
    go (Some a) = by a.resolve_target (resolves_in_place caps i a.ops a.resolve_target)

module _ {A : Type 0} where
  put_last : (a : A) (xs ys : List A) → 0 < length ys → set (xs ++ ys) (length xs) a ≡ (xs ++ (a ∷ [])) ++ drop 1 ys
  put_last a [] [] h = absurd (not-suc-le-zero h)
  put_last a [] (y ∷ ys) h = refl
  put_last a (x ∷ xs) ys h = ap (λ (l : List A). x ∷ l) (put_last a xs ys h)

  drop_more : (n : ℕ) (l : List A) → drop 1 (drop n l) ≡ drop (suc n) l
  drop_more zero l = refl
  drop_more (suc n) [] = refl
  drop_more (suc n) (x ∷ l) = drop_more n l

pub lay-next : (b : Bool) (a : ResolveDesc) (xs old : List ResolveDesc) → length xs < length old → append_if b a (laid_over xs old) ≡ laid_over (xs ++ cond b (a ∷ []) []) old
lay-next true a xs old h =
    let n : length (xs ++ (a ∷ [])) ≡ suc (length xs) = omega (arith, length-append xs (a ∷ [])) in
    let p : length xs + 1 ≡ suc (length xs) = omega arith in
    let m : 0 < length (drop (length xs) old) = omega (arith, length-drop (length xs) old) in
    rw (put_last a xs (drop (length xs) old) m, drop_more (length xs) old, n, p)
lay-next false a xs old h = rw (append-nil xs)

pub append-more : (b : Bool) (a : ResolveDesc) (r : Resolves) → (append_if b a r).count ≤ r.count + 1
append-more true a r = omega arith
append-more false a r = omega arith
