-- A bind group call: entry by entry the machine's bindings become the book's. Assumes nothing.
use Prim.Native.Nat.{ℕ}
use mathlib.Core.Path.{◌≡◌, refl, ap, ◌∙◌}
use mathlib.Core.List.{List, [], ◌∷◌, ◌++◌}
use Rattle.std.specs.Prelude.{Option, Some}
use Rattle.tables.specs.Tabulate.{upd}
use Rattle.mask.specs.Mask.{places}
use Rattle.records.specs.declared.binding.BindGroupLayoutEntry.{BindGroupLayoutEntry}
use Rattle.records.specs.declared.binding.RawBinding.{RawBinding}
use Rattle.records.specs.declared.binding.RawBinding.TheVariants as content
use Rattle.records.specs.declared.command.Command.TheVariants.{BindSampler}
use Rattle.records.specs.declared.command.ImageBinding.{ImageBinding}
use Rattle.records.specs.declared.state.BindState.{BindState}
use Rattle.bindings.specs.Units.{number_at, resolve, sampler_commands}
use Rattle.bindings.specs.Group.{Entry, buffer_target, offset_of, entry_commands, offsets_after, group_commands}
use Rattle.machine.specs.View.{BufferRange, TextureBinding}
use Rattle.machine.specs.Machine.{Bindings, Machine, with_bindings, put_range, put_texture, put_image, play}
use Rattle.book.specs.Book.{Bound}
use Rattle.order.proofs.Own.{entry_bound, group_bound}
use Rattle.machine.proofs.Sweep.{play-append, folded, played, unfolded}
use Rattle.order.proofs.UnitLaws.{sampler_act}
use Rattle.order.proofs.Invariant.{ResTied}

-- one entry on the machine's bindings
abbrev entry_played : BindGroupLayoutEntry → RawBinding → List ℕ → Bindings → Bindings
entry_played e (content.Buffer raw offset size) os g = put_range (buffer_target e.ty) e.slot (record { buffer = raw; offset = offset_of e offset os; size = size }) g
entry_played e (content.Texture raw target aspects mips) os g = put_texture e.slot (record { texture = raw; target = target; aspects = aspects; mips = mips }) g
entry_played e (content.Image x) os g = put_image e.slot x g
entry_played e (content.Sampler k) os g = g

unfoldable pub group_played : List Entry → List ℕ → Bindings → Bindings
group_played [] os g = g
group_played (x ∷ xs) os g = group_played xs (offsets_after x.layout x.raw os) (entry_played x.layout x.raw os g)

play-entry : (e : BindGroupLayoutEntry) (r : RawBinding) (os : List ℕ) (m : Machine) → play m (entry_commands e r os) ≡ with_bindings (entry_played e r os m.gl.bindings) m
play-entry e (content.Buffer raw offset size) os m = refl
play-entry e (content.Texture raw target aspects mips) os m = refl
play-entry e (content.Image x) os m = refl
play-entry e (content.Sampler k) os m = refl

play-group : (xs : List Entry) (os : List ℕ) (m : Machine) → play m (group_commands xs os) ≡ with_bindings (group_played xs os m.gl.bindings) m
unfolding group_commands group_played
play-group [] os m = refl
play-group (x ∷ xs) os m =
    play-append m (entry_commands x.layout x.raw os) (group_commands xs (offsets_after x.layout x.raw os))
    ∙ ap (λ (n : Machine). play n (group_commands xs (offsets_after x.layout x.raw os))) (play-entry x.layout x.raw os m)
    ∙ play-group xs (offsets_after x.layout x.raw os) (with_bindings (entry_played x.layout x.raw os m.gl.bindings) m)

entry-samplers : (e : BindGroupLayoutEntry) (r : RawBinding) (os : List ℕ) (g : Bindings) → (entry_played e r os g).samplers ≡ g.samplers
entry-samplers e (content.Buffer raw offset size) os g = refl
entry-samplers e (content.Texture raw target aspects mips) os g = refl
entry-samplers e (content.Image x) os g = refl
entry-samplers e (content.Sampler k) os g = refl

pub group-samplers : (xs : List Entry) (os : List ℕ) (g : Bindings) → (group_played xs os g).samplers ≡ g.samplers
unfolding group_played
group-samplers [] os g = refl
group-samplers (x ∷ xs) os g = group-samplers xs (offsets_after x.layout x.raw os) (entry_played x.layout x.raw os g) ∙ entry-samplers x.layout x.raw os g

entry-res : (e : BindGroupLayoutEntry) (r : RawBinding) (os : List ℕ) (g : Bindings) (x : Bound) (i : Option ℕ) → ResTied g x i → ResTied (entry_played e r os g) (entry_bound e r os x) i
entry-res e (content.Buffer raw offset size) os g x i T =
    record {
      buffers = ap (λ (f : ℕ → ℕ → Option BufferRange). upd f (buffer_target e.ty) (upd (f (buffer_target e.ty)) e.slot (Some (record { buffer = raw; offset = offset_of e offset os; size = size })))) T.buffers;
      textures = T.textures;
      images = T.images;
      index = T.index;
    }
entry-res e (content.Texture raw target aspects mips) os g x i T =
    record {
      buffers = T.buffers;
      textures = ap (λ (f : ℕ → Option TextureBinding). upd f e.slot (Some (record { texture = raw; target = target; aspects = aspects; mips = mips }))) T.textures;
      images = T.images;
      index = T.index;
    }
entry-res e (content.Image y) os g x i T =
    record { buffers = T.buffers; textures = T.textures; images = ap (λ (f : ℕ → Option ImageBinding). upd f e.slot (Some y)) T.images; index = T.index }
entry-res e (content.Sampler k) os g x i T = record { buffers = T.buffers; textures = T.textures; images = T.images; index = T.index }

pub group-res : (xs : List Entry) (os : List ℕ) (g : Bindings) (x : Bound) (i : Option ℕ) → ResTied g x i → ResTied (group_played xs os g) (group_bound xs os x) i
unfolding group_played group_bound
group-res [] os g x i T = T
group-res (y ∷ ys) os g x i T =
    group-res ys (offsets_after y.layout y.raw os) (entry_played y.layout y.raw os g) (entry_bound y.layout y.raw os x) i (entry-res y.layout y.raw os g x i T)

-- ---- the samplers that follow
pub play-samplers : (b : BindState) (k : ℕ) (m : Machine) → play m (sampler_commands b k) ≡ with_bindings (folded (sampler_act b) (places k) m.gl.bindings) m
unfolding sampler_commands
play-samplers b k m =
    played (λ (m : Machine). m.gl.bindings) with_bindings (λ u. BindSampler u (resolve b (number_at b u))) (sampler_act b) (λ m. refl) (λ m g h. refl) (λ m g. refl) (λ m u. refl) (places k) m

pub samplers-res : (b : BindState) (ks : List ℕ) (g : Bindings) (x : Bound) (i : Option ℕ) → ResTied g x i → ResTied (folded (sampler_act b) ks g) x i
samplers-res b ks g x i T =
    record {
      buffers = unfolded (sampler_act b) (λ (g : Bindings). g.buffers) (λ k g. refl) ks g ∙ T.buffers;
      textures = unfolded (sampler_act b) (λ (g : Bindings). g.textures) (λ k g. refl) ks g ∙ T.textures;
      images = unfolded (sampler_act b) (λ (g : Bindings). g.images) (λ k g. refl) ks g ∙ T.images;
      index = unfolded (sampler_act b) (λ (g : Bindings). g.index) (λ k g. refl) ks g ∙ T.index;
    }

-- both runs of a bind group call
pub play-bind-group : (xs : List Entry) (os : List ℕ) (b : BindState) (k : ℕ) (m : Machine)
    → play m (group_commands xs os ++ sampler_commands b k) ≡ with_bindings (folded (sampler_act b) (places k) (group_played xs os m.gl.bindings)) m
play-bind-group xs os b k m =
    play-append m (group_commands xs os) (sampler_commands b k)
    ∙ ap (λ (n : Machine). play n (sampler_commands b k)) (play-group xs os m)
    ∙ play-samplers b k (with_bindings (group_played xs os m.gl.bindings) m)
