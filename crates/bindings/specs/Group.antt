-- `set_bind_group`: document 01, "Bindings and immediates". Definitions only.
use Rattle.std.specs.Prelude.{ℕ, ◌+◌, ◌^◌, ◌-◌, Bool, true, false, cond, not, ◌&&◌, ◌||◌, List, [], ◌∷◌, ◌++◌, ℤ, pos, ◌+ℤ◌, ltb, leb, eqb, get_or, take, set}
use Rattle.std.specs.Int.Signed.{lt_z}
use Rattle.mask.specs.Mask.{set_bit, digit_of}
use Rattle.mask.specs.By.{mask_by}
use Rattle.names.specs.Gl.{GL_UNIFORM_BUFFER, GL_SHADER_STORAGE_BUFFER}
use Rattle.records.specs.Check.{some?}
use Rattle.records.specs.declared.command.Command.{Command}
use Rattle.records.specs.declared.command.Command.TheVariants.{BindBuffer, BindTexture, BindImage}
use Rattle.records.specs.declared.binding.BufferBindingType.{BufferBindingType}
use Rattle.records.specs.declared.binding.BufferBindingType.TheVariants.{Uniform, Storage}
use Rattle.records.specs.declared.binding.BindingType.{BindingType}
use Rattle.records.specs.declared.binding.BindingType.TheVariants as type
use Rattle.records.specs.declared.binding.BindGroupLayoutEntry.{BindGroupLayoutEntry}
use Rattle.records.specs.declared.binding.GroupShape.{GroupShape}
use Rattle.records.specs.declared.binding.PipelineLayout.{PipelineLayout}
use Rattle.records.specs.declared.binding.GroupEntries.{GroupEntries}
use Rattle.records.specs.declared.binding.RawBinding.{RawBinding}
use Rattle.records.specs.declared.binding.RawBinding.TheVariants as content
use Rattle.records.specs.declared.binding.Content.{Content}
use Rattle.records.specs.declared.binding.BindGroup.{BindGroup}
use Rattle.records.specs.declared.state.BindState.{BindState}
use Rattle.bindings.specs.Units.{unit_at, sampler_commands, dirty_units}

-- a layout entry and what the bind group has for it
pub record Entry : Type 0 where
  pub layout : BindGroupLayoutEntry
  pub raw : RawBinding

-- the entries that the Rust's `zip` reaches
unfoldable pub zipped : List BindGroupLayoutEntry → List Content → List Entry
zipped [] cs = []
zipped (e ∷ es) [] = []
zipped (e ∷ es) (c ∷ cs) = record { layout = e; raw = c.binding } ∷ zipped es cs

abbrev pub no_group : GroupShape
no_group = record { present = false; entry_count = 0 }

-- the group that the call names, within the layout
abbrev pub group_at : PipelineLayout → ℕ → GroupShape
group_at l i = cond (ltb i l.group_count) (get_or l.groups i no_group) no_group

abbrev pub entries_of : PipelineLayout → ℕ → GroupEntries → BindGroup → List Entry
entries_of l i e g =
    zipped (cond (group_at l i).present (take (group_at l i).entry_count e.entries) []) (take g.content_count g.contents)

-- the binding point of a buffer's type
abbrev pub target_of : BufferBindingType → ℕ
target_of Uniform = GL_UNIFORM_BUFFER
target_of Storage = GL_SHADER_STORAGE_BUFFER

abbrev pub head_or : ℕ → List ℕ → ℕ
head_or d [] = d
head_or d (x ∷ xs) = x

abbrev pub rest : List ℕ → List ℕ
rest [] = []
rest (x ∷ xs) = xs

-- a buffer at an entry with a dynamic offset takes the next one
abbrev pub dynamic : BindingType → Bool
dynamic (type.Buffer ty d) = d
dynamic type.Texture = false
dynamic type.StorageTexture = false
dynamic type.Sampler = false

abbrev pub is_buffer : BindingType → Bool
is_buffer (type.Buffer ty d) = true
is_buffer type.Texture = false
is_buffer type.StorageTexture = false
is_buffer type.Sampler = false

abbrev pub takes_offset : BindGroupLayoutEntry → RawBinding → Bool
takes_offset e (content.Buffer raw offset size) = dynamic e.ty
takes_offset e (content.Texture raw target aspects mips) = false
takes_offset e (content.Image binding) = false
takes_offset e (content.Sampler k) = false

-- "A dynamic offset is added to its binding's offset as the whole number it is"
abbrev pub offset_of : BindGroupLayoutEntry → ℤ → List ℕ → ℤ
offset_of e offset os = cond (dynamic e.ty) (offset +ℤ pos (head_or 0 os)) offset

abbrev pub buffer_target : BindingType → ℕ
buffer_target (type.Buffer ty d) = target_of ty
buffer_target type.Texture = 0
buffer_target type.StorageTexture = 0
buffer_target type.Sampler = 0

-- what one entry records, where the dynamic offsets os are left
abbrev pub entry_commands : BindGroupLayoutEntry → RawBinding → List ℕ → List Command
entry_commands e (content.Buffer raw offset size) os = BindBuffer (buffer_target e.ty) e.slot raw (offset_of e offset os) size ∷ []
entry_commands e (content.Texture raw target aspects mips) os = BindTexture e.slot raw target aspects mips ∷ []
entry_commands e (content.Image binding) os = BindImage e.slot binding ∷ []
entry_commands e (content.Sampler k) os = []

-- the dynamic offsets that are left after an entry
abbrev pub offsets_after : BindGroupLayoutEntry → RawBinding → List ℕ → List ℕ
offsets_after e r os = cond (takes_offset e r) (rest os) os

-- entry by entry, "dynamic offsets in order"
unfoldable pub group_commands : List Entry → List ℕ → List Command
group_commands [] os = []
group_commands (x ∷ xs) os = entry_commands x.layout x.raw os ++ group_commands xs (offsets_after x.layout x.raw os)

-- a texture names its unit's target, a sampler is set under its slot's number
abbrev pub entry_state : BindGroupLayoutEntry → RawBinding → BindState → BindState
entry_state e (content.Buffer raw offset size) b = b
entry_state e (content.Texture raw target aspects mips) b =
    record {
      samplers = b.samplers;
      sampler_set = b.sampler_set;
      texture_slots = set b.texture_slots e.slot (record { tex_target = target; sampler_index = (unit_at b e.slot).sampler_index });
      sampled = b.sampled;
    }
entry_state e (content.Image binding) b = b
entry_state e (content.Sampler k) b =
    record {
      samplers = set b.samplers e.slot k;
      sampler_set = set_bit b.sampler_set e.slot;
      texture_slots = b.texture_slots;
      sampled = b.sampled;
    }

unfoldable pub group_state : List Entry → BindState → BindState
group_state [] b = b
group_state (x ∷ xs) b = group_state xs (entry_state x.layout x.raw b)

-- an entry names unit u: it has a texture, and u is its slot; and the same of a sampler's number
abbrev pub is_texture : RawBinding → Bool
is_texture (content.Buffer raw offset size) = false
is_texture (content.Texture raw target aspects mips) = true
is_texture (content.Image binding) = false
is_texture (content.Sampler k) = false

abbrev pub is_sampler : RawBinding → Bool
is_sampler (content.Buffer raw offset size) = false
is_sampler (content.Texture raw target aspects mips) = false
is_sampler (content.Image binding) = false
is_sampler (content.Sampler k) = true

abbrev pub names_texture : ℕ → Entry → Bool
names_texture u x = is_texture x.raw && eqb x.layout.slot u

abbrev pub names_sampler : ℕ → Entry → Bool
names_sampler k x = is_sampler x.raw && eqb x.layout.slot k

-- "Texture and sampler slots are 0 to 15": of these sixteen the units, and the sampler numbers, that some entry names
unfoldable pub textures_named : List Entry → ℕ
textures_named xs = mask_by 16 (λ u. some? (names_texture u) xs)

unfoldable pub samplers_named : List Entry → ℕ
samplers_named xs = mask_by 16 (λ k. some? (names_sampler k) xs)

-- "one `BindSampler` for each unit whose texture or sampler it names, the same as before or not"; "units ascending", after all other binds
abbrev pub bind_group_commands : List Entry → List ℕ → BindState → List Command
bind_group_commands xs os b =
    group_commands xs os ++ sampler_commands (group_state xs b) (dirty_units (group_state xs b) (textures_named xs) (samplers_named xs))

-- ---- the conditions
-- 2: more than 64 entries in a group of the layout; one without a record has none
abbrev pub long_group : GroupShape → Bool
long_group g = g.present && ltb 64 g.entry_count

-- 3, of an entry: a binding number of 1,000 or more or past the slot table; a texture's or sampler's slot of 16 or more; a negative offset of a buffer
abbrev pub content_out_of_range : ℕ → RawBinding → Bool
content_out_of_range slot (content.Buffer raw offset size) = lt_z offset (pos 0)
content_out_of_range slot (content.Texture raw target aspects mips) = leb 16 slot
content_out_of_range slot (content.Image binding) = false
content_out_of_range slot (content.Sampler k) = leb 16 slot

abbrev pub entry_out_of_range : Entry → Bool
entry_out_of_range x = leb 1000 x.layout.binding || (leb 256 x.layout.slot || content_out_of_range x.layout.slot x.raw)

-- how many entries take a dynamic offset
unfoldable pub offsets_used : List Entry → ℕ
offsets_used [] = 0
offsets_used (x ∷ xs) = digit_of (takes_offset x.layout x.raw) + offsets_used xs

-- 4: a dynamic offset absent: more entries take one than the call counts
abbrev pub offset_missing : List Entry → ℕ → Bool
offset_missing xs count = ltb count (offsets_used xs)

-- 5: a buffer for a non-buffer entry
abbrev pub content_wrong_kind : BindingType → RawBinding → Bool
content_wrong_kind ty (content.Buffer raw offset size) = not (is_buffer ty)
content_wrong_kind ty (content.Texture raw target aspects mips) = false
content_wrong_kind ty (content.Image binding) = false
content_wrong_kind ty (content.Sampler k) = false

abbrev pub entry_wrong_kind : Entry → Bool
entry_wrong_kind x = content_wrong_kind x.layout.ty x.raw

-- 6: a binding's offset with its dynamic offset past an i32
abbrev pub offset_over : BindGroupLayoutEntry → RawBinding → List ℕ → Bool
offset_over e (content.Buffer raw offset size) os = lt_z (pos (2 ^ 31 - 1)) (offset_of e offset os)
offset_over e (content.Texture raw target aspects mips) os = false
offset_over e (content.Image binding) os = false
offset_over e (content.Sampler k) os = false

unfoldable pub group_over : List Entry → List ℕ → Bool
group_over [] os = false
group_over (x ∷ xs) os = offset_over x.layout x.raw os || group_over xs (offsets_after x.layout x.raw os)
