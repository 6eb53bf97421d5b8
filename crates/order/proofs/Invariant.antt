-- What ties the recorder's state, the machine that has played its list so far, and the book. Definitions only.
-- Each part takes only what it speaks of, so that a call which does not touch it hands its proof on.
use Prim.Native.Nat.{ℕ, ◌+◌, ◌<◌}
use mathlib.Core.Path.{◌≡◌}
use mathlib.Core.Bool.{true, false, cond}
use mathlib.Core.List.{List, [], ◌∷◌}
use Rattle.std.specs.Prelude.{Option, None, Some}
use lib.ListN.{length}
use lib.Dec.{ltb}
use Rattle.tables.specs.Tabulate.{tabulate}
use Rattle.mask.specs.Mask.{test_bit}
use Rattle.names.specs.Maps.{primitive_topology, primitive_state}
use Rattle.names.specs.declared.gl.StencilSide.{StencilSide}
use Rattle.names.specs.declared.gl.StencilState.{StencilState}
use Rattle.records.specs.Start.{start_vertex}
use Rattle.records.specs.Check.{among, locations}
use Rattle.records.specs.declared.command.AttributeDesc.{AttributeDesc}
use Rattle.records.specs.declared.command.BufferBinding.{BufferBinding}
use Rattle.records.specs.declared.pipeline.PrivateCapabilities.{PrivateCapabilities}
use Rattle.records.specs.declared.pipeline.RenderPipeline.{RenderPipeline}
use Rattle.records.specs.declared.state.Phase.{Phase}
use Rattle.records.specs.declared.state.Phase.TheVariants.{Closed, Open, Render, Compute}
use Rattle.records.specs.declared.state.BindState.{BindState}
use Rattle.records.specs.declared.state.DrawState.{DrawState}
use Rattle.records.specs.declared.state.FixedState.{FixedState}
use Rattle.records.specs.declared.state.VertexState.{VertexState}
use Rattle.records.specs.declared.state.State.{State}
use Rattle.slots.specs.Vertex.{slot_at, desc_at, binding_at, instance_at, attributes_of}
use Rattle.slots.specs.Prepare.{slot_desc, slot_offset, attribute_offset}
use Rattle.bindings.specs.Units.{sampler_at, number_at, resolve}
use Rattle.pipeline.specs.Inner.{map_at, inner_out_of_range}
use Rattle.pipeline.specs.Vertex.{pipe_desc, attributes_in, has, steps_by_instance, desc_or, vertex_out_of_range, vertex_absent, vertex_twice}
use Rattle.pipeline.specs.Fixed.{aspects_of, targets_in, targets_of}
use Rattle.machine.specs.View.{Stage, before, first, later}
use Rattle.machine.specs.Machine.{Attribute, VertexBuffer, Vertices, Bindings, Screen, Fixed, Faces, Gl, Shot, Machine}
use Rattle.machine.specs.Found.{view_of, attributes_by, faces_of}
use Rattle.book.specs.Book.{References, Bound, Entered, Book, has_depth, has_stencil, named_depth, named_faces}
use Rattle.machine.specs.Each.{Each}

-- ---- the first render pass
-- it is open
abbrev pub First : Phase → Stage → Type 0
First Closed st = ⊥
First Open st = ⊥
First Compute st = ⊥
First Render before = ⊥
First Render first = Unit {0}
First Render later = ⊥

-- no render pass is open before the first
abbrev pub Sane : Phase → Stage → Type 0
Sane Closed st = Unit {0}
Sane Open st = Unit {0}
Sane Compute st = Unit {0}
Sane Render before = ⊥
Sane Render first = Unit {0}
Sane Render later = Unit {0}

-- ---- the draws
-- without layouts no attribute is set but at the pipeline's locations
abbrev pub Bare : PrivateCapabilities → Option RenderPipeline → Shot → Type 0
Bare caps p s = caps.vertex_buffer_layout ≡ false → (i : ℕ) → among i (locations (attributes_by p)) ≡ false → s.gl.vertices.attribute i ≡ None

-- a draw finds what is named, and is bare
abbrev pub Drew : PrivateCapabilities → Shot → Entered → Type 0
Drew caps s d = (view_of d.pipeline s ≡ d.view) × Bare caps d.pipeline s

-- as many on both sides, each such
abbrev pub Agree : PrivateCapabilities → List Shot → List Entered → Type 0
Agree caps [] [] = Unit {0}
Agree caps [] (d ∷ ds) = ⊥
Agree caps (s ∷ ss) [] = ⊥
Agree caps (s ∷ ss) (d ∷ ds) = Drew caps s d × Agree caps ss ds

-- ---- what each call sends at once
pub record ScreenTied (g : Screen) (b : Book) : Type 0 where
  pub viewport : g.viewport ≡ b.viewport
  pub scissor : g.scissor ≡ b.scissor
  pub blend : g.blend ≡ b.blend

pub record ResTied (g : Bindings) (x : Bound) (i : Option ℕ) : Type 0 where
  pub buffers : g.buffers ≡ x.buffers
  pub textures : g.textures ≡ x.textures
  pub images : g.images ≡ x.images
  pub index : g.index ≡ i

pub record ArgsTied (d : DrawState) (b : Book) : Type 0 where
  pub format : d.index_format ≡ b.format
  pub offset : d.index_offset ≡ b.offset

-- ---- samplers: each unit holds the state's sampler under the unit's number
pub record Units (x : BindState) (g held : ℕ → Option ℕ) : Type 0 where
  pub samplers_long : length x.samplers ≡ 16
  pub units_long : length x.texture_slots ≡ 16
  pub same : (k : ℕ) → k < 16 → sampler_at x k ≡ held k
  pub taken : (u : ℕ) → u < 16 → g u ≡ resolve x (number_at x u)

-- ---- recorded only on change: the state has what the machine has
pub record Lazy (f : FixedState) (g : Fixed) : Type 0 where
  pub bias : g.bias ≡ f.depth_bias
  pub alpha : g.alpha ≡ f.alpha_to_coverage_enabled
  pub clip : g.clip ≡ (λ i. ltb i f.clip_distance_count)
  pub targets : tabulate (length (targets_of f)) g.target ≡ targets_of f
  -- the starting primitive, whose front face is 0, is no pipeline's
  pub primitive : (f.primitive.front_face ≡ 0 → ⊥) → g.primitive ≡ Some f.primitive

-- ---- vertex slots, in the first render pass
-- what a slot holds at a working instance
abbrev pub slot_buffer : VertexState → ℕ → ℕ → VertexBuffer
slot_buffer v w i = record { binding = record { raw = (slot_at v i).raw; offset = (slot_at v i).offset + slot_offset v w i }; desc = slot_desc v i }

-- what an attribute holds at it, on a board without layouts
abbrev pub attribute_buffer : VertexState → ℕ → AttributeDesc → Attribute
attribute_buffer v w a =
    record {
      buffer = Some (slot_at v a.buffer_index).raw;
      desc = slot_desc v a.buffer_index;
      attribute = record { location = a.location; offset = attribute_offset v w a; buffer_index = a.buffer_index; format_desc = a.format_desc };
    }

-- in every pass: sixteen slots
pub record Steady (v : VertexState) : Type 0 where
  pub long : length v.buffers ≡ 16

-- in every pass and between them: without layouts no attribute is set but at the locations of the state's list
abbrev pub Spare : PrivateCapabilities → VertexState → Vertices → Type 0
Spare caps v g = caps.vertex_buffer_layout ≡ false → (i : ℕ) → among i (locations (attributes_of v)) ≡ false → g.attribute i ≡ None

pub record Slots (caps : PrivateCapabilities) (v : VertexState) (g : Vertices) (buffer : ℕ → Option BufferBinding) : Type 0 where
  -- a slot that the book has a buffer for is bound to it
  pub bound : (i : ℕ) → i < 16 → has (buffer i) ≡ true → binding_at v i ≡ buffer i
  -- and, described and not dirty, holds what the state says at the working instance that it was last bound with
  pub clean : caps.vertex_buffer_layout ≡ true → (i : ℕ) → i < 16 → has (buffer i) ≡ true → test_bit v.dirty_vbuf_mask i ≡ false → test_bit v.described i ≡ true → test_bit v.bound i ≡ true
      → g.buffer i ≡ Some (slot_buffer v (instance_at v i) i)

-- ---- the current pipeline, in the first render pass
pub record Drawn (d : DrawState) (p : RenderPipeline) : Type 0 where
  pub topology : d.topology ≡ primitive_topology p.topology
  pub location : d.first_instance_location ≡ p.inner.first_instance_location

pub record Set (g : Fixed) (p : RenderPipeline) : Type 0 where
  pub program : g.program ≡ Some p.inner.program
  pub primitive : g.primitive ≡ Some (primitive_state p.primitive)
  pub bias : g.bias ≡ p.depth_bias
  pub alpha : g.alpha ≡ p.alpha_to_coverage_enabled
  pub clip : g.clip ≡ (λ i. ltb i p.inner.clip_distance_count)
  pub targets : tabulate (length (targets_in p)) g.target ≡ targets_in p
  pub aspects : g.aspects ≡ Some (aspects_of p)
  pub depth : cond (has_depth p.depth) g.depth None ≡ named_depth p.depth

-- the state's stencil is the pipeline's but for the reference
abbrev pub SameSide : StencilSide → StencilSide → Type 0
SameSide s t = (s.function ≡ t.function) × (s.mask_read ≡ t.mask_read)

abbrev pub SameFuncs : StencilState → Option StencilState → Type 0
SameFuncs s None = Unit {0}
SameFuncs s (Some t) = SameSide s.front t.front × SameSide s.back t.back

pub record Stenciled (s : StencilState) (g : Faces) (r : Option References) (p : RenderPipeline) : Type 0 where
  pub funcs : SameFuncs s p.stencil
  pub faces : cond (has_stencil p.stencil) (faces_of g) None ≡ named_faces r p.stencil

pub record Numbered (x : BindState) (p : RenderPipeline) : Type 0 where
  pub number : (u : ℕ) → u < 16 → number_at x u ≡ map_at p.inner u
  pub low : inner_out_of_range p.inner ≡ false

-- an attribute that the board with layouts has sent
abbrev pub sent_attribute : RenderPipeline → AttributeDesc → Attribute
sent_attribute p a = record { buffer = None; desc = desc_or (pipe_desc p a.buffer_index); attribute = a }

pub record Fetched (caps : PrivateCapabilities) (v : VertexState) (g : Vertices) (p : RenderPipeline) : Type 0 where
  -- what refusals 3, 4 and 5 ask of the pipeline
  pub ranged : vertex_out_of_range p ≡ false
  pub described : vertex_absent p ≡ false
  pub apart : vertex_twice p ≡ false
  -- the state's description of a slot that the pipeline describes is the pipeline's
  pub kept : (i : ℕ) → i < 16 → has (pipe_desc p i) ≡ true → desc_at v i ≡ pipe_desc p i
  pub instances : (i : ℕ) → i < 16 → test_bit v.instance_vbuf_mask i ≡ steps_by_instance (pipe_desc p i)
  -- with layouts each attribute is sent by the pipeline call
  pub sent : caps.vertex_buffer_layout ≡ true → Each (λ (a : AttributeDesc). g.attribute a.location ≡ Some (sent_attribute p a)) (attributes_in p)
  -- without, the state holds them, and one whose slot is bound and not dirty holds what the state says
  pub held : caps.vertex_buffer_layout ≡ false → attributes_of v ≡ attributes_in p
  pub clean : caps.vertex_buffer_layout ≡ false
      → Each (λ (a : AttributeDesc). test_bit v.dirty_vbuf_mask a.buffer_index ≡ false → test_bit v.bound a.buffer_index ≡ true
      → g.attribute a.location ≡ Some (attribute_buffer v (instance_at v a.buffer_index) a)) (attributes_in p)

pub record Piped (caps : PrivateCapabilities) (s : State) (g : Gl) (r : Option References) (p : RenderPipeline) : Type 0 where
  pub drawn : Drawn s.draw p
  pub set : Set g.fixed p
  pub stenciled : Stenciled s.fixed.stencil g.faces r p
  pub numbered : Numbered s.bind p
  pub fetched : Fetched caps s.vertex g.vertices p

-- ---- before the first render pass
pub record Early (v : VertexState) (pipeline : Option RenderPipeline) (buffer : ℕ → Option BufferBinding) : Type 0 where
  pub vertex : v ≡ start_vertex
  pub unset : pipeline ≡ None
  pub empty : (i : ℕ) → buffer i ≡ None

pub record Tied (caps : PrivateCapabilities) (s : State) (m : Machine) (b : Book) : Type 0 where
  pub stage : m.stage ≡ b.stage
  pub sane : Sane s.progress.phase b.stage
  pub log : Agree caps m.shots b.draws
  pub screen : ScreenTied m.gl.screen b
  pub res : ResTied m.gl.bindings b.bound b.index
  pub args : ArgsTied s.draw b
  pub units : Units s.bind m.gl.bindings.samplers b.bound.samplers
  pub lazy : Lazy s.fixed m.gl.fixed
  pub steady : Steady s.vertex
  pub spare : Spare caps s.vertex m.gl.vertices
  pub early : b.stage ≡ before → Early s.vertex b.pipeline b.buffer
  pub slots : First s.progress.phase b.stage → Slots caps s.vertex m.gl.vertices b.buffer
  pub piped : First s.progress.phase b.stage → (p : RenderPipeline) → b.pipeline ≡ Some p → Piped caps s m.gl b.reference p
