-- A plan of `set_bind_group`: the entries' commands, and then the samplers'. Definitions only.
use Rattle.std.specs.Prelude.{ℕ, ◌<◌, ◌≤◌, ◌≡◌, Bool, false, not, ◌||◌, List, ◌++◌, ltb, leb, length, get_or, take}
use Rattle.records.specs.Check.{some?}
use Rattle.records.specs.declared.binding.BindGroup.{BindGroup}
use Rattle.records.specs.declared.binding.PipelineLayout.{PipelineLayout}
use Rattle.records.specs.declared.command.Command.{Command}
use Rattle.records.specs.declared.command.Command.TheVariants.{PopDebugGroup}
use Rattle.records.specs.declared.outcome.Conditions.{Conditions}
use Rattle.records.specs.declared.state.Answer.{Answer}
use Rattle.records.specs.declared.state.Phase.{Phase}
use Rattle.records.specs.declared.state.State.{State}
use Rattle.bindings.specs.Group.{Entry, entries_of, group_at, group_commands, group_over, long_group}
use Rattle.bindings.specs.Units.{sampler_commands}
use Rattle.bindings.specs.declared.sweep.Sweep.{Sweep}
use Rattle.calls.specs.Meaning.{Meaning, in_pass}
use Rattle.calls.specs.Parts.{with_bind, with_progress}
use Rattle.calls.specs.Planned.{Right}
use Rattle.binding_calls.specs.declared.grouped.Grouped.{Grouped}
use Rattle.binding_calls.specs.declared.grouped.GroupPlan.{GroupPlan}

-- the call's conditions, from what was found of its entries and the count of dynamic offsets; the last is a count above its run
abbrev pub group_asks : Phase → PipelineLayout → ℕ → BindGroup → Sweep → ℕ → Bool → Conditions
group_asks phase l i g found count short =
    record {
      phase = not (in_pass phase);
      many = ltb 8 l.group_count || (some? long_group (take l.group_count l.groups) || ltb 64 g.content_count);
      range = leb l.group_count i || found.range;
      absent = not (group_at l i).present || ltb count found.used;
      kind = found.kind;
      sum = found.over;
      room = short;
    }

-- the entries that the call goes through, and what they record
abbrev pub entries_in : Grouped → List Entry
entries_in b = entries_of b.layout b.index b.entries b.group

abbrev pub entry_commands_in : List ℕ → Grouped → List Command
entry_commands_in run b = group_commands (entries_in b) (take b.count run)

-- all commands of the batch, where the dynamic offsets are read from the run
abbrev pub grouped_commands : List ℕ → Grouped → List Command
grouped_commands run b = entry_commands_in run b ++ sampler_commands b.bind b.units

-- the batch knows how many commands are the entries', no sum leaves its field, and all fit a list
pub record GroupSound (run : List ℕ) (b : Grouped) : Type 0 where
  pub first : b.first ≡ length (entry_commands_in run b)
  pub offsets_fit : group_over (entries_in b) (take b.count run) ≡ false
  pub few : length (grouped_commands run b) ≤ 4096

abbrev pub GroupAllowed : List ℕ → Grouped → ℕ → Type 0
GroupAllowed run b i = (i < length (grouped_commands run b)) × GroupSound run b

-- command number i
abbrev pub grouped_at : List ℕ → Grouped → ℕ → Command
grouped_at run b i = get_or (grouped_commands run b) i PopDebugGroup

-- the state that a plan leaves
abbrev pub group_next : GroupPlan → State → State
group_next p s = with_bind p.after (with_progress p.progress s)

-- the plan is right for a call with this meaning
abbrev pub GroupOf : List ℕ → ℕ → State → Meaning → GroupPlan → Type 0
GroupOf run room s m p = Right room s m p.outcome (group_next p s) p.batch.at p.batch.n (grouped_at run p.batch) (GroupAllowed run p.batch)

abbrev pub group_answer : GroupPlan → State → Answer
group_answer p s = record { outcome = p.outcome; state = group_next p s }
