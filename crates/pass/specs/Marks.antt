-- What both kinds of pass begin and end with: timestamps and the label. Definitions only.
use Rattle.std.specs.Prelude.{ℕ, ◌+◌, ◌^◌, Bool, true, false, cond, ◌&&◌, ◌||◌, List, [], ◌∷◌, leb, ltb, get_or, take, length, Option, None, Some}
use Rattle.records.specs.declared.command.Command.{Command}
use Rattle.records.specs.declared.command.Command.TheVariants.{TimestampQuery, PushDebugGroup, PopDebugGroup}
use Rattle.records.specs.declared.pass.TimestampWrites.{TimestampWrites}

-- a read-only run of numbers that is lent to a call, and how many of it count
pub record Lent : Type 0 where
  pub run : List ℕ
  pub count : ℕ

abbrev pub counted : Lent → List ℕ
counted l = take l.count l.run

-- 7: a count above its run
abbrev pub over_run : Lent → Bool
over_run l = ltb (length l.run) l.count

-- the query of a set at an index, if there is one
abbrev pub query_at : Lent → Option ℕ → Option ℕ
query_at set None = None
query_at set (Some i) = Some (get_or (counted set) i 0)

-- 3: an index past the set
abbrev pub index_out : Lent → Option ℕ → Bool
index_out set None = false
index_out set (Some i) = leb set.count i

abbrev pub timestamps_out : Lent → Option TimestampWrites → Bool
timestamps_out set None = false
timestamps_out set (Some t) = index_out set t.beginning_of_pass_write_index || index_out set t.end_of_pass_write_index

abbrev pub timestamp : Option ℕ → List Command
timestamp None = []
timestamp (Some q) = TimestampQuery q ∷ []

-- the timestamp of the beginning
abbrev pub begin_timestamp : Lent → Option TimestampWrites → List Command
begin_timestamp set None = []
begin_timestamp set (Some t) = timestamp (query_at set t.beginning_of_pass_write_index)

-- the query that the end of the pass writes; with no timestamps it is what it was
abbrev pub end_timestamp : Lent → Option TimestampWrites → Option ℕ → Option ℕ
end_timestamp set None old = old
end_timestamp set (Some t) old = query_at set t.end_of_pass_write_index

-- a label: whether there is one, and its bytes
pub record Label : Type 0 where
  pub present : Bool
  pub bytes : Lent

abbrev pub label_bytes : Label → List ℕ
label_bytes l = cond l.present (counted l.bytes) []

-- "An empty label is still pushed and popped"; its bytes go to the marker bytes, from the place at on
abbrev pub push_label : Label → ℕ → List Command
push_label l at = cond l.present (PushDebugGroup (record { start = at; end = at + l.bytes.count }) ∷ []) []

-- 6: the end of the label's bytes past 32 bits
abbrev pub label_over : Label → ℕ → Bool
label_over l at = l.present && leb (2 ^ 32) (at + l.bytes.count)

abbrev pub pop_label : Bool → List Command
pop_label true = PopDebugGroup ∷ []
pop_label false = []
