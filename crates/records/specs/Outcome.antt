-- Document 01, 'Turned away': the number of each answer, and "the smallest number whose condition holds". Definitions only.
use Rattle.std.specs.Prelude.{ℕ, ◌<◌, ◌≡◌, Bool, true, false, cond, ◌&&◌, ◌||◌, ◌⊎◌, eqb}
use Rattle.records.specs.declared.outcome.Outcome.{Outcome}
use Rattle.records.specs.declared.outcome.Outcome.TheVariants.{Done, WrongPhase, TooMany, OutOfRange, Absent, WrongKind, Overflow, NoRoom}
use Rattle.records.specs.declared.outcome.Conditions.{Conditions}

-- document 01's number; 0 where the call is carried through
abbrev pub number : Outcome → ℕ
number Done = 0
number WrongPhase = 1
number TooMany = 2
number OutOfRange = 3
number Absent = 4
number WrongKind = 5
number Overflow = 6
number NoRoom = 7

abbrev pub accepted : Outcome → Bool
accepted Done = true
accepted WrongPhase = false
accepted TooMany = false
accepted OutOfRange = false
accepted Absent = false
accepted WrongKind = false
accepted Overflow = false
accepted NoRoom = false

abbrev pub none_hold : Conditions
none_hold = record { phase = false; many = false; range = false; absent = false; kind = false; sum = false; room = false }

-- what holds of the call or of the state that it is handed
abbrev pub either : Conditions → Conditions → Conditions
either a b =
    record {
      phase = a.phase || b.phase;
      many = a.many || b.many;
      range = a.range || b.range;
      absent = a.absent || b.absent;
      kind = a.kind || b.kind;
      sum = a.sum || b.sum;
      room = a.room || b.room;
    }

-- condition n of document 01's table holds
abbrev pub holds : Conditions → ℕ → Bool
holds c n =
    (eqb n 1 && c.phase)
    || ((eqb n 2 && c.many)
    || ((eqb n 3 && c.range)
    || ((eqb n 4 && c.absent)
    || ((eqb n 5 && c.kind)
    || ((eqb n 6 && c.sum)
    || (eqb n 7 && c.room))))))

-- n is "the smallest number whose condition holds", or none holds and n is 0
abbrev pub Smallest : Conditions → ℕ → Type 0
Smallest c n = ((holds c n ≡ true) × ((k : ℕ) → k < n → holds c k ≡ false)) ⊎ ((n ≡ 0) × ((k : ℕ) → holds c k ≡ false))

-- the answer with the smallest number whose condition holds
unfoldable pub smallest : Conditions → Outcome
smallest c =
    cond c.phase WrongPhase
    (cond c.many TooMany
    (cond c.range OutOfRange
    (cond c.absent Absent
    (cond c.kind WrongKind
    (cond c.sum Overflow
    (cond c.room NoRoom Done))))))
