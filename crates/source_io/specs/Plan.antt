-- How much a call on an object in memory does, and which calls fail.
-- Used by the sources, sinks and shelf in memory. What reads cover uses `bytes_per_call`.
use Rattle.std.specs.Prelude.{ℕ, ◌+◌, ◌-◌, ◌^◌, ◌==◌, ◌||◌, if◌then◌else◌, min, List, map, Bool}
use Rattle.std.specs.List.{filter, list_any}
use Rattle.source_io.specs.declared.plan.Plan.{Plan}

-- how many of the wanted bytes a call takes: at most the step, and all if the step is 0
abbrev pub bytes_per_call : ℕ → ℕ → ℕ
bytes_per_call step wanted = if step == 0 then wanted else min step wanted

-- the numbers that are listed for the opening or the creating of this number
abbrev pub numbers_of : ℕ → List (ℕ × ℕ) → List ℕ
numbers_of call listed = map (λ pair. pair.1) (filter (λ pair. pair.0 == call) listed)

-- a number is listed
abbrev pub is_listed : ℕ → List ℕ → Bool
is_listed number listed = list_any (λ n. n == number) listed

-- what is left of a plan for the reads of one source, or for the writes of one sink
pub record CallsLeft : Type 0 where
  -- the numbers of the calls that fail, from 1
  pub fails : List ℕ
  -- how many bytes a call takes at most, where 0 means all
  pub step : ℕ
  -- how many more reads can be recorded, or how many more bytes can be written
  pub room : ℕ
  -- how many calls were made, failed ones included
  pub made : ℕ

-- what a plan has for the reads of the opening of this number, before the first
abbrev pub planned_reads : Plan → ℕ → CallsLeft
planned_reads plan opening = record { fails = numbers_of opening plan.reads.items; step = plan.step; room = plan.room; made = 0 }

-- what a plan has for the writes of the creating of this number, before the first
abbrev pub planned_writes : Plan → ℕ → CallsLeft
planned_writes plan creating = record { fails = numbers_of creating plan.writes.items; step = plan.step; room = plan.room; made = 0 }

-- the number of the next call. The numbers end at 2^64 - 1
abbrev pub next_number : CallsLeft → ℕ
next_number left = min (left.made + 1) (2 ^ 64 - 1)

-- after one more call, which took some of the room
abbrev pub after_call : CallsLeft → ℕ → CallsLeft
after_call left taken = record left { made = next_number left; room = left.room - taken }

-- the next read fails: it cannot be recorded, or the plan names it
abbrev pub read_fails : CallsLeft → Bool
read_fails left = (left.room == 0) || is_listed (next_number left) left.fails

-- how many of the wanted bytes the next write takes, if the plan does not name it
abbrev pub bytes_taken : CallsLeft → ℕ → ℕ
bytes_taken left wanted = min (bytes_per_call left.step wanted) left.room

-- the next write of so many bytes fails: it can take none, or the plan names it
abbrev pub write_fails : CallsLeft → ℕ → Bool
write_fails left wanted = (bytes_taken left wanted == 0) || is_listed (next_number left) left.fails
