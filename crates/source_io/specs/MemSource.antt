-- What a source in memory recorded, and what is left of its plan. Used by the sources and the shelf in memory.
use Rattle.std.specs.Prelude.{List, string_bytes}
use Rattle.source_io.specs.declared.mem_source.MemSource.{MemSource}
use Rattle.source_io.specs.Asked.{Read, reads_of}
use Rattle.source_io.specs.Plan.{CallsLeft}

-- the reads that a source in memory recorded, under its name
abbrev pub reads_by : MemSource → List Read
reads_by source = reads_of (string_bytes source.name) source.asked.items

-- what is left of the plan for the reads of a source in memory
abbrev pub reads_left : MemSource → CallsLeft
reads_left source = record { fails = source.fails.items; step = source.step; room = source.room; made = source.reads }
