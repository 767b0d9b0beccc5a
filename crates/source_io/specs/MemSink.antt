-- What is left of the plan of a sink in memory. Used by the sinks and the shelf in memory.
use Rattle.source_io.specs.declared.mem_sink.MemSink.{MemSink}
use Rattle.source_io.specs.Plan.{CallsLeft}

-- what is left of the plan for the writes to a sink in memory
abbrev pub writes_left : MemSink → CallsLeft
writes_left sink = record { fails = sink.fails.items; step = sink.step; room = sink.room; made = sink.writes }
