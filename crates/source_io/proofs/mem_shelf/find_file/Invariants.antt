use Rattle.std.proofs.Common.{◌≡◌, drop}
use Rattle.std.specs.FinMap.{get}
use Rattle.source_io.specs.Files.{files_of}
use Rattle.source_io.proofs.mem_shelf.find_file.Given as goal

abbrev pub invariant-loop-file_name : goal.invariant-loop-file_name
invariant-loop-file_name l = get (files_of l.files) l.name ≡ get (files_of (drop l.file_name-index l.files)) l.name
