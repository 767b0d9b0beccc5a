use Rattle.array_file.specs.Stored.{refusal_of}
use Rattle.search_run.proofs.Asking.{header_asked, cells_asked, header_accepted}
use Rattle.search_run.proofs.info.DescribedFileLoad.load.Goals as goal

pub returns-in_err-layout-clause-asked : goal.returns-in_err-layout-clause-asked
returns-in_err-layout-clause-asked g c =
    header_asked refusal_of _ c.size-size.result _ _ _ c.size-size.ensures.size c.size-size.ensures.told c.read_header.ensures.asked

pub returns-in_err-cells-clause-asked : goal.returns-in_err-cells-clause-asked
returns-in_err-cells-clause-asked g c =
    cells_asked refusal_of _ c.size-size.result _ _ _ _ _ c.size-size.ensures.size c.size-size.ensures.told c.in_ok-layout.ensures.size (header_accepted _ _ c.in_ok-layout.ensures.read)
    c.read_header.ensures.asked c.array_record.ensures.asked

pub returns-clause-asked : goal.returns-clause-asked
returns-clause-asked g c =
    cells_asked refusal_of _ c.size-size.result _ _ _ _ _ c.size-size.ensures.size c.size-size.ensures.told c.in_ok-layout.ensures.size (header_accepted _ _ c.in_ok-layout.ensures.read)
    c.read_header.ensures.asked c.array_record.ensures.asked
