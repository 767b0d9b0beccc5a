use Rattle.search_run.proofs.Problems.{array_header, array_cells}
use Rattle.search_run.proofs.load_problem.problem_from.Goals as goal

pub returns-in_err-layout-clause-asked_array : goal.returns-in_err-layout-clause-asked_array
returns-in_err-layout-clause-asked_array g c =
    array_header _ _ c.size-size.result _ _ _ c.size-size.ensures.size c.size-size.ensures.told c.read_header.ensures.asked

pub returns-in_err-query-clause-asked_array : goal.returns-in_err-query-clause-asked_array
returns-in_err-query-clause-asked_array g c =
    array_header _ _ c.size-size.result _ _ _ c.size-size.ensures.size c.size-size.ensures.told c.read_header.ensures.asked

pub returns-in_err-cells-clause-asked_array : goal.returns-in_err-cells-clause-asked_array
returns-in_err-cells-clause-asked_array g c =
    array_cells _ _ c.size-size.result _ _ c.rank.result c.in_ok-layout.layout c.in_ok-query.query _ _ _ c.size-size.ensures.size c.size-size.ensures.told c.in_ok-layout.ensures.size c.in_ok-layout.ensures.read
    c.rank.ensures.rank c.in_ok-query.ensures.value c.read_header.ensures.asked c.read_cells.ensures.asked

pub returns-clause-asked_array : goal.returns-clause-asked_array
returns-clause-asked_array g c =
    array_cells _ _ c.size-size.result _ _ c.rank.result c.in_ok-layout.layout c.in_ok-query.query _ _ _ c.size-size.ensures.size c.size-size.ensures.told c.in_ok-layout.ensures.size c.in_ok-layout.ensures.read
    c.rank.ensures.rank c.in_ok-query.ensures.value c.read_header.ensures.asked c.read_cells.ensures.asked
