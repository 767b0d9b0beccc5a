use Rattle.std.proofs.Common.{[], ◌∷◌}
use Rattle.std.proofs.lemmas.Result.{err_from_is_err_and}
use Rattle.layouts.specs.Rules.{rank_rules, extent_rules, cell_rules, chunk_rules, chunk_cell_rules, level_rules, block_rules, coarse_rules, all_block_rules}
use Rattle.lists.proofs.Rules.{broken_group, last_group}
use Rattle.layouts.proofs.Layouts.{extents_each, chunk_are_lengths, has_blocks, levels_bounds}
use Rattle.layouts.proofs.numbers.LayoutNumbers.check.Goals as goal

pub returns-in_err-check_chunk : goal.returns-in_err-check_chunk
returns-in_err-check_chunk c =
    let l = c.args.self.now in
    let p = err_from_is_err_and c.from_residual-in_err-check_chunk.result c.from_residual-in_err-check_chunk.ensures.1 in
    rw (p.1, p.2)
    (broken_group (rank_rules l ∷ extent_rules l ∷ cell_rules l ∷ []) (chunk_rules l) (chunk_cell_rules l ∷ level_rules l ∷ block_rules l ∷ coarse_rules l ∷ all_block_rules l ∷ []) _
    (c.in_ok-check_rank.ensures, (c.in_ok-check_extents.ensures, (c.in_ok-check_cells.ensures, tt))) c.in_err-check_chunk.ensures)

pub returns-in_err-check_chunk_cells : goal.returns-in_err-check_chunk_cells
returns-in_err-check_chunk_cells c =
    let l = c.args.self.now in
    let p = err_from_is_err_and c.from_residual-in_err-check_chunk_cells.result c.from_residual-in_err-check_chunk_cells.ensures.1 in
    rw (p.1, p.2)
    (broken_group (rank_rules l ∷ extent_rules l ∷ cell_rules l ∷ chunk_rules l ∷ []) (chunk_cell_rules l) (level_rules l ∷ block_rules l ∷ coarse_rules l ∷ all_block_rules l ∷ []) _
    (c.in_ok-check_rank.ensures, (c.in_ok-check_extents.ensures, (c.in_ok-check_cells.ensures, (c.in_ok-check_chunk.ensures, tt)))) c.in_err-check_chunk_cells.ensures)

pub returns-in_err-check_levels : goal.returns-in_err-check_levels
returns-in_err-check_levels c =
    let l = c.args.self.now in
    let p = err_from_is_err_and c.from_residual-in_err-check_levels.result c.from_residual-in_err-check_levels.ensures.1 in
    rw (p.1, p.2)
    (broken_group (rank_rules l ∷ extent_rules l ∷ cell_rules l ∷ chunk_rules l ∷ chunk_cell_rules l ∷ []) (level_rules l) (block_rules l ∷ coarse_rules l ∷ all_block_rules l ∷ []) _
    (c.in_ok-check_rank.ensures, (c.in_ok-check_extents.ensures, (c.in_ok-check_cells.ensures, (c.in_ok-check_chunk.ensures, (c.in_ok-check_chunk_cells.ensures, tt))))) c.in_err-check_levels.ensures)

pub returns-in_err-check_blocks : goal.returns-in_err-check_blocks
returns-in_err-check_blocks c =
    let l = c.args.self.now in
    let p = err_from_is_err_and c.from_residual-in_err-check_blocks.result c.from_residual-in_err-check_blocks.ensures.1 in
    rw (p.1, p.2)
    (broken_group (rank_rules l ∷ extent_rules l ∷ cell_rules l ∷ chunk_rules l ∷ chunk_cell_rules l ∷ level_rules l ∷ []) (block_rules l) (coarse_rules l ∷ all_block_rules l ∷ []) _
    (c.in_ok-check_rank.ensures, (c.in_ok-check_extents.ensures, (c.in_ok-check_cells.ensures, (c.in_ok-check_chunk.ensures, (c.in_ok-check_chunk_cells.ensures, (c.in_ok-check_levels.ensures, tt)))))) c.in_err-check_blocks.ensures)

pub returns-in_err-check_coarse_blocks : goal.returns-in_err-check_coarse_blocks
returns-in_err-check_coarse_blocks c =
    let l = c.args.self.now in
    let p = err_from_is_err_and c.from_residual-in_err-check_coarse_blocks.result c.from_residual-in_err-check_coarse_blocks.ensures.1 in
    rw (p.1, p.2)
    (broken_group (rank_rules l ∷ extent_rules l ∷ cell_rules l ∷ chunk_rules l ∷ chunk_cell_rules l ∷ level_rules l ∷ block_rules l ∷ []) (coarse_rules l) (all_block_rules l ∷ []) _
    (c.in_ok-check_rank.ensures, (c.in_ok-check_extents.ensures, (c.in_ok-check_cells.ensures, (c.in_ok-check_chunk.ensures, (c.in_ok-check_chunk_cells.ensures, (c.in_ok-check_levels.ensures, (c.in_ok-check_blocks.ensures, tt))))))) c.in_err-check_coarse_blocks.ensures)

pub check_chunk_cells-requires : goal.check_chunk_cells-requires
check_chunk_cells-requires c =
    chunk_are_lengths c.args.self.now c.in_ok-check_extents.ensures c.in_ok-check_chunk.ensures

pub check_coarse_blocks-requires-clause-extents : goal.check_coarse_blocks-requires-clause-extents
check_coarse_blocks-requires-clause-extents c =
    extents_each c.args.self.now c.in_ok-check_extents.ensures

pub check_coarse_blocks-requires-clause-blocks : goal.check_coarse_blocks-requires-clause-blocks
check_coarse_blocks-requires-clause-blocks c =
    has_blocks c.args.self.now c.in_ok-check_blocks.ensures (levels_bounds c.args.self.now c.in_ok-check_levels.ensures).1

pub check_all_blocks-requires-clause-extents : goal.check_all_blocks-requires-clause-extents
check_all_blocks-requires-clause-extents c =
    extents_each c.args.self.now c.in_ok-check_extents.ensures

pub check_all_blocks-requires-clause-blocks : goal.check_all_blocks-requires-clause-blocks
check_all_blocks-requires-clause-blocks c =
    has_blocks c.args.self.now c.in_ok-check_blocks.ensures (levels_bounds c.args.self.now c.in_ok-check_levels.ensures).1

pub returns : goal.returns
returns c =
    let l = c.args.self.now in
    last_group (rank_rules l ∷ extent_rules l ∷ cell_rules l ∷ chunk_rules l ∷ chunk_cell_rules l ∷ level_rules l ∷ block_rules l ∷ coarse_rules l ∷ []) (all_block_rules l) c.check_all_blocks.result
    (c.in_ok-check_rank.ensures, (c.in_ok-check_extents.ensures, (c.in_ok-check_cells.ensures, (c.in_ok-check_chunk.ensures, (c.in_ok-check_chunk_cells.ensures, (c.in_ok-check_levels.ensures, (c.in_ok-check_blocks.ensures, (c.in_ok-check_coarse_blocks.ensures, tt)))))))) c.check_all_blocks.ensures
