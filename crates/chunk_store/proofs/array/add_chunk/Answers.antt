use Rattle.std.proofs.Common.{◌≡◌, subst}
use Rattle.chunk_copies.specs.Placing.{PlacesChunk}
use Rattle.chunk_store.proofs.Placed.{reaches_placed, one_more_placed}
use Rattle.chunk_store.proofs.array.add_chunk.Goals as goal

pub place_chunk-requires-clause-few : goal.place_chunk-requires-clause-few
place_chunk-requires-clause-few g c = (reaches_placed (g.S.ByteSource.file c.args.src.now).bytes c.args.layout.now c.args.n c.args.cells.now.items c.requires.cells).few

pub returns-clause-cells : goal.returns-clause-cells
returns-clause-cells g c =
    let told = (g.S.ByteSource.file c.args.src.now).bytes in
    let layout = c.args.layout.now in
    let same : c.cells.result.now ≡ c.load.new.into.cells = c.cells.ensures in
    one_more_placed told layout c.args.n c.load.new.into.cells c.args.cells.now.items c.place_chunk.new.cells.items c.requires.rules c.in_ok-load.ensures.cells c.requires.cells
    (subst (λ chunk. PlacesChunk layout c.args.n chunk c.args.cells.now.items c.place_chunk.new.cells.items) same c.place_chunk.ensures.placed)
