use Rattle.layouts.proofs.layout.Layout.chunk_shape.Goals as goal

pub returns-clause-few : goal.returns-clause-few
returns-clause-few c = c.self.invariant.facts.chunk_cells
