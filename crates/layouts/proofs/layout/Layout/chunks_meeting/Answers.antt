use Rattle.layouts.proofs.layout.Layout.chunks_meeting.Goals as goal

pub tiles_meeting-requires : goal.tiles_meeting-requires
tiles_meeting-requires c = c.self.invariant.facts.chunk_some
