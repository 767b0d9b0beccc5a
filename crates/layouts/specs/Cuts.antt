-- Chunks that are cut to the array, dimension by dimension.
-- Used by `chunk_copies` and `chunk_store`, and in this crate.
use Rattle.std.specs.Prelude.{◌≡◌, ℕ, ◌+◌, ◌<◌, ◌≤◌, min, List, map, All}
use Rattle.grids.specs.Tiles.{tile_from, tile_to}
use Rattle.layouts.specs.declared.cut.Cut.{Cut}
use Rattle.layouts.specs.declared.numbers.LayoutNumbers.{LayoutNumbers}

-- the numbers of cuts, a list of each kind
abbrev pub cut_extents : List Cut → List ℕ
cut_extents cuts = map (λ c. c.extent) cuts

abbrev pub cut_lengths : List Cut → List ℕ
cut_lengths cuts = map (λ c. c.length) cuts

abbrev pub cut_froms : List Cut → List ℕ
cut_froms cuts = map (λ c. c.from) cuts

abbrev pub cut_tos : List Cut → List ℕ
cut_tos cuts = map (λ c. c.to) cuts

-- the cells lie in the array. There are as many as a chunk has, or as are left in the array, and at least one
pub record IsCut (c : Cut) : Type 0 where
  pub some : c.from < c.to
  pub within : c.to ≤ c.extent
  pub short : c.to ≤ c.from + c.length
  pub end : c.to ≡ min c.extent (c.from + c.length)

-- these are the cuts of chunk n of a layout
pub record AreCuts (l : LayoutNumbers) (n : ℕ) (cuts : List Cut) : Type 0 where
  pub extents : cut_extents cuts ≡ l.extents
  pub lengths : cut_lengths cuts ≡ l.chunk
  pub from : cut_froms cuts ≡ tile_from l.extents l.chunk n
  pub to : cut_tos cuts ≡ tile_to l.extents l.chunk n
  pub each : All IsCut cuts
