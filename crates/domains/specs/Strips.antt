-- The strips of a box: parts of it along the first variable, in order.
-- Used by `strips`, `strip` and `keep_strip`, and by the law on strips.
use Rattle.std.specs.Prelude.{ℕ, ◌+◌, ◌*◌, ◌/◌, min, List, [], ◌∷◌, map, pos, ◌+ℤ◌, ◌-ℤ◌}
use Rattle.std.specs.List.{range_with_len}
use Rattle.domains.specs.declared.dom.Dom.{Dom}
use Rattle.domains.specs.Values.{size_of}

-- how many strips a box has if so many are asked for: at most one for each value of the first variable, and one if the box is empty
abbrev pub strip_count : List Dom → ℕ → ℕ
strip_count [] asked = 1
strip_count (d ∷ ds) asked = min asked (size_of d)

-- how far from the lower end the i-th of n equal parts of a domain begins, rounded down
abbrev pub cut_at : Dom → ℕ → ℕ → ℕ
cut_at d i n = (i * size_of d) / n

-- the i-th of n parts of a domain
abbrev pub part_of : Dom → ℕ → ℕ → Dom
part_of d i n = record { lo = d.lo +ℤ pos (cut_at d i n); hi = (d.lo +ℤ pos (cut_at d (i + 1) n)) -ℤ pos 1 }

-- the i-th of n strips of a box, from 0
abbrev pub strip_of : List Dom → ℕ → ℕ → List Dom
strip_of [] i n = []
strip_of (d ∷ ds) i n = part_of d i n ∷ ds

-- all n strips, in order
abbrev pub strips_of : List Dom → ℕ → List (List Dom)
strips_of box n = map (λ i. strip_of box i n) (range_with_len 0 n)
