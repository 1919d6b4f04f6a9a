-- The faults of blocks by a table of what blocks must be, in file order.
use Rattle.std.specs.Prelude.{ℕ, Bool, false, List, [], filter, flat_map, map, slice_index_or}
use Rattle.std.specs.List.{range_with_len}
use Rattle.object_check.specs.declared.misfits.Misfit.{Misfit}

-- The faults of the block at the place, in the order of the rows, of which there are so many: `has` says whether it has
-- that of a row.
abbrev pub misfits_at : (has : ℕ → ℕ → Bool) → (rows place : ℕ) → List Misfit
misfits_at has rows place = map (λ row. record { place = place; row = row })
    (filter (λ row. has row place) (range_with_len 0 rows))

-- those of so many blocks, in file order
abbrev pub misfits_in : (has : ℕ → ℕ → Bool) → (rows count : ℕ) → List Misfit
misfits_in has rows count = flat_map (misfits_at has rows) (range_with_len 0 count)

-- ---- how they are kept

-- whether a column has a mark at the place
abbrev pub is_marked : List Bool → ℕ → Bool
is_marked column place = slice_index_or column place false

-- whether the column of the row has
abbrev pub is_marked_in : List (List Bool) → (row place : ℕ) → Bool
is_marked_in columns row place = is_marked (slice_index_or columns row []) place
