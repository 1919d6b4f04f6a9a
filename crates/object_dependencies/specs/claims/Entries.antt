-- The dependencies that blocks give (chapter "Host and Service Dependencies").
use Rattle.std.specs.Prelude.{◌≡◌, ℕ, false, List, [], codes, length, map, flat_map, slice_index_or, unwrap_or}
use Rattle.std.specs.List.{range_with_len}
use Rattle.due_model.specs.declared.config.Dependency.{Dependency}
use Rattle.object_reader.specs.declared.block.Block.{Block}
use Rattle.object_listing.specs.claims.Readings.{is_on, period_at}
use Rattle.object_values.specs.claims.Options.{no_state}
use Rattle.object_dependencies.specs.declared.entries.Terms.{Terms}
use Rattle.object_dependencies.specs.claims.Pairs.{ArePairsBelow, kept_states, Pair}

-- What all dependencies of the block at the place have in common: its failure criteria; its period, which is always
-- where it doesn't say; and whether they inherit, as they do where the block says so.
abbrev pub terms_at : List Block → (periods : List (List ℕ)) → (place : ℕ) → Terms
terms_at blocks periods place = record {
  inherits = is_on blocks (codes "inherits_parent") false place;
  states = unwrap_or (kept_states blocks place) no_state;
  period = period_at periods blocks (codes "dependency_period") place;
}

-- the dependency of a dependent and a master
abbrev pub entry_of : Terms → Pair → Dependency
entry_of terms pair = record {
  dependent = record { 0 = pair.0 };
  master = record { 0 = pair.1 };
  inherits = terms.inherits;
  states = terms.states;
  period = terms.period;
}

-- those of all pairs of a block
abbrev pub entries_at : List Block → (periods : List (List ℕ)) → (parts : List (List Pair))
    → (place : ℕ)
    → List Dependency
entries_at blocks periods parts place =
    map (entry_of (terms_at blocks periods place)) (slice_index_or parts place [])

-- and of the first so many blocks, block by block
abbrev pub entries_in : List Block → (periods : List (List ℕ)) → (parts : List (List Pair))
    → (count : ℕ)
    → List Dependency
entries_in blocks periods parts count =
    flat_map (entries_at blocks periods parts) (range_with_len 0 count)

-- The dependencies of the blocks: one for each pair, block by block in file order, and within a block dependent by
-- dependent and master by master in number order; where these are the hosts of each service block, and the names of
-- the periods.
abbrev pub AreDependencies : List Block → (lists : List (List ℕ)) → (periods : List (List ℕ))
    → (dependencies : List Dependency) → Type 0
AreDependencies blocks lists periods dependencies = (parts : List (List Pair))
    × ArePairsBelow blocks lists (length blocks) parts
    × (dependencies ≡ entries_in blocks periods parts (length blocks))
