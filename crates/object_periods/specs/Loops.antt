-- Loops of exclusions (chapter "Time Periods").
use Rattle.std.specs.Prelude.{◌≡◌, ℕ, ◌+◌, ◌<◌, ◌↔◌, List, length}
use Rattle.graph.specs.declared.edges.Edge.{Edge}
use Rattle.graph_rules.specs.declared.rules.Rules.{Rules}
use Rattle.graph_rules.specs.Rules.{AreWithin, DependsBy, edge}
use Rattle.object_groups.specs.claims.Objects.{objects_in}
use Rattle.object_reader.specs.declared.block.Block.{Block}
use Rattle.object_reader.specs.declared.block.BlockKind.TheVariants.{TimePeriod}
use Rattle.object_periods.specs.claims.Loops.{ExcludesNumber, IsLoopedAt}

-- it is such a block, and none before it is
pub record IsFirstLooped (blocks : List Block) (place : ℕ) : Type 0 where
  pub looped : IsLoopedAt blocks place
  pub first : (earlier : ℕ) → earlier < place → IsLoopedAt blocks earlier → ⊥

-- no block is
abbrev pub HasNoPeriodLoop : List Block → Type 0
HasNoPeriodLoop blocks = (place : ℕ) → IsLoopedAt blocks place → ⊥

-- ---- how they are found

-- the edge from a rule to a node, where the node of the rule of number 0 is the first
abbrev pub rule_edge : (first rule : ℕ) → Edge
rule_edge first rule = edge rule (first + rule)

-- Rules, one for each period and by its number: by its rule the period alone depends on each that it excludes.
pub record AreExclusions (blocks : List Block) (rules : Rules) : Type 0 where
  pub within : AreWithin rules
  pub count : rules.count ≡ length (objects_in blocks TimePeriod)
  pub excludes : (rule dependent master : ℕ) → DependsBy rules rule dependent master
      ↔ ((rule ≡ dependent) × ExcludesNumber blocks dependent master)
