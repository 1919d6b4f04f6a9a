-- The faults of templates: which block has the first.
use Rattle.std.specs.Prelude.{◌≡◌, ℕ, ◌<◌, ◌^◌, Bool, true, List, length, slice_index_or}
use Rattle.graph.specs.claims.Edges.{Leads}
use Rattle.graph_order.specs.Order.{IsOrder}
use Rattle.object_reader.specs.declared.block.Block.{Block}
use Rattle.object_inheritance.specs.declared.templates.InheritanceFault.{InheritanceFault}
use Rattle.object_inheritance.specs.declared.templates.InheritanceFault.TheVariants.{AtLine, NoMemory}
use Rattle.object_inheritance.specs.declared.templates.Uses.{Uses}
use Rattle.object_inheritance.specs.claims.Templates.{template_graph}
use Rattle.object_inheritance.specs.claims.Faults.{IsFirstFault}

-- a refusal is the first fault, or memory ran out
abbrev pub IsRefusal : List Block → InheritanceFault → Type 0
IsRefusal blocks (AtLine line fault) = IsFirstFault blocks line fault
IsRefusal blocks NoMemory = Unit {0}

-- whether a block is marked as used; what is no block is
abbrev pub is_used : Uses → ℕ → Bool
is_used uses place = slice_index_or uses.used.items place true

-- which templates each block uses, an order in which each block stands before those that it uses, and a mark of each that
-- is used
pub record AreUses (blocks : List Block) (uses : Uses) : Type 0 where
  pub same : uses.graph ≡ template_graph blocks
  pub ordered : IsOrder uses.graph uses.order.items
  pub marked : (p q : ℕ) → Leads uses.graph p q → is_used uses q ≡ true

-- the same, and the blocks of which it is kept what each gives itself
pub record AreTemplates (blocks : List Block) (uses : Uses) (givers : List Block) : Type 0 where
  pub using : AreUses blocks uses
  pub giving : givers ≡ blocks
  pub few : length blocks < 2 ^ 32
