-- How many objects blocks give, and the limit of that (chapter "Object Definitions").
use Rattle.std.specs.Prelude.{◌≡◌, ℕ, ◌+◌, Bool, true, false, List, [], ◌∷◌, ◌++◌, length, sum_by, Some, slice_get}
use Rattle.object_reader.specs.declared.block.Block.{Block}
use Rattle.object_reader.specs.declared.block.BlockKind.TheVariants.{Host, Service}
use Rattle.object_services.specs.declared.services.LimitFault.{LimitFault}
use Rattle.object_services.specs.declared.services.LimitFault.TheVariants.{TooMany, NoMemory}
use Rattle.object_services.specs.claims.Hosts.{AreHosts}
use Rattle.object_services.specs.claims.Limits.{AreHostLists, objects_below, PassesLimit}

-- they pass it nowhere
abbrev pub PassesNowhere : List Block → Type 0
PassesNowhere blocks = (place : ℕ) → PassesLimit blocks place → ⊥

-- The place and the line are those of the block that passes the limit.
pub record IsFirstOver (blocks : List Block) (place line : ℕ) : Type 0 where
  pub block : Block
  pub here : slice_get blocks place ≡ Some block
  pub at : block.line ≡ line
  pub passes : PassesLimit blocks place

-- a refusal is that, or memory ran out
abbrev pub IsRefusal : List Block → LimitFault → Type 0
IsRefusal blocks (TooMany place line) = IsFirstOver blocks place line
IsRefusal blocks NoMemory = Unit {0}

-- ---- how they are found

-- after the block at the place: where it is a service block its hosts came to the lists, so many; else nothing did
abbrev pub Noted : List Block → ℕ → Bool → (old new : List (List ℕ)) → ℕ → Type 0
Noted blocks place true old new count = (hosts : List ℕ) × AreHosts blocks place hosts
    × (new ≡ old ++ hosts ∷ []) × (count ≡ length hosts)
Noted blocks place false old new count = (new ≡ old) × (count ≡ 0)

-- the hosts of the service blocks below the place, and how many objects all blocks below it give
pub record IsSoFar (blocks : List Block) (place : ℕ) (lists : List (List ℕ)) (count : ℕ)
    : Type 0 where
  pub listed : AreHostLists blocks (objects_below blocks Service place) lists
  pub counted : count ≡ length (objects_below blocks Host place) + sum_by length lists
