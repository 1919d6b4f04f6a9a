-- Lanes: the notification commands that contacts name (chapter "Object Definitions").
use Rattle.std.specs.Prelude.{◌≡◌, ℕ, ◌==◌, List, codes, Option, Some, Contains, ◌⊎◌, ◌↔◌}
use Rattle.std.specs.List.{position}
use Rattle.std.specs.List.Sorted.{IsStrictlyIncreasing}
use Rattle.std.specs.Option.{option_and_then}
use Rattle.object_groups.specs.claims.Names.{number_of}
use Rattle.object_groups.specs.claims.Objects.{list_at, names_in, objects_in}
use Rattle.object_reader.specs.declared.block.Block.{Block}
use Rattle.object_reader.specs.declared.block.BlockKind.TheVariants.{Command, Contact}
use Rattle.object_values.specs.claims.Values.{command_name}

-- the command that an entry of a list of notification commands names, by its number
abbrev pub command_named : (commands : List (List ℕ)) → (entry : List ℕ) → Option ℕ
command_named commands entry = number_of commands (command_name entry)

-- a list of notification commands names the command
abbrev pub NamesCommand : (commands entries : List (List ℕ)) → (command : ℕ) → Type 0
NamesCommand commands entries command = (entry : List ℕ)
    × Contains entries entry × (command_named commands entry ≡ Some command)

-- a registered contact names the command in its list for the directive
abbrev pub IsUsed : List Block → (directive : List ℕ) → (command : ℕ) → Type 0
IsUsed blocks directive command = (place : ℕ) × Contains (objects_in blocks Contact) place
    × NamesCommand (names_in blocks Command) (list_at blocks directive place) command

-- A command is a lane where a registered contact names it in one of its two lists.
abbrev pub IsLane : List Block → (command : ℕ) → Type 0
IsLane blocks command = IsUsed blocks (codes "host_notification_commands") command
    ⊎ IsUsed blocks (codes "service_notification_commands") command

-- exactly the numbers of which `P` says so, each once and in order
pub record AreLanes (P : ℕ → Type 0) (numbers : List ℕ) : Type 0 where
  pub rising : IsStrictlyIncreasing numbers
  pub exactly : (k : ℕ) → Contains numbers k ↔ P k

-- ---- the numbers of lanes

-- the number of a command's lane: its place among the commands of the lanes
abbrev pub lane_of : (lane_commands : List ℕ) → (command : ℕ) → Option ℕ
lane_of lane_commands command = position (λ other. other == command) lane_commands

-- the lane that an entry of a list of notification commands names
abbrev pub lane_named : (commands : List (List ℕ)) → (lane_commands : List ℕ) → (entry : List ℕ)
    → Option ℕ
lane_named commands lane_commands entry =
    option_and_then (lane_of lane_commands) (command_named commands entry)

-- a list of notification commands names the lane
abbrev pub NamesLane : (commands : List (List ℕ)) → (lane_commands : List ℕ)
    → (entries : List (List ℕ)) → (lane : ℕ) → Type 0
NamesLane commands lane_commands entries lane = (entry : List ℕ)
    × Contains entries entry × (lane_named commands lane_commands entry ≡ Some lane)
