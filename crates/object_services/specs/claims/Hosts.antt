-- The hosts of service blocks (chapter "Object Definitions").
use Rattle.std.specs.Prelude.{ℕ, List}
use Rattle.object_reader.specs.declared.block.Block.{Block}
use Rattle.object_listing.specs.claims.Listing.{AreThose, host_directives, IsListed}

-- The block at the place has the host: its `host_name` names it, or its `hostgroup_name` names a group of which the
-- host is a member.
abbrev pub HasHost : List Block → (place host : ℕ) → Type 0
HasHost blocks place host = IsListed blocks host_directives place host

-- exactly the hosts of a block, each once and in number order
abbrev pub AreHosts : List Block → (place : ℕ) → (hosts : List ℕ) → Type 0
AreHosts blocks place hosts = AreThose (HasHost blocks place) hosts
