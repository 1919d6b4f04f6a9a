-- The types of object that have a name of their own, which other blocks mention (chapter "Object Definitions").
use Rattle.object_reader.specs.declared.block.BlockKind.{BlockKind}
use Rattle.object_reader.specs.declared.block.BlockKind.TheVariants as blocks_of
use Rattle.object_names.specs.declared.named.NamedKind.{NamedKind}
use Rattle.object_names.specs.declared.named.NamedKind.TheVariants.{Host, HostGroup, ServiceGroup, Contact, ContactGroup, TimePeriod, Command}

-- the type of block that defines objects of the type
abbrev pub block_kind : NamedKind → BlockKind
block_kind Host = blocks_of.Host
block_kind HostGroup = blocks_of.HostGroup
block_kind ServiceGroup = blocks_of.ServiceGroup
block_kind Contact = blocks_of.Contact
block_kind ContactGroup = blocks_of.ContactGroup
block_kind TimePeriod = blocks_of.TimePeriod
block_kind Command = blocks_of.Command
