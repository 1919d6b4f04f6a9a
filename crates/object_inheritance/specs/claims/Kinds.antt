-- Which types of block are of one kind (chapter "Object Definitions").
use Rattle.std.specs.Prelude.{Bool, true, false}
use Rattle.object_reader.specs.declared.block.BlockKind.{BlockKind}
use Rattle.object_reader.specs.declared.block.BlockKind.TheVariants.{TimePeriod, HostExtInfo, ServiceExtInfo}

-- whether blocks of the type are time periods
abbrev pub is_period : BlockKind → Bool
is_period TimePeriod = true
is_period _ = false

-- whether blocks of the type say nothing of notifications: they are passed over
abbrev pub means_nothing : BlockKind → Bool
means_nothing HostExtInfo = true
means_nothing ServiceExtInfo = true
means_nothing _ = false
