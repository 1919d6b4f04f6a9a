-- The words for the types of block (chapter "Object Definitions").
use Rattle.std.specs.Prelude.{ℕ, List, codes}
use Rattle.object_reader.specs.declared.block.BlockKind.{BlockKind}
use Rattle.object_reader.specs.declared.block.BlockKind.TheVariants.{Host, HostGroup, Service, ServiceGroup, Contact, ContactGroup, TimePeriod, Command, HostEscalation, ServiceEscalation, HostDependency, ServiceDependency, HostExtInfo, ServiceExtInfo}

-- the word that a `define` has
abbrev pub kind_word : BlockKind → List ℕ
kind_word Host = codes "host"
kind_word HostGroup = codes "hostgroup"
kind_word Service = codes "service"
kind_word ServiceGroup = codes "servicegroup"
kind_word Contact = codes "contact"
kind_word ContactGroup = codes "contactgroup"
kind_word TimePeriod = codes "timeperiod"
kind_word Command = codes "command"
kind_word HostEscalation = codes "hostescalation"
kind_word ServiceEscalation = codes "serviceescalation"
kind_word HostDependency = codes "hostdependency"
kind_word ServiceDependency = codes "servicedependency"
kind_word HostExtInfo = codes "hostextinfo"
kind_word ServiceExtInfo = codes "serviceextinfo"
