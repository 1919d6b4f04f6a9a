-- The faults of object text: how a program prints them, and those of the passes as one.
use Rattle.std.specs.Prelude.{ℕ, List, ◌++◌, codes}
use Rattle.std.specs.Fmt.{decimal}
use Rattle.object_faults.specs.declared.fault.PassFault.{PassFault}
use Rattle.object_faults.specs.declared.fault.PassFault.TheVariants as pass
use Rattle.object_inheritance.specs.declared.templates.InheritanceFault.{InheritanceFault}
use Rattle.object_inheritance.specs.declared.templates.InheritanceFault.TheVariants as inherit
use Rattle.object_reader.specs.Fault as reader
use Rattle.object_reader.specs.declared.fault.ReadFault.{ReadFault}
use Rattle.object_reader.specs.declared.fault.ReadFault.TheVariants as read
use Rattle.object_faults.specs.declared.load_fault.BlockFault.{BlockFault}
use Rattle.object_faults.specs.declared.load_fault.BlockFault.TheVariants.{UnknownTemplate, TemplateLoop, Doubled, MissingDirective, BadNumber, BadOption, BadRange, Volatile, Exclusion, DatedException, UnknownName, PeriodLoop, DependencyLoop, TooMany}
use Rattle.object_faults.specs.declared.load_fault.LoadFault.{LoadFault}
use Rattle.object_faults.specs.declared.load_fault.LoadFault.TheVariants as load
use Rattle.object_faults.specs.claims.LoadFaults.{of_template, of_value}

-- ---- texts

-- the fault of a block
abbrev pub fault_name : BlockFault → List ℕ
fault_name UnknownTemplate = codes "UnknownTemplate"
fault_name TemplateLoop = codes "TemplateLoop"
fault_name Doubled = codes "Doubled"
fault_name MissingDirective = codes "MissingDirective"
fault_name BadNumber = codes "BadNumber"
fault_name BadOption = codes "BadOption"
fault_name BadRange = codes "BadRange"
fault_name Volatile = codes "Volatile"
fault_name Exclusion = codes "Exclusion"
fault_name DatedException = codes "DatedException"
fault_name UnknownName = codes "UnknownName"
fault_name PeriodLoop = codes "PeriodLoop"
fault_name DependencyLoop = codes "DependencyLoop"
fault_name TooMany = codes "TooMany"

-- a fault after its line
abbrev pub at_line : ℕ → List ℕ → List ℕ
at_line line name = codes "line " ++ decimal line ++ codes ": " ++ name

-- the fault with its line, where it has one
abbrev pub fault_text : LoadFault → List ℕ
fault_text (load.Line line fault) = at_line line (reader.fault_name fault)
fault_text (load.Block line fault) = at_line line (fault_name fault)
fault_text load.TooLarge = codes "TooLarge"
fault_text load.NoMemory = codes "NoMemory"

-- ---- the faults of the passes

-- of a text that isn't blocks
abbrev pub of_read : ReadFault → LoadFault
of_read (read.AtLine line fault) = load.Line line fault
of_read read.TooLarge = load.TooLarge
of_read read.NoMemory = load.NoMemory

-- each with its line
abbrev pub of_inherited : InheritanceFault → LoadFault
of_inherited (inherit.AtLine line fault) = load.Block line (of_template fault)
of_inherited inherit.NoMemory = load.NoMemory

abbrev pub of_values : PassFault → LoadFault
of_values (pass.AtLine line fault) = load.Block line (of_value fault)
of_values pass.NoMemory = load.NoMemory
