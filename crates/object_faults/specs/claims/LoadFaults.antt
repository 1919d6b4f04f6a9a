-- The faults of object text: how a program prints them, and those of the passes as one.
use Rattle.object_faults.specs.declared.fault.ValueFault.{ValueFault}
use Rattle.object_faults.specs.declared.fault.ValueFault.TheVariants as values
use Rattle.object_inheritance.specs.declared.templates.TemplateFault.{TemplateFault}
use Rattle.object_inheritance.specs.declared.templates.TemplateFault.TheVariants as templates
use Rattle.object_faults.specs.declared.load_fault.BlockFault.{BlockFault}
use Rattle.object_faults.specs.declared.load_fault.BlockFault.TheVariants.{UnknownTemplate, TemplateLoop, Doubled, MissingDirective, BadNumber, BadOption, BadRange, Volatile, Exclusion, DatedException}

-- of a block's templates
abbrev pub of_template : TemplateFault → BlockFault
of_template templates.UnknownTemplate = UnknownTemplate
of_template templates.TemplateLoop = TemplateLoop
of_template templates.Doubled = Doubled

-- of its values
abbrev pub of_value : ValueFault → BlockFault
of_value values.MissingDirective = MissingDirective
of_value values.BadNumber = BadNumber
of_value values.BadOption = BadOption
of_value values.BadRange = BadRange
of_value values.Volatile = Volatile
of_value values.Exclusion = Exclusion
of_value values.DatedException = DatedException
