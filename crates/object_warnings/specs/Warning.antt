-- The names by which warnings are left out.
use Rattle.std.specs.Prelude.{ℕ, List, codes}
use Rattle.object_warnings.specs.declared.warning.Warning.{Warning}
use Rattle.object_warnings.specs.declared.warning.Warning.TheVariants.{UnknownDirective, WithoutEffect, NobodyTold, NoHours, NeverHours, DeadEscalation, NoCriteria, Unused, Overridden, NoZone, MissingOption}

abbrev pub warning_name : Warning → List ℕ
warning_name UnknownDirective = codes "UnknownDirective"
warning_name WithoutEffect = codes "WithoutEffect"
warning_name NobodyTold = codes "NobodyTold"
warning_name NoHours = codes "NoHours"
warning_name NeverHours = codes "NeverHours"
warning_name DeadEscalation = codes "DeadEscalation"
warning_name NoCriteria = codes "NoCriteria"
warning_name Unused = codes "Unused"
warning_name Overridden = codes "Overridden"
warning_name NoZone = codes "NoZone"
warning_name MissingOption = codes "MissingOption"
