use Rattle.std.proofs.Common.{take}
use Rattle.std.specs.List.{AllZip}
use Rattle.object_groups.specs.claims.Objects.{objects_in}
use Rattle.object_reader.specs.declared.block.BlockKind.TheVariants.{Host}
use Rattle.object_settings.specs.Own.{AreRead, IsOwnOfHost, options_of}
use Rattle.object_values.specs.declared.options.OptionKind.TheVariants as lists
use Rattle.object_settings.proofs.objects.owns_of.Given as goal

-- What the blocks so far give, and what is read of their options.
abbrev pub invariant-loop-number : goal.invariant-loop-number
invariant-loop-number l = record {
  owns : AllZip (IsOwnOfHost l.tables.blocks) (take l.number (objects_in l.tables.blocks Host)) l.owns.items;
  read : AreRead (options_of l.tables.blocks) lists.Host l.read.items;
}
