use Rattle.std.specs.List.{flat_map, range_with_len}
use Rattle.object_settings.specs.Own.{AddsObjects, AreRead, options_of}
use Rattle.object_settings.specs.claims.Settings.{block_origins}
use Rattle.object_values.specs.declared.options.OptionKind.TheVariants as lists
use Rattle.object_settings.proofs.objects.push_services.Given as goal

-- The services of the blocks so far came, and what is read of their options.
abbrev pub invariant-loop-number : goal.invariant-loop-number
invariant-loop-number l = record {
  objects : AddsObjects l.tables.blocks (flat_map (block_origins l.tables.blocks l.lists) (range_with_len 0 l.number)) l.initial.objects.items l.objects.items;
  read : AreRead (options_of l.tables.blocks) lists.Service l.read.items;
}
