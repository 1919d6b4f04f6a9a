use Rattle.std.proofs.Common.{map, subst}
use Rattle.std.specs.Prelude.{string_bytes}
use Rattle.std.specs.Option.{option_map}
use Rattle.earlier_runs.specs.Strays.{TellsStray}
use Rattle.earlier_runs.proofs.strays.stray_journal.Goals as goal

pub returns : goal.returns
returns g c = (
  map string_bytes c.in_ok-names.names.items,
  c.in_ok-names.ensures,
  subst (λ xs. TellsStray (g.F.JournalNames.put_aside c.args.files.now) c.args.config.now c.args.sets_aside (map string_bytes xs) (option_map string_bytes c.in_ok-found.found))
      c.deref.ensures.value c.in_ok-found.ensures,
)
