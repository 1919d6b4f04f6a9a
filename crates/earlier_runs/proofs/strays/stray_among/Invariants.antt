use Rattle.std.proofs.Common.{◌≡◌, map, take, true}
use Rattle.std.specs.Prelude.{All, string_bytes}
use Rattle.earlier_runs.specs.Strays.{IsStray}
use Rattle.earlier_runs.proofs.strays.stray_among.Given as goal

-- of the first names each that is a stray's was set aside
abbrev pub invariant-loop-name : goal.invariant-loop-name
invariant-loop-name g l = All (λ name. IsStray l.config name → (l.sets_aside ≡ true) × g.F.JournalNames.put_aside l.files name) (map string_bytes (take l.name-index l.names))
