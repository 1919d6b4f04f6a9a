use Rattle.std.proofs.Common.{◌≡◌, ◌<◌, take}
use Rattle.std.specs.Prelude.{IfSome}
use Rattle.faults_told.specs.Located.{source_of}
use Rattle.faults_told.proofs.located.source_of.Given as goal

-- The last so far.
abbrev pub invariant-loop-source : goal.invariant-loop-source
invariant-loop-source l = record {
  of : l.found ≡ source_of (take l.source-index l.sources) l.line;
  before : IfSome l.found (λ source. source.before < l.line);
}
