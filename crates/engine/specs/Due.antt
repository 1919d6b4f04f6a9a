-- What a run promises of its lanes and of its log.
use Rattle.std.specs.Prelude.{List, []}
use Rattle.due_model.specs.declared.config.Config.{Config}
use Rattle.due_model.specs.declared.event.Event.{Event}
use Rattle.due_model.specs.declared.notice.Suppression.{Suppression}
use Rattle.due_model.specs.declared.zone.Zone.{Zone}
use Rattle.engine.specs.claims.Due.{IsLogAfter, BeginsLogAfter}

-- The log, where nothing was told before: of each object all that is suppressed of it.
abbrev pub IsLog : Config → Zone → (past : List Event) → (log : List Suppression) → Type 0
IsLog c zone past log = IsLogAfter c zone past (λ o. []) log

abbrev pub BeginsLog : Config → Zone → (past : List Event) → (log : List Suppression) → Type 0
BeginsLog c zone past log = BeginsLogAfter c zone past (λ o. []) log
