use Rattle.std.proofs.Common.{◌≡◌, ◌≤◌, ◌-◌, List, length}
use Rattle.due_model.specs.declared.event.Event.{Event}
use Rattle.lemmas.proofs.Numbers.{flat_below}
use Rattle.messages.specs.claims.Entries.{object_entries}
use Rattle.decider.specs.Books.{new_books}
use Rattle.decider.specs.Events.{IsAt, values}
use Rattle.decider.specs.claims.Share.{is_owned}
use Rattle.decider.specs.Staging.{Adds}
use Rattle.decider.proofs.staging.stage_due.Given as goal

abbrev pub invariant-loop-object : goal.invariant-loop-object
invariant-loop-object l = record {
  dependencies : l.dependencies ≡ l.fn.dependencies;
  statuses : l.statuses ≡ l.fn.statuses;
  below : l.from ≤ length l.reading.rules.config.now.objects;
  staged : (e : Event) (past : List Event) → IsAt (values l.reading l.fn.dependencies l.fn.statuses) e past
      → Adds (flat_below (object_entries l.reading.rules.config.now l.reading.rules.zone.now e past) (is_owned l.reading.share) l.from)
      (flat_below (new_books l.reading.rules.config.now l.reading.rules.zone.now e past) (is_owned l.reading.share) l.from)
      l.fn.staged l.staged;
}

abbrev pub decreases-loop-object : goal.decreases-loop-object
decreases-loop-object l = 65536 - l.from
