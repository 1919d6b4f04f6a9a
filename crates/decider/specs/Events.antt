-- What is read to decide an event, and the event and the past that it is of.
use Rattle.std.specs.Prelude.{◌≡◌, ℕ, ◌<◌, ◌≤◌, List, ◌∷◌, length}
use Rattle.due_model.specs.declared.config.Config.{Config}
use Rattle.due_model.specs.declared.event.Event.{Event}
use Rattle.due_model.specs.declared.zone.Zone.{Zone}
use Rattle.due_model.specs.claims.Accepted.{IsAccepted}
use Rattle.due_model.specs.claims.Limits.{last_moment, max_events}
use Rattle.due_model.specs.claims.Proper.{IsProper}
use Rattle.due_model.specs.claims.Readings.{moment as moment_of, program_on}
use Rattle.due_times.specs.claims.Index.{Due}
use Rattle.problem_count.specs.claims.Book.{BookValues}
use Rattle.decider.specs.declared.reading.EventContext.{EventContext}
use Rattle.decider.specs.declared.reading.Reading.{Reading}
use Rattle.decider.specs.declared.share.Share.{Share}
use Rattle.decider.specs.claims.Books.{BooksFit}
use Rattle.decider.specs.claims.Ready.{IndexFits}
use Rattle.decider.specs.claims.Statuses.{StatusLists, StatusesFit}
use Rattle.decider.specs.claims.Events.{TableValues, AreTables}

-- all that is read
pub record Values : Type 0 where
  pub config : Config
  pub zone : Zone
  pub share : Share
  pub tables : TableValues
  pub context : EventContext
  pub statuses : StatusLists
  pub books : List BookValues
  pub index : Due

abbrev pub values : Reading → (searched : ℕ) → StatusLists → Values
values reading searched statuses = record {
  config = reading.rules.config.now;
  zone = reading.rules.zone.now;
  share = reading.share;
  tables = record {
    periods = reading.rules.periods.now;
    searched = searched;
  };
  context = reading.context;
  statuses = statuses;
  books = reading.books.now;
  index = reading.index.now;
}

-- What is read is of event e, after that past.
pub record IsAt (v : Values) (e : Event) (past : List Event) : Type 0 where
  pub accepted : IsAccepted v.config
  pub worked_out : AreTables v.config v.tables
  pub deciders : 0 < v.share.deciders
  pub proper : IsProper v.config e
  pub short : length past ≤ max_events
  pub number : v.context.number ≡ length past
  pub says : v.context.kind ≡ e.kind
  pub at : v.context.moment ≡ moment_of (e ∷ past)
  pub in_time : v.context.moment ≤ last_moment
  pub switch : v.context.program ≡ program_on (e ∷ past)
  pub known : StatusesFit (length v.config.objects) past v.statuses
  pub kept : BooksFit v.config v.zone v.share past v.books
  pub indexed : IndexFits v.config v.zone v.share past v.index
