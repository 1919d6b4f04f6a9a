-- What a decider keeps, and the past that it fits.
use Rattle.std.specs.Prelude.{◌≡◌, ℕ, ◌≤◌, Bool, List, [], length, All}
use Rattle.due_model.specs.declared.config.Config.{Config}
use Rattle.due_model.specs.declared.event.Event.{Event}
use Rattle.due_model.specs.declared.notice.Suppression.{Suppression}
use Rattle.due_model.specs.declared.zone.Zone.{Zone}
use Rattle.due_model.specs.claims.Accepted.{IsAccepted}
use Rattle.due_model.specs.claims.Limits.{max_events}
use Rattle.due_model.specs.claims.Proper.{IsProper}
use Rattle.due_model.specs.claims.Readings.{moment as moment_of, program_on}
use Rattle.due_times.specs.claims.Index.{Due}
use Rattle.problem_count.specs.claims.Book.{BookValues}
use Rattle.decider.specs.declared.decider.Decider.{Decider}
use Rattle.decider.specs.declared.event_decider.EventDecider.{EventDecider}
use Rattle.decider.specs.declared.share.Share.{Share}
use Rattle.decider.specs.claims.Books.{BooksFit}
use Rattle.decider.specs.claims.Events.{AreTables, TableValues}
use Rattle.decider.specs.claims.Ready.{IndexFits}
use Rattle.decider.specs.claims.Share.{IsShare}
use Rattle.decider.specs.claims.Statuses.{StatusLists, StatusesFit}

-- what a decider keeps
pub record Kept : Type 0 where
  pub config : Config
  pub zone : Zone
  pub share : Share
  pub tables : TableValues
  -- how many events it has decided
  pub count : ℕ
  pub moment : ℕ
  pub program : Bool
  -- the status of each object, and the book of each
  pub statuses : StatusLists
  pub books : List BookValues
  -- when each object of the share is next due
  pub index : Due
  -- the suppressions so far; a core keeps none
  pub log : List Suppression

abbrev pub core_kept : EventDecider → Kept
core_kept d = record {
  config = d.config.now;
  zone = d.zone;
  share = d.share;
  tables = record {
    periods = d.periods.items;
    searched = d.dependencies;
  };
  count = d.count;
  moment = d.moment;
  program = d.program;
  statuses = d.statuses;
  books = d.books.items;
  index = d.index;
  log = [];
}

abbrev pub kept : Decider → Kept
kept d = record (core_kept d.core) { log = d.log.lines }

-- Fits: each value that is kept is the definitions' value after this past.
pub record Fits (k : Kept) (past : List Event) : Type 0 where
  pub accepted : IsAccepted k.config
  pub share : IsShare k.share
  pub worked_out : AreTables k.config k.tables
  pub proper : All (IsProper k.config) past
  pub short : length past ≤ max_events
  pub count : k.count ≡ length past
  pub moment : k.moment ≡ moment_of past
  pub program : k.program ≡ program_on past
  pub statuses : StatusesFit (length k.config.objects) past k.statuses
  pub books : BooksFit k.config k.zone k.share past k.books
  pub index : IndexFits k.config k.zone k.share past k.index

-- the configuration, the zone and the share
abbrev pub settings : Kept → Config × Zone × Share
settings k = (k.config, k.zone, k.share)
