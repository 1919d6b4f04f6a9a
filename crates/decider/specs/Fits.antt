-- What a decider keeps, and the past that it fits.
use Rattle.std.specs.Prelude.{◌≡◌, ◌+◌, max, List, []}
use Rattle.due_model.specs.declared.config.Config.{Config}
use Rattle.due_model.specs.declared.event.Event.{Event}
use Rattle.due_model.specs.declared.zone.Zone.{Zone}
use Rattle.due_model.specs.claims.Readings.{switch_after}
use Rattle.due_times.specs.claims.Index.{Due}
use Rattle.messages.specs.declared.entries.Entry.{Entry}
use Rattle.decider.specs.declared.event_decider.EventDecider.{EventDecider}
use Rattle.decider.specs.declared.reading.EventContext.{EventContext}
use Rattle.decider.specs.declared.share.Share.{Share}
use Rattle.decider.specs.declared.staging.NewBook.{NewBook}
use Rattle.decider.specs.Books.{settled}
use Rattle.decider.specs.Events.{Values}
use Rattle.decider.specs.Statuses.{statuses_after}
use Rattle.decider.specs.claims.Fits.{Kept, kept, Fits, settings}

-- the entries of the last event decided
abbrev pub last_entries : EventDecider → List Entry
last_entries d = d.entries.items

-- what an event says, and what it makes of the moment and the switch
abbrev pub context_of : Kept → Event → EventContext
context_of k e = record {
  number = k.count;
  kind = e.kind;
  moment = max k.moment e.moment;
  program = switch_after e.kind k.program;
}

-- what is read to decide an event
abbrev pub values_at : Kept → Event → Values
values_at k e = record {
  config = k.config;
  zone = k.zone;
  share = k.share;
  tables = k.tables;
  context = context_of k e;
  statuses = k.statuses;
  books = k.books;
  index = k.index;
}

-- what is kept after an event at which these books were staged, with this index
abbrev pub kept_after : Kept → Event → List NewBook → Due → Kept
kept_after k e decided index = record {
  config = k.config;
  zone = k.zone;
  share = k.share;
  tables = k.tables;
  count = k.count + 1;
  moment = max k.moment e.moment;
  program = switch_after e.kind k.program;
  statuses = statuses_after e.kind k.statuses;
  books = settled decided k.books;
  index = index;
  log = k.log;
}

-- It has decided nothing of this configuration: it fits the empty past, and its log is empty.
pub record HasDecidedNothing (c : Config) (zone : Zone) (share : Share) (k : Kept) : Type 0 where
  pub fits : Fits k []
  pub settings : settings k ≡ (c, zone, share)
  pub log : k.log ≡ []
