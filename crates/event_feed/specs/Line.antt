-- A line of the feed, in the shape of chapter "External Commands": `[stamp] NAME;argument;argument`.
use Rattle.std.specs.Prelude.{ℕ, ◌-◌, if◌then◌else◌, List, [], Option, None, Some}
use Rattle.event_feed.specs.declared.fault.FeedFault.{FeedFault}
use Rattle.event_feed.specs.declared.fault.FeedFault.TheVariants.{UnknownObject, BadState}
use Rattle.event_feed.specs.declared.line.Words.{Words}
use Rattle.event_feed.specs.claims.Line.{fields, are_so_many}

-- the fields after the first, given what follows its `;`, if there is one
abbrev pub fields_after : Option (List ℕ) → List (List ℕ)
fields_after None = []
fields_after (Some rest) = fields rest

-- why an object that isn't known is refused, given what follows its name
abbrev pub unknown_fault : Words → List (List ℕ) → FeedFault
unknown_fault words arguments = if are_so_many words arguments then UnknownObject else BadState
