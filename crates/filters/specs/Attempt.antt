-- What the filters read, in the words of the definitions.
use Rattle.std.specs.Prelude.{◌*◌, ◌≤◌, Bool, if◌then◌else◌}
use Rattle.due_model.specs.declared.config.Contact.{Contact}
use Rattle.due_model.specs.declared.config.Rights.{Rights}
use Rattle.due_model.specs.declared.rules.Attempt as rules
use Rattle.due_model.specs.declared.rules.Last.{Last}
use Rattle.due_model.specs.claims.Limits.{last_moment, max_number}
use Rattle.filters.specs.declared.attempt.Attempt.{Attempt}

-- the attempt that the definitions speak of
abbrev pub plain : Attempt → rules.Attempt
plain a = record { kind = a.kind; state = a.state; moment = a.moment }

-- what a contact is notified of, for services or for hosts
abbrev pub rights_of : (service : Bool) → Contact → Rights
rights_of service contact = if service then contact.services else contact.hosts

-- the moment and the gap of a last notice are within their limits
pub record IsLastInRange (last : Last) : Type 0 where
  pub moment : last.moment ≤ last_moment
  pub gap : last.gap ≤ 60 * max_number
