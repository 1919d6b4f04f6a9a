-- Whom a notice goes to.
use Rattle.std.specs.Prelude.{ℕ, ◌-◌, Bool, false, not, ◌&&◌, ◌||◌, List, slice_get, Option, Some, None, is_some, if◌then◌else◌}
use Rattle.std.specs.List.{list_any}
use Rattle.due_model.specs.declared.config.Config.{Config}
use Rattle.due_model.specs.declared.config.Contact.{Contact}
use Rattle.due_model.specs.declared.config.Object.{Object}
use Rattle.due_model.specs.declared.config.Rights.{Rights}
use Rattle.due_model.specs.declared.options.OptionLetter.TheVariants as letter
use Rattle.due_model.specs.declared.options.OptionLetters.{OptionLetters}
use Rattle.due_model.specs.declared.notice.Kind.{Kind}
use Rattle.due_model.specs.declared.notice.Kind.TheVariants as kind
use Rattle.due_model.specs.declared.zone.Zone.{Zone}
use Rattle.due_model.specs.declared.rules.Attempt.{Attempt}
use Rattle.due_model.specs.claims.Readings.{is_problem_state}
use Rattle.due_model.specs.claims.Rules.{contact_failing, letter_of, state_letter}
use Rattle.due_model.specs.claims.Escalations.{reach, contacts_with, has_contact}

-- the contacts that a notice of flapping, a downtime or an acknowledgement goes to, with so many notices of the object's problem before it:
-- the object's own; by the daemon's rule, in a problem state, those that the last of them reaches
abbrev pub others : Config → Zone → ℕ → Object → Attempt → (standing : ℕ) → List ℕ
others c zone o object a standing =
    if c.choices.esc_other && is_problem_state a.state
    then reach c zone o object standing (state_letter a.state) a.moment
    else contacts_with c (has_contact object.contacts)

-- the contacts that a notice goes to, in number order: those of the matching escalations for a problem and its
-- recovery, which counts as the last notice there, and `others` for other kinds
abbrev pub receivers : Config → Zone → ℕ → Object → Attempt → (number standing : ℕ) → List ℕ
receivers c zone o object a number standing = of_kind a.kind
  where
    of_kind : Kind → List ℕ
    of_kind kind.Problem = reach c zone o object number (letter_of a.kind a.state) a.moment
    of_kind kind.Recovery = reach c zone o object (number - 1) letter.Recovery a.moment
    of_kind kind.FlappingStart = others c zone o object a standing
    of_kind kind.FlappingStop = others c zone o object a standing
    of_kind kind.DowntimeStart = others c zone o object a standing
    of_kind kind.DowntimeEnd = others c zone o object a standing
    of_kind kind.DowntimeCancelled = others c zone o object a standing
    of_kind kind.Acknowledgement = others c zone o object a standing

-- what a contact is notified of, for the kind of this object
abbrev pub rights_for : Object → Contact → Rights
rights_for object contact = if is_some object.host then contact.services else contact.hosts

-- whether the filters of contact k pass
abbrev pub passes : Config → Zone → Object → Attempt → (told : Option OptionLetters) → ℕ → Bool
passes c zone object a told k = elim (slice_get c.contacts k) as (λ _. Bool) [
  | None ↦ false
  | Some contact ↦ not (is_some (contact_failing c zone (rights_for object contact) a told))
]

-- whether a notice counts: always; by the daemon's rule, where it reaches somebody
abbrev pub is_heard : Config → Zone → ℕ → Object → Attempt → (number : ℕ) → Option OptionLetters
    → (standing : ℕ) → Bool
is_heard c zone o object a number told standing =
    not c.choices.nobody
    || list_any (passes c zone object a told) (receivers c zone o object a number standing)
