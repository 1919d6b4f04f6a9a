-- How each attempt is answered: by notices and suppressions, whatever the configuration and the events.
use Rattle.std.specs.Prelude.{◌≡◌, ℕ, ◌⊎◌, ◌&&◌, Bool, true, false, List, [], ◌∷◌, length, filter, slice_get, Contains, ◌==◌, Option, None, Some, MatchOption, if◌then◌else◌}
use Rattle.due_model.specs.declared.config.Config.{Config}
use Rattle.due_model.specs.declared.config.Contact.{Contact}
use Rattle.due_model.specs.declared.config.Object.{Object}
use Rattle.due_model.specs.declared.event.Event.{Event}
use Rattle.due_model.specs.declared.notice.Filter.{Filter}
use Rattle.due_model.specs.declared.notice.Filter.TheVariants as filters
use Rattle.due_model.specs.declared.notice.Kind.{Kind}
use Rattle.due_model.specs.declared.notice.Notice.{Notice}
use Rattle.due_model.specs.declared.notice.Suppression.{Suppression}
use Rattle.due_model.specs.declared.zone.Zone.{Zone}
use Rattle.due_model.specs.claims.Due.{due_at, suppressed_at, uses_lane}
use Rattle.due_model.specs.claims.Receivers.{receivers, rights_for}
use Rattle.due_model.specs.claims.Histories.{before, hist, notices_sent, number_after, ready, ready_or, released, repeats, status_after, timed, with_repeat}
use Rattle.due_model.specs.claims.Changes.{delayed}
use Rattle.due_laws.specs.Laws.{last_problem}
use Rattle.due_model.specs.claims.Readings.{moment, hard, is_problem_state}
use Rattle.due_model.specs.claims.Rules.{attempted}

-- whether a filter is one of a contact, or of the object
abbrev pub is_of_contact : Filter → Bool
is_of_contact filters.Program = false
is_of_contact filters.Disabled = false
is_of_contact filters.Downtime = false
is_of_contact filters.Flapping = false
is_of_contact filters.Options = false
is_of_contact filters.NoProblem = false
is_of_contact filters.Period = false
is_of_contact filters.Dependency = false
is_of_contact filters.Acknowledged = false
is_of_contact filters.FirstDelay = false
is_of_contact filters.Interval = false
is_of_contact filters.HostDown = false
is_of_contact filters.ContactDisabled = true
is_of_contact filters.ContactOptions = true
is_of_contact filters.ContactPeriod = true
is_of_contact filters.ContactNotTold = true

-- nobody is notified, and nothing is suppressed
pub record IsSilent (notices : ℕ → List Notice) (suppressions : List Suppression) : Type 0 where
  pub no_notice : (l : ℕ) → notices l ≡ []
  pub no_suppression : suppressions ≡ []

-- a filter of the object stops it: nobody is notified, and there is one suppression, which names no contact
pub record IsStopped (notices : ℕ → List Notice) (suppressions : List Suppression) : Type 0 where
  pub no_notice : (l : ℕ) → notices l ≡ []
  pub suppression : Suppression
  pub alone : suppressions ≡ suppression ∷ []
  pub of_object : is_of_contact suppression.filter ≡ false
  pub no_contact : suppression.contact ≡ None

-- whether a suppression names contact k
abbrev pub names : ℕ → Suppression → Bool
names k s = elim s.contact as (λ _. Bool) [ None ↦ false | Some contact ↦ contact.0 == k ]

-- contact k gets one notice on each of its lanes, and no suppression names it
pub record IsNotified (object : Object) (contact : Contact) (k : ℕ) (notices : ℕ → List Notice)
    (suppressions : List Suppression) : Type 0 where
  pub notified : (l : ℕ) → length (filter (λ n. n.contact.0 == k) (notices l))
      ≡ (if uses_lane (rights_for object contact) l then 1 else 0)
  pub not_refused : filter (names k) suppressions ≡ []

-- contact k gets no notice, and one suppression names it, by one of its filters
pub record IsRefused (k : ℕ) (notices : ℕ → List Notice) (suppressions : List Suppression) : Type 0
  where
    pub not_notified : (l : ℕ) → filter (λ n. n.contact.0 == k) (notices l) ≡ []
    pub suppression : Suppression
    pub alone : filter (names k) suppressions ≡ suppression ∷ []
    pub of_contact : is_of_contact suppression.filter ≡ true

-- each contact that a notice goes to is notified or refused
abbrev pub ReachesEach : Config → Object → List ℕ → (ℕ → List Notice) → List Suppression → Type 0
ReachesEach c object ks notices suppressions = (k : ℕ) (contact : Contact) → Contains ks k
    → slice_get c.contacts k ≡ Some contact
    → IsNotified object contact k notices suppressions ⊎ IsRefused k notices suppressions

-- what an event attempts on the object, if anything
abbrev pub attempt_of_event : Config → Zone → ℕ → Object → Event → List Event → Option Kind
attempt_of_event c zone o object e past =
    with_repeat (repeats c o e.kind past && is_problem_state (hard o past))
    (attempted o e.kind (status_after o past)
    (timed c (ready_or (released o past (hist c zone o object past))
    (ready c zone object (delayed c o past) (last_problem c zone o object past))))
    (moment (e ∷ past)))

-- the contacts that a notice of this kind at an event goes to
abbrev pub receivers_at : Config → Zone → ℕ → Object → Event → List Event → Kind → List ℕ
receivers_at c zone o object e past k =
    receivers c zone o object
    (record { kind = k; state = hard o (e ∷ past); moment = moment (e ∷ past) })
    (number_after (notices_sent (before o e past (hist c zone o object past))) k)
    (notices_sent (before o e past (hist c zone o object past)))

-- An event that attempts nothing leaves no trace. Each attempt is stopped by a filter of the object, or each contact that it
-- goes to is notified or refused (chapter "Notifications").
abbrev pub EachAttemptIsAnswered : Type 0
EachAttemptIsAnswered = (c : Config) (zone : Zone) (o : ℕ) (object : Object) (e : Event)
    (past : List Event)
    → MatchOption (attempt_of_event c zone o object e past)
    (IsSilent (λ l. due_at c zone o object l e past) (suppressed_at c zone o object e past))
    (λ k. IsStopped (λ l. due_at c zone o object l e past) (suppressed_at c zone o object e past)
    ⊎ ReachesEach c object (receivers_at c zone o object e past k)
    (λ l. due_at c zone o object l e past) (suppressed_at c zone o object e past))
