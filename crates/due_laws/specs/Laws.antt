-- What holds of the notices that are due and of the suppressions, whatever the configuration and the events.
use Rattle.std.specs.Prelude.{◌≡◌, ◌≢◌, ℕ, ◌+◌, ◌-◌, ◌<◌, ◌≤◌, ◌⊎◌, ◌&&◌, true, false, List, ◌++◌, length, drop, reverse, slice_get, filter_map, All, AllPairs, Option, None, Some, if◌then◌else◌}
use Rattle.std.specs.List.{range_with_len}
use Rattle.std.specs.Option.{ForSome}
use Rattle.due_model.specs.declared.config.Config.{Config}
use Rattle.due_model.specs.declared.config.Object.{Object}
use Rattle.due_model.specs.declared.event.Event.{Event}
use Rattle.due_model.specs.declared.notice.Kind.{Kind}
use Rattle.due_model.specs.declared.notice.Kind.TheVariants as kind
use Rattle.due_model.specs.declared.notice.Notice.{Notice}
use Rattle.due_model.specs.declared.notice.Outcome.{Outcome}
use Rattle.due_model.specs.declared.notice.Outcome.TheVariants.{Nothing, Sent, Suppressed}
use Rattle.due_model.specs.declared.zone.Zone.{Zone}
use Rattle.due_model.specs.claims.Due.{due, sup}
use Rattle.due_model.specs.claims.Histories.{hist, of_problem, notice_of, notices_sent}
use Rattle.due_model.specs.claims.Readings.{moment, hard, program_on, flapping, down, is_problem_state}
use Rattle.due_model.specs.declared.rules.Last.{Last}
use Rattle.due_model.specs.claims.Rules.{is_of_problem, is_problem, is_recovery}

-- one list begins with another
abbrev pub BeginsWith : {X : Type 0} → List X → List X → Type 0
BeginsWith {X} xs front = (rest : List X) × (xs ≡ front ++ rest)

-- What was due stays due: what is due after a feed is the front of what is due after each longer feed.
abbrev pub DueOnlyGrows : Type 0
DueOnlyGrows = (c : Config) (zone : Zone) (o l : ℕ) (feed more : List Event)
    → BeginsWith (due c zone o l (reverse (feed ++ more))) (due c zone o l (reverse feed))

-- So do the suppressions.
abbrev pub SuppressionsOnlyGrow : Type 0
SuppressionsOnlyGrow = (c : Config) (zone : Zone) (o : ℕ) (feed more : List Event)
    → BeginsWith (sup c zone o (reverse (feed ++ more))) (sup c zone o (reverse feed))

-- a notice comes before another: at an earlier event, or at the same one to a contact of a lesser number
abbrev pub ComesBefore : Notice → Notice → Type 0
ComesBefore a b = (a.event < b.event) ⊎ ((a.event ≡ b.event) × (a.contact.0 < b.contact.0))

-- Notices stand in the order of their events, and those of one event in the order of their contacts.
abbrev pub NoticesStandInOrder : Type 0
NoticesStandInOrder = (c : Config) (zone : Zone) (o l : ℕ) (past : List Event)
    → AllPairs ComesBefore (due c zone o l past)

-- No notice stands there twice.
abbrev pub NoticesStandOnce : Type 0
NoticesStandOnce = (c : Config) (zone : Zone) (o l : ℕ) (past : List Event)
    → AllPairs (λ a b. a ≢ b) (due c zone o l past)

-- the events up to number i, of a past
abbrev pub up_to : List Event → ℕ → List Event
up_to past i = drop (length past - (i + 1)) past

-- a notice of object o on lane l tells of one of the events: its moment, and the hard state then
pub record TellsOfEvent (past : List Event) (o l : ℕ) (n : Notice) : Type 0 where
  pub event : n.event < length past
  pub moment : n.moment ≡ moment (up_to past n.event)
  pub state : n.state ≡ hard o (up_to past n.event)
  pub object : n.object.0 ≡ o
  pub lane : n.lane.0 ≡ l

-- Each notice tells of one of the events.
abbrev pub NoticesTellOfEvents : Type 0
NoticesTellOfEvents = (c : Config) (zone : Zone) (o l : ℕ) (past : List Event)
    → All (TellsOfEvent past o l) (due c zone o l past)

-- the program switch is on, and the object isn't flapping, nor it or its host in downtime
pub record NothingHoldsBack (o : ℕ) (object : Object) (past : List Event) : Type 0 where
  pub switched_on : program_on past ≡ true
  pub steady : flapping o past ≡ false
  pub no_downtime : down o past ≡ false
  pub no_downtime_of_host : ForSome object.host (λ h. down h.0 past ≡ false)

-- A problem or a recovery is notified of only while nothing of that holds it back (chapter "Notifications").
abbrev pub ProblemsAreHeldBack : Type 0
ProblemsAreHeldBack = (c : Config) (zone : Zone) (o l : ℕ) (object : Object) (past : List Event)
    → slice_get c.objects o ≡ Some object
    → All (λ n. is_of_problem n.kind ≡ true → NothingHoldsBack o object (up_to past n.event))
    (due c zone o l past)

-- Where the daemon's rule holds services back whose host isn't UP, their problems and recoveries are notified of only while
-- it isn't so.
abbrev pub ServicesWaitForTheirHosts : Type 0
ServicesWaitForTheirHosts = (c : Config) (zone : Zone) (o l : ℕ) (object : Object)
    (past : List Event) → c.choices.host_down ≡ true → slice_get c.objects o ≡ Some object
    → All (λ n. is_of_problem n.kind ≡ true
    → ForSome object.host (λ h. is_problem_state (hard h.0 (up_to past n.event)) ≡ false))
    (due c zone o l past)

-- the outcomes of the object's last problem
abbrev pub last_problem : Config → Zone → ℕ → Object → List Event → List Outcome
last_problem c zone o object past = of_problem o past (hist c zone o object past)

-- A recovery is notified of only after a problem notice of its problem went out (chapter "Notifications").
abbrev pub RecoveriesFollowNotices : Type 0
RecoveriesFollowNotices = (c : Config) (zone : Zone) (o l : ℕ) (object : Object)
    (past : List Event) → slice_get c.objects o ≡ Some object
    → All (λ n. is_recovery n.kind ≡ true
    → 0 < notices_sent (last_problem c zone o object (up_to past n.event)))
    (due c zone o l past)

-- the number of an outcome that is a problem notice
abbrev pub notice_number : Outcome → Option ℕ
notice_number Nothing = None
notice_number (Sent k state number moment gap reach) =
    if is_problem k && reach.heard then Some number else None
notice_number (Suppressed k state number moment why) = None

-- The problem notices of one problem are numbered 1, 2, 3 and so on (chapter "Notification Escalations").
abbrev pub NumbersGoUpByOne : Type 0
NumbersGoUpByOne = (c : Config) (zone : Zone) (o : ℕ) (object : Object) (past : List Event)
    → filter_map notice_number (reverse (last_problem c zone o object past))
    ≡ range_with_len 1 (notices_sent (last_problem c zone o object past))

-- nothing ends a wait but its gap
pub record WaitsAreOwn (c : Config) (object : Object) : Type 0 where
  pub no_reset : c.choices.reset_wait ≡ false
  pub no_period : c.choices.period_wait ≡ false
  pub no_downtime : c.choices.downtime_wait ≡ false
  pub not_volatile : object.volatile ≡ false

-- Of two problem notices of one problem in a row that report the same state, the second comes no sooner than the gap of the
-- first after it, and never where that gap is 0 (chapter "Notifications"), unless the daemon's rules end waits or
-- the service is volatile.
abbrev pub NoticesKeepTheirGaps : Type 0
NoticesKeepTheirGaps = (c : Config) (zone : Zone) (o : ℕ) (object : Object)
    → WaitsAreOwn c object
    → (past : List Event) (i : ℕ) (earlier later : Last)
    → slice_get (filter_map notice_of (last_problem c zone o object past)) i ≡ Some later
    → slice_get (filter_map notice_of (last_problem c zone o object past)) (i + 1) ≡ Some earlier
    → earlier.state ≡ later.state
    → (0 < earlier.gap) × (earlier.moment + earlier.gap ≤ later.moment)

-- the number of a notice of this kind, after so many problem notices of its problem, its own counted
abbrev pub number_carried : Kind → ℕ → ℕ
number_carried kind.Problem sent = sent
number_carried kind.Recovery sent = sent + 1
number_carried kind.FlappingStart sent = 0
number_carried kind.FlappingStop sent = 0
number_carried kind.DowntimeStart sent = 0
number_carried kind.DowntimeEnd sent = 0
number_carried kind.DowntimeCancelled sent = 0
number_carried kind.Acknowledgement sent = 0

-- Each notice carries that number.
abbrev pub NoticesAreNumbered : Type 0
NoticesAreNumbered = (c : Config) (zone : Zone) (o l : ℕ) (object : Object) (past : List Event)
    → slice_get c.objects o ≡ Some object
    → All (λ n. n.number ≡ number_carried n.kind
    (notices_sent (last_problem c zone o object (up_to past n.event)))) (due c zone o l past)
