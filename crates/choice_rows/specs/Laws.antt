-- What each choice of the daemon's rules means, whatever the configuration and the events.
use Rattle.std.specs.Prelude.{◌≡◌, ℕ, true, false, List, ◌∷◌, Option, None, Some}
use Rattle.due_model.specs.declared.config.Config.{Config}
use Rattle.due_model.specs.declared.config.Object.{Object}
use Rattle.due_model.specs.declared.config.Rights.{Rights}
use Rattle.due_model.specs.declared.event.Event.{Event}
use Rattle.due_model.specs.declared.event.EventKind.{EventKind}
use Rattle.due_model.specs.declared.event.EventKind.TheVariants.{Clock}
use Rattle.due_model.specs.declared.notice.Kind.{Kind}
use Rattle.due_model.specs.declared.notice.Outcome.{Outcome}
use Rattle.due_model.specs.declared.notice.Outcome.TheVariants.{Nothing, Sent}
use Rattle.due_model.specs.declared.notice.Reach.{Reach}
use Rattle.due_model.specs.declared.options.OptionLetters.{OptionLetters}
use Rattle.due_model.specs.declared.rules.Attempt.{Attempt}
use Rattle.due_model.specs.declared.rules.View.{View}
use Rattle.due_model.specs.declared.state.State.{State}
use Rattle.due_model.specs.declared.state.StateSet.{StateSet}
use Rattle.due_model.specs.declared.zone.Zone.{Zone}
use Rattle.due_model.specs.claims.Changes.{changes, delayed}
use Rattle.due_model.specs.Choices.{own}
use Rattle.due_model.specs.claims.Dependencies.{dependency_fails, fails_at, has_state}
use Rattle.due_model.specs.claims.Escalations.{contacts_with, has_contact}
use Rattle.due_model.specs.claims.Histories.{depends_at, ended_at, host_holds, last_notice, notices_sent, outcome, repeats, timed, told_for, told_letters}
use Rattle.due_model.specs.claims.Readings.{hard, moment}
use Rattle.due_model.specs.Readings.{began}
use Rattle.due_model.specs.claims.Receivers.{is_heard, others}
use Rattle.due_model.specs.claims.Rules.{contact_failing, failing, first_failing, in_own_contact_order, in_own_order, meets}

-- A notice that doesn't count leaves number, wait and told letters as they were.
pub record LeavesAll (x : Outcome) (history : List Outcome) : Type 0 where
  pub number : notices_sent (x ∷ history) ≡ notices_sent history
  pub last : last_notice (x ∷ history) ≡ last_notice history
  pub told : told_letters (x ∷ history) ≡ told_letters history

abbrev pub UnheardNoticesLeaveAll : Type 0
UnheardNoticesLeaveAll = (k : Kind) (s : State) (number m gap : ℕ) (reach : Reach)
    (history : List Outcome) → reach.heard ≡ false
    → LeavesAll (Sent k s number m gap reach) history

-- Where `nobody` isn't chosen each notice counts.
abbrev pub AllAreHeard : Type 0
AllAreHeard = (c : Config) (zone : Zone) (o : ℕ) (object : Object) (a : Attempt) (number : ℕ)
    (told : Option OptionLetters) (standing : ℕ) → c.choices.nobody ≡ false
    → is_heard c zone o object a number told standing ≡ true

-- `reset_wait`: a change of the hard state ends the wait after the last notice.
abbrev pub ChangesEndTheWait : Type 0
ChangesEndTheWait = (c : Config) (zone : Zone) (o : ℕ) (object : Object) (e : Event)
    (past : List Event) (history : List Outcome) → c.choices.reset_wait ≡ true
    → changes o e past ≡ true → ended_at c zone o object e past history ≡ true

-- `delay`: the first delay runs from the last change of the hard state.
abbrev pub DelaysRunFromChanges : Type 0
DelaysRunFromChanges = (c : Config) (o : ℕ) (e : Event) (past : List Event)
    → c.choices.delay ≡ true → changes o e past ≡ true
    → delayed c o (e ∷ past) ≡ moment (e ∷ past)

-- `told`: who is notified where it matters what was told takes one of the letters told.
abbrev pub ToldLettersAreTaken : Type 0
ToldLettersAreTaken = (c : Config) (zone : Zone) (rights : Rights) (a : Attempt)
    (told : OptionLetters) → contact_failing c zone rights a (Some told) ≡ None
    → meets told rights.options ≡ true

-- `at_results`: of the clock's event nothing becomes.
abbrev pub TheClockDoesNothing : Type 0
TheClockDoesNothing = (c : Config) (zone : Zone) (o m : ℕ) (object : Object) (past : List Event)
    (history : List Outcome) → c.choices.at_results ≡ true
    → outcome c zone o object (record { moment = m; kind = Clock }) past history ≡ Nothing

-- This project's rules, in which no definition knows of a choice.
pub record KnowsNoChoice (c : Config) : Type 0 where
  -- a service is told of whatever its host does, and held back by its own dependencies alone
  pub host_down : (object : Object) (past : List Event) → host_holds c object past ≡ false
  pub host_repeats : (o : ℕ) (k : EventKind) (past : List Event) → repeats c o k past ≡ false
  pub host_dep : (zone : Zone) (o : ℕ) (object : Object) (e : Event) (past : List Event)
      → depends_at c zone o object e past
      ≡ dependency_fails c zone (λ master. hard master (e ∷ past)) (moment (e ∷ past)) o
  -- each notice counts, and a recovery doesn't ask what was told
  pub nobody : (zone : Zone) (o : ℕ) (object : Object) (a : Attempt) (number : ℕ)
      (letters : Option OptionLetters) (standing : ℕ)
      → is_heard c zone o object a number letters standing ≡ true
  pub told : (object : Object) (k : Kind) (letters : OptionLetters)
      → told_for c object k letters ≡ None
  -- the wait after the last notice runs on, and the first delay runs from where the problem began
  pub waits : (zone : Zone) (o : ℕ) (object : Object) (e : Event) (past : List Event)
      (history : List Outcome) → ended_at c zone o object e past history ≡ false
  pub delay : (o : ℕ) (past : List Event) → delayed c o past ≡ began o past
  -- flapping and downtimes are no matter of escalations, and the clock attempts problems again
  pub esc_other : (zone : Zone) (o : ℕ) (object : Object) (a : Attempt) (standing : ℕ)
      → others c zone o object a standing ≡ contacts_with c (has_contact object.contacts)
  pub at_results : (ready : Option ℕ) → timed c ready ≡ ready
  -- a pending master fails a dependency that has `p`, and the first filter that fails is the first of the manual's
  pub dep_pending : (set : StateSet) (s : State)
      → fails_at c.choices.dep_pending set s ≡ has_state set s
  pub order : (zone : Zone) (v : View) (a : Attempt)
      → failing c zone v a ≡ first_failing (in_own_order c zone v a)
  pub contact_order : (zone : Zone) (rights : Rights) (a : Attempt)
      (letters : Option OptionLetters) → contact_failing c zone rights a letters
      ≡ first_failing (in_own_contact_order c zone rights a letters)

abbrev pub OwnRulesKnowNoChoice : Type 0
OwnRulesKnowNoChoice = (c : Config) → c.choices ≡ own → KnowsNoChoice c
