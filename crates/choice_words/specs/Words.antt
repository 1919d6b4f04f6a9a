-- What the words of a command line say of whose rules decide.
use Rattle.std.specs.Prelude.{ℕ, Bool, true, false, List, [], ◌∷◌, codes, Option, None, Some, if◌then◌else◌}
use Rattle.std.specs.Option.{option_or}
use Rattle.std.specs.Str.{bytes_eq}
use Rattle.due_model.specs.declared.config.Choices.{Choices}
use Rattle.due_model.specs.Choices.{nagios, own}
use Rattle.choice_words.specs.declared.field.Field.{Field}
use Rattle.choice_words.specs.declared.field.Field.TheVariants.{HostDown, HostRepeats, HostDep, Nobody, Told, ResetWait, Delay, DepPending, PeriodWait, DowntimeWait, EscOther, AtResults, Order, ContactNone, Text}
use Rattle.choice_words.specs.declared.word.ChoiceWord.{ChoiceWord}

-- the choices with the daemon's rule in a field, or this project's
abbrev pub with_field : Choices → Field → (daemons : Bool) → Choices
with_field choices HostDown daemons = record choices { host_down = daemons }
with_field choices HostRepeats daemons = record choices { host_repeats = daemons }
with_field choices HostDep daemons = record choices { host_dep = daemons }
with_field choices Nobody daemons = record choices { nobody = daemons }
with_field choices Told daemons = record choices { told = daemons }
with_field choices ResetWait daemons = record choices { reset_wait = daemons }
with_field choices Delay daemons = record choices { delay = daemons }
with_field choices DepPending daemons = record choices { dep_pending = daemons }
with_field choices PeriodWait daemons = record choices { period_wait = daemons }
with_field choices DowntimeWait daemons = record choices { downtime_wait = daemons }
with_field choices EscOther daemons = record choices { esc_other = daemons }
with_field choices AtResults daemons = record choices { at_results = daemons }
with_field choices Order daemons = record choices { order = daemons }
with_field choices ContactNone daemons = record choices { contact_none = daemons }
with_field choices Text daemons = record choices { text = daemons }

-- a field, and whose rule decides in it
abbrev pub so : Field → (daemons : Bool) → Option ChoiceWord
so field daemons = Some (record { field = field; daemons = daemons })

-- what a word says of a field, if it is FIELD=own or FIELD=nagios
unfoldable pub of_field : Field → (own nagios : List ℕ) → List ℕ → Option ChoiceWord
of_field field own nagios word =
    if bytes_eq word own then so field false
    else if bytes_eq word nagios then so field true
    else None

-- of hosts and dependencies
unfoldable pub of_hosts : List ℕ → Option ChoiceWord
of_hosts word =
    option_or (option_or (option_or
    (of_field HostDown (codes "host_down=own") (codes "host_down=nagios") word)
    (of_field HostRepeats (codes "host_repeats=own") (codes "host_repeats=nagios") word))
    (of_field HostDep (codes "host_dep=own") (codes "host_dep=nagios") word))
    (of_field DepPending (codes "dep_pending=own") (codes "dep_pending=nagios") word)

-- of who is told
unfoldable pub of_receivers : List ℕ → Option ChoiceWord
of_receivers word =
    option_or (option_or (option_or
    (of_field Nobody (codes "nobody=own") (codes "nobody=nagios") word)
    (of_field Told (codes "told=own") (codes "told=nagios") word))
    (of_field EscOther (codes "esc_other=own") (codes "esc_other=nagios") word))
    (of_field ContactNone (codes "contact_none=own") (codes "contact_none=nagios") word)

-- of waits and delays
unfoldable pub of_waits : List ℕ → Option ChoiceWord
of_waits word =
    option_or (option_or (option_or
    (of_field ResetWait (codes "reset_wait=own") (codes "reset_wait=nagios") word)
    (of_field Delay (codes "delay=own") (codes "delay=nagios") word))
    (of_field PeriodWait (codes "period_wait=own") (codes "period_wait=nagios") word))
    (of_field DowntimeWait (codes "downtime_wait=own") (codes "downtime_wait=nagios") word)

-- of what is read, and what is named
unfoldable pub of_reading : List ℕ → Option ChoiceWord
of_reading word =
    option_or (option_or
    (of_field AtResults (codes "at_results=own") (codes "at_results=nagios") word)
    (of_field Order (codes "order=own") (codes "order=nagios") word))
    (of_field Text (codes "text=own") (codes "text=nagios") word)

-- what a word says, if it is FIELD=own or FIELD=nagios
abbrev pub said : List ℕ → Option ChoiceWord
said word = option_or (option_or (option_or (of_hosts word) (of_receivers word)) (of_waits word)) (of_reading word)

-- the choices after words, one after another; none, where one says nothing
abbrev pub chosen : Choices → List (List ℕ) → Option Choices
chosen choices [] = Some choices
chosen choices (word ∷ words) = elim (said word) as (λ _. Option Choices) [
  | None ↦ None
  | Some choice ↦ chosen (with_field choices choice.field choice.daemons) words
]

-- those that the words begin with: the daemon's, or this project's, where text is read as Nagios reads it or isn't
abbrev pub at_first : (as_nagios reads : Bool) → Choices
at_first as_nagios reads = if as_nagios then nagios else with_field own Text reads
