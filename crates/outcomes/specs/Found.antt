-- What an event finds, by the definitions, and what the filters read of it.
use Rattle.std.specs.Prelude.{◌≡◌, ℕ, Bool, false, ◌&&◌, ◌||◌, List, ◌∷◌, nat_lt, Option, Some, None, is_some}
use Rattle.due_model.specs.declared.config.Config.{Config}
use Rattle.due_model.specs.declared.config.Object.{Object}
use Rattle.due_model.specs.declared.config.ObjectId.{ObjectId}
use Rattle.due_model.specs.declared.event.Event.{Event}
use Rattle.due_model.specs.declared.notice.Kind.{Kind}
use Rattle.due_model.specs.declared.rules.Attempt.{Attempt}
use Rattle.due_model.specs.declared.rules.View.{View}
use Rattle.due_model.specs.declared.zone.Zone.{Zone}
use Rattle.due_model.specs.claims.Histories.{depends_at, host_holds, is_enabled, repeats, status_after, waiting, with_repeat}
use Rattle.due_model.specs.claims.Readings.{down, is_hard_of, is_problem_state, moment, program_on}
use Rattle.due_model.specs.claims.Rules.{attempted}
use Rattle.outcomes.specs.declared.found.Found.{Found}
use Rattle.problem_count.specs.claims.Book.{BookValues}

-- whether a service's host is in downtime
abbrev pub is_host_down : Option ObjectId → List Event → Bool
is_host_down host past = elim host as (λ _. Bool) [ None ↦ false | Some h ↦ down h.0 past ]

-- Each value is the definitions' at event e, after that past, for object o with these settings.
pub record IsFound (c : Config) (zone : Zone) (o : ℕ) (settings : Object) (e : Event)
    (past : List Event) (found : Found) : Type 0 where
  pub event : found.event ≡ e.kind
  pub at : found.moment ≡ moment (e ∷ past)
  pub program : found.program ≡ program_on (e ∷ past)
  pub before : found.before ≡ status_after o past
  pub after : found.after ≡ status_after o (e ∷ past)
  pub host_down : found.host_down ≡ is_host_down settings.host (e ∷ past)
  pub depends : found.depends ≡ depends_at c zone o settings e past
  pub host_problem : found.host_problem ≡ host_holds c settings (e ∷ past)
  pub repeats : found.repeats ≡ repeats c o e.kind past

-- what is attempted, by a ready moment
abbrev pub tried : (o : ℕ) → Found → Option ℕ → Option Kind
tried o found due =
    with_repeat (found.repeats && is_problem_state found.before.state)
    (attempted o found.event found.before due found.moment)

-- what the filters read of an object with these settings and this book
abbrev pub view_by : (o : ℕ) → Object → Found → BookValues → View
view_by o settings found book = record {
  program = found.program;
  enabled = is_enabled settings found.after.switched;
  down = nat_lt 0 found.after.depth || found.host_down;
  flapping = found.after.flapping;
  options = settings.options;
  sent = book.sent;
  period = settings.period;
  depends = found.depends;
  acknowledged = is_some found.after.acknowledged;
  began = book.began;
  delay = settings.delay;
  last = waiting book.ended book.last;
  renews = settings.volatile && is_hard_of o found.event;
  told = book.told;
  host_problem = found.host_problem;
}

-- the attempt as this kind
abbrev pub attempt_by : Found → Kind → Attempt
attempt_by found k = record { kind = k; state = found.after.state; moment = found.moment }
