-- Whose rules decide.
use Rattle.std.specs.Prelude.{true, false}
use Rattle.due_model.specs.declared.config.Choices.{Choices}

-- this project's
abbrev pub own : Choices
own = record {
  host_down = false;
  host_repeats = false;
  host_dep = false;
  nobody = false;
  told = false;
  reset_wait = false;
  delay = false;
  dep_pending = false;
  period_wait = false;
  downtime_wait = false;
  esc_other = false;
  at_results = false;
  order = false;
  contact_none = false;
  text = false;
}

-- the daemon's
abbrev pub nagios : Choices
nagios = record {
  host_down = true;
  host_repeats = true;
  host_dep = true;
  nobody = true;
  told = true;
  reset_wait = true;
  delay = true;
  dep_pending = true;
  period_wait = true;
  downtime_wait = true;
  esc_other = true;
  at_results = true;
  order = true;
  contact_none = true;
  text = true;
}
