-- The metrics of a run, in the text format of Prometheus.
use Rattle.std.specs.Prelude.{ℕ, ◌==◌, ◌||◌, List, [], ◌∷◌, ◌++◌, codes, decimal, flat_map, Option, None, Some, if◌then◌else◌}
use Rattle.metrics_text.specs.declared.CommandMetrics.{CommandMetrics}
use Rattle.metrics_text.specs.declared.Figure.{Figure}
use Rattle.metrics_text.specs.declared.Figure.TheVariants.{Due, Taken, Undelivered, Waiting, Failures}
use Rattle.metrics_text.specs.declared.Metrics.{Metrics}

-- ---- the lines

-- a byte of a label's value: a quote and a backslash come after a backslash, a newline is \n
unfoldable pub escaped : ℕ → List ℕ
escaped byte =
    if (byte == 34) || (byte == 92) then 92 ∷ byte ∷ []
    else if byte == 10 then 92 ∷ 110 ∷ []
    else byte ∷ []

-- what is said of a metric
unfoldable pub remark : (front name said : List ℕ) → List ℕ
remark front name said = front ++ name ++ codes " " ++ said ++ codes "\n"

-- what a metric is, and of which kind
unfoldable pub head : (name help kind : List ℕ) → List ℕ
head name help kind = remark (codes "# HELP ") name help ++ remark (codes "# TYPE ") name kind

-- its value
unfoldable pub sample : (name : List ℕ) → ℕ → List ℕ
sample name value = name ++ codes " " ++ decimal value ++ codes "\n"

-- that number of a command
abbrev pub figure_of : Figure → CommandMetrics → ℕ
figure_of Due command = command.due
figure_of Taken command = command.taken
figure_of Undelivered command = command.undelivered
figure_of Waiting command = command.waiting
figure_of Failures command = command.failures

-- its value of a command, which is its label
unfoldable pub command_sample : (name : List ℕ) → Figure → CommandMetrics → List ℕ
command_sample name figure command =
    name ++ codes "{command=" ++ 34 ∷ flat_map escaped command.name.items ++ 34 ∷ codes "} "
    ++ decimal (figure_of figure command) ++ codes "\n"

-- ---- the metrics

-- of one value
unfoldable pub one_text : (name help kind : List ℕ) → ℕ → List ℕ
one_text name help kind value = head name help kind ++ sample name value

-- of a value for each command
unfoldable pub commands_text : (name help kind : List ℕ) → Figure → List CommandMetrics → List ℕ
commands_text name help kind figure commands =
    head name help kind ++ flat_map (command_sample name figure) commands

-- of seconds since something; there is none where it never was
abbrev pub age_text : (name help : List ℕ) → Option ℕ → List ℕ
age_text name help None = []
age_text name help (Some age) = one_text name help (codes "gauge") age

-- of the run
unfoldable pub events_text : ℕ → List ℕ
events_text events =
    one_text (codes "notify_run_events_total") (codes "Events of the feed that were decided.") (codes "counter") events

-- of its commands
unfoldable pub due_text : List CommandMetrics → List ℕ
due_text commands =
    commands_text (codes "notify_run_notices_due_total") (codes "Notices that became due for the command.") (codes "counter") Due commands

unfoldable pub taken_text : List CommandMetrics → List ℕ
taken_text commands =
    commands_text (codes "notify_run_taken_total") (codes "Notices that a channel of the command has taken.") (codes "counter") Taken commands

unfoldable pub undelivered_text : List CommandMetrics → List ℕ
undelivered_text commands =
    commands_text (codes "notify_run_undelivered_total") (codes "Notices that were given up.") (codes "counter") Undelivered commands

unfoldable pub waiting_text : List CommandMetrics → List ℕ
waiting_text commands =
    commands_text (codes "notify_run_waiting") (codes "Notices that are due, and neither taken nor given up.") (codes "gauge") Waiting commands

unfoldable pub failures_text : List CommandMetrics → List ℕ
failures_text commands =
    commands_text (codes "notify_run_channel_failures_total") (codes "Tries of a notice that failed at a channel.") (codes "counter") Failures commands

unfoldable pub each_text : List CommandMetrics → List ℕ
each_text commands = due_text commands ++ taken_text commands ++ undelivered_text commands ++ waiting_text commands ++ failures_text commands

-- of its feed
unfoldable pub ages_text : Metrics → List ℕ
ages_text m =
    age_text (codes "notify_run_feed_line_age_seconds") (codes "Seconds since the last line of the feed.") m.feed_age
    ++ age_text (codes "notify_run_clock_line_age_seconds") (codes "Seconds since the last CLOCK line of the feed.") m.clock_age

-- all of them
unfoldable pub metrics_text : Metrics → List ℕ
metrics_text m = events_text m.events ++ each_text m.commands.items ++ ages_text m
