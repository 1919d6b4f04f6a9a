-- What filters of an object stop in a row.
use Rattle.std.specs.Prelude.{ℕ, ◌+◌, Bool, true, false, ◌&&◌, ◌==◌, nat_lt, List, [], ◌++◌, flat_map, replicate, slice_index_or, slice_set, Option, None, Some, if◌then◌else◌}
use Rattle.std.specs.Option.{option_map_or}
use Rattle.std.specs.Str.{bytes_eq}
use Rattle.due_model.specs.declared.config.Config.{Config}
use Rattle.due_model.specs.declared.config.ContactId.{ContactId}
use Rattle.due_model.specs.declared.notice.Suppression.{Suppression}
use Rattle.due_model.specs.declared.zone.Zone.{Zone}
use Rattle.messages.specs.declared.entries.Entry.TheVariants.{Sent, Withheld}
use Rattle.notice_text.specs.claims.Names.{filter_name, kind_name, state_name}
use Rattle.line_forms.specs.declared.report_line.ReportLine.{ReportLine}
use Rattle.line_forms.specs.declared.report_line.ReportLine.TheVariants.{Decided, Refused}
use Rattle.line_forms.specs.Picks.{line_object}
use Rattle.pretty_lines.specs.declared.columns.Look.{Look}
use Rattle.pretty_lines.specs.declared.runs.Run.{Run}
use Rattle.pretty_lines.specs.Lines.{line_text, stopped_text}

-- the same filter stops the same kind of message about the same state
abbrev pub same_stop : (s t : Suppression) → Bool
same_stop s t =
    bytes_eq (filter_name s.filter) (filter_name t.filter)
    && bytes_eq (kind_name s.kind) (kind_name t.kind)
    && bytes_eq (state_name s.state) (state_name t.state)

-- one more; a count stays at the most that it can be
abbrev pub one_more : ℕ → ℕ
one_more count = if nat_lt count 18446744073709551615 then count + 1 else count

-- what a filter of the object stopped is the first of a row, or goes on with one
abbrev pub first_of : Suppression → Run
first_of s = record { more = 0; last = s }

abbrev pub grown : Option Run → Suppression → Run
grown None s = first_of s
grown (Some run) s =
    if same_stop run.last s then record { more = one_more run.more; last = s } else first_of s

-- the row that goes on after a suppression of the object: none after one of a contact
abbrev pub withheld_after : Option Run → Suppression → Option ContactId → Option Run
withheld_after run s None = Some (grown run s)
withheld_after run s (Some contact) = None

-- after a line of the object
abbrev pub run_after : Option Run → ReportLine → Option Run
run_after run (Decided (Sent n)) = None
run_after run (Decided (Withheld s)) = withheld_after run s s.contact
run_after run (Refused refused) = None

-- a suppression of the object goes on with the row
abbrev pub withheld_continues : Run → Suppression → Option ContactId → Bool
withheld_continues run s None = same_stop run.last s
withheld_continues run s (Some contact) = false

-- a line of the object does
abbrev pub continues : Run → ReportLine → Bool
continues run (Decided (Sent n)) = false
continues run (Decided (Withheld s)) = withheld_continues run s s.contact
continues run (Refused refused) = false

-- ---- what is written of them

-- how a row went on after its first line, if it did
abbrev pub run_text : Config → Zone → Look → Run → List ℕ
run_text c zone look run =
    if run.more == 0 then [] else stopped_text c zone look run.last run.more

-- of a row that goes on at the end
abbrev pub rest_text : Config → Zone → Look → Option Run → List ℕ
rest_text c zone look None = []
rest_text c zone look (Some run) = run_text c zone look run

-- a line of an object with this row: nothing where it goes on with the row, and else how that went on, and the line
abbrev pub text_after : Config → Zone → Look → Option Run → ReportLine → List ℕ
text_after c zone look None line = line_text c zone look line
text_after c zone look (Some run) line =
    if continues run line then [] else run_text c zone look run ++ line_text c zone look line

-- ---- the rows of all objects, by their numbers

unfoldable pub no_runs : List (Option Run)
no_runs = replicate 65536 None

abbrev pub run_at : List (Option Run) → (o : ℕ) → Option Run
run_at runs o = slice_index_or runs o None

abbrev pub runs_after : List (Option Run) → ReportLine → List (Option Run)
runs_after runs line =
    option_map_or (λ o. slice_set runs o.0 (run_after (run_at runs o.0) line)) (line_object line) runs

-- what a line adds, by the row of its object
abbrev pub added : Config → Zone → Look → List (Option Run) → ReportLine → List ℕ
added c zone look runs line =
    option_map_or (λ o. text_after c zone look (run_at runs o.0) line) (line_object line)
    (line_text c zone look line)

-- how those went on that still do at the end
abbrev pub all_rest : Config → Zone → Look → List (Option Run) → List ℕ
all_rest c zone look runs = flat_map (rest_text c zone look) runs
