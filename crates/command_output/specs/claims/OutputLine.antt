-- The lines that a command can write, as bytes.
use Rattle.std.specs.Prelude.{ℕ, List, flat_map}
use Rattle.due_model.specs.declared.config.Config.{Config}
use Rattle.messages.specs.declared.entries.Entry.{Entry}
use Rattle.messages.specs.declared.entries.Entry.TheVariants.{Sent, Withheld}
use Rattle.command_output.specs.declared.output_line.OutputLine.{OutputLine}
use Rattle.command_output.specs.declared.output_line.OutputLine.TheVariants as line
use Rattle.command_output.specs.claims.ReportLine.{notice_line, refused_line, suppression_line}
use Rattle.command_output.specs.claims.RunLine.{channel_line, closed_line, taken_line, undelivered_line}
use Rattle.command_output.specs.claims.TraceLine.{lane_line, refused_step_line}

abbrev pub line_text : Config → OutputLine → List ℕ
line_text c (line.Notice n) = notice_line c n
line_text c (line.Suppression s) = suppression_line c s
line_text c (line.Refused number fault) = refused_line number fault
line_text c (line.RefusedStep number refusal) = refused_step_line number refusal
line_text c (line.Held held) = lane_line c held
line_text c (line.Taken lane n) = taken_line c lane.0 n
line_text c (line.Undelivered lane n) = undelivered_line c lane.0 n
line_text c (line.Box lane number count) = channel_line c lane.0 number count
line_text c (line.Closed lane why) = closed_line c lane.0 why

-- ---- the entries of an event

-- the line of an entry
abbrev pub line_of : Entry → OutputLine
line_of (Sent n) = line.Notice n
line_of (Withheld s) = line.Suppression s

abbrev pub entry_text : Config → Entry → List ℕ
entry_text c entry = line_text c (line_of entry)

-- the lines of entries
abbrev pub entries_text : Config → List Entry → List ℕ
entries_text c entries = flat_map (entry_text c) entries
