-- The report of `replay` is the text of its lines.
use Rattle.std.proofs.Common.{◌≡◌, ℕ, Bool, true, false, cond, List, [], ◌∷◌, ◌++◌, Result, Ok, Err, flat_map, map, refl, sym, ap, ◌∙◌}
use Rattle.std.proofs.lemmas.List.{append-nil}
use Rattle.std.proofs.lemmas.Grind.{flat_map-append}
use Rattle.due_model.specs.declared.config.Config.{Config}
use Rattle.due_model.specs.declared.event.Event.{Event}
use Rattle.due_model.specs.declared.zone.Zone.{Zone}
use Rattle.event_feed.specs.declared.fault.FeedFault.{FeedFault}
use Rattle.event_feed.specs.declared.fault.FeedFault.TheVariants.{Ended}
use Rattle.event_feed.specs.claims.Feed.{Answer}
use Rattle.messages.specs.declared.entries.Entry.{Entry}
use Rattle.messages.specs.claims.Entries.{event_entries}
use Rattle.command_output.specs.claims.OutputLine.{entries_text, entry_text}
use Rattle.command_output.specs.claims.ReportLine.{refused_line}
use Rattle.replay.specs.claims.Report.{answer_text, given_text, is_ended, past_after, report_from}
use Rattle.line_forms.specs.declared.report_line.ReportLine.{ReportLine}
use Rattle.line_forms.specs.declared.report_line.ReportLine.TheVariants.{Decided}
use Rattle.report_telling.specs.Lines.{LinesAreTheReport, answer_lines, given_lines, lines_from, refusal_line}
use Rattle.line_forms.specs.Plain.{plain_text}

-- the lines of entries
entries_told : (c : Config) (entries : List Entry) → entries_text c entries ≡ flat_map (plain_text c) (map Decided entries)
entries_told c [] = refl
entries_told c (e ∷ entries) = ap (λ (text : List ℕ). entry_text c e ++ text) (entries_told c entries)

-- of either of two
either : (c : Config) (b : Bool) (text text' : List ℕ) (lines lines' : List ReportLine) → text ≡ flat_map (plain_text c) lines → text' ≡ flat_map (plain_text c) lines'
    → cond b text text' ≡ flat_map (plain_text c) (cond b lines lines')
either c true text text' lines lines' e f = e
either c false text text' lines lines' e f = f

given_told : (c : Config) (zone : Zone) (past : List Event) (line : ℕ) (given : Result Event FeedFault) → given_text c zone past line given ≡ flat_map (plain_text c) (given_lines c zone past line given)
given_told c zone past line (Ok e) = entries_told c (event_entries c zone e past)
given_told c zone past line (Err fault) = sym (append-nil (refused_line line fault))

answer_told : (c : Config) (zone : Zone) (past : List Event) (answer : Answer) → answer_text c zone past answer ≡ flat_map (plain_text c) (answer_lines c zone past answer)
answer_told c zone past answer =
    either c (is_ended past answer.given) (refused_line answer.line Ended) (given_text c zone past answer.line answer.given)
    (refusal_line answer.line Ended ∷ []) (given_lines c zone past answer.line answer.given)
    (sym (append-nil (refused_line answer.line Ended))) (given_told c zone past answer.line answer.given)

lines_told : (c : Config) (zone : Zone) (past : List Event) (given : List Answer) → report_from c zone past given ≡ flat_map (plain_text c) (lines_from c zone past given)
lines_told c zone past [] = refl
lines_told c zone past (answer ∷ more) =
    let first = answer_lines c zone past answer in
    let others : List ReportLine = cond (is_ended past answer.given) [] (lines_from c zone (past_after past answer.given) more) in
    ap (λ (text : List ℕ). text ++ cond (is_ended past answer.given) [] (report_from c zone (past_after past answer.given) more)) (answer_told c zone past answer)
    ∙ ap (λ (text : List ℕ). flat_map (plain_text c) first ++ text)
    (either c (is_ended past answer.given) [] (report_from c zone (past_after past answer.given) more) [] (lines_from c zone (past_after past answer.given) more) refl
    (lines_told c zone (past_after past answer.given) more))
    ∙ sym (flat_map-append (plain_text c) first others)

pub lines_are_the_report : LinesAreTheReport
lines_are_the_report c zone given = lines_told c zone [] given
