-- What is compared of a feed, line by line, are the notices of its reports, and it ends as they do.
use Rattle.std.specs.Prelude.{◌≡◌, List, [], ◌∷◌, flat_map}
use Rattle.due_model.specs.declared.config.Config.{Config}
use Rattle.due_model.specs.declared.notice.Notice.{Notice}
use Rattle.due_model.specs.declared.zone.Zone.{Zone}
use Rattle.event_feed.specs.claims.Feed.{Answer}
use Rattle.messages.specs.declared.entries.Entry.TheVariants.{Sent, Withheld}
use Rattle.line_forms.specs.declared.report_line.ReportLine.{ReportLine}
use Rattle.line_forms.specs.declared.report_line.ReportLine.TheVariants.{Decided, Refused}
use Rattle.replay.specs.claims.Report.{ends_short}
use Rattle.report_telling.specs.Lines.{report_lines}
use Rattle.notices_compared.specs.Past.{ends_short as ends_before}
use Rattle.notices_compared.specs.Sides.{line_notices}

-- the notice of a line of a report: of an N line
abbrev pub notices_of : ReportLine → List Notice
notices_of (Decided (Sent n)) = n ∷ []
notices_of (Decided (Withheld s)) = []
notices_of (Refused refused) = []

-- One after another, the notices of the lines of a feed are those of its report, in order.
abbrev pub LineNoticesAreTheReports : Type 0
LineNoticesAreTheReports = (c : Config) (zone : Zone) (given : List Answer)
    → flat_map (λ ns. ns) (line_notices c zone [] given)
    ≡ flat_map notices_of (report_lines c zone given)

-- A comparison ends before its input where a report does.
abbrev pub EndsAsTheReports : Type 0
EndsAsTheReports = (given : List Answer) → ends_before [] given ≡ ends_short [] given
