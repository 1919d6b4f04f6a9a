-- From what is told of a report to the lines of it for people.
use Rattle.std.proofs.Common.{◌≡◌, ℕ, Bool, true, false, cond, List, [], ◌∷◌, ◌++◌, filter, flat_map, Option, Result, Ok, Err, None, Some, IfErr, IfOk, IfSome, refl, sym, ap, subst, ◌∙◌, inl, inr, append_assoc, unwrap_or}
use Rattle.due_model.specs.declared.config.Choices.{Choices}
use Rattle.due_model.specs.declared.config.Config.{Config}
use Rattle.due_model.specs.declared.zone.Zone.{Zone}
use Rattle.event_feed.specs.claims.Feed.{Answer}
use Rattle.command_output.specs.declared.outcome.CommandFault.{CommandFault}
use Rattle.command_output.specs.declared.outcome.CommandFault.TheVariants.{Objects, Unreadable, Output, NoMemory}
use Rattle.command_output.specs.declared.outcome.Ending.{Ending}
use Rattle.written.specs.claims.Written.{Writes, WritesFront}
use Rattle.line_forms.specs.declared.report_line.ReportLine.{ReportLine}
use Rattle.line_forms.specs.declared.picks.Picks.{Picks}
use Rattle.line_forms.specs.Picks.{is_picked}
use Rattle.report_telling.specs.Lines.{report_lines}
use Rattle.report_telling.specs.Tells as tells
use Rattle.report_telling.specs.Told.{Form, after_all, form_of, told_all, told_report}
use Rattle.pretty_lines.specs.declared.columns.Look.{Look}
use Rattle.pretty_lines.specs.declared.columns.Widths.{Widths}
use Rattle.report_pretty.specs.declared.pretty.PrettyLines.{PrettyLines}
use Rattle.pretty_lines.specs.declared.runs.Run.{Run}
use Rattle.pretty_lines.specs.Columns.{widths_of}
use Rattle.report_pretty.specs.Pretty.{FailsOf, PrettyFrontOf, PrettyOf, look_of, pretty_from, pretty_report}
use Rattle.pretty_lines.specs.Runs.{added, all_rest, no_runs, runs_after}
use Rattle.report_pretty.specs.Teller.{after_line, ended_lines, look_at, told_line}

-- the form of the teller
abbrev pub form_at : Config → Zone → Form PrettyLines
form_at c zone =
    form_of (λ pretty config z line. told_line pretty config z line) (λ pretty config z line. after_line pretty config line)
    (λ pretty config z. ended_lines pretty config z) c zone

-- the teller after a line that is wanted
abbrev taken : PrettyLines → Config → ReportLine → PrettyLines
taken pretty c line = record pretty { widths = Some (look_at pretty c).widths; runs = runs_after pretty.runs line }

-- what it writes from here on
abbrev from_here : PrettyLines → Config → Zone → List ReportLine → List ℕ
from_here pretty c zone lines = pretty_from c zone (look_at pretty c) pretty.runs (filter (is_picked pretty.picks c) lines)

-- one line, and those after it
one_more : (pretty : PrettyLines) (c : Config) (zone : Zone) (line : ReportLine) (lines : List ReportLine)
    → told_report (form_at c zone) (taken pretty c line) lines ≡ from_here (taken pretty c line) c zone lines
    → told_report (form_at c zone) pretty lines ≡ from_here pretty c zone lines
    → (b : Bool)
    → cond b (added c zone (look_at pretty c) pretty.runs line) [] ++ told_report (form_at c zone) (cond b (taken pretty c line) pretty) lines
    ≡ pretty_from c zone (look_at pretty c) pretty.runs (cond b (line ∷ filter (is_picked pretty.picks c) lines) (filter (is_picked pretty.picks c) lines))
one_more pretty c zone line lines on same true = ap (λ (text : List ℕ). added c zone (look_at pretty c) pretty.runs line ++ text) on
one_more pretty c zone line lines on same false = same

told_from : (pretty : PrettyLines) (c : Config) (zone : Zone) (lines : List ReportLine) → told_report (form_at c zone) pretty lines ≡ from_here pretty c zone lines
told_from pretty c zone [] = refl
told_from pretty c zone (line ∷ lines) =
    append_assoc (told_line pretty c zone line) (told_all (form_at c zone) (after_line pretty c line) lines) ((form_at c zone).ended (after_all (form_at c zone) (after_line pretty c line) lines))
    ∙ one_more pretty c zone line lines (told_from (taken pretty c line) c zone lines) (told_from pretty c zone lines) (is_picked pretty.picks c line)

module _ (choices : Choices) (pretty : PrettyLines) (picks : Picks) (coloured : Bool) (p : pretty.picks ≡ picks) (q : pretty.coloured ≡ coloured) (w : pretty.widths ≡ None) (r : pretty.runs ≡ no_runs) where
  pub report_told : (c : Config) (zone : Zone) (given : List Answer) → told_report (form_at c zone) pretty (report_lines c zone given) ≡ pretty_report picks coloured c zone given
  report_told c zone given =
      let lines = report_lines c zone given in
      let wanted : Picks → List ReportLine = λ of. filter (is_picked of c) lines in
      let looks : Option Widths → Bool → Look = λ widths colours. record { widths = unwrap_or widths (widths_of c); coloured = colours } in
      told_from pretty c zone lines
      ∙ ap (λ (x : Option Widths). pretty_from c zone (looks x pretty.coloured) pretty.runs (wanted pretty.picks)) w
      ∙ ap (λ (x : Bool). pretty_from c zone (looks None x) pretty.runs (wanted pretty.picks)) q
      ∙ ap (λ (x : List (Option Run)). pretty_from c zone (looks None coloured) x (wanted pretty.picks)) r
      ∙ ap (λ (x : Picks). pretty_from c zone (looks None coloured) no_runs (wanted x)) p

  -- what is told is the lines for people
  pub is_pretty : (can_fail : Bool) (objects feed : List ℕ) (zone : Zone) (ending : Ending) (old new : Option (List ℕ))
      → tells.TellsOf choices form_at pretty can_fail objects feed zone ending old new → PrettyOf choices picks coloured can_fail objects feed zone ending old new
  is_pretty can_fail objects feed zone ending old new h =
      (h.0, h.1, h.2, h.3, h.4, subst (λ text. Writes old new text) (report_told h.0 zone h.1) h.5)

  pretty_front : (can_fail : Bool) (objects feed : List ℕ) (zone : Zone) (old new : Option (List ℕ))
      → tells.TellsFrontOf choices form_at pretty can_fail objects feed zone old new → PrettyFrontOf choices picks coloured can_fail objects feed zone old new
  pretty_front can_fail objects feed zone old new h =
      (h.0, h.1, h.2, h.3, subst (λ text. WritesFront old new text) (report_told h.0 zone h.1) h.4)

  -- and so is a fault
  pub fails : (text_can_fail can_fail : Bool) (objects feed : List ℕ) (zone : Zone) (fault : CommandFault) (old new : Option (List ℕ))
      → tells.FailsOf choices form_at pretty text_can_fail can_fail objects feed zone fault old new → FailsOf choices picks coloured text_can_fail can_fail objects feed zone fault old new
  fails text_can_fail can_fail objects feed zone (Objects fault) old new h = h
  fails text_can_fail can_fail objects feed zone Unreadable old new h = h
  fails text_can_fail can_fail objects feed zone Output old new h = pretty_front can_fail objects feed zone old new h
  fails text_can_fail can_fail objects feed zone NoMemory old new (inl h) = inl h
  fails text_can_fail can_fail objects feed zone NoMemory old new (inr h) = inr (pretty_front can_fail objects feed zone old new h)

-- ---- of inputs whose bytes may be known

pub some_shown : {X : Type 0} (known : Option X) (P Q : X → Type 0) → ((x : X) → P x → Q x) → IfSome known P → IfSome known Q
some_shown None P Q f h = tt
some_shown (Some x) P Q f h = f x h
