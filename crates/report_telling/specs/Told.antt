-- What a teller writes of the lines of a report.
use Rattle.std.specs.Prelude.{ℕ, List, [], ◌∷◌, ◌++◌}
use Rattle.due_model.specs.declared.config.Config.{Config}
use Rattle.due_model.specs.declared.zone.Zone.{Zone}
use Rattle.line_forms.specs.declared.report_line.ReportLine.{ReportLine}

-- what a teller writes of a line, what it is after it, and what it writes at the end
pub record Form (T : Type 0) : Type 0 where
  pub told : T → ReportLine → List ℕ
  pub after : T → ReportLine → T
  pub ended : T → List ℕ

-- the same, for a configuration and a zone
abbrev pub form_of : {T : Type 0} → (told : T → Config → Zone → ReportLine → List ℕ)
    → (after : T → Config → Zone → ReportLine → T) → (ended : T → Config → Zone → List ℕ)
    → Config → Zone → Form T
form_of told after ended c zone = record {
  told = λ t line. told t c zone line;
  after = λ t line. after t c zone line;
  ended = λ t. ended t c zone;
}

-- what it writes of lines, one after another
abbrev pub told_all : {T : Type 0} → Form T → T → List ReportLine → List ℕ
told_all form t [] = []
told_all form t (line ∷ lines) = form.told t line ++ told_all form (form.after t line) lines

-- and what it is after them
abbrev pub after_all : {T : Type 0} → Form T → T → List ReportLine → T
after_all form t [] = t
after_all form t (line ∷ lines) = after_all form (form.after t line) lines

-- what it writes of a whole report
abbrev pub told_report : {T : Type 0} → Form T → T → List ReportLine → List ℕ
told_report form t lines = told_all form t lines ++ form.ended (after_all form t lines)
