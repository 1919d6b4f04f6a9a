-- From what is told of a report to what is written of an object's attempts.
use Rattle.std.proofs.Common.{◌≡◌, ℕ, Bool, true, false, cond, not, ◌&&◌, List, [], ◌∷◌, ◌++◌, filter, Option, None, Some, IfSome, refl, ap, subst, ◌∙◌, append_assoc}
use Rattle.due_model.specs.declared.config.Config.{Config}
use Rattle.due_model.specs.declared.zone.Zone.{Zone}
use Rattle.event_feed.specs.claims.Feed.{Answer}
use Rattle.command_output.specs.declared.outcome.Ending.{Ending}
use Rattle.written.specs.claims.Written.{Writes, WritesFront}
use Rattle.line_forms.specs.declared.report_line.ReportLine.{ReportLine}
use Rattle.report_telling.specs.Lines.{report_lines}
use Rattle.report_telling.specs.Tells as tells
use Rattle.report_telling.specs.Told.{Form, after_all, form_of, told_all, told_report}
use Rattle.why_told.specs.declared.attempts.Open.{Open}
use Rattle.why_told.specs.declared.teller.Asked.{Asked}
use Rattle.why_told.specs.declared.teller.Reasons.{Reasons}
use Rattle.why_told.specs.Attempts.{after_line, nothing_open}
use Rattle.why_told.specs.Report.{TellsWhy, TellsWhyFront, is_earlier, last_of, why_from, why_lines, why_report}
use Rattle.why_told.specs.Teller.{after_told, ended_text, is_early, is_of, told_line}
use Rattle.why_told.specs.Why.{line_text}

-- the form of the teller
abbrev pub form_at : Config → Zone → Form Reasons
form_at c zone =
    form_of (λ reasons config z line. told_line reasons config z line) (λ reasons config z line. after_told reasons config line)
    (λ reasons config z. ended_text reasons config z) c zone

-- the teller after a line that is asked for, and after one of the object before the span
abbrev taken : Reasons → ReportLine → Reasons
taken reasons line = record reasons { current = after_line reasons.current line }

abbrev noted : Reasons → ReportLine → Reasons
noted reasons line = record reasons { before = Some line }

-- what it writes from here on
abbrev from_here : Reasons → Config → Zone → List ReportLine → List ℕ
from_here reasons c zone lines =
    why_from reasons.asked c zone (last_of reasons.before (filter (is_earlier reasons.asked c) lines)) reasons.current (filter (is_of reasons.asked c) lines)

-- one line, and those after it
one_more : (reasons : Reasons) (c : Config) (zone : Zone) (line : ReportLine) (lines : List ReportLine)
    → told_report (form_at c zone) (taken reasons line) lines ≡ from_here (taken reasons line) c zone lines
    → told_report (form_at c zone) (noted reasons line) lines ≡ from_here (noted reasons line) c zone lines
    → told_report (form_at c zone) reasons lines ≡ from_here reasons c zone lines
    → (b d : Bool)
    → cond b (line_text reasons.asked c zone reasons.current line) [] ++ told_report (form_at c zone) (cond b (taken reasons line) (cond d (noted reasons line) reasons)) lines
    ≡ why_from reasons.asked c zone
    (last_of reasons.before (cond (not b && d) (line ∷ filter (is_earlier reasons.asked c) lines) (filter (is_earlier reasons.asked c) lines)))
    reasons.current (cond b (line ∷ filter (is_of reasons.asked c) lines) (filter (is_of reasons.asked c) lines))
one_more reasons c zone line lines on early same true d = ap (λ (text : List ℕ). line_text reasons.asked c zone reasons.current line ++ text) on
one_more reasons c zone line lines on early same false true = early
one_more reasons c zone line lines on early same false false = same

told_from : (reasons : Reasons) (c : Config) (zone : Zone) (lines : List ReportLine) → told_report (form_at c zone) reasons lines ≡ from_here reasons c zone lines
told_from reasons c zone [] = refl
told_from reasons c zone (line ∷ lines) =
    append_assoc (told_line reasons c zone line) (told_all (form_at c zone) (after_told reasons c line) lines) ((form_at c zone).ended (after_all (form_at c zone) (after_told reasons c line) lines))
    ∙ one_more reasons c zone line lines (told_from (taken reasons line) c zone lines) (told_from (noted reasons line) c zone lines) (told_from reasons c zone lines)
    (is_of reasons.asked c line) (is_early reasons.asked c line)

module _ (reasons : Reasons) (asked : Asked) (p : reasons.asked ≡ asked) (r : reasons.before ≡ None) (q : reasons.current ≡ nothing_open) where
  report_told : (c : Config) (zone : Zone) (given : List Answer) → told_report (form_at c zone) reasons (report_lines c zone given) ≡ why_report asked c zone given
  report_told c zone given =
      let lines = report_lines c zone given in
      told_from reasons c zone lines
      ∙ ap (λ (x : Open). why_from reasons.asked c zone (last_of reasons.before (filter (is_earlier reasons.asked c) lines)) x (filter (is_of reasons.asked c) lines)) q
      ∙ ap (λ (x : Option ReportLine). why_from reasons.asked c zone (last_of x (filter (is_earlier reasons.asked c) lines)) nothing_open (filter (is_of reasons.asked c) lines)) r
      ∙ ap (λ (x : Asked). why_lines x c zone lines) p

  -- what is told is what is written of the attempts
  pub is_why : (can_fail : Bool) (config : Config) (feed : List ℕ) (zone : Zone) (ending : Ending) (old new : Option (List ℕ))
      → tells.TellsFor form_at reasons can_fail config feed zone ending old new → TellsWhy asked can_fail config feed zone ending old new
  is_why can_fail config feed zone ending old new h =
      (h.0, h.1, h.2, subst (λ text. Writes old new text) (report_told config zone h.0) h.3)

  -- and so is a front of it
  pub why_front : (can_fail : Bool) (config : Config) (feed : List ℕ) (zone : Zone) (old new : Option (List ℕ))
      → tells.TellsFrontFor form_at reasons can_fail config feed zone old new → TellsWhyFront asked can_fail config feed zone old new
  why_front can_fail config feed zone old new h =
      (h.0, h.1, subst (λ text. WritesFront old new text) (report_told config zone h.0) h.2)

pub some_told : {X : Type 0} (known : Option X) (P Q : X → Type 0) → ((x : X) → P x → Q x) → IfSome known P → IfSome known Q
some_told None P Q f h = tt
some_told (Some x) P Q f h = f x h
