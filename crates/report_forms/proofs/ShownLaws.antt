-- From what is told of a report to the lines of it that are wanted.
use Rattle.std.proofs.Common.{◌≡◌, ℕ, Bool, true, false, cond, List, [], ◌∷◌, ◌++◌, filter, flat_map, Option, Result, Ok, Err, None, Some, IfErr, IfOk, IfSome, refl, sym, ap, subst, ◌∙◌, inl, inr}
use Rattle.std.proofs.lemmas.List.{append-nil}
use Rattle.due_model.specs.declared.config.Choices.{Choices}
use Rattle.due_model.specs.declared.config.Config.{Config}
use Rattle.due_model.specs.declared.zone.Zone.{Zone}
use Rattle.event_feed.specs.claims.Feed.{Answer}
use Rattle.command_output.specs.declared.outcome.CommandFault.{CommandFault}
use Rattle.command_output.specs.declared.outcome.CommandFault.TheVariants.{Objects, Unreadable, Output, NoMemory}
use Rattle.command_output.specs.declared.outcome.Ending.{Ending}
use Rattle.written.specs.claims.Written.{Writes, WritesFront}
use Rattle.line_forms.specs.declared.report_line.ReportLine.{ReportLine}
use Rattle.report_telling.specs.Lines.{report_lines}
use Rattle.report_telling.specs.Tells as tells
use Rattle.report_telling.specs.Told.{Form, after_all, form_of, told_all, told_report}
use Rattle.report_forms.specs.declared.shown.ShownLines.{ShownLines}
use Rattle.line_forms.specs.Picks.{is_picked}
use Rattle.report_forms.specs.Shown.{FailsOf, ShowsFrontOf, ShowsOf, form_text, shown_report, shown_text}

-- the form of a teller that writes each line by itself
abbrev pub form_at : Config → Zone → Form ShownLines
form_at c zone = form_of (λ shown config z line. shown_text shown config z line) (λ shown config z line. shown) (λ shown config z. []) c zone

-- one line, and those after it
one_more : (shown : ShownLines) (c : Config) (zone : Zone) (line : ReportLine) (b : Bool) (lines : List ReportLine)
    → (if' : Bool → List ℕ) → if' true ≡ form_text shown.form c zone line → if' false ≡ []
    → if' b ++ flat_map (form_text shown.form c zone) lines ≡ flat_map (form_text shown.form c zone) (cond b (line ∷ lines) lines)
one_more shown c zone line true lines text e f = ap (λ (t : List ℕ). t ++ flat_map (form_text shown.form c zone) lines) e
one_more shown c zone line false lines text e f = ap (λ (t : List ℕ). t ++ flat_map (form_text shown.form c zone) lines) f

all_told : (shown : ShownLines) (c : Config) (zone : Zone) (lines : List ReportLine)
    → told_all (form_at c zone) shown lines ≡ flat_map (form_text shown.form c zone) (filter (is_picked shown.picks c) lines)
all_told shown c zone [] = refl
all_told shown c zone (line ∷ lines) =
    ap (λ (text : List ℕ). shown_text shown c zone line ++ text) (all_told shown c zone lines)
    ∙ one_more shown c zone line (is_picked shown.picks c line) (filter (is_picked shown.picks c) lines)
    (λ b. cond b (form_text shown.form c zone line) []) refl refl

pub report_told : (shown : ShownLines) (c : Config) (zone : Zone) (given : List Answer)
    → told_report (form_at c zone) shown (report_lines c zone given) ≡ shown_report shown c zone given
report_told shown c zone given = append-nil (told_all (form_at c zone) shown (report_lines c zone given)) ∙ all_told shown c zone (report_lines c zone given)

-- what is told is what is shown
pub shows : (choices : Choices) (shown : ShownLines) (can_fail : Bool) (objects feed : List ℕ) (zone : Zone) (ending : Ending) (old new : Option (List ℕ))
    → tells.TellsOf choices form_at shown can_fail objects feed zone ending old new → ShowsOf choices shown can_fail objects feed zone ending old new
shows choices shown can_fail objects feed zone ending old new h =
    (h.0, h.1, h.2, h.3, h.4, subst (λ text. Writes old new text) (report_told shown h.0 zone h.1) h.5)

pub shows_front : (choices : Choices) (shown : ShownLines) (can_fail : Bool) (objects feed : List ℕ) (zone : Zone) (old new : Option (List ℕ))
    → tells.TellsFrontOf choices form_at shown can_fail objects feed zone old new → ShowsFrontOf choices shown can_fail objects feed zone old new
shows_front choices shown can_fail objects feed zone old new h =
    (h.0, h.1, h.2, h.3, subst (λ text. WritesFront old new text) (report_told shown h.0 zone h.1) h.4)

-- and so is a fault
pub fails : (choices : Choices) (shown : ShownLines) (text_can_fail can_fail : Bool) (objects feed : List ℕ) (zone : Zone) (fault : CommandFault) (old new : Option (List ℕ))
    → tells.FailsOf choices form_at shown text_can_fail can_fail objects feed zone fault old new → FailsOf choices shown text_can_fail can_fail objects feed zone fault old new
fails choices shown text_can_fail can_fail objects feed zone (Objects fault) old new h = h
fails choices shown text_can_fail can_fail objects feed zone Unreadable old new h = h
fails choices shown text_can_fail can_fail objects feed zone Output old new h = shows_front choices shown can_fail objects feed zone old new h
fails choices shown text_can_fail can_fail objects feed zone NoMemory old new (inl h) = inl h
fails choices shown text_can_fail can_fail objects feed zone NoMemory old new (inr h) = inr (shows_front choices shown can_fail objects feed zone old new h)

-- ---- of inputs whose bytes may be known

pub some_shown : {X : Type 0} (known : Option X) (P Q : X → Type 0) → ((x : X) → P x → Q x) → IfSome known P → IfSome known Q
some_shown None P Q f h = tt
some_shown (Some x) P Q f h = f x h

pub ok_shown : (r : Result Ending CommandFault) (P Q : Ending → Type 0) → ((ending : Ending) → P ending → Q ending) → IfOk r P → IfOk r Q
ok_shown (Ok ending) P Q f h = f ending h
ok_shown (Err fault) P Q f h = tt

pub err_shown : (r : Result Ending CommandFault) (P Q : CommandFault → Type 0) → ((fault : CommandFault) → P fault → Q fault) → IfErr r P → IfErr r Q
err_shown (Ok ending) P Q f h = tt
err_shown (Err fault) P Q f h = f fault h
