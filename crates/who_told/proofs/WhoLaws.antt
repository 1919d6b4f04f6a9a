-- From what is told of a report to the table of it, and to who is missing there.
use Rattle.std.proofs.Common.{◌≡◌, ℕ, ◌+◌, ◌*◌, Bool, true, false, ◌||◌, List, [], ◌∷◌, ◌++◌, flat_map, Option, Result, Ok, Err, None, Some, IfErr, IfOk, IfSome, OnErr, refl, sym, ap, subst, ◌∙◌, inl, inr, append_assoc}
use Rattle.std.proofs.lemmas.List.{append-nil}
use Rattle.due_model.specs.declared.config.Choices.{Choices}
use Rattle.due_model.specs.declared.config.Config.{Config}
use Rattle.due_model.specs.declared.zone.Zone.{Zone}
use Rattle.event_feed.specs.claims.Feed.{Answer, answers}
use Rattle.text_lines.specs.claims.Lines.{pieces}
use Rattle.command_input.specs.claims.Objects.{IsTextBy}
use Rattle.command_output.specs.declared.outcome.CommandFault.TheVariants as command
use Rattle.command_output.specs.declared.outcome.Ending.{Ending}
use Rattle.written.specs.claims.Written.{Writes, WritesFront}
use Rattle.written.specs.WrittenLaws.{appends_more, front_longer, front_next}
use Rattle.replay.specs.claims.Replay.{AreOfFeed}
use Rattle.line_forms.specs.declared.report_line.ReportLine.{ReportLine}
use Rattle.made_feed.specs.declared.Supposed.{Supposed}
use Rattle.report_telling.specs.Lines.{report_lines}
use Rattle.report_telling.specs.Tells as tells
use Rattle.report_telling.specs.Told.{Form, after_all, form_of, told_all, told_report}
use Rattle.who_told.specs.declared.missed.Missed.{Missed}
use Rattle.pretty_lines.specs.declared.columns.Look.{Look}
use Rattle.who_missed.specs.declared.forms.RowForm.{RowForm}
use Rattle.who_missed.specs.Missed.{missed_text}
use Rattle.std.specs.List.{list_any}
use Rattle.std.specs.Option.{option_copied}
use Rattle.who_told.specs.declared.fault.WhoFault.{WhoFault}
use Rattle.who_told.specs.declared.fault.WhoFault.TheVariants as fault
use Rattle.who_told.specs.declared.rows.Rows.{Rows}
use Rattle.who_told.specs.Rows.{has_row, look_of, nobody_text, row_text}
use Rattle.who_told.specs.Who.{FailsFor, FailsOf, TellsBoth, TellsBothFront, TellsMissing, TellsMissingFront, TellsTable, TellsTableFront, missing_text, supposed_feed, table_text, week_feed}

-- ---- the teller of rows

abbrev pub rows_at : Config → Zone → Form Rows
rows_at c zone =
    form_of (λ rows config z line. row_text rows.form rows.look config z line) (λ rows config z line. record rows { has_rows = rows.has_rows || has_row line })
    (λ rows config z. nobody_text rows.form rows.has_rows) c zone

all_told : (rows : Rows) (c : Config) (zone : Zone) (lines : List ReportLine)
    → told_all (rows_at c zone) rows lines ≡ flat_map (row_text rows.form rows.look c zone) lines
all_told rows c zone [] = refl
all_told rows c zone (line ∷ lines) =
    ap (λ (text : List ℕ). row_text rows.form rows.look c zone line ++ text) (all_told (record rows { has_rows = rows.has_rows || has_row line }) c zone lines)

or_nothing : (a : Bool) → (a || false) ≡ a
or_nothing true = refl
or_nothing false = refl

or_more : (a b d : Bool) → ((a || b) || d) ≡ (a || (b || d))
or_more true b d = refl
or_more false b d = refl

-- whether there was a row
all_seen : (rows : Rows) (c : Config) (zone : Zone) (lines : List ReportLine)
    → (after_all (rows_at c zone) rows lines).has_rows ≡ (rows.has_rows || list_any has_row lines)
all_seen rows c zone [] = sym (or_nothing rows.has_rows)
all_seen rows c zone (line ∷ lines) =
    all_seen (record rows { has_rows = rows.has_rows || has_row line }) c zone lines ∙ or_more rows.has_rows (has_row line) (list_any has_row lines)

-- and in which form
same_form : (rows : Rows) (c : Config) (zone : Zone) (lines : List ReportLine) → (after_all (rows_at c zone) rows lines).form ≡ rows.form
same_form rows c zone [] = refl
same_form rows c zone (line ∷ lines) = same_form (record rows { has_rows = rows.has_rows || has_row line }) c zone lines

report_told : (rows : Rows) (form : RowForm) (c : Config) (zone : Zone) (given : List Answer) → rows.form ≡ form → rows.look ≡ look_of form c → rows.has_rows ≡ false
    → told_report (rows_at c zone) rows (report_lines c zone given) ≡ table_text form c zone given
report_told rows form c zone given f l none =
    let lines = report_lines c zone given in
    let last = after_all (rows_at c zone) rows lines in
    let seen = list_any has_row lines in
    ap (λ (text : List ℕ). text ++ nobody_text last.form last.has_rows) (all_told rows c zone lines)
    ∙ ap (λ (b : Bool). flat_map (row_text rows.form rows.look c zone) lines ++ nobody_text last.form b) (all_seen rows c zone lines ∙ ap (λ (b : Bool). b || seen) none)
    ∙ ap (λ (x : RowForm). flat_map (row_text rows.form rows.look c zone) lines ++ nobody_text x seen) (same_form rows c zone lines ∙ f)
    ∙ ap (λ (x : RowForm). flat_map (row_text x rows.look c zone) lines ++ nobody_text form seen) f
    ∙ ap (λ (x : Look). flat_map (row_text form x c zone) lines ++ nobody_text form seen) l

module _ (s : Supposed) (rows : Rows) (feed : List ℕ) (is : feed ≡ supposed_feed s) (form : RowForm) (c : Config) (zone : Zone) (f : rows.form ≡ form) (l : rows.look ≡ look_of form c)
    (none : rows.has_rows ≡ false) (old new : Option (List ℕ)) where
  pub tells_table : (ending : Ending) → tells.TellsFor rows_at rows false c feed zone ending old new → TellsTable form s c zone ending old new
  tells_table ending h =
      (h.0, subst (λ bytes. AreOfFeed false c bytes h.0) is h.1, h.2, subst (λ text. Writes old new text) (report_told rows form c zone h.0 f l none) h.3)

  pub tells_table_front : tells.TellsFrontFor rows_at rows false c feed zone old new → TellsTableFront form s c zone old new
  tells_table_front h = (h.0, subst (λ bytes. AreOfFeed false c bytes h.0) is h.1, subst (λ text. WritesFront old new text) (report_told rows form c zone h.0 f l none) h.2)

-- ---- the teller of who is missing

abbrev pub missed_at : Config → Zone → Form Missed
missed_at c zone =
    form_of (λ m config z line. []) (λ m config z line. record m { lines = m.lines ++ line ∷ [] })
    (λ m config z. missed_text m.form.form config z m.host.now (option_copied m.service) m.until m.lines) c zone

nothing_told : (m : Missed) (c : Config) (zone : Zone) (lines : List ReportLine) → told_all (missed_at c zone) m lines ≡ []
nothing_told m c zone [] = refl
nothing_told m c zone (line ∷ lines) = nothing_told (record m { lines = m.lines ++ line ∷ [] }) c zone lines

all_kept : (m : Missed) (c : Config) (zone : Zone) (lines : List ReportLine) → after_all (missed_at c zone) m lines ≡ record m { lines = m.lines ++ lines }
all_kept m c zone [] = ap (λ (xs : List ReportLine). record m { lines = xs }) (sym (append-nil m.lines))
all_kept m c zone (line ∷ lines) =
    all_kept (record m { lines = m.lines ++ line ∷ [] }) c zone lines ∙ ap (λ (xs : List ReportLine). record m { lines = xs }) (append_assoc m.lines (line ∷ []) lines)

missed_told : (m : Missed) (c : Config) (zone : Zone) (lines : List ReportLine) → m.lines ≡ []
    → told_report (missed_at c zone) m lines ≡ missed_text m.form.form c zone m.host.now (option_copied m.service) m.until lines
missed_told m c zone lines none =
    ap (λ (text : List ℕ). text ++ (missed_at c zone).ended (after_all (missed_at c zone) m lines)) (nothing_told m c zone lines)
    ∙ ap (λ (x : Missed). (missed_at c zone).ended x) (all_kept m c zone lines)
    ∙ ap (λ (xs : List ReportLine). missed_text m.form.form c zone m.host.now (option_copied m.service) m.until (xs ++ lines)) none

-- equal parts
pub same_missing : (form form' : RowForm) (c : Config) (zone : Zone) (host host' : List ℕ) (service service' : Option (List ℕ)) (until until' : ℕ) → form ≡ form' → host ≡ host' → service ≡ service' → until ≡ until'
    → (lines : List ReportLine) → missed_text form c zone host service until lines ≡ missed_text form' c zone host' service' until' lines
same_missing form form' c zone host host' service service' until until' d e f h lines =
    ap (λ (x : RowForm). missed_text x c zone host service until lines) d ∙ ap (λ (x : List ℕ). missed_text form' c zone x service until lines) e
    ∙ ap (λ (x : Option (List ℕ)). missed_text form' c zone host' x until lines) f ∙ ap (λ (x : ℕ). missed_text form' c zone host' service' x lines) h

module _ (s : Supposed) (m : Missed) (feed : List ℕ) (is : feed ≡ week_feed s) (form : RowForm) (c : Config) (zone : Zone) (none : m.lines ≡ [])
    (same : (lines : List ReportLine) → missed_text m.form.form c zone m.host.now (option_copied m.service) m.until lines ≡ missed_text form c zone s.host.now (option_copied s.service) (s.moment + 60 * s.minutes) lines)
    (old new : Option (List ℕ)) where
  pub tells_missing : (ending : Ending) → tells.TellsFor missed_at m false c feed zone ending old new → TellsMissing form s c zone old new
  tells_missing ending h = (
    h.0,
    subst (λ bytes. AreOfFeed false c bytes h.0) is h.1,
    subst (λ text. Writes old new text) (missed_told m c zone (report_lines c zone h.0) none ∙ same (report_lines c zone h.0)) h.3,
  )

  pub tells_missing_front : tells.TellsFrontFor missed_at m false c feed zone old new → TellsMissingFront form s c zone old new
  tells_missing_front h = (
    h.0,
    subst (λ bytes. AreOfFeed false c bytes h.0) is h.1,
    subst (λ text. WritesFront old new text) (missed_told m c zone (report_lines c zone h.0) none ∙ same (report_lines c zone h.0)) h.2,
  )

-- ---- the one and then the other

module _ (form : RowForm) (s : Supposed) (c : Config) (zone : Zone) where
  pub both_told : (ending : Ending) (old mid new : Option (List ℕ)) → TellsTable form s c zone ending old mid → TellsMissing form s c zone mid new → TellsBoth form s c zone ending old new
  both_told ending old mid new h k = (h.0, k.0, h.1, k.1, h.2, appends_more old mid new (table_text form c zone h.0) (missing_text form c zone s k.0) h.3 k.2)

  pub table_cut : (old new : Option (List ℕ)) → TellsTableFront form s c zone old new → TellsBothFront form s c zone old new
  table_cut old new h =
      let later = answers c.objects 0 0 (pieces (week_feed s)) in
      (h.0, later, h.1, inl refl, front_longer old new (table_text form c zone h.0) (missing_text form c zone s later) h.2)

  pub missing_cut : (ending : Ending) (old mid new : Option (List ℕ)) → TellsTable form s c zone ending old mid → TellsMissingFront form s c zone mid new → TellsBothFront form s c zone old new
  missing_cut ending old mid new h k =
      (h.0, k.0, h.1, k.1, front_next old mid new (table_text form c zone h.0) (missing_text form c zone s k.0) (table_text form c zone h.0, h.3, append-nil (table_text form c zone h.0)) k.2)

-- ---- where all names are known

module _ (choices : Choices) (form : RowForm) (s : Supposed) (objects : List ℕ) (c : Config) (zone : Zone) (can_fail text_can_fail : Bool) (old new : Option (List ℕ)) (of : IsTextBy choices c objects) where
  pub known_failed : (fault : WhoFault) → FailsFor form can_fail s c zone fault old new → FailsOf choices form s text_can_fail objects zone fault old new
  known_failed (fault.Unknown unknown) h = (c, of, h.0, h.1)
  known_failed (fault.Command (command.Objects fault)) h = absurd h.0
  known_failed (fault.Command command.Unreadable) h = absurd h.0
  known_failed (fault.Command command.Output) h = (c, of, h.1)
  known_failed (fault.Command command.NoMemory) h = inr (c, of, h.1)
