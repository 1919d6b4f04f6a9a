-- Which lines of a report are written, and how.
use Rattle.std.specs.Prelude.{◌≡◌, if◌then◌else◌}
use Rattle.command_line.specs.declared.words.ShownWords.{ShownWords}
use Rattle.line_forms.specs.declared.picks.Picks.{Picks}
use Rattle.report_forms.specs.declared.shown.LineForm.TheVariants.{Json, Plain}
use Rattle.report_forms.specs.declared.shown.ShownLines.{ShownLines}

-- The lines are those that the words ask for.
pub record ArePickedBy (words : ShownWords) (picks : Picks) : Type 0 where
  pub only : picks.only ≡ words.only
  pub object : picks.object ≡ words.object
  pub contact : picks.contact ≡ words.contact

-- The lines are those that the words ask for, in the form that they ask for.
pub record AreShownBy (words : ShownWords) (shown : ShownLines) : Type 0 where
  pub only : shown.picks.only ≡ words.only
  pub object : shown.picks.object ≡ words.object
  pub contact : shown.picks.contact ≡ words.contact
  pub form : shown.form ≡ (if words.json then Json else Plain)
