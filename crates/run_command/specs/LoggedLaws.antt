-- Laws of what a decider's log has written.
use Rattle.std.proofs.Common.{◌≡◌, ℕ, List, [], ◌++◌, Option, refl, sym, ap, subst, ◌∙◌}
use Rattle.std.proofs.lemmas.Grind.{flat_map-append}
use Rattle.due_model.specs.declared.config.Config.{Config}
use Rattle.due_model.specs.declared.notice.Suppression.{Suppression}
use Rattle.command_output.specs.claims.ReportLine.{suppression_line}
use Rattle.written.specs.claims.Written.{Writes}
use Rattle.written.specs.WrittenLaws.{appends_more, appends_none}
use Rattle.run_command.specs.Logged.{HasLogged, Logged}
use Rattle.run_command.specs.claims.Report.{log_text}

pub logs_none : (s : Logged) → HasLogged s [] s
logs_none s = record { config = refl; folds = refl; kept = λ none. none; written = λ plain none. appends_none s.contents }

pub logs_more : (a b c : Logged) (xs ys : List Suppression) → HasLogged a xs b → HasLogged b ys c → HasLogged a (xs ++ ys) c
logs_more a b c xs ys one two = record {
  config = two.config ∙ one.config;
  folds = two.folds ∙ one.folds;
  kept = λ none. one.kept (two.kept none);
  written = λ plain none.
      subst (λ (text : List ℕ). Writes a.contents c.contents text) (sym (flat_map-append (suppression_line a.config) xs ys))
      (appends_more a.contents b.contents c.contents (log_text a.config xs) (log_text a.config ys) (one.written plain (two.kept none))
      (subst (λ (k : Config). Writes b.contents c.contents (log_text k ys)) one.config (two.written (one.folds ∙ plain) none)));
}
