-- What a decider's log has written of what it was told.
use Rattle.std.specs.Prelude.{◌≡◌, ℕ, Bool, false, List, Option}
use Rattle.due_model.specs.declared.config.Config.{Config}
use Rattle.due_model.specs.declared.notice.Suppression.{Suppression}
use Rattle.written.specs.claims.Written.{Writes}
use Rattle.run_command.specs.claims.Report.{log_text}

-- a log by this configuration: what its writer holds, where it tells that, how many lines were lost, and whether lines that only repeat
-- the one before are folded
pub record Logged : Type 0 where
  pub config : Config
  pub contents : Option (List ℕ)
  pub lost : ℕ
  pub folds : Bool

-- It was told these: where none of its lines was lost, and none is folded, the line of each was written, in order, and nothing else.
pub record HasLogged (old : Logged) (told : List Suppression) (new : Logged) : Type 0 where
  pub config : new.config ≡ old.config
  pub folds : new.folds ≡ old.folds
  pub kept : new.lost ≡ 0 → old.lost ≡ 0
  pub written : old.folds ≡ false → new.lost ≡ 0 → Writes old.contents new.contents (log_text old.config told)
