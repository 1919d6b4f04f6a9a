-- The line of what a lane's journals come to.
use Rattle.std.specs.Prelude.{◌≡◌, ◌↔◌, ℕ, Bool, IsTrue, Contains, List, [], ◌∷◌, ◌++◌, codes, decimal, filter, length}
use Rattle.command_output.specs.claims.Fields.{field}
use Rattle.due_model.specs.declared.config.Config.{Config}
use Rattle.due_model.specs.declared.notice.Notice.{Notice}
use Rattle.journaled.specs.Claims.{Past, is_new, is_settled}
use Rattle.notice_text.specs.claims.Texts.{lane_text}
use Rattle.earlier_runs.specs.declared.tally.LaneTally.{LaneTally}

-- the line of a lane: J;lane;earlier;claimed;new;again
abbrev pub journal_line : Config → (l : ℕ) → LaneTally → List ℕ
journal_line c l tally =
    codes "J" ++ field (lane_text c l) ++ field (decimal tally.earlier) ++ field (decimal tally.claimed)
    ++ field (decimal tally.new) ++ field (decimal tally.again) ++ 10 ∷ []

-- what of some letters is settled, and what is new
abbrev pub claimed_in : Past → List Notice → List Notice
claimed_in past taken = filter (is_settled past) taken

abbrev pub new_in : Past → List Notice → List Notice
new_in past taken = filter (is_new past) taken

-- Of what a lane's channels took so much was settled, so much is new, and of that so much was about to be handed over in an earlier run.
pub record IsTally (past : Past) (taken : List Notice) (tally : LaneTally) : Type 0 where
  pub claimed : tally.claimed ≡ length (claimed_in past taken)
  pub new : tally.new ≡ length (new_in past taken)
  pub again : (was_begun : Notice → Bool) → ((n : Notice) → IsTrue (was_begun n) ↔ Contains past.begun n)
      → tally.again ≡ length (filter was_begun (new_in past taken))
