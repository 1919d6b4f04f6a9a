-- Contacts by their numbers, and the answers at one contact as lists.
use Rattle.std.specs.Prelude.{ℕ, List, [], ◌∷◌}
use Rattle.due_model.specs.declared.config.ContactId.{ContactId}
use Rattle.due_model.specs.declared.notice.Notice.{Notice}
use Rattle.due_model.specs.declared.notice.Suppression.{Suppression}
use Rattle.slow_rules.specs.declared.notices.Answer.{Answer}
use Rattle.slow_rules.specs.declared.notices.Answer.TheVariants.{Nothing, Due, Suppressed}

abbrev pub number_of_contact : ContactId → ℕ
number_of_contact k = k.0

-- the notice of an answer, if it is one
abbrev pub notice_in : Answer → List Notice
notice_in Nothing = []
notice_in (Due notice) = notice ∷ []
notice_in (Suppressed suppression) = []

-- the suppression of an answer, if it is one
abbrev pub suppression_in : Answer → List Suppression
suppression_in Nothing = []
suppression_in (Due notice) = []
suppression_in (Suppressed suppression) = suppression ∷ []
