-- The contacts that escalations name.
use Rattle.std.specs.Prelude.{ℕ, Bool, true, false, List, [], ◌∷◌, map}
use Rattle.std.specs.List.{flat_map}
use Rattle.due_model.specs.declared.config.ContactId.{ContactId}
use Rattle.due_model.specs.declared.config.Escalation.{Escalation}

-- whether there is an escalation
abbrev pub has_some : List Escalation → Bool
has_some [] = false
has_some (e ∷ es) = true

-- the contacts of escalations, as they stand there
abbrev pub named_by : List Escalation → List ContactId
named_by es = flat_map (λ e. e.contacts) es

-- contacts of these numbers
abbrev pub contact_ids : List ℕ → List ContactId
contact_ids numbers = map (λ k. record { 0 = k }) numbers
