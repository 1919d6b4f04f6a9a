-- The escalations at some places of the configuration's list that apply.
use Rattle.std.specs.Prelude.{ℕ, min, Bool, ◌&&◌, ◌||◌, List, [], ◌∷◌, filter, fold, nat_le, ◌==◌, slice_get, Option, Some, None}
use Rattle.std.specs.List.{filter_map}
use Rattle.due_model.specs.declared.config.Config.{Config}
use Rattle.due_model.specs.declared.config.Escalation.{Escalation}
use Rattle.due_model.specs.declared.options.OptionLetter.{OptionLetter}
use Rattle.due_model.specs.declared.zone.Zone.{Zone}
use Rattle.due_model.specs.claims.Periods.{in_period}
use Rattle.due_model.specs.claims.Rules.{has_letter}

-- whether an escalation applies to the n-th notification of a problem of its object, of this letter
-- and at t
abbrev pub applies : Config → Zone → (n : ℕ) → OptionLetter → (t : ℕ) → Escalation → Bool
applies c zone n letter t e =
    nat_le e.first n && (e.last == 0 || nat_le n e.last) && has_letter e.options letter
    && in_period c zone e.period t

-- the escalations at these places that apply
abbrev pub applying : Config → Zone → (n : ℕ) → OptionLetter → (t : ℕ) → List ℕ → List Escalation
applying c zone n letter t places =
    filter (applies c zone n letter t) (filter_map (slice_get c.escalations) places)

-- the least interval of escalations, where there is one
abbrev pub least_of : List Escalation → Option ℕ
least_of [] = None
least_of (e ∷ es) = Some (fold (λ least x. min least x.interval) e.interval es)
