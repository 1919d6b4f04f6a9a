-- Laws of what is due after one event more.
use Rattle.std.proofs.Common.{[], List, None, Option, refl, slice_get, Some, ℕ, ◌++◌, ◌∷◌, ◌≡◌}
use Rattle.std.specs.Option.{option_map_or}
use Rattle.due_model.specs.declared.config.Config.{Config}
use Rattle.due_model.specs.declared.config.Object.{Object}
use Rattle.due_model.specs.declared.event.Event.{Event}
use Rattle.due_model.specs.declared.notice.Notice.{Notice}
use Rattle.due_model.specs.declared.zone.Zone.{Zone}
use Rattle.due_model.specs.claims.Due.{due, due_at, due_for}
use Rattle.decider.specs.claims.Decider.{gain}

-- what is due after one more event
pub due_more : (c : Config) (zone : Zone) (o l : ℕ) (e : Event) (past : List Event) → due c zone o l (e ∷ past) ≡ due c zone o l past ++ gain c zone l e past o
due_more c zone o l e past = by_object (slice_get c.objects o)
  where
    by_object : (found : Option Object) → elim found as (λ _. List Notice) [ None ↦ [] | Some object ↦ due_for c zone o object l (e ∷ past) ]
        ≡ elim found as (λ _. List Notice) [ None ↦ [] | Some object ↦ due_for c zone o object l past ] ++ option_map_or (λ object. due_at c zone o object l e past) found []
    by_object None = refl
    by_object (Some object) = refl
