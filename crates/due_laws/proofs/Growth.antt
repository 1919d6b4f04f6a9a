-- What more events add to what is due.
use Rattle.std.proofs.Common.{ℕ, List, [], ◌∷◌, ◌++◌, Option, None, Some, refl, sym, ap, ◌∙◌, append_assoc, append-nil, slice_get}
use Rattle.due_model.specs.declared.config.Config.{Config}
use Rattle.due_model.specs.declared.config.Object.{Object}
use Rattle.due_model.specs.declared.event.Event.{Event}
use Rattle.due_model.specs.declared.notice.Notice.{Notice}
use Rattle.due_model.specs.declared.notice.Suppression.{Suppression}
use Rattle.due_model.specs.declared.zone.Zone.{Zone}
use Rattle.due_model.specs.claims.Due.{due, due_for, due_at, sup, suppressed_for, suppressed_at}
use Rattle.due_laws.specs.Laws.{BeginsWith}

due_for-append : (c : Config) (zone : Zone) (o : ℕ) (object : Object) (l : ℕ) (later past : List Event) → BeginsWith (due_for c zone o object l (later ++ past)) (due_for c zone o object l past)
due_for-append c zone o object l [] past = ([], sym (append-nil (due_for c zone o object l past)))
due_for-append c zone o object l (e ∷ later) past =
    let so_far = due_for-append c zone o object l later past in
    let now = due_at c zone o object l e (later ++ past) in
    (so_far.0 ++ now, ap (λ xs. xs ++ now) so_far.1 ∙ append_assoc (due_for c zone o object l past) so_far.0 now)

suppressed_for-append : (c : Config) (zone : Zone) (o : ℕ) (object : Object) (later past : List Event) → BeginsWith (suppressed_for c zone o object (later ++ past)) (suppressed_for c zone o object past)
suppressed_for-append c zone o object [] past = ([], sym (append-nil (suppressed_for c zone o object past)))
suppressed_for-append c zone o object (e ∷ later) past =
    let so_far = suppressed_for-append c zone o object later past in
    let now = suppressed_at c zone o object e (later ++ past) in
    (so_far.0 ++ now, ap (λ xs. xs ++ now) so_far.1 ∙ append_assoc (suppressed_for c zone o object past) so_far.0 now)

due_grows : (c : Config) (zone : Zone) (o l : ℕ) (found : Option Object) (later past : List Event)
    → BeginsWith (elim found as (λ _. List Notice) [ None ↦ [] | Some object ↦ due_for c zone o object l (later ++ past) ])
    (elim found as (λ _. List Notice) [ None ↦ [] | Some object ↦ due_for c zone o object l past ])
due_grows c zone o l None later past = ([], refl)
due_grows c zone o l (Some object) later past = due_for-append c zone o object l later past

sup_grows : (c : Config) (zone : Zone) (o : ℕ) (found : Option Object) (later past : List Event)
    → BeginsWith (elim found as (λ _. List Suppression) [ None ↦ [] | Some object ↦ suppressed_for c zone o object (later ++ past) ])
    (elim found as (λ _. List Suppression) [ None ↦ [] | Some object ↦ suppressed_for c zone o object past ])
sup_grows c zone o None later past = ([], refl)
sup_grows c zone o (Some object) later past = suppressed_for-append c zone o object later past

-- over pasts: what a longer past is due begins with what the shorter is due
pub due-append : (c : Config) (zone : Zone) (o l : ℕ) (later past : List Event) → BeginsWith (due c zone o l (later ++ past)) (due c zone o l past)
due-append c zone o l later past = due_grows c zone o l (slice_get c.objects o) later past

pub sup-append : (c : Config) (zone : Zone) (o : ℕ) (later past : List Event) → BeginsWith (sup c zone o (later ++ past)) (sup c zone o past)
sup-append c zone o later past = sup_grows c zone o (slice_get c.objects o) later past
