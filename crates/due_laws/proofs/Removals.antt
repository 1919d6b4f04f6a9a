-- An acknowledgement that is taken back.
use Rattle.std.proofs.Common.{◌≡◌, ℕ, Bool, true, false, List, ◌∷◌, Option, None, is_some, if◌then◌else◌, refl, ap, ◌∙◌}
use Rattle.std.proofs.lemmas.Bool.{and_parts}
use Rattle.due_model.specs.declared.config.Config.{Config}
use Rattle.due_model.specs.declared.config.Object.{Object}
use Rattle.due_model.specs.declared.event.Event.{Event}
use Rattle.due_model.specs.declared.event.EventKind.{EventKind}
use Rattle.due_model.specs.declared.event.EventKind.TheVariants as event
use Rattle.due_model.specs.declared.state.State.{State}
use Rattle.due_model.specs.declared.zone.Zone.{Zone}
use Rattle.due_model.specs.claims.Acknowledgements.{acked, acknowledgement, is_removal_of, takes_back}
use Rattle.due_model.specs.Acknowledgements.{ack_after}
use Rattle.due_model.specs.claims.Histories.{hist, is_of_problem_attempt, outcome, released, released_by}
use Rattle.due_model.specs.claims.Readings.{hard, moment}
use Rattle.lemmas.proofs.Acknowledgements.{acked_is, acknowledgement_after}
use Rattle.due_laws.specs.Acknowledgements.{RemovalEndsAcknowledgements, RemovalIsReady}

none_after : (o : ℕ) (k : EventKind) (old : State) (kept : Option Bool) → is_removal_of o k ≡ true → ack_after o k old kept ≡ None
none_after o event.Clock old kept is = cc
none_after o (event.Program on) old kept is = cc
none_after o (event.Hard p s) old kept is = cc
none_after o (event.Downtime p change) old kept is = cc
none_after o (event.Flapping p starts) old kept is = cc
none_after o (event.Ack p ack) old kept is = cc
none_after o (event.AckRemoved p) old kept is = ap (λ (b : Bool). if b then None else kept) is
none_after o (event.OwnSwitch p on) old kept is = cc

pub removal_ends : RemovalEndsAcknowledgements
removal_ends o e past is =
    acked_is o (e ∷ past) ∙ ap is_some (acknowledgement_after o e past ∙ none_after o e.kind (hard o past) (acknowledgement o past) is)

-- nothing is attempted where an acknowledgement is taken back
no_attempt : (c : Config) (zone : Zone) (o : ℕ) (object : Object) (m : ℕ) (k : EventKind) (past : List Event) → is_removal_of o k ≡ true
    → is_of_problem_attempt (outcome c zone o object (record { moment = m; kind = k }) past (hist c zone o object past)) ≡ false
no_attempt c zone o object m event.Clock past is = cc
no_attempt c zone o object m (event.Program on) past is = cc
no_attempt c zone o object m (event.Hard p s) past is = cc
no_attempt c zone o object m (event.Downtime p change) past is = cc
no_attempt c zone o object m (event.Flapping p starts) past is = cc
no_attempt c zone o object m (event.Ack p ack) past is = cc
no_attempt c zone o object m (event.AckRemoved p) past is = refl
no_attempt c zone o object m (event.OwnSwitch p on) past is = cc

-- the history with one more event
released_more : (c : Config) (zone : Zone) (o : ℕ) (object : Object) (e : Event) (past : List Event)
    → released o (e ∷ past) (hist c zone o object (e ∷ past))
    ≡ released_by (is_of_problem_attempt (outcome c zone o object e past (hist c zone o object past))) (takes_back o e past) (moment (e ∷ past)) (released o past (hist c zone o object past))
unfolding hist
released_more c zone o object e past = refl

pub removal_is_ready : RemovalIsReady
removal_is_ready c zone o object e past takes =
    let before = released o past (hist c zone o object past) in
    released_more c zone o object e past
    ∙ ap (λ (b : Bool). released_by b (takes_back o e past) (moment (e ∷ past)) before)
    (no_attempt c zone o object e.moment e.kind past (and_parts (is_removal_of o e.kind) (acked o past) takes).0)
    ∙ ap (λ (b : Bool). released_by false b (moment (e ∷ past)) before) takes
