-- What the slow program's functions need of the definitions.
use Rattle.std.proofs.Common.{take, ◌≡◌, ℕ, ◌+◌, ◌<◌, ◌≤◌, ◌||◌, Bool, Option, map, refl, List, [], ◌∷◌, ◌++◌, length, reverse, All, get_or, is_some, sym, ap, ◌∙◌, arith}
use Rattle.std.proofs.lemmas.List.Elements.{All-cons}
use Rattle.std.proofs.lemmas.List.{reverse-append}
use Rattle.std.specs.List.{list_any}
use Rattle.slow_rules.specs.Notices.{number_of_contact}
use Rattle.due_model.specs.declared.config.Config.{Config}
use Rattle.due_model.specs.declared.config.ContactId.{ContactId}
use Rattle.due_model.specs.declared.config.Object.{Object}
use Rattle.due_model.specs.declared.event.Event.{Event}
use Rattle.due_model.specs.declared.notice.Outcome.{Outcome}
use Rattle.due_model.specs.declared.zone.Zone.{Zone}
use Rattle.due_model.specs.claims.Proper.{IsProper}
use Rattle.due_model.specs.claims.Limits.{last_moment}
use Rattle.due_model.specs.claims.Histories.{ended, hist, longer, outcome, released}
use Rattle.due_model.specs.claims.Due.{due_for, notices, suppressed_for, suppressions}
use Rattle.due_model.specs.claims.Acknowledgements.{acked, acknowledgement}
use Rattle.due_model.specs.Acknowledgements.{ack_after}
use Rattle.due_model.specs.claims.Readings.{hard, moment}
use Rattle.due_model.specs.claims.Changes.{delayed}
use Rattle.lemmas.proofs.Acknowledgements.{acked_is, acknowledgement_after}
use Rattle.lemmas.proofs.Lists.{All-reverse, length_past, past_more}
use Rattle.lemmas.proofs.Beginnings.{delayed-le-moment, moment_in_range}

pub past_delayed_in_range : (c : Config) (o : ℕ) (events : List Event) → All (IsProper c) events → delayed c o (reverse events) ≤ last_moment
past_delayed_in_range c o events h = omega (arith, delayed-le-moment c o (reverse events), moment_in_range c (reverse events) (All-reverse (IsProper c) events h))

-- the past with one more event
pub now_moment_in_range : (c : Config) (e : Event) (events : List Event) → IsProper c e → All (IsProper c) events → moment (e ∷ reverse events) ≤ last_moment
now_moment_in_range c e events now h = moment_in_range c (e ∷ reverse events) (All-cons (IsProper c) e (reverse events) now (All-reverse (IsProper c) events h))

pub now_delayed_in_range : (c : Config) (o : ℕ) (e : Event) (events : List Event) → IsProper c e → All (IsProper c) events → delayed c o (e ∷ reverse events) ≤ last_moment
now_delayed_in_range c o e events now h = omega (arith, delayed-le-moment c o (e ∷ reverse events), now_moment_in_range c e events now h)

-- an acknowledgement after the event at place i
pub acknowledgement_more : (o : ℕ) (events : List Event) (i : ℕ) (d : Event) → i < length events
    → ack_after o (get_or events i d).kind (hard o (reverse (take i events))) (acknowledgement o (reverse (take i events)))
    ≡ acknowledgement o (reverse (take (i + 1) events))
acknowledgement_more o events i d h =
    sym (acknowledgement_after o (get_or events i d) (reverse (take i events)))
    ∙ ap (acknowledgement o) (sym (past_more events i d h))

-- a problem is acknowledged where what is kept says so
pub acked_now : (o : ℕ) (e : Event) (past : List Event) → is_some (ack_after o e.kind (hard o past) (acknowledgement o past)) ≡ acked o (e ∷ past)
acked_now o e past = sym (acked_is o (e ∷ past) ∙ ap is_some (acknowledgement_after o e past))

-- the history after the event at place i
pub hist_more : (c : Config) (zone : Zone) (o : ℕ) (object : Object) (events : List Event) (i : ℕ) (d : Event) (history : List Outcome) (now : Outcome) → i < length events
    → reverse history ≡ hist c zone o object (reverse (take i events))
    → now ≡ outcome c zone o object (get_or events i d) (reverse (take i events)) (reverse history)
    → reverse (history ++ now ∷ []) ≡ hist c zone o object (reverse (take (i + 1) events))
unfolding hist
hist_more c zone o object events i d history now h so_far is =
    reverse-append history (now ∷ [])
    ∙ ap (λ x. x ∷ reverse history) is
    ∙ ap (longer c zone o object (get_or events i d) (reverse (take i events))) so_far
    ∙ ap (hist c zone o object) (sym (past_more events i d h))

-- whether the wait is over after the event at place i
pub over_more : (c : Config) (zone : Zone) (o : ℕ) (object : Object) (events : List Event) (i : ℕ) (d : Event) (history : List Outcome) (now : Outcome) (after : Bool) → i < length events
    → after ≡ ended c zone o object (get_or events i d ∷ reverse (take i events)) (now ∷ reverse history)
    → after ≡ ended c zone o object (reverse (take (i + 1) events)) (reverse (history ++ now ∷ []))
over_more c zone o object events i d history now after h is =
    is
    ∙ ap (λ (past : List Event). ended c zone o object past (now ∷ reverse history)) (sym (past_more events i d h))
    ∙ ap (ended c zone o object (reverse (take (i + 1) events))) (sym (reverse-append history (now ∷ [])))

-- when an acknowledgement was taken back, after the event at place i
pub released_more : (o : ℕ) (events : List Event) (i : ℕ) (d : Event) (history : List Outcome) (now : Outcome) (after : Option ℕ) → i < length events
    → after ≡ released o (get_or events i d ∷ reverse (take i events)) (now ∷ reverse history)
    → after ≡ released o (reverse (take (i + 1) events)) (reverse (history ++ now ∷ []))
released_more o events i d history now after h is =
    is
    ∙ ap (λ (past : List Event). released o past (now ∷ reverse history)) (sym (past_more events i d h))
    ∙ ap (released o (reverse (take (i + 1) events))) (sym (reverse-append history (now ∷ [])))

-- whether the filters of one of these contacts pass
pub any_numbers : (f : ℕ → Bool) (contacts : List ContactId) → list_any (λ (k : ContactId). f k.0) contacts ≡ list_any f (map number_of_contact contacts)
any_numbers f [] = refl
any_numbers f (k ∷ contacts) = ap (λ (b : Bool). f k.0 || b) (any_numbers f contacts)

now_of : (c : Config) (zone : Zone) (o : ℕ) (object : Object) (e : Event) (past : List Event) (history : List Outcome) (now : Outcome)
    → history ≡ hist c zone o object past → now ≡ outcome c zone o object e past history → now ≡ outcome c zone o object e past (hist c zone o object past)
now_of c zone o object e past history now so_far is = is ∙ ap (outcome c zone o object e past) so_far

-- the notices after the event at place i
pub due_more : (c : Config) (zone : Zone) (o : ℕ) (object : Object) (l : ℕ) (events : List Event) (i : ℕ) (d : Event) (history : List Outcome) (now : Outcome) → i < length events
    → reverse history ≡ hist c zone o object (reverse (take i events))
    → now ≡ outcome c zone o object (get_or events i d) (reverse (take i events)) (reverse history)
    → due_for c zone o object l (reverse (take i events)) ++ notices c zone o object l i now ≡ due_for c zone o object l (reverse (take (i + 1) events))
due_more c zone o object l events i d history now h so_far is =
    let past = reverse (take i events) in
    let so_far_due = due_for c zone o object l past in
    ap (λ n. so_far_due ++ notices c zone o object l n now) (sym (length_past events i h))
    ∙ ap (λ x. so_far_due ++ notices c zone o object l (length past) x) (now_of c zone o object (get_or events i d) past (reverse history) now so_far is)
    ∙ ap (due_for c zone o object l) (sym (past_more events i d h))

-- the suppressions after the event at place i
pub suppressed_more : (c : Config) (zone : Zone) (o : ℕ) (object : Object) (events : List Event) (i : ℕ) (d : Event) (history : List Outcome) (now : Outcome) → i < length events
    → reverse history ≡ hist c zone o object (reverse (take i events))
    → now ≡ outcome c zone o object (get_or events i d) (reverse (take i events)) (reverse history)
    → suppressed_for c zone o object (reverse (take i events)) ++ suppressions c zone o object i now ≡ suppressed_for c zone o object (reverse (take (i + 1) events))
suppressed_more c zone o object events i d history now h so_far is =
    let past = reverse (take i events) in
    let suppressed = suppressed_for c zone o object past in
    ap (λ n. suppressed ++ suppressions c zone o object n now) (sym (length_past events i h))
    ∙ ap (λ x. suppressed ++ suppressions c zone o object (length past) x) (now_of c zone o object (get_or events i d) past (reverse history) now so_far is)
    ∙ ap (suppressed_for c zone o object) (sym (past_more events i d h))
