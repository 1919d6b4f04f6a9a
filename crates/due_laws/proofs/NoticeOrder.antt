-- The order in which notices stand: those of one outcome, and those of all.
use Rattle.std.proofs.Common.{◌≡◌, ℕ, ◌<◌, List, [], ◌∷◌, ◌++◌, length, flat_map, All, Option, None, Some, refl, ap, arith, inl, inr}
use Rattle.std.specs.List.{AllPairs}
use Rattle.std.proofs.lemmas.List.Elements.{All-nil, All-append, All-weaker}
use Rattle.std.proofs.lemmas.List.Kept.{AllPairs-cons}
use Rattle.due_model.specs.declared.config.Config.{Config}
use Rattle.due_model.specs.declared.config.Object.{Object}
use Rattle.due_model.specs.declared.event.Event.{Event}
use Rattle.due_model.specs.declared.notice.Notice.{Notice}
use Rattle.due_model.specs.declared.notice.Outcome.{Outcome}
use Rattle.due_model.specs.declared.notice.Outcome.TheVariants.{Nothing, Sent, Suppressed}
use Rattle.due_model.specs.declared.zone.Zone.{Zone}
use Rattle.due_model.specs.claims.Due.{notice_to, notices, due_for, due_at}
use Rattle.due_model.specs.claims.Histories.{outcome, hist}
use Rattle.due_model.specs.declared.rules.Attempt.{Attempt}
use Rattle.due_laws.specs.Laws.{ComesBefore}
use Rattle.lemmas.proofs.Lists.{AllPairs-nil, AllPairs-head, AllPairs-tail, AllPairs-append}
use Rattle.due_model.specs.claims.Receivers.{receivers}
use Rattle.due_model.specs.declared.options.OptionLetters.{OptionLetters}
use Rattle.lemmas.proofs.Notices.{receivers_increase, the_notice, notice_to_cases, notices_to_each}

notices_to_in_order : (c : Config) (zone : Zone) (o : ℕ) (object : Object) (l event number : ℕ) (a : Attempt) (told : Option OptionLetters) (ks : List ℕ)
    → AllPairs (λ x y. x < y) ks → AllPairs ComesBefore (flat_map (notice_to c zone o object l event number a told) ks)
notices_to_in_order c zone o object l event number a told [] h = AllPairs-nil ComesBefore
notices_to_in_order c zone o object l event number a told (k ∷ ks) h =
    let rest = flat_map (notice_to c zone o object l event number a told) ks in
    let this = the_notice o l event number a k in
    let later = notices_to_in_order c zone o object l event number a told ks (AllPairs-tail (λ x y. x < y) k ks h) in
    let after : All (ComesBefore this) rest =
    notices_to_each c zone o object l event number a told (ComesBefore this) ks
    (All-weaker (λ y. k < y) (λ y. ComesBefore this (the_notice o l event number a y)) (λ y less. inr (refl, less)) ks (AllPairs-head (λ x y. x < y) k ks h))
    in
    notice_to_cases c zone o object l event number a told k (λ xs. AllPairs ComesBefore (xs ++ rest)) later (AllPairs-cons ComesBefore this rest after later)

-- the notices of one outcome stand in order, and at their event
notices_in_order : (c : Config) (zone : Zone) (o : ℕ) (object : Object) (l event : ℕ) (x : Outcome) → AllPairs ComesBefore (notices c zone o object l event x)
notices_in_order c zone o object l event Nothing = AllPairs-nil ComesBefore
notices_in_order c zone o object l event (Sent k s number m gap reach) =
    let a : Attempt = record { kind = k; state = s; moment = m } in
    notices_to_in_order c zone o object l event number a reach.told (receivers c zone o object a number reach.standing) (receivers_increase c zone o object a number reach.standing)
notices_in_order c zone o object l event (Suppressed k s number m why) = AllPairs-nil ComesBefore

notices_at_event : (c : Config) (zone : Zone) (o : ℕ) (object : Object) (l event : ℕ) (x : Outcome) → All (λ n. n.event ≡ event) (notices c zone o object l event x)
notices_at_event c zone o object l event Nothing = All-nil (λ (n : Notice). n.event ≡ event)
notices_at_event c zone o object l event (Sent k s number m gap reach) =
    let a : Attempt = record { kind = k; state = s; moment = m } in
    notices_to_each c zone o object l event number a reach.told (λ n. n.event ≡ event) (receivers c zone o object a number reach.standing) (λ i d h. refl)
notices_at_event c zone o object l event (Suppressed k s number m why) = All-nil (λ (n : Notice). n.event ≡ event)

-- what an event adds to what is due stands at that event
pub due_at_event : (c : Config) (zone : Zone) (o : ℕ) (object : Object) (l : ℕ) (e : Event) (past : List Event) → All (λ n. n.event ≡ length past) (due_at c zone o object l e past)
due_at_event c zone o object l e past = notices_at_event c zone o object l (length past) (outcome c zone o object e past (hist c zone o object past))

-- what is due stands at one of the events
pub due_for_below : (c : Config) (zone : Zone) (o : ℕ) (object : Object) (l : ℕ) (past : List Event) → All (λ n. n.event < length past) (due_for c zone o object l past)
due_for_below c zone o object l [] = All-nil (λ (n : Notice). n.event < 0)
due_for_below c zone o object l (e ∷ past) =
    let P : Notice → Type 0 = λ n. n.event < length (e ∷ past) in
    All-append P (due_for c zone o object l past) (due_at c zone o object l e past)
    (All-weaker (λ (n : Notice). n.event < length past) P (λ n h. omega arith) (due_for c zone o object l past) (due_for_below c zone o object l past))
    (All-weaker (λ (n : Notice). n.event ≡ length past) P (λ n h. omega arith) (due_at c zone o object l e past) (due_at_event c zone o object l e past))

pub due_for_in_order : (c : Config) (zone : Zone) (o : ℕ) (object : Object) (l : ℕ) (past : List Event) → AllPairs ComesBefore (due_for c zone o object l past)
due_for_in_order c zone o object l [] = AllPairs-nil ComesBefore
due_for_in_order c zone o object l (e ∷ past) =
    let so_far = due_for c zone o object l past in
    let now = due_at c zone o object l e past in
    AllPairs-append ComesBefore so_far now (due_for_in_order c zone o object l past) (notices_in_order c zone o object l (length past) (outcome c zone o object e past (hist c zone o object past)))
    (All-weaker (λ (n : Notice). n.event < length past) (λ n. All (ComesBefore n) now)
    (λ n below. All-weaker (λ (m : Notice). m.event ≡ length past) (ComesBefore n) (λ m at. inl (omega (arith, below, at))) now (due_at_event c zone o object l e past))
    so_far (due_for_below c zone o object l past))

pub due_in_order : (c : Config) (zone : Zone) (o l : ℕ) (found : Option Object) (past : List Event) → AllPairs ComesBefore (elim found as (λ _. List Notice) [ None ↦ [] | Some object ↦ due_for c zone o object l past ])
due_in_order c zone o l None past = AllPairs-nil ComesBefore
due_in_order c zone o l (Some object) past = due_for_in_order c zone o object l past

-- nothing comes before itself
pub before_is_other : (a b : Notice) → ComesBefore a b → a ≡ b → ⊥
before_is_other a b (inl h) e = let same : a.event ≡ b.event = ap (λ (n : Notice). n.event) e in omega arith
before_is_other a b (inr h) e = let same : a.contact.0 ≡ b.contact.0 = ap (λ (n : Notice). n.contact.0) e in omega (arith, h.1)
