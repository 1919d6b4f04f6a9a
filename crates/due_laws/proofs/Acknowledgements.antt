-- A problem is acknowledged where its last acknowledgement outlasts all events since, in the order of the feed.
use Rattle.std.proofs.Common.{◌≡◌, ◌↔◌, ℕ, Bool, true, false, not, ◌&&◌, ◌||◌, List, [], ◌∷◌, ◌++◌, reverse, All, ◌==◌, Option, None, Some, IsTrue, if◌then◌else◌, refl, sym, ap, ◌∙◌, subst, append_assoc}
use Rattle.std.specs.List.{list_all}
use Rattle.std.proofs.lemmas.Bool.{and_parts, and_from}
use Rattle.std.proofs.lemmas.List.{reverse-append, reverse-reverse}
use Rattle.std.proofs.lemmas.List.Elements.{All-nil, All-cons, All-head, All-tail, All-same}
use Rattle.std.proofs.lemmas.Option.{same_Some}
use Rattle.due_model.specs.declared.event.Event.{Event}
use Rattle.due_model.specs.declared.event.EventKind.{EventKind}
use Rattle.due_model.specs.declared.event.EventKind.TheVariants.{Clock, Program, Hard, Downtime, Flapping, Ack, AckRemoved, OwnSwitch}
use Rattle.due_model.specs.declared.state.State.{State}
use Rattle.due_model.specs.claims.Acknowledgements.{acked, acknowledges, ends_ack, last_ack, outlasts, since_ack}
use Rattle.due_model.specs.claims.Readings.{hard, is_problem_state}
use Rattle.due_model.specs.claims.Rules.{same_state}
use Rattle.lemmas.proofs.Acknowledgements.{same_state_is, same_state_self}
use Rattle.lemmas.proofs.Lists.{All-reverse}
use Rattle.due_laws.specs.Acknowledgements.{ack_at, ack_of, hard_after_feed, IsAcknowledgedBy}
use Rattle.due_laws.proofs.ReadingLaws.{reverse_split}

none_if : (b : Bool) → (let none : Option Bool = None in none) ≡ (if b then None else None)
none_if true = refl
none_if false = refl

-- an event acknowledges where it is an acknowledgement, at a problem
acknowledges_by : (o : ℕ) (k : EventKind) (s : State) → acknowledges o k s ≡ (if is_problem_state s then ack_of o k else None)
acknowledges_by o Clock s = none_if (is_problem_state s)
acknowledges_by o (Program on) s = none_if (is_problem_state s)
acknowledges_by o (Hard p t) s = none_if (is_problem_state s)
acknowledges_by o (Downtime p change) s = none_if (is_problem_state s)
acknowledges_by o (Flapping p starts) s = none_if (is_problem_state s)
acknowledges_by o (Ack p ack) s = by_tests (p.0 == o) (is_problem_state s)
  where
    by_tests : (mine problem : Bool) → (if mine && problem then Some ack.sticky else None) ≡ (if problem then (if mine then Some ack.sticky else None) else None)
    by_tests true true = refl
    by_tests true false = refl
    by_tests false true = refl
    by_tests false false = refl
acknowledges_by o (AckRemoved p) s = none_if (is_problem_state s)
acknowledges_by o (OwnSwitch p on) s = none_if (is_problem_state s)

-- in the order of the feed
at_past : (o : ℕ) (front : List Event) (e : Event) (past : List Event) → reverse front ≡ past → ack_at o front e ≡ acknowledges o e.kind (hard o (e ∷ past))
at_past o front e past is =
    ap (λ xs. if is_problem_state (hard o xs) then ack_of o e.kind else None) (reverse_split front e [] ∙ ap (λ xs. e ∷ xs) is)
    ∙ sym (acknowledges_by o e.kind (hard o (e ∷ past)))

-- event x, after this past, leaves an acknowledgement in state s as it is
record Outlasted (o : ℕ) (sticky : Bool) (s : State) (x : Event) (past : List Event) : Type 0 where
  none : acknowledges o x.kind (hard o (x ∷ past)) ≡ None
  not_ended : ends_ack o x.kind ≡ false
  same : (sticky || same_state (hard o (x ∷ past)) s) ≡ true

-- so does each of these, the newest first, after that past
abbrev Along : ℕ → Bool → State → (from : List Event) → List Event → Type 0
Along o sticky s from [] = Unit {0}
Along o sticky s from (x ∷ later) = Outlasted o sticky s x (later ++ from) × Along o sticky s from later

along_at : (o : ℕ) (sticky : Bool) (s : State) (from newer : List Event) (x : Event) (older : List Event) → Along o sticky s from (newer ++ x ∷ older)
    → Outlasted o sticky s x (older ++ from)
along_at o sticky s from [] x older h = h.0
along_at o sticky s from (y ∷ newer) x older h = along_at o sticky s from newer x older h.1

along_rest : (o : ℕ) (sticky : Bool) (s : State) (from newer older : List Event) → Along o sticky s from (newer ++ older) → Along o sticky s from older
along_rest o sticky s from [] older h = h
along_rest o sticky s from (y ∷ newer) older h = along_rest o sticky s from newer older h.1

along_from : (o : ℕ) (sticky : Bool) (s : State) (from later : List Event)
    → ((newer : List Event) (x : Event) (older : List Event) → later ≡ newer ++ x ∷ older → Outlasted o sticky s x (older ++ from)) → Along o sticky s from later
along_from o sticky s from [] h = tt
along_from o sticky s from (x ∷ later) h =
    (h [] x later refl, along_from o sticky s from later (λ newer y older is. h (x ∷ newer) y older (ap (λ xs. x ∷ xs) is)))

along_not_ended : (o : ℕ) (sticky : Bool) (s : State) (from later : List Event) → Along o sticky s from later → All (λ e. ends_ack o e.kind ≡ false) later
along_not_ended o sticky s from [] h = All-nil (λ (e : Event). ends_ack o e.kind ≡ false)
along_not_ended o sticky s from (x ∷ later) h = All-cons (λ (e : Event). ends_ack o e.kind ≡ false) x later h.0.not_ended (along_not_ended o sticky s from later h.1)

or_second : (a b : Bool) → (a || b) ≡ true → a ≡ false → b ≡ true
or_second true b h is = cc
or_second false b h is = h

along_same : (o : ℕ) (sticky : Bool) (s : State) (from later : List Event) → sticky ≡ false → s ≡ hard o from → Along o sticky s from later → hard o (later ++ from) ≡ s
along_same o sticky s from [] loose at h = sym at
along_same o sticky s from (x ∷ later) loose at h =
    same_state_is (hard o (x ∷ later ++ from)) s (or_second sticky (same_state (hard o (x ∷ later ++ from)) s) h.0.same loose)

-- ---- the last acknowledgement of a past

record AckedSince (o : ℕ) (past later : List Event) (a : Event) (sticky : Bool) (s : State) (earlier : List Event) : Type 0 where
  split : past ≡ later ++ a ∷ earlier
  acks : acknowledges o a.kind (hard o (a ∷ earlier)) ≡ Some sticky
  at : s ≡ hard o (a ∷ earlier)
  along : Along o sticky s (a ∷ earlier) later

abbrev HasAck : ℕ → List Event → Bool → State → Type 0
HasAck o past sticky s = (later : List Event) × (a : Event) × (earlier : List Event) × AckedSince o past later a sticky s earlier

acked_since : (o : ℕ) (past : List Event) (sticky : Bool) (s : State) → last_ack o past ≡ Some (sticky, s) → list_all (outlasts o sticky s) (since_ack o past) ≡ true
    → HasAck o past sticky s
acked_since o [] sticky s is all = cc
acked_since o (e ∷ past) sticky s is all = by_ack (acknowledges o e.kind (hard o (e ∷ past))) refl (acked_since o past sticky s) is all
  where
    by_ack : (new : Option Bool) → acknowledges o e.kind (hard o (e ∷ past)) ≡ new
        → (last_ack o past ≡ Some (sticky, s) → list_all (outlasts o sticky s) (since_ack o past) ≡ true → HasAck o past sticky s)
        → (elim new as (λ _. Option (Bool × State)) [ None ↦ last_ack o past | Some st ↦ Some (st, hard o (e ∷ past)) ]) ≡ Some (sticky, s)
        → list_all (outlasts o sticky s) (elim new as (λ _. List (List Event)) [ None ↦ (e ∷ past) ∷ since_ack o past | Some st ↦ [] ]) ≡ true
        → HasAck o (e ∷ past) sticky s
    by_ack None none before is all =
        let parts = and_parts (outlasts o sticky s (e ∷ past)) (list_all (outlasts o sticky s) (since_ack o past)) all in
        let now = and_parts (not (ends_ack o e.kind)) (sticky || same_state (hard o (e ∷ past)) s) parts.0 in
        let so_far = before is parts.1 in
        let here : Outlasted o sticky s e past = record { none = none; not_ended = false_from_not (ends_ack o e.kind) now.0; same = now.1 } in (
          e ∷ so_far.0,
          so_far.1,
          so_far.2,
          record {
            split = ap (λ xs. e ∷ xs) so_far.3.split;
            acks = so_far.3.acks;
            at = so_far.3.at;
            along = (subst (Outlasted o sticky s e) so_far.3.split here, so_far.3.along);
          },
        )
      where
        false_from_not : (b : Bool) → not b ≡ true → b ≡ false
        false_from_not true h = sym h
        false_from_not false h = refl
    by_ack (Some st) acks before is all =
        let same : (st, hard o (e ∷ past)) ≡ (sticky, s) = same_Some (st, hard o (e ∷ past)) (sticky, s) is in (
          [],
          e,
          past,
          record {
            split = refl;
            acks = acks ∙ ap (λ (p : Bool × State). Some p.0) same;
            at = ap (λ (p : Bool × State). p.1) (sym same);
            along = tt;
          },
        )

last_since : (o : ℕ) (a : Event) (sticky : Bool) (s : State) (earlier later : List Event) → acknowledges o a.kind (hard o (a ∷ earlier)) ≡ Some sticky → s ≡ hard o (a ∷ earlier)
    → Along o sticky s (a ∷ earlier) later
    → (last_ack o (later ++ a ∷ earlier) ≡ Some (sticky, s)) × (list_all (outlasts o sticky s) (since_ack o (later ++ a ∷ earlier)) ≡ true)
last_since o a sticky s earlier [] acks at h = (
  ap (λ (new : Option Bool). elim new as (λ _. Option (Bool × State)) [ None ↦ last_ack o earlier | Some st ↦ Some (st, hard o (a ∷ earlier)) ]) acks
      ∙ ap (λ (t : State). Some (sticky, t)) (sym at),
  ap (λ (new : Option Bool). list_all (outlasts o sticky s) (elim new as (λ _. List (List Event)) [ None ↦ (a ∷ earlier) ∷ since_ack o earlier | Some st ↦ [] ])) acks,
)
last_since o a sticky s earlier (x ∷ later) acks at h =
    let past = later ++ a ∷ earlier in
    let so_far = last_since o a sticky s earlier later acks at h.1 in (
      ap (λ (new : Option Bool). elim new as (λ _. Option (Bool × State)) [ None ↦ last_ack o past | Some st ↦ Some (st, hard o (x ∷ past)) ]) h.0.none
          ∙ so_far.0,
      ap (λ (new : Option Bool). list_all (outlasts o sticky s) (elim new as (λ _. List (List Event)) [ None ↦ (x ∷ past) ∷ since_ack o past | Some st ↦ [] ])) h.0.none
          ∙ and_from (outlasts o sticky s (x ∷ past)) (list_all (outlasts o sticky s) (since_ack o past))
          (and_from (not (ends_ack o x.kind)) (sticky || same_state (hard o (x ∷ past)) s) (ap not h.0.not_ended) h.0.same) so_far.1,
    )

abbrev acked_by : ℕ → List Event → Option (Bool × State) → Bool
acked_by o past last = elim last as (λ _. Bool) [ None ↦ false | Some ack ↦ list_all (outlasts o ack.0 ack.1) (since_ack o past) ]

acked_from : (o : ℕ) (past : List Event) (sticky : Bool) (s : State) → HasAck o past sticky s → acked o past ≡ true
acked_from o past sticky s (later, a, earlier, since) =
    let last = last_since o a sticky s earlier later since.acks since.at since.along in
    ap (acked o) since.split ∙ ap (acked_by o (later ++ a ∷ earlier)) last.0 ∙ last.1

acked_to : (o : ℕ) (past : List Event) → acked o past ≡ true → (sticky : Bool) × (s : State) × HasAck o past sticky s
acked_to o past h = by_last (last_ack o past) refl h
  where
    by_last : (last : Option (Bool × State)) → last_ack o past ≡ last → acked_by o past last ≡ true → (sticky : Bool) × (s : State) × HasAck o past sticky s
    by_last None is h = cc
    by_last (Some ack) is h = (ack.0, ack.1, acked_since o past ack.0 ack.1 is h)

-- ---- in the order of the feed

all_at : {X : Type 0} (P : X → Type 0) (front : List X) (x : X) (rest : List X) → All P (front ++ x ∷ rest) → P x
all_at P [] x rest h = All-head P x rest h
all_at P (y ∷ front) x rest h = all_at P front x rest (All-tail P y (front ++ x ∷ rest) h)

abbrev IsAcknowledged : ℕ → List Event → Type 0
IsAcknowledged o feed = (earlier : List Event) × (a : Event) × (sticky : Bool) × (later : List Event)
    × (feed ≡ earlier ++ a ∷ later) × IsAcknowledgedBy o earlier a sticky later

to_feed : (o : ℕ) (feed : List Event) → acked o (reverse feed) ≡ true → IsAcknowledged o feed
to_feed o feed h =
    let (sticky, s, (later, a, earlier, since)) = acked_to o (reverse feed) h in
    let whole : (front : List Event) → reverse (reverse earlier ++ a ∷ front) ≡ reverse front ++ a ∷ earlier =
    λ front. reverse_split (reverse earlier) a front ∙ ap (λ xs. reverse front ++ a ∷ xs) (reverse-reverse earlier)
    in (
      reverse earlier,
      a,
      sticky,
      reverse later,
      sym (reverse-reverse feed) ∙ ap reverse since.split ∙ reverse_split later a earlier,
      record {
        acknowledges = at_past o (reverse earlier) a earlier (reverse-reverse earlier) ∙ since.acks;
        is_last = λ front x rest is.
            let split : later ≡ reverse rest ++ x ∷ reverse front = sym (reverse-reverse later) ∙ ap reverse is ∙ reverse_split front x rest in
            let out = along_at o sticky s (a ∷ earlier) (reverse rest) x (reverse front) (subst (Along o sticky s (a ∷ earlier)) split since.along) in
            at_past o (reverse earlier ++ a ∷ front) x (reverse front ++ a ∷ earlier) (whole front) ∙ out.none;
        not_ended = All-reverse (λ (e : Event). ends_ack o e.kind ≡ false) later (along_not_ended o sticky s (a ∷ earlier) later since.along);
        same_state = λ loose front rest is.
            let split : later ≡ reverse rest ++ reverse front = sym (reverse-reverse later) ∙ ap reverse is ∙ reverse-append front rest in
            let along = along_rest o sticky s (a ∷ earlier) (reverse rest) (reverse front) (subst (Along o sticky s (a ∷ earlier)) split since.along) in
            ap (hard o) (whole front) ∙ along_same o sticky s (a ∷ earlier) (reverse front) loose since.at along ∙ since.at ∙ ap (hard o) (sym (whole []));
      },
    )

from_feed : (o : ℕ) (feed : List Event) → IsAcknowledged o feed → acked o (reverse feed) ≡ true
from_feed o feed (earlier, a, sticky, later, is, by) =
    let s : State = hard o (a ∷ reverse earlier) in
    let first : hard_after_feed o (earlier ++ a ∷ []) ≡ s = ap (hard o) (reverse_split earlier a []) in
    acked_from o (reverse feed) sticky s (
      reverse later,
      a,
      reverse earlier,
      record {
        split = ap reverse is ∙ reverse_split earlier a later;
        acks = sym (at_past o earlier a (reverse earlier) refl) ∙ by.acknowledges;
        at = refl;
        along = along_from o sticky s (a ∷ reverse earlier) (reverse later) (λ newer x older split.
            let ordered : later ≡ reverse older ++ x ∷ reverse newer = sym (reverse-reverse later) ∙ ap reverse split ∙ reverse_split newer x older in
            let past : reverse (earlier ++ a ∷ reverse older) ≡ older ++ a ∷ reverse earlier =
            reverse_split earlier a (reverse older) ∙ ap (λ xs. xs ++ a ∷ reverse earlier) (reverse-reverse older)
            in
            record {
              none = sym (at_past o (earlier ++ a ∷ reverse older) x (older ++ a ∷ reverse earlier) past) ∙ by.is_last (reverse older) x (reverse newer) ordered;
              not_ended = all_at (λ (e : Event). ends_ack o e.kind ≡ false) (reverse older) x (reverse newer)
                  (All-same (λ (e : Event). ends_ack o e.kind ≡ false) (reverse older ++ x ∷ reverse newer) later (sym ordered) by.not_ended);
              same = by_sticky sticky refl x older newer ordered;
            });
      },
    )
  where
    by_sticky : (st : Bool) → sticky ≡ st → (x : Event) (older newer : List Event) → later ≡ reverse older ++ x ∷ reverse newer
        → (sticky || same_state (hard o (x ∷ older ++ a ∷ reverse earlier)) (hard o (a ∷ reverse earlier))) ≡ true
    by_sticky true st x older newer ordered = ap (λ b. b || same_state (hard o (x ∷ older ++ a ∷ reverse earlier)) (hard o (a ∷ reverse earlier))) st
    by_sticky false st x older newer ordered =
        let split : later ≡ (reverse older ++ x ∷ []) ++ reverse newer = ordered ∙ sym (append_assoc (reverse older) (x ∷ []) (reverse newer)) in
        let past : reverse (earlier ++ a ∷ (reverse older ++ x ∷ [])) ≡ (x ∷ older) ++ a ∷ reverse earlier =
        reverse_split earlier a (reverse older ++ x ∷ []) ∙ ap (λ xs. xs ++ a ∷ reverse earlier) (reverse_split (reverse older) x [] ∙ ap (λ xs. x ∷ xs) (reverse-reverse older))
        in
        let same : hard o (x ∷ older ++ a ∷ reverse earlier) ≡ hard o (a ∷ reverse earlier) =
        ap (hard o) (sym past) ∙ by.same_state st (reverse older ++ x ∷ []) (reverse newer) split ∙ ap (hard o) (reverse_split earlier a [])
        in
        ap (λ b. b || same_state (hard o (x ∷ older ++ a ∷ reverse earlier)) (hard o (a ∷ reverse earlier))) st
        ∙ ap (λ t. same_state t (hard o (a ∷ reverse earlier))) same ∙ same_state_self (hard o (a ∷ reverse earlier))

pub acked_by_last : (o : ℕ) (feed : List Event) → IsTrue (acked o (reverse feed)) ↔ IsAcknowledged o feed
acked_by_last o feed = (to_feed o feed, from_feed o feed)
