-- The contacts that a notice goes to, and the notice that each can get.
use Rattle.std.proofs.Common.{ℕ, ◌-◌, ◌<◌, ◌&&◌, Bool, List, [], ◌∷◌, length, flat_map, All, Option, None, Some, slice_get, if◌then◌else◌}
use Rattle.std.specs.List.{AllPairs, range_with_len}
use Rattle.std.proofs.lemmas.Bool.{cond_both}
use Rattle.std.proofs.lemmas.List.Elements.{All-nil, All-cons, All-weaker}
use Rattle.std.proofs.lemmas.List.Kept.{AllPairs-filter}
use Rattle.due_model.specs.declared.config.Config.{Config}
use Rattle.due_model.specs.declared.config.Contact.{Contact}
use Rattle.due_model.specs.declared.config.Object.{Object}
use Rattle.due_model.specs.declared.options.OptionLetter.TheVariants as letter
use Rattle.due_model.specs.declared.notice.Filter.{Filter}
use Rattle.due_model.specs.declared.notice.Kind.{Kind}
use Rattle.due_model.specs.declared.notice.Kind.TheVariants as kind
use Rattle.due_model.specs.declared.notice.Notice.{Notice}
use Rattle.due_model.specs.declared.state.State.{State}
use Rattle.due_model.specs.declared.zone.Zone.{Zone}
use Rattle.due_model.specs.claims.Due.{uses_lane, notice_to}
use Rattle.due_model.specs.claims.Receivers.{others, receivers, rights_for}
use Rattle.due_model.specs.claims.Readings.{is_problem_state}
use Rattle.due_model.specs.declared.options.OptionLetters.{OptionLetters}
use Rattle.due_model.specs.claims.Escalations.{contacts_with, has_contact, matching, reach, reaches}
use Rattle.due_model.specs.declared.rules.Attempt.{Attempt}
use Rattle.due_model.specs.claims.Rules.{contact_failing, letter_of, state_letter}
use Rattle.lemmas.proofs.Lists.{All-flat_map, range_increases}

-- the receivers stand in number order, each once
pub contacts_increase : (c : Config) (test : ℕ → Bool) → AllPairs (λ x y. x < y) (contacts_with c test)
contacts_increase c test = AllPairs-filter (λ x y. x < y) test (range_with_len 0 (length c.contacts)) (range_increases 0 (length c.contacts))

others_increase : (c : Config) (zone : Zone) (o : ℕ) (object : Object) (a : Attempt) (standing : ℕ) → AllPairs (λ x y. x < y) (others c zone o object a standing)
others_increase c zone o object a standing =
    cond_both (c.choices.esc_other && is_problem_state a.state) (reach c zone o object standing (state_letter a.state) a.moment) (contacts_with c (has_contact object.contacts)) (AllPairs (λ x y. x < y))
    (λ _. contacts_increase c (reaches object (matching c zone o standing (state_letter a.state) a.moment)))
    (λ _. contacts_increase c (has_contact object.contacts))

receivers_of_increase : (c : Config) (zone : Zone) (o : ℕ) (object : Object) (k : Kind) (s : State) (m number standing : ℕ)
    → AllPairs (λ x y. x < y) (receivers c zone o object (record { kind = k; state = s; moment = m }) number standing)
receivers_of_increase c zone o object kind.Problem s m number standing = contacts_increase c (reaches object (matching c zone o number (letter_of kind.Problem s) m))
receivers_of_increase c zone o object kind.Recovery s m number standing = contacts_increase c (reaches object (matching c zone o (number - 1) letter.Recovery m))
receivers_of_increase c zone o object kind.FlappingStart s m number standing = others_increase c zone o object (record { kind = kind.FlappingStart; state = s; moment = m }) standing
receivers_of_increase c zone o object kind.FlappingStop s m number standing = others_increase c zone o object (record { kind = kind.FlappingStop; state = s; moment = m }) standing
receivers_of_increase c zone o object kind.DowntimeStart s m number standing = others_increase c zone o object (record { kind = kind.DowntimeStart; state = s; moment = m }) standing
receivers_of_increase c zone o object kind.DowntimeEnd s m number standing = others_increase c zone o object (record { kind = kind.DowntimeEnd; state = s; moment = m }) standing
receivers_of_increase c zone o object kind.DowntimeCancelled s m number standing = others_increase c zone o object (record { kind = kind.DowntimeCancelled; state = s; moment = m }) standing
receivers_of_increase c zone o object kind.Acknowledgement s m number standing = others_increase c zone o object (record { kind = kind.Acknowledgement; state = s; moment = m }) standing

pub receivers_increase : (c : Config) (zone : Zone) (o : ℕ) (object : Object) (a : Attempt) (number standing : ℕ) → AllPairs (λ x y. x < y) (receivers c zone o object a number standing)
receivers_increase c zone o object a number standing = receivers_of_increase c zone o object a.kind a.state a.moment number standing

-- the one notice that contact k can get on lane l
abbrev pub the_notice : (o l event number : ℕ) → Attempt → ℕ → Notice
the_notice o l event number a k =
    record { event = event; moment = a.moment; object = record { 0 = o }; kind = a.kind; state = a.state; number = number; contact = record { 0 = k }; lane = record { 0 = l } }

notice_by_filter : (c : Config) (object : Object) (o l event number : ℕ) (a : Attempt) (k : ℕ) (contact : Contact) (fails : Option Filter) (P : List Notice → Type 0)
    → P [] → P (the_notice o l event number a k ∷ [])
    → P (elim fails as (λ _. List Notice) [ Some why ↦ [] | None ↦ if uses_lane (rights_for object contact) l then the_notice o l event number a k ∷ [] else [] ])
notice_by_filter c object o l event number a k contact None P none one =
    cond_both (uses_lane (rights_for object contact) l) (the_notice o l event number a k ∷ []) [] P (λ _. one) (λ _. none)
notice_by_filter c object o l event number a k contact (Some why) P none one = none

notice_by_contact : (c : Config) (zone : Zone) (o : ℕ) (object : Object) (l event number : ℕ) (a : Attempt) (told : Option OptionLetters) (k : ℕ) (found : Option Contact) (P : List Notice → Type 0)
    → P [] → P (the_notice o l event number a k ∷ [])
    → P (elim found as (λ _. List Notice) [
      | None ↦ []
      | Some contact ↦ elim (contact_failing c zone (rights_for object contact) a told) as (λ _. List Notice) [
        | Some why ↦ []
        | None ↦ if uses_lane (rights_for object contact) l then the_notice o l event number a k ∷ [] else []
      ]
    ])
notice_by_contact c zone o object l event number a told k None P none one = none
notice_by_contact c zone o object l event number a told k (Some contact) P none one =
    notice_by_filter c object o l event number a k contact (contact_failing c zone (rights_for object contact) a told) P none one

-- a contact gets that notice or none
pub notice_to_cases : (c : Config) (zone : Zone) (o : ℕ) (object : Object) (l event number : ℕ) (a : Attempt) (told : Option OptionLetters) (k : ℕ) (P : List Notice → Type 0)
    → P [] → P (the_notice o l event number a k ∷ []) → P (notice_to c zone o object l event number a told k)
notice_to_cases c zone o object l event number a told k P none one = notice_by_contact c zone o object l event number a told k (slice_get c.contacts k) P none one

-- what holds of that notice, for each contact of a list, holds of each notice to them
pub notices_to_each : (c : Config) (zone : Zone) (o : ℕ) (object : Object) (l event number : ℕ) (a : Attempt) (told : Option OptionLetters) (Q : Notice → Type 0) (ks : List ℕ)
    → All (λ k. Q (the_notice o l event number a k)) ks → All Q (flat_map (notice_to c zone o object l event number a told) ks)
notices_to_each c zone o object l event number a told Q ks h =
    All-flat_map Q (notice_to c zone o object l event number a told) ks
    (All-weaker (λ k. Q (the_notice o l event number a k)) (λ k. All Q (notice_to c zone o object l event number a told k))
    (λ k one. notice_to_cases c zone o object l event number a told k (All Q) (All-nil Q) (All-cons Q (the_notice o l event number a k) [] one (All-nil Q)))
    ks h)
