-- Nobody gets a notice that reaches nobody.
use Rattle.std.proofs.Common.{◌≡◌, ℕ, Bool, false, not, List, [], ◌∷◌, flat_map, All, Option, None, Some, is_some, slice_get, if◌then◌else◌}
use Rattle.std.specs.List.{list_any}
use Rattle.std.proofs.lemmas.Bool.{or_parts}
use Rattle.std.proofs.lemmas.List.Elements.{All-nil, All-cons}
use Rattle.due_model.specs.declared.config.Config.{Config}
use Rattle.due_model.specs.declared.config.Contact.{Contact}
use Rattle.due_model.specs.declared.config.Object.{Object}
use Rattle.due_model.specs.declared.notice.Filter.{Filter}
use Rattle.due_model.specs.declared.notice.Notice.{Notice}
use Rattle.due_model.specs.declared.options.OptionLetters.{OptionLetters}
use Rattle.due_model.specs.declared.rules.Attempt.{Attempt}
use Rattle.due_model.specs.declared.zone.Zone.{Zone}
use Rattle.due_model.specs.claims.Due.{notice_to, uses_lane}
use Rattle.due_model.specs.claims.Receivers.{is_heard, passes, receivers, rights_for}
use Rattle.due_model.specs.claims.Rules.{contact_failing}
use Rattle.lemmas.proofs.Lists.{All-flat_map}
use Rattle.lemmas.proofs.Notices.{the_notice}

module _ (c : Config) (zone : Zone) (o : ℕ) (object : Object) (l event number : ℕ) (a : Attempt) (told : Option OptionLetters) (Q : Notice → Type 0) where
  silent_fails : (k : ℕ) (contact : Contact) (fails : Option Filter) → not (is_some fails) ≡ false
      → All Q (elim fails as (λ _. List Notice) [ Some why ↦ [] | None ↦ if uses_lane (rights_for object contact) l then the_notice o l event number a k ∷ [] else [] ])
  silent_fails k contact None h = cc
  silent_fails k contact (Some why) h = All-nil Q

  silent_by : (k : ℕ) (found : Option Contact)
      → elim found as (λ _. Bool) [ None ↦ false | Some contact ↦ not (is_some (contact_failing c zone (rights_for object contact) a told)) ] ≡ false
      → All Q (elim found as (λ _. List Notice) [
        | None ↦ []
        | Some contact ↦ elim (contact_failing c zone (rights_for object contact) a told) as (λ _. List Notice) [
          | Some why ↦ []
          | None ↦ if uses_lane (rights_for object contact) l then the_notice o l event number a k ∷ [] else []
        ]
      ])
  silent_by k None h = All-nil Q
  silent_by k (Some contact) h = silent_fails k contact (contact_failing c zone (rights_for object contact) a told) h

  silent_each : (ks : List ℕ) → list_any (passes c zone object a told) ks ≡ false → All (λ k. All Q (notice_to c zone o object l event number a told k)) ks
  silent_each [] h = All-nil (λ k. All Q (notice_to c zone o object l event number a told k))
  silent_each (k ∷ ks) h =
      let parts = or_parts (passes c zone object a told k) (list_any (passes c zone object a told) ks) h in
      All-cons (λ k. All Q (notice_to c zone o object l event number a told k)) k ks (silent_by k (slice_get c.contacts k) parts.0) (silent_each ks parts.1)

  pub silent : (standing : ℕ) → is_heard c zone o object a number told standing ≡ false → All Q (flat_map (notice_to c zone o object l event number a told) (receivers c zone o object a number standing))
  silent standing h =
      let ks = receivers c zone o object a number standing in
      All-flat_map Q (notice_to c zone o object l event number a told) ks
      (silent_each ks (or_parts (not c.choices.nobody) (list_any (passes c zone object a told) ks) h).1)
