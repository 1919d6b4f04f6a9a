-- Whom the escalations that match reach.
use Rattle.std.proofs.Common.{◌≡◌, ◌==◌, ℕ, Bool, true, ◌||◌, List, [], ◌∷◌, refl, ap, ◌∙◌}
use Rattle.std.specs.List.{list_any}
use Rattle.std.proofs.lemmas.List.Folds.{list_any-append}
use Rattle.due_model.specs.declared.config.ContactId.{ContactId}
use Rattle.due_model.specs.declared.config.Escalation.{Escalation}
use Rattle.due_model.specs.declared.config.Object.{Object}
use Rattle.due_model.specs.claims.Escalations.{has_contact, reaches}
use Rattle.slow_rules.specs.Escalated.{has_some, named_by}

named_any : (es : List Escalation) (k : ℕ) → has_contact (named_by es) k ≡ list_any (λ e. has_contact e.contacts k) es
named_any [] k = refl
named_any (e ∷ es) k =
    list_any-append (λ (contact : ContactId). contact.0 == k) e.contacts (named_by es) ∙ ap (λ (b : Bool). has_contact e.contacts k || b) (named_any es k)

-- the contacts of escalations, where there are some
pub reaches_named : (object : Object) (es : List Escalation) (named : List ContactId) → named ≡ named_by es → has_some es ≡ true → (k : ℕ) → has_contact named k ≡ reaches object es k
reaches_named object [] named is some k = cc
reaches_named object (e ∷ es) named is some k = ap (λ ks. has_contact ks k) is ∙ named_any (e ∷ es) k
