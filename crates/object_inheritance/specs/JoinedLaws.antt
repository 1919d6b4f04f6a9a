-- Laws of lists that are added to others.
use Rattle.std.proofs.Common.{ap, cond, false, List, refl, true, Bool, [], ℕ, ◌++◌, ◌∙◌, ◌∷◌, ◌≡◌}
use Rattle.std.specs.Prelude.{unwrap_or}
use Rattle.object_inheritance.specs.claims.Inherited.{is_additive, joined_entries, list_given, own_entries}
use Rattle.object_inheritance.specs.Inherited.{beside, nearest_entries}

joined-beside : (additive : Bool) (texts : List (List ℕ)) → cond additive (joined_entries texts) [] ≡ joined_entries (cond additive texts [])
joined-beside true texts = refl
joined-beside false texts = refl

-- a list is the one that it is added to, and then its nearest entries
pub joined-parts : (texts : List (List ℕ)) → joined_entries texts ≡ joined_entries (beside texts) ++ nearest_entries texts
joined-parts [] = refl
joined-parts (text ∷ texts) = ap (λ (front : List (List ℕ)). front ++ own_entries text) (joined-beside (is_additive text) texts)

-- a list that isn't there has no entries
pub list-entries : (texts : List (List ℕ)) → unwrap_or (list_given texts) [] ≡ joined_entries texts
list-entries [] = refl
list-entries (text ∷ texts) = refl
