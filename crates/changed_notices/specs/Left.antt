-- What is left of some notices once others are taken out of them, one for one.
use Rattle.std.specs.Prelude.{◌≡◌, ℕ, ◌-◌, Bool, List, [], ◌∷◌, filter, length, if◌then◌else◌}
use Rattle.due_model.specs.declared.config.Config.{Config}
use Rattle.due_model.specs.declared.notice.Notice.{Notice}
use Rattle.changed_notices.specs.Names.{Key, is_same, key_of, same_key}

-- without the first that is one of these
abbrev pub without_first : (Notice → Bool) → List Notice → List Notice
without_first is [] = []
without_first is (m ∷ ms) = if is m then ms else m ∷ without_first is ms

-- For each notice of the first list, which is of configuration a, the first that is the same is taken out of the second: what is
-- left is the difference of the two as multisets, in the order of the second.
abbrev pub left_of : (a b : Config) → List Notice → List Notice → List Notice
left_of a b [] ms = ms
left_of a b (n ∷ ns) ms = left_of a b ns (without_first (is_same a b n) ms)

-- of what each gives of a line of the feed, the notices that the first configuration alone gives
abbrev pub lost : Config → Config → List Notice → List Notice → List Notice
lost a b before after = left_of b a after before

-- and those that the second alone gives
abbrev pub gained : Config → Config → List Notice → List Notice → List Notice
gained a b before after = left_of a b before after

-- ---- as multisets

-- how many of these notices of a configuration have this key
abbrev pub count_of : Config → Key → List Notice → ℕ
count_of c key ns = length (filter (λ n. same_key key (key_of c n)) ns)

-- Of each key the first alone gives as many notices as it gives beyond those of the second.
abbrev pub LostIsTheDifference : Type 0
LostIsTheDifference = (a b : Config) (before after : List Notice) (key : Key)
    → count_of a key (lost a b before after) ≡ count_of a key before - count_of b key after
