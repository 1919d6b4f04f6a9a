-- What a decider has told of what it suppressed, and what it keeps of it.
use Rattle.std.proofs.Common.{◌≡◌, List, [], ◌++◌, refl, ap, ◌∙◌}
use Rattle.due_model.specs.declared.notice.Suppression.{Suppression}

-- All of these were suppressed: those that were told, and then those that are kept.
pub record IsNoted (tells : List Suppression → Type 0) (kept all : List Suppression) : Type 0 where
  pub told : List Suppression
  pub are_told : tells told
  pub both : told ++ kept ≡ all

-- a log that tells nothing
abbrev pub tells_nothing : List Suppression → Type 0
tells_nothing lines = lines ≡ []

pub none_is_told : tells_nothing []
none_is_told = refl

pub tells_nothing_twice : (xs ys : List Suppression) → tells_nothing xs → tells_nothing ys → tells_nothing (xs ++ ys)
tells_nothing_twice xs ys one two = ap (λ (l : List Suppression). l ++ ys) one ∙ two
