-- The share of a decider among the objects.
use Rattle.std.specs.Prelude.{ℕ, ◌%◌, ◌<◌, ◌≤◌, Bool, ◌==◌, List, filter}
use Rattle.std.specs.List.{range_with_len}
use Rattle.due_model.specs.claims.Limits.{max_deciders}
use Rattle.decider.specs.declared.share.Share.{Share}

-- one of no more deciders than may run
pub record IsShare (share : Share) : Type 0 where
  pub decider : share.decider < share.deciders
  pub deciders : share.deciders ≤ max_deciders

-- whether the decider owns object o
abbrev pub is_owned : Share → ℕ → Bool
is_owned share o = (o % share.deciders) == share.decider

-- the owned ones among so many objects, in number order
abbrev pub owned_numbers : Share → ℕ → List ℕ
owned_numbers share count = filter (is_owned share) (range_with_len 0 count)
