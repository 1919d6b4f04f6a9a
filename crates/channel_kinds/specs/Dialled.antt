-- What a pager that dials again is to its callers.
use Rattle.std.specs.Prelude.{◌≡◌, ℕ, ◌+◌, ◌≤◌, Bool, false, true, List, Option, Some, None}
use Rattle.channel_kinds.specs.Pager.{Talks}

-- the stream to its peer, if one stands
pub record Dialled (S : Type 0) : Type 0 where
  pub line : Option S

-- A text that is taken went over a stream, the one that stood or a new one: the whole page was written there, and then `OK` was heard,
-- by at most 64 calls to read. That stream then stands. Where a text isn't taken, none does.
pub record Redials {S : Type 0} (contents remaining : S → Option (List ℕ)) (is_flushed : S → Bool) (reads : S → ℕ)
    (old : Dialled S) (text : List ℕ) (is_taken : Bool) (new : Dialled S) : Type 0 where
  pub taken : is_taken ≡ true → (before after : S)
      × ((line : S) → old.line ≡ Some line → before ≡ line)
      × Talks contents remaining is_flushed before after text true
      × (reads after ≤ reads before + 64) × (new.line ≡ Some after)
  pub failed : is_taken ≡ false → new.line ≡ None
