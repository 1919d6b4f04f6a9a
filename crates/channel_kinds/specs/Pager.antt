-- What a pager is to its callers, and what goes between it and its peer.
use Rattle.std.specs.Prelude.{◌≡◌, ℕ, Bool, false, true, not, IsTrue, ◌⊎◌, ◌+◌, ◌≤◌, List, [], ◌∷◌, ◌++◌, codes, decimal, length, Option}
use Rattle.std.specs.Io.KnownBytes.{Appends}
use Rattle.channel_kinds.specs.Answer.{IsHeard}
use Rattle.written.specs.claims.Written.{WritesFront}

-- the stream to its peer, and whether it failed once
pub record Paged (S : Type 0) : Type 0 where
  pub stream : S
  pub is_over : Bool

-- how many bytes a text has at most
abbrev pub pager_limit : ℕ
pager_limit = 1024

-- what is written for a text: how many bytes it has, and the text
abbrev pub page_of : List ℕ → List ℕ
page_of text = codes "PAGE " ++ decimal (length text) ++ 10 ∷ [] ++ text

-- what is written last
abbrev pub farewell : List ℕ
farewell = codes "BYE\n"

-- the whole page was written and flushed, and then an answer heard; or a front of the page was written, and it isn't taken
abbrev pub Talks : {S : Type 0} → (contents remaining : S → Option (List ℕ)) → (is_flushed : S → Bool) → (old new : S)
    → (text : List ℕ) → (is_taken : Bool) → Type 0
Talks {S} contents remaining is_flushed old new text is_taken =
    ((asked : S) × Appends (contents old) (contents asked) (page_of text) × (is_flushed asked ≡ true)
    × IsHeard (remaining asked) (remaining new) is_taken)
    ⊎ (WritesFront (contents old) (contents new) (page_of text) × (is_taken ≡ false))

-- The peer is asked, by at most 64 calls to read, and the pager is over where it doesn't take the text. One that is over refuses
-- each text, and leaves the stream alone.
pub record Pages {S : Type 0} (contents remaining : S → Option (List ℕ)) (is_flushed : S → Bool) (reads : S → ℕ)
    (old : Paged S) (text : List ℕ) (is_taken : Bool) (new : Paged S) : Type 0 where
  pub talks : old.is_over ≡ false
      → Talks contents remaining is_flushed old.stream new.stream text is_taken
  pub few : reads new.stream ≤ reads old.stream + 64
  pub over : IsTrue old.is_over → (is_taken ≡ false) × (new.stream ≡ old.stream)
  pub spoilt : new.is_over ≡ not is_taken
