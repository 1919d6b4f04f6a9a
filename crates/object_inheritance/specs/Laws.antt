-- Laws of what blocks inherit, of any blocks.
use Rattle.std.specs.Prelude.{◌≡◌, ℕ, ◌≤◌, false, List, [], length, None, Some, codes}
use Rattle.std.specs.Option.{option_map}
use Rattle.object_reader.specs.declared.block.Block.{Block}
use Rattle.object_inheritance.specs.claims.Inherited.{given, is_additive, list, own, own_entries, value}

-- A directive that a block gives itself never comes from a template.
abbrev pub OwnValueWins : Type 0
OwnValueWins = (blocks : List Block) (directive : List ℕ) (place : ℕ) (text : List ℕ)
    → own blocks directive place ≡ Some text → value blocks directive place ≡ Some text

-- The same of a list, unless it begins with +.
abbrev pub OwnListWins : Type 0
OwnListWins = (blocks : List Block) (directive : List ℕ) (place : ℕ) (text : List ℕ)
    → own blocks directive place ≡ Some text → is_additive text ≡ false
    → list blocks directive place ≡ Some (own_entries text)

-- A block without `use` has what it gives itself.
abbrev pub PlainBlockHasItsOwn : Type 0
PlainBlockHasItsOwn = (blocks : List Block) (directive : List ℕ) (place : ℕ)
    → own blocks (codes "use") place ≡ None
    → value blocks directive place ≡ own blocks directive place

-- and of a list its own entries, whether it begins with + or not.
abbrev pub PlainListHasItsOwn : Type 0
PlainListHasItsOwn = (blocks : List Block) (directive : List ℕ) (place : ℕ)
    → own blocks (codes "use") place ≡ None
    → list blocks directive place ≡ option_map own_entries (own blocks directive place)

-- Where there is no block, nothing is given.
abbrev pub NothingPastTheBlocks : Type 0
NothingPastTheBlocks = (blocks : List Block) (directive : List ℕ) (place : ℕ)
    → length blocks ≤ place → given blocks directive place ≡ []
