-- How it is kept what all blocks have for one directive.
use Rattle.std.specs.Prelude.{◌≡◌, ℕ, ◌<◌, ◌≤◌, ◌^◌, false, true, List, [], ◌∷◌, length, Option, None, Some, IfSome, slice_index, slice_index_or}
use Rattle.std.specs.Option.{option_and_then, option_map}
use Rattle.graph.specs.claims.Edges.{Leads}
use Rattle.object_reader.specs.declared.block.Block.{Block}
use Rattle.object_inheritance.specs.declared.inherited.Given.{Given}
use Rattle.object_inheritance.specs.declared.templates.Uses.{Uses}
use Rattle.object_inheritance.specs.Faults.{AreUses, is_used}
use Rattle.object_inheritance.specs.Givers.{text_at}
use Rattle.object_inheritance.specs.claims.Inherited.{given, own, stays}
use Rattle.object_inheritance.specs.Inherited.{AreInherited}
use Rattle.object_inheritance.specs.claims.Templates.{template_graph}

-- the blocks, and a directive
pub record Column : Type 0 where
  pub blocks : List Block
  pub directive : List ℕ

-- what is given to a block that may be there
abbrev pub given_from : List Block → List ℕ → Option ℕ → List (List ℕ)
given_from blocks directive None = []
given_from blocks directive (Some place) = given blocks directive place

-- what is kept stands for these texts, the nearest first
abbrev pub line_of : List Block → List ℕ → Option Given → List (List ℕ)
line_of blocks directive None = []
line_of blocks directive (Some kept) =
    text_at blocks kept.origin kept.number ∷ given_from blocks directive kept.further

-- what is kept is what is given to the block at the place, and to the one that it comes from, which gives the
-- nearest text itself
pub record IsGivenAt (blocks : List Block) (directive : List ℕ) (place : ℕ)
    (kept : Option Given) : Type 0 where
  pub line : given blocks directive place ≡ line_of blocks directive kept
  pub origin :
      IfSome kept (λ one. given blocks directive one.origin ≡ given blocks directive place)
  pub gives : IfSome kept (λ one.
      own blocks directive one.origin ≡ Some (text_at blocks one.origin one.number))

-- what is kept is what the block at the place gives itself, and nothing beside it
pub record IsOwn (blocks : List Block) (place : ℕ) (gives : Option (List ℕ))
    (kept : Option Given) : Type 0 where
  pub text : option_map (λ one. text_at blocks one.origin one.number) kept ≡ gives
  pub alone : option_and_then (λ one. one.further) kept ≡ None
  pub origin : IfSome kept (λ one. one.origin ≡ place)

-- the column has what each block gives itself
pub record HasOwn (blocks : List Block) (directive : List ℕ)
    (column : List (Option Given)) : Type 0 where
  pub each : (place : ℕ) → IsOwn blocks place (own blocks directive place)
      (slice_index_or column place None)

-- the column has what is given to each block
pub record HasGiven (blocks : List Block) (directive : List ℕ)
    (column : List (Option Given)) : Type 0 where
  pub each : (place : ℕ) → IsGivenAt blocks directive place (slice_index_or column place None)

-- the column has what is given to the blocks that others use, from the place `left` of the order on, and what all others
-- give themselves
pub record HasGivenFrom (blocks : List Block) (directive : List ℕ) (uses : Uses) (left : ℕ)
    (column : List (Option Given)) : Type 0 where
  pub ahead : (j : ℕ) → j < left → IsOwn blocks (slice_index uses.order.items j)
      (own blocks directive (slice_index uses.order.items j))
      (slice_index_or column (slice_index uses.order.items j) None)
  pub done : (j : ℕ) → left ≤ j → j < length uses.order.items
      → is_used uses (slice_index uses.order.items j) ≡ true
      → IsGivenAt blocks directive (slice_index uses.order.items j)
      (slice_index_or column (slice_index uses.order.items j) None)
  pub rest : (place : ℕ) → is_used uses place ≡ false
      → IsOwn blocks place (own blocks directive place) (slice_index_or column place None)

-- a directive that blocks take from templates
pub record IsInherited (blocks : List Block) (directive : List ℕ) : Type 0 where
  pub moves : stays directive ≡ false
  pub along : AreInherited blocks

-- the column has what the block at the place gives itself, and what is given to the templates that it uses
pub record IsNext (blocks : List Block) (directive : List ℕ) (column : List (Option Given))
    (place : ℕ) : Type 0 where
  pub inherited : IsInherited blocks directive
  pub gives : IsOwn blocks place (own blocks directive place) (slice_index_or column place None)
  pub used : (q : ℕ) → Leads (template_graph blocks) place q
      → IsGivenAt blocks directive q (slice_index_or column q None)

-- the column has what is given to each block that others use, and what each of the rest gives itself
pub record HasUsed (blocks : List Block) (directive : List ℕ) (uses : Uses)
    (column : List (Option Given)) : Type 0 where
  pub inherited : IsInherited blocks directive
  pub using : AreUses blocks uses
  pub few : length blocks < 2 ^ 32
  pub long : length column ≡ length blocks
  pub done : (place : ℕ) → is_used uses place ≡ true
      → IsGivenAt blocks directive place (slice_index_or column place None)
  pub rest : (place : ℕ) → is_used uses place ≡ false
      → IsOwn blocks place (own blocks directive place) (slice_index_or column place None)

-- the column has what is given to each block, or, with the templates, to each that others use
abbrev pub HasKept : List Block → List ℕ → Option Uses → List (Option Given) → Type 0
HasKept blocks directive None column = HasGiven blocks directive column
HasKept blocks directive (Some uses) column = HasUsed blocks directive uses column
