-- How lines of dates are found: the templates of a block are searched depth first, in the order of their `use`, and of the
-- lines of one name the first that is met counts.
use Rattle.std.specs.Prelude.{◌≡◌, ℕ, ◌<◌, ◌≤◌, true, false, List, [], ◌∷◌, length, map, All, find, is_some, Option, None, Some, slice_get, slice_index_or, if◌then◌else◌}
use Rattle.std.specs.Map.{lookup}
use Rattle.std.specs.Option.{option_map, option_or}
use Rattle.std.specs.Str.{bytes_eq}
use Rattle.object_inheritance.specs.claims.DatedLines.{dated_line}
use Rattle.object_inheritance.specs.declared.dated_lines.Found.{Found}
use Rattle.object_inheritance.specs.declared.dated_lines.Line.{Line}
use Rattle.object_inheritance.specs.declared.dated_lines.LineMarks.{LineMarks}
use Rattle.object_inheritance.specs.declared.dated_lines.Turn.{Turn}
use Rattle.object_inheritance.specs.declared.dated_lines.Turn.TheVariants.{Enter, Leave}
use Rattle.object_inheritance.specs.claims.Inherited.{first_given, given, value}
use Rattle.object_inheritance.specs.claims.Templates.{template_graph}
use Rattle.object_reader.specs.declared.block.Block.{Block}
use Rattle.object_reader.specs.declared.block.Directive.{Directive}
use Rattle.object_values.specs.claims.Ranges.{is_dated}

-- ---- the lines that are noted

-- the text of the line of a name
abbrev pub noted : List Line → List ℕ → Option (List ℕ)
noted lines name = option_map (λ line. line.text.now) (find (λ line. bytes_eq line.name.now name) lines)

-- what one directive says of the line of a name
abbrev pub said_by : Directive → List ℕ → Option (List ℕ)
said_by directive name =
    dated_line name (if bytes_eq directive.name name then Some directive.value else None)

-- each line has a name of its own, and the names are those
pub record IsFound (found : Found) : Type 0 where
  pub names : (name : List ℕ) → is_some (lookup (λ key. bytes_eq name key.now) found.names.entries)
      ≡ is_some (noted found.lines.items name)
  pub each : All (λ line. noted found.lines.items line.name.now ≡ Some line.text.now) found.lines.items

-- ---- the templates of blocks

-- the templates that the block at the place uses, in the order of its `use`
abbrev pub used_at : List Block → ℕ → List ℕ
used_at blocks place = slice_index_or (template_graph blocks) place []

-- ---- what is still to be done

abbrev pub IsTurn : List Block → Turn → Type 0
IsTurn blocks (Enter place) = place < length blocks
IsTurn blocks (Leave place) = place < length blocks

-- what is taken is the next turn, and these are left; none where there is none
abbrev pub IsNextTurn : List Turn → Option Turn → List Turn → Type 0
IsNextTurn turns None rest = turns ≡ []
IsNextTurn turns (Some turn) rest = turns ≡ turn ∷ rest

-- the blocks that are to be entered, the next first
abbrev pub to_enter : List Turn → List ℕ
to_enter [] = []
to_enter (Enter place ∷ turns) = place ∷ to_enter turns
to_enter (Leave place ∷ turns) = to_enter turns

-- what the first of the blocks has that has anything
abbrev pub first_text : List Block → List ℕ → List ℕ → Option (List ℕ)
first_text blocks name places = slice_get (first_given (map (given blocks name) places)) 0

-- the name is that of a line of dates, and none is noted
abbrev pub IsOpen : List Line → List ℕ → Type 0
IsOpen lines name = (is_dated name ≡ true) × (noted lines name ≡ None)

-- A block that is left has no line with an open name, unless a block has one that is entered before.
abbrev pub AreClosed : (List ℕ → Type 0) → List Block → List Turn → Type 0
AreClosed Open blocks [] = Unit {0}
AreClosed Open blocks (Enter place ∷ turns) =
    AreClosed (λ name. Open name × (given blocks name place ≡ [])) blocks turns
AreClosed Open blocks (Leave place ∷ turns) =
    ((name : List ℕ) → Open name → given blocks name place ≡ []) × AreClosed Open blocks turns

-- a block that is marked has no line with an open name
abbrev pub AreDone : List Block → List Line → (marks : List ℕ) → (mark : ℕ) → Type 0
AreDone blocks lines marks mark = (place : ℕ) (name : List ℕ) → slice_index_or marks place 0 ≡ mark
    → IsOpen lines name → given blocks name place ≡ []

-- Before a search the blocks that are marked have no line of dates.
pub record AreMarks (blocks : List Block) (marks : LineMarks) : Type 0 where
  pub done : AreDone blocks [] marks.marks.items marks.mark
  pub low : (place : ℕ) → slice_index_or marks.marks.items place 0 ≤ marks.mark
  pub long : length marks.marks.items ≡ length blocks

-- a search of what the block `root` has
pub record IsSearch (blocks : List Block) (root : ℕ) (lines : List Line) (marks : LineMarks)
    (turns : List Turn) : Type 0 where
  pub only_dated : (name : List ℕ) → is_dated name ≡ false → noted lines name ≡ None
  pub found : (name : List ℕ) → is_dated name ≡ true → value blocks name root
      ≡ option_or (noted lines name) (first_text blocks name (to_enter turns))
  pub are_done : AreDone blocks lines marks.marks.items marks.mark
  pub are_closed : AreClosed (IsOpen lines) blocks turns
  pub are_turns : All (IsTurn blocks) turns
  pub low : (place : ℕ) → slice_index_or marks.marks.items place 0 ≤ marks.mark
  pub long : length marks.marks.items ≡ length blocks
