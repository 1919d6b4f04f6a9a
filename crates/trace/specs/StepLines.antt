-- The step lines of a trace, and what becomes of them in order.
use Rattle.std.specs.Prelude.{◌≡◌, ℕ, ◌+◌, ◌<◌, ◌≤◌, ◌==◌, All, Bool, true, false, List, [], ◌∷◌, ◌++◌, length, flat_map, ◌⊎◌, if◌then◌else◌, Option}
use Rattle.due_model.specs.declared.config.Config.{Config}
use Rattle.written.specs.claims.Written.{Leaves, WritesFront}
use Rattle.event_feed.specs.claims.Feed.{feed_limit, least_at_read}
use Rattle.text_lines.specs.claims.LineReader.{byte_limit}
use Rattle.text_lines.specs.LineReader.{BeginsUnbroken}
use Rattle.text_lines.specs.Lines.{BeginsWithLine, IsUnbroken}
use Rattle.world_steps.specs.claims.Worlds.{Setup}
use Rattle.trace.specs.Run.{RunState, DoesLine}

-- lines, each with its newline
abbrev pub with_newline : List ℕ → List ℕ
with_newline line = line ++ 10 ∷ []

-- the bytes are these lines, each with its newline, and then others; they are as many and as long as may be read
pub record AreLines (bytes : List ℕ) (lines : List (List ℕ)) (rest : List ℕ) : Type 0 where
  pub whole : bytes ≡ flat_map with_newline lines ++ rest
  pub unbroken : All IsUnbroken lines
  pub few : length lines ≤ feed_limit
  pub short : All (λ line. length line ≤ byte_limit) lines

-- What becomes of step lines in order, numbered from this number on, and the text that is written of them.
abbrev pub DoesLines : Config → (deciders : ℕ) → Setup → (number : ℕ) → (lines : List (List ℕ))
    → (old new : RunState) → (text : List ℕ) → Type 0
DoesLines c deciders s number [] old new text = (new ≡ old) × (text ≡ [])
DoesLines c deciders s number (line ∷ lines) old new text =
    (mid : RunState) × (first : List ℕ) × (others : List ℕ)
    × DoesLine c deciders s number line old mid first
    × DoesLines c deciders s (number + 1) lines mid new others × (text ≡ first ++ others)

-- a last line without a newline, if it isn't empty
abbrev pub last_line : List ℕ → List (List ℕ)
last_line last = if length last == 0 then [] else last ∷ []

-- What becomes of the steps after the mark, all of them read: the bytes are lines, of which the last may lack its
-- newline. As in a feed, after as many lines as may be read nothing is, not even the end.
abbrev pub DoesAll : Config → (deciders : ℕ) → Setup → (bytes : List ℕ) → (old new : RunState)
    → (text : List ℕ) → Type 0
DoesAll c deciders s bytes old new text =
    (lines : List (List ℕ)) × (last : List ℕ) × AreLines bytes lines last × IsUnbroken last
    × (length lines < feed_limit) × (length last ≤ byte_limit)
    × DoesLines c deciders s 1 (lines ++ last_line last) old new text

-- the next line is one at which the reading may break off: any, where the reader can fail; else one that may take too many
-- calls
abbrev pub MayBreakOff : (can_fail : Bool) → (bytes : List ℕ) → Type 0
MayBreakOff can_fail bytes = BeginsUnbroken bytes (least_at_read can_fail)

-- Some of the lines were read, and then the reading broke off, or as many lines were read as may be.
abbrev pub DoesSome : (can_fail : Bool) → Config → (deciders : ℕ) → Setup → (bytes : List ℕ)
    → (old new : RunState)
    → (text : List ℕ) → Type 0
DoesSome can_fail c deciders s bytes old new text =
    (lines : List (List ℕ)) × (rest : List ℕ) × AreLines bytes lines rest
    × DoesLines c deciders s 1 lines old new text
    × (MayBreakOff can_fail rest ⊎ (length lines ≡ feed_limit))

-- whether all were read
abbrev pub DoesSteps : (can_fail : Bool) → Config → (deciders : ℕ) → Setup → (bytes : List ℕ)
    → (all : Bool)
    → (old new : RunState) → (text : List ℕ) → Type 0
DoesSteps can_fail c deciders s bytes true old new text = DoesAll c deciders s bytes old new text
DoesSteps can_fail c deciders s bytes false old new text =
    DoesSome can_fail c deciders s bytes old new text

-- what becomes of the first step lines, or of all of them
abbrev pub DoesFirst : Config → (deciders : ℕ) → Setup → (bytes : List ℕ) → (old : RunState)
    → (text : List ℕ) → Type 0
DoesFirst c deciders s bytes old text =
    ((lines : List (List ℕ)) × (rest : List ℕ) × (new : RunState) × AreLines bytes lines rest
    × DoesLines c deciders s 1 lines old new text)
    ⊎ ((new : RunState) × DoesAll c deciders s bytes old new text)

-- the next line was read, and what becomes of it is on the way to the writer
abbrev pub DoesNext : Config → (deciders : ℕ) → Setup → (number : ℕ) → (bytes rest : List ℕ)
    → (old new : RunState) → (before after : Option (List ℕ)) → (held held' : List ℕ) → Type 0
DoesNext c deciders s number bytes rest old new before after held held' =
    (line : List ℕ) × (text : List ℕ) × BeginsWithLine bytes line rest
    × (length line ≤ byte_limit)
    × DoesLine c deciders s number line old new text × Leaves before after (held ++ text) held'

-- no line was left but one that the end of the input cut, and what becomes of that; or the reading failed
abbrev pub DoesLast : (can_fail : Bool) → Config → (deciders : ℕ) → Setup → (number : ℕ)
    → (bytes : List ℕ)
    → (all : Bool)
    → (old new : RunState) → (before after : Option (List ℕ)) → (held held' : List ℕ) → Type 0
DoesLast can_fail c deciders s number bytes true old new before after held held' =
    (text : List ℕ) × IsUnbroken bytes × (length bytes ≤ byte_limit)
    × DoesLines c deciders s number (last_line bytes) old new text
    × Leaves before after (held ++ text) held'
DoesLast can_fail c deciders s number bytes false old new before after held held' =
    (new ≡ old) × MayBreakOff can_fail bytes × Leaves before after held held'

-- a front of what is held is written, or of that and what becomes of the next line, whole or not
abbrev pub NextFront : Config → (deciders : ℕ) → Setup → (number : ℕ) → (bytes : List ℕ)
    → (old : RunState) → (before after : Option (List ℕ)) → (held : List ℕ) → Type 0
NextFront c deciders s number bytes old before after held =
    WritesFront before after held
    ⊎ ((rest : List ℕ) × (new : RunState) × (left : List ℕ)
    × DoesNext c deciders s number bytes rest old new before after held left)
    ⊎ ((new : RunState) × (left : List ℕ)
    × DoesLast true c deciders s number bytes true old new before after held left)

-- a front of what becomes of the first steps is written, after what is held
abbrev pub StepsFront : Config → (deciders : ℕ) → Setup → (bytes : List ℕ) → (old : RunState)
    → (before after : Option (List ℕ)) → (held : List ℕ) → Type 0
StepsFront c deciders s bytes old before after held =
    (text : List ℕ) × DoesFirst c deciders s bytes old text
    × WritesFront before after (held ++ text)

-- what becomes of the steps, and its text on the way to the writer
abbrev pub WritesSteps : (can_fail : Bool) → Config → (deciders : ℕ) → Setup → (bytes : List ℕ)
    → (all : Bool)
    → (old new : RunState) → (before after : Option (List ℕ)) → (held held' : List ℕ) → Type 0
WritesSteps can_fail c deciders s bytes all old new before after held held' =
    (text : List ℕ) × DoesSteps can_fail c deciders s bytes all old new text
    × Leaves before after (held ++ text) held'

-- so many step lines were read, and what became of them is on the way to the writer
abbrev pub DoesSoFar : Config → (deciders : ℕ) → Setup → (count : ℕ) → (bytes rest : List ℕ)
    → (old new : RunState) → (before after : Option (List ℕ)) → (held held' : List ℕ) → Type 0
DoesSoFar c deciders s count bytes rest old new before after held held' =
    (lines : List (List ℕ)) × (text : List ℕ) × AreLines bytes lines rest × (length lines ≡ count)
    × DoesLines c deciders s 1 lines old new text × Leaves before after (held ++ text) held'
