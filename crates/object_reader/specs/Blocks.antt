-- The blocks of object text (chapter "Object Configuration Overview").
use Rattle.std.specs.Prelude.{◌≡◌, ℕ, Bool, true, false, nat_lt, ◌==◌, List, [], ◌∷◌, ◌++◌, length, Result, Ok, Err, if◌then◌else◌}
use Rattle.due_model.specs.claims.Limits.{text_limit}
use Rattle.object_reader.specs.declared.block.Directive.{Directive}
use Rattle.object_reader.specs.declared.block.Block.{Block}
use Rattle.object_reader.specs.declared.fault.LineFault.{LineFault}
use Rattle.object_reader.specs.declared.fault.LineFault.TheVariants.{NoValue, Unclosed}
use Rattle.object_reader.specs.declared.fault.ReadFault.{ReadFault}
use Rattle.object_reader.specs.declared.fault.ReadFault.TheVariants.{AtLine, NoMemory, TooLarge}
use Rattle.object_reader.specs.declared.block.BlockKind.{BlockKind}
use Rattle.object_reader.specs.declared.block.BlockKind.TheVariants.{TimePeriod}
use Rattle.object_reader.specs.claims.Statements.{Statement, is_close, is_define, first_word}
use Rattle.object_reader.specs.Statements.{statements_of, opened, after_word}
use Rattle.object_reader.specs.DayLines.{day_front, day_line}
use Rattle.object_reader.specs.claims.Joined.{JoinedLine}

-- the first fault, or what comes of what was read
infixl 10 ◌>>=◌
abbrev pub ◌>>=◌ : {A B : Type 0} → Result A ReadFault → (A → Result B ReadFault)
    → Result B ReadFault
(Ok x) >>= f = f x
(Err fault) >>= f = Err fault

-- a fault with its line
abbrev pub at_line : {A : Type 0} → ℕ → Result A LineFault → Result A ReadFault
at_line n (Ok x) = Ok x
at_line n (Err fault) = Err (AtLine n fault)

-- a first word and the value after it
unfoldable pub name_and_value : List ℕ → Result Directive LineFault
name_and_value s =
    if length (after_word s) == 0 then Err NoValue
    else Ok (record { name = first_word s; value = after_word s })

-- a day line, with the words that are its name; or a name and a value
abbrev pub day_or_value : List ℕ → List ℕ → Result Directive LineFault
day_or_value s [] = name_and_value s
day_or_value s (b ∷ bs) = Ok (day_line s (b ∷ bs))

-- whether blocks of a kind are time periods
abbrev pub is_period : BlockKind → Bool
is_period TimePeriod = true
is_period kind = false

-- The directive that a statement is, in a block of the kind.
unfoldable pub directive_of : BlockKind → List ℕ → Result Directive LineFault
directive_of kind s = if is_period kind then day_or_value s (day_front s) else name_and_value s

-- blocks before those that are still to come
abbrev pub with_blocks : List Block → Result (List Block) ReadFault → Result (List Block) ReadFault
with_blocks blocks read = read >>= λ others. Ok (blocks ++ others)

-- directives before those of the block that are still to come
abbrev pub with_directives : List Directive → Result (List Directive × List Block) ReadFault
    → Result (List Directive × List Block) ReadFault
with_directives directives read = read >>= λ inside. Ok (directives ++ inside.0, inside.1)

-- the directives of a block, and the blocks after it
abbrev pub before_blocks : List Directive → Result (List Block) ReadFault
    → Result (List Directive × List Block) ReadFault
before_blocks directives blocks = blocks >>= λ others. Ok (directives, others)

unfoldable mutual
  -- Outside a block a statement opens one. What follows it up to the close are its directives, and then come
  -- the other blocks.
  pub blocks_of : List Statement → Result (List Block) ReadFault
  blocks_of [] = Ok []
  blocks_of (s ∷ ss) = do
    text ← at_line s.line s.text
    kind ← at_line s.line (opened text)
    inside ← block_of kind s.line ss
    Ok ((record { kind = kind; line = s.line; directives = inside.0 }) ∷ inside.1)

  -- In a block of a kind that a line opened: its directives, and the blocks after it.
  pub block_of : BlockKind → ℕ → List Statement → Result (List Directive × List Block) ReadFault
  block_of kind define [] = Err (AtLine define Unclosed)
  block_of kind define (s ∷ ss) = do
    text ← at_line s.line s.text
    if is_close text then before_blocks [] (blocks_of ss)
        else if is_define text then Err (AtLine define Unclosed)
        else (at_line s.line (directive_of kind text) >>= λ directive. with_directives
        (directive ∷ []) (block_of kind define ss))

-- The text of an object file: at most 16,777,216 bytes, newlines counted, that are blocks.
unfoldable pub read_text : List ℕ → Result (List Block) ReadFault
read_text text =
    if nat_lt text_limit (length text) then Err TooLarge else blocks_of (statements_of text)

-- What a function gives is what the definition gives, unless memory ran out.
abbrev pub Gives : {A : Type 0} → Result A ReadFault → Result A ReadFault → Type 0
Gives (Ok x) spelled = spelled ≡ Ok x
Gives (Err NoMemory) spelled = Unit {0}
Gives (Err (AtLine n fault)) spelled = spelled ≡ Err (AtLine n fault)
Gives (Err TooLarge) spelled = spelled ≡ Err TooLarge

-- a fault is that of the first of the statements, by its line; or memory ran out
abbrev pub FailsFirst : ReadFault → List Statement → Type 0
FailsFirst (AtLine n fault) (s ∷ ss) = (s.line ≡ n) × (s.text ≡ Err fault)
FailsFirst (AtLine n fault) [] = ⊥
FailsFirst NoMemory ss = Unit {0}
FailsFirst TooLarge ss = ⊥

-- a fault is that of the first of the joined lines, by its number; or memory ran out
abbrev pub BreaksFirst : ReadFault → List JoinedLine → Type 0
BreaksFirst (AtLine n fault) (j ∷ js) = (j.line ≡ n) × (j.text ≡ Err fault)
BreaksFirst (AtLine n fault) [] = ⊥
BreaksFirst NoMemory js = Unit {0}
BreaksFirst TooLarge js = ⊥
