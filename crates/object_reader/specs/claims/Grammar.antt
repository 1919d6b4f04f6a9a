-- Object text, as it is written: blocks, one after the other (chapter "Object Configuration Overview").
use Rattle.std.specs.Prelude.{◌≡◌, ℕ, ◌<◌, ◌≤◌, ◌⊎◌, false, true, List, [], ◌∷◌, ◌++◌, length, Option, None, Some, Ok, Err}
use Rattle.due_model.specs.claims.Limits.{text_limit}
use Rattle.object_reader.specs.declared.block.BlockKind.{BlockKind}
use Rattle.object_reader.specs.declared.block.Directive.{Directive}
use Rattle.object_reader.specs.declared.block.Block.{Block}
use Rattle.object_reader.specs.declared.fault.LineFault.{LineFault}
use Rattle.object_reader.specs.declared.fault.LineFault.TheVariants.{NotADefine, NoValue, Unclosed}
use Rattle.object_reader.specs.declared.fault.ReadFault.{ReadFault}
use Rattle.object_reader.specs.declared.fault.ReadFault.TheVariants.{AtLine, NoMemory, TooLarge}
use Rattle.object_reader.specs.claims.Lines.{Line, AreLines}
use Rattle.object_reader.specs.claims.Joined.{JoinedLine, AreJoined}
use Rattle.object_reader.specs.claims.Statements.{Statement, kind_of, is_close, is_define}
use Rattle.object_reader.specs.claims.Spelling.{Says, IsDefine, IsSpelled}

-- The statements are what the joined lines say, in order: one that is at fault is kept with its fault, and one that says
-- nothing is left out.
abbrev pub AreStatements : List JoinedLine → List Statement → Type 0
AreStatements [] ss = ss ≡ []
AreStatements (j ∷ js) ss =
    ((f : LineFault) × (others : List Statement) × (j.text ≡ Err f)
    × (ss ≡ (record { line = j.line; text = Err f }) ∷ others) × AreStatements js others)
    ⊎ (((bytes : List ℕ) × (j.text ≡ Ok bytes) × Says bytes [] × AreStatements js ss)
    ⊎ ((bytes : List ℕ) × (text : List ℕ) × (others : List Statement) × (j.text ≡ Ok bytes)
    × Says bytes text × (0 < length text)
    × (ss ≡ (record { line = j.line; text = Ok text }) ∷ others) × AreStatements js others))

-- The statement opens the block: it stands at the block's line, and is a define with the type of its kind.
pub record Opens (s : Statement) (b : Block) : Type 0 where
  pub text : List ℕ
  pub says : s ≡ record { line = b.line; text = Ok text }
  pub name : List ℕ
  pub define : IsDefine text name
  pub kind : kind_of name ≡ Ok b.kind

-- The statement is the directive, in a block of the kind: it neither closes a block nor begins the next.
pub record IsDirective (kind : BlockKind) (s : Statement) (d : Directive) : Type 0 where
  pub text : List ℕ
  pub says : s.text ≡ Ok text
  pub no_close : is_close text ≡ false
  pub no_define : is_define text ≡ false
  pub value : IsSpelled kind text d

-- The statement closes a block.
pub record Closes (s : Statement) : Type 0 where
  pub text : List ℕ
  pub says : s.text ≡ Ok text
  pub closes : is_close text ≡ true

-- The statements are the directives of a block of the kind, in order.
abbrev pub AreDirectives : BlockKind → List Statement → List Directive → Type 0
AreDirectives kind [] [] = Unit {0}
AreDirectives kind [] (d ∷ ds) = ⊥
AreDirectives kind (s ∷ ss) [] = ⊥
AreDirectives kind (s ∷ ss) (d ∷ ds) = IsDirective kind s d × AreDirectives kind ss ds

-- The statements of a block: one that opens it, its directives, and one that closes it.
pub record IsBlock (ss : List Statement) (b : Block) : Type 0 where
  pub head : Statement
  pub body : List Statement
  pub close : Statement
  pub parts : ss ≡ head ∷ (body ++ close ∷ [])
  pub opens : Opens head b
  pub directives : AreDirectives b.kind body b.directives
  pub closes : Closes close

-- The statements are those of the blocks, one block after the other, and no others.
abbrev pub AreBlocks : List Statement → List Block → Type 0
AreBlocks ss [] = ss ≡ []
AreBlocks ss (b ∷ bs) =
    (first : List Statement) × (others : List Statement) × (ss ≡ first ++ others) × IsBlock first b
    × AreBlocks others bs

-- The text says these statements: its lines, of which the first has the number 1, make joined lines, and what these say
-- are the statements.
pub record HasStatements (text : List ℕ) (statements : List Statement) : Type 0 where
  pub lines : List Line
  pub joined : List JoinedLine
  pub split : AreLines text lines
  pub joins : AreJoined 1 lines joined
  pub says : AreStatements joined statements

-- The text is that of the blocks: at most 16,777,216 bytes, newlines counted, and its statements are the blocks.
pub record IsObjectText (text : List ℕ) (blocks : List Block) : Type 0 where
  pub statements : List Statement
  pub fits : length text ≤ text_limit
  pub has : HasStatements text statements
  pub parts : AreBlocks statements blocks

-- The statements up to a fault: whole blocks, and of a block that is still open, if there is one, the first
-- statement and some directives.
abbrev pub IsBeginning : List Statement → Option Block → Type 0
IsBeginning ss None = (whole : List Block) × AreBlocks ss whole
IsBeginning ss (Some b) =
    (before : List Statement) × (whole : List Block) × (head : Statement) × (body : List Statement)
    × (ss ≡ before ++ head ∷ body) × AreBlocks before whole × Opens head b
    × AreDirectives b.kind body b.directives

-- The statement opens no block: its type is none of the types, or it is no define.
abbrev pub OpensNone : List ℕ → LineFault → Type 0
OpensNone text f =
    ((name : List ℕ) × IsDefine text name × (kind_of name ≡ Err f))
    ⊎ (((name : List ℕ) → IsDefine text name → ⊥) × (f ≡ NotADefine))

-- The statement is at fault: its line is, or outside a block it opens none, or in a block it begins the next one or
-- is no name with a value.
abbrev pub IsFaulty : Option Block → Statement → ReadFault → Type 0
IsFaulty None s fault =
    (f : LineFault) × (fault ≡ AtLine s.line f)
    × ((s.text ≡ Err f) ⊎ ((text : List ℕ) × (s.text ≡ Ok text) × OpensNone text f))
IsFaulty (Some b) s fault = ((f : LineFault) × (fault ≡ AtLine s.line f) × (s.text ≡ Err f))
    ⊎ (((text : List ℕ) × (s.text ≡ Ok text) × (is_close text ≡ false) × (is_define text ≡ true)
    × (fault ≡ AtLine b.line Unclosed))
    ⊎ ((text : List ℕ) × (s.text ≡ Ok text) × (is_close text ≡ false) × (is_define text ≡ false)
    × ((d : Directive) → IsSpelled b.kind text d → ⊥) × (fault ≡ AtLine s.line NoValue)))

-- The first fault of the statements: everything before it is in order, and either the next statement is at fault,
-- or a block is open at the end.
abbrev pub IsFirstFault : List Statement → ReadFault → Type 0
IsFirstFault ss fault =
    ((before : List Statement) × (s : Statement) × (after : List Statement)
    × (within : Option Block)
    × (ss ≡ before ++ s ∷ after) × IsBeginning before within × IsFaulty within s fault)
    ⊎ ((b : Block) × IsBeginning ss (Some b) × (fault ≡ AtLine b.line Unclosed))

-- The text is refused with this fault: it is too large, or it isn't and this is its first fault.
abbrev pub IsRefused : List ℕ → ReadFault → Type 0
IsRefused text TooLarge = text_limit < length text
IsRefused text (AtLine n fault) =
    (statements : List Statement) × (length text ≤ text_limit) × HasStatements text statements
    × IsFirstFault statements (AtLine n fault)
IsRefused text NoMemory = ⊥
