-- What the joined lines of object text say, one by one (chapter "Object Configuration Overview").
use Rattle.std.specs.Prelude.{ℕ, Bool, false, ◌&&◌, ◌||◌, not, ◌==◌, List, [], ◌∷◌, length, drop, codes, Result, Ok, Err, if◌then◌else◌}
use Rattle.std.specs.List.{before_first}
use Rattle.std.specs.Str.{bytes_eq}
use Rattle.object_reader.specs.declared.block.BlockKind.{BlockKind}
use Rattle.object_reader.specs.declared.fault.LineFault.{LineFault}
use Rattle.object_reader.specs.declared.fault.LineFault.TheVariants.{NotADefine}
use Rattle.object_reader.specs.claims.Blanks.{trim_start, trimmed}
use Rattle.object_reader.specs.Lines.{lines_of}
use Rattle.object_reader.specs.claims.Joined.{JoinedLine}
use Rattle.object_reader.specs.Joined.{joined_from}
use Rattle.object_reader.specs.claims.Statements.{first_word, kind_of, ends_type, Statement}

-- whether the first byte is # or ;
abbrev pub starts_comment : List ℕ → Bool
starts_comment [] = false
starts_comment (b ∷ bs) = b == 35 || b == 59

-- whether the first byte is ;
abbrev pub starts_semicolon : List ℕ → Bool
starts_semicolon [] = false
starts_semicolon (b ∷ bs) = b == 59

-- whether a byte begins a comment: it is ; and the byte before it is no backslash
abbrev pub is_bare : ℕ → ℕ → Bool
is_bare last b = b == 59 && not (last == 92)

-- the bytes before the first ; that has no backslash before it, where the byte before them all is `last`
unfoldable pub bare_from : ℕ → List ℕ → List ℕ
bare_from last [] = []
bare_from last (b ∷ bs) = if is_bare last b then [] else b ∷ bare_from b bs

-- the bytes with ; for each \;
unfoldable pub unescaped : List ℕ → List ℕ
unescaped [] = []
unescaped (b ∷ bs) = if b == 92 && starts_semicolon bs then unescaped bs else b ∷ unescaped bs

-- What a joined line says: nothing where its first byte that is no blank is # or ;, and else what stands before
-- the first ; without a backslash before it, without the blanks at both ends, and with ; for each \;.
unfoldable pub statement : List ℕ → List ℕ
statement bs = if starts_comment (trim_start bs) then [] else unescaped (trimmed (bare_from 0 bs))

-- what stands after the first word
abbrev pub after_word : List ℕ → List ℕ
after_word s = trim_start (drop (length (first_word s)) s)

-- A block is opened by `define`, blanks, a type, blanks or none, and {.
unfoldable pub opened : List ℕ → Result BlockKind LineFault
opened s = let rest = after_word s in let name = before_first ends_type rest in
    if bytes_eq (first_word s) (codes "define") && not (length name == 0)
    && bytes_eq (trim_start (drop (length name) rest)) (codes "{")
    then kind_of name else Err NotADefine

-- the statement of a line before the others, where it isn't empty
abbrev pub before_others : ℕ → List ℕ → List Statement → List Statement
before_others n [] ss = ss
before_others n (b ∷ bs) ss = (record { line = n; text = Ok (b ∷ bs) }) ∷ ss

-- what a joined line says before the others
abbrev pub said_before : ℕ → Result (List ℕ) LineFault → List Statement → List Statement
said_before n (Err fault) ss = (record { line = n; text = Err fault }) ∷ ss
said_before n (Ok bytes) ss = before_others n (statement bytes) ss

-- The statements of joined lines. Lines that say nothing are skipped.
unfoldable pub statements_in : List JoinedLine → List Statement
statements_in [] = []
statements_in (j ∷ js) = said_before j.line j.text (statements_in js)

-- the statements of a text, whose first line has the number 1
abbrev pub statements_of : List ℕ → List Statement
statements_of text = statements_in (joined_from 1 (lines_of text))
