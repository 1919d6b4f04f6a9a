-- The text of a letter: seven lines, and an empty one.
use Rattle.std.specs.Prelude.{ℕ, ◌-◌, List, [], ◌∷◌, ◌++◌, codes, decimal}
use Rattle.due_model.specs.declared.config.Config.{Config}
use Rattle.due_model.specs.declared.notice.Notice.{Notice}
use Rattle.notice_text.specs.claims.Names.{kind_name, state_name}
use Rattle.notice_text.specs.claims.Texts.{contact_text, number_text, object_text}

-- a line: its label, what it says, a newline
abbrev pub line : (label said : List ℕ) → List ℕ
line label said = label ++ said ++ 10 ∷ []

-- who it is for, and what happened to which object
unfoldable pub subject_lines : Config → Notice → List ℕ
subject_lines c n =
    line (codes "To: ") (contact_text c n.contact.0)
    ++ line (codes "Kind: ") (kind_name n.kind)
    ++ line (codes "Object: ") (object_text c n.object.0)
    ++ line (codes "State: ") (state_name n.state)

-- the number of the notice, and the moment and the number of its event
unfoldable pub number_lines : Notice → List ℕ
number_lines n =
    line (codes "Number: ") (number_text n.number)
    ++ line (codes "Moment: ") (decimal n.moment)
    ++ line (codes "Event: ") (decimal n.event)

-- the text of a notice's letter
abbrev pub letter_of : Config → Notice → List ℕ
letter_of c n = subject_lines c n ++ number_lines n ++ 10 ∷ []
