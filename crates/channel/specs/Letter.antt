-- The text of a letter: seven lines, and an empty one.
use Rattle.std.specs.Prelude.{◌≡◌, ℕ, zero, suc, ◌-◌, List, [], ◌∷◌, ◌++◌, codes, length, take}
use Rattle.due_model.specs.declared.config.Config.{Config}
use Rattle.due_model.specs.declared.notice.Notice.{Notice}
use Rattle.channel.specs.claims.Letter.{line, subject_lines, number_lines, letter_of}

-- a text with one line more before its empty line, which says that it may have gone out before
abbrev pub again_of : (text : List ℕ) → List ℕ
again_of text = take (length text - 1) text ++ codes "Again: yes\n\n"

-- a text that says so as often
abbrev pub again_times : ℕ → (text : List ℕ) → List ℕ
again_times zero text = text
again_times (suc k) text = again_of (again_times k text)

-- a text is that of the notice's letter, in some configuration, and may say that it goes out again
abbrev pub IsLetter : Notice → (text : List ℕ) → Type 0
IsLetter n text = (c : Config) × (k : ℕ) × (text ≡ again_times k (letter_of c n))

-- The letter that goes out again has one line more, and nothing else.
abbrev pub AgainIsALine : Type 0
AgainIsALine = (c : Config) (n : Notice)
    → again_of (letter_of c n) ≡ subject_lines c n ++ number_lines n ++ line (codes "Again: ") (codes "yes") ++ 10 ∷ []
