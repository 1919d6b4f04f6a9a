-- How statements of object text are spelled (chapter "Object Configuration Overview").
use Rattle.std.specs.Prelude.{◌≡◌, ℕ, ◌<◌, ◌⊎◌, ◌==◌, not, false, IsTrue, List, [], ◌∷◌, ◌++◌, length, codes}
use Rattle.std.specs.List.{list_all}
use Rattle.object_reader.specs.declared.block.BlockKind.{BlockKind}
use Rattle.object_reader.specs.declared.block.BlockKind.TheVariants.{TimePeriod}
use Rattle.object_reader.specs.declared.block.Directive.{Directive}
use Rattle.object_reader.specs.claims.Blanks.{is_blank, AreBlanks, HasNoBlank, IsTight}
use Rattle.object_reader.specs.claims.Joined.{EndsInBackslash}
use Rattle.object_reader.specs.claims.Statements.{ends_type}
use Rattle.object_reader.specs.claims.DayLines.{separated, IsDayLine}

-- The bytes are a comment: blanks or none, and then # or ;.
pub record IsComment (bs : List ℕ) : Type 0 where
  pub before : List ℕ
  pub mark : ℕ
  pub others : List ℕ
  pub parts : bs ≡ before ++ mark ∷ others
  pub blank : AreBlanks before
  pub marks : (mark ≡ 35) ⊎ (mark ≡ 59)

-- The statement is the bytes with ; for each \;, and each ; of the bytes is one of these.
pub record IsUnescaped (bs s : List ℕ) : Type 0 where
  pub first : List ℕ
  pub others : List (List ℕ)
  pub written : bs ≡ separated (92 ∷ 59 ∷ []) first others
  pub meant : s ≡ separated (59 ∷ []) first others
  pub no_semicolon : IsTrue (list_all (list_all (λ b. not (b == 59))) (first ∷ others))

-- The statement is what the bytes say that are no comment: without what begins with the first ; that has no backslash
-- before it, without the blanks at both ends, and with ; for each \;.
pub record IsKept (bs s : List ℕ) : Type 0 where
  pub before : List ℕ
  pub core : List ℕ
  pub after : List ℕ
  pub dropped : List ℕ
  pub parts : bs ≡ (before ++ (core ++ after)) ++ dropped
  pub before_blank : AreBlanks before
  pub after_blank : AreBlanks after
  pub tight : IsTight core
  pub escapes : IsUnescaped core s
  pub comment : (dropped ≡ [])
      ⊎ ((others : List ℕ) × (dropped ≡ 59 ∷ others)
      × (EndsInBackslash (before ++ (core ++ after)) → ⊥))

-- What the bytes of a joined line say: nothing where they are a comment, and else the statement that is kept.
abbrev pub Says : List ℕ → List ℕ → Type 0
Says bs s = (IsComment bs × (s ≡ [])) ⊎ ((IsComment bs → ⊥) × IsKept bs s)

-- The statement is `define`, blanks, the type, blanks or none, and {. A type is bytes other than blanks and {.
pub record IsDefine (s name : List ℕ) : Type 0 where
  pub before : List ℕ
  pub after : List ℕ
  pub parts : s ≡ codes "define" ++ (before ++ (name ++ (after ++ codes "{")))
  pub before_blank : AreBlanks before
  pub some_blank : 0 < length before
  pub type_bytes : IsTrue (list_all (λ b. not (ends_type b)) name)
  pub some_type : 0 < length name
  pub after_blank : AreBlanks after

-- The statement is the directive's name, blanks, and its value. A name has no blank, and a value doesn't begin with one.
pub record IsNameAndValue (s : List ℕ) (d : Directive) : Type 0 where
  pub between : List ℕ
  pub first : ℕ
  pub others : List ℕ
  pub parts : s ≡ d.name ++ (between ++ d.value)
  pub word : HasNoBlank d.name
  pub blank : AreBlanks between
  pub some_blank : 0 < length between
  pub value : d.value ≡ first ∷ others
  pub begins : is_blank first ≡ false

-- The statement is the directive as a day line, in a block that is a time period.
abbrev pub IsDay : BlockKind → List ℕ → Directive → Type 0
IsDay kind s d = (kind ≡ TimePeriod) × IsDayLine s d

-- The statement is the directive, in a block of the kind: as a day line, or, where it is spelled as none, as a name and a
-- value.
abbrev pub IsSpelled : BlockKind → List ℕ → Directive → Type 0
IsSpelled kind s d = IsDay kind s d ⊎ (((x : Directive) → IsDay kind s x → ⊥) × IsNameAndValue s d)
