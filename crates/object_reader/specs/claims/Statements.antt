-- What the joined lines of object text say, one by one (chapter "Object Configuration Overview").
use Rattle.std.specs.Prelude.{ℕ, Bool, ◌||◌, ◌==◌, List, [], ◌∷◌, codes, Result, Ok, Err, if◌then◌else◌}
use Rattle.std.specs.List.{before_first}
use Rattle.std.specs.Str.{bytes_eq}
use Rattle.object_reader.specs.declared.block.BlockKind.{BlockKind}
use Rattle.object_reader.specs.declared.block.BlockKind.TheVariants.{Host, HostGroup, Service, ServiceGroup, Contact, ContactGroup, TimePeriod, Command, HostEscalation, ServiceEscalation, HostDependency, ServiceDependency, HostExtInfo, ServiceExtInfo}
use Rattle.object_reader.specs.declared.fault.LineFault.{LineFault}
use Rattle.object_reader.specs.declared.fault.LineFault.TheVariants.{UnknownType}
use Rattle.object_reader.specs.claims.Blanks.{is_blank}

-- the first word of a statement
abbrev pub first_word : List ℕ → List ℕ
first_word s = before_first is_blank s

-- the types of object text, and the kinds that they mean (chapter "Object Definitions")
abbrev pub types : List (List ℕ × BlockKind)
types = (codes "host", Host) ∷ (codes "hostgroup", HostGroup) ∷ (codes "service", Service)
    ∷ (codes "servicegroup", ServiceGroup)
    ∷ (codes "contact", Contact) ∷ (codes "contactgroup", ContactGroup)
    ∷ (codes "timeperiod", TimePeriod) ∷ (codes "command", Command)
    ∷ (codes "hostescalation", HostEscalation) ∷ (codes "serviceescalation", ServiceEscalation)
    ∷ (codes "hostdependency", HostDependency) ∷ (codes "servicedependency", ServiceDependency)
    ∷ (codes "hostextinfo", HostExtInfo) ∷ (codes "serviceextinfo", ServiceExtInfo) ∷ []

-- the kind that a type means among these
abbrev pub kind_among : List (List ℕ × BlockKind) → List ℕ → Result BlockKind LineFault
kind_among [] name = Err UnknownType
kind_among (t ∷ ts) name = if bytes_eq name t.0 then Ok t.1 else kind_among ts name

-- The kind of block that a type means.
unfoldable pub kind_of : List ℕ → Result BlockKind LineFault
kind_of name = kind_among types name

-- whether a byte ends a type: a blank or {
abbrev pub ends_type : ℕ → Bool
ends_type b = is_blank b || b == 123

-- A block is closed by } alone.
abbrev pub is_close : List ℕ → Bool
is_close s = bytes_eq s (codes "}")

-- whether a statement begins as the next block does
abbrev pub is_define : List ℕ → Bool
is_define s = bytes_eq (first_word s) (codes "define")

-- A statement with the number of its line, or the fault of that line.
pub record Statement : Type 0 where
  pub line : ℕ
  pub text : Result (List ℕ) LineFault
