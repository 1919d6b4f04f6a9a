-- The lanes, and the lanes that a list names.
use Rattle.std.proofs.Common.{◌≡◌, ℕ, Bool, false, List, length, replicate, get_or, sym, ap, subst, ◌∙◌}
use Rattle.std.specs.Prelude.{codes}
use Rattle.std.proofs.lemmas.Bool.{false≢true}
use Rattle.std.proofs.lemmas.List.{length-replicate}
use Rattle.lemmas.proofs.Lists.{none-marked}
use Rattle.object_contacts.specs.claims.Lanes.{AreLanes, IsLane, IsUsed, NamesCommand}
use Rattle.object_contacts.specs.Lanes.{AreRead}
use Rattle.object_contacts.specs.Marks.{marked, Marks, OfSome}
use Rattle.object_contacts.proofs.MarkLemmas.{are-lanes, marks-both}
use Rattle.object_groups.specs.claims.Objects.{list_at, names_in, objects_in}
use Rattle.object_groups.specs.Objects.{ObjectsOf}
use Rattle.object_inheritance.specs.Columns.{Column}
use Rattle.object_reader.specs.declared.block.Block.{Block}
use Rattle.object_reader.specs.declared.block.BlockKind.TheVariants.{Command, Contact}

-- no list was read yet
pub nothing-read : (commands : List (List ℕ)) (values : Column) (read marks : List Bool) (count : ℕ) → read ≡ replicate count false → AreRead commands values read marks
nothing-read commands values read marks count is = record {
  each = λ at mark command names. absurd (false≢true (sym (ap (λ (ms : List Bool). get_or ms at false) is ∙ none-marked count at) ∙ mark));
}

-- what is marked for a directive
pub used-for : (blocks : List Block) (directive : List ℕ) (column : Column) (contacts commands : ObjectsOf) (names : List (List ℕ)) (places : List ℕ) (old new : List Bool)
    → (given : List ℕ) → column ≡ record { blocks = blocks; directive = given } → given ≡ directive → contacts ≡ record { blocks = blocks; kind = Contact } → commands ≡ record { blocks = blocks; kind = Command }
    → names ≡ names_in commands.blocks commands.kind → places ≡ objects_in contacts.blocks contacts.kind
    → Marks (OfSome (λ place. NamesCommand names (list_at column.blocks column.directive place)) places) old new → Marks (IsUsed blocks directive) old new
used-for blocks directive column contacts commands names places old new given column_is given_is contacts_are commands_are names_are places_are marks =
    let named : names ≡ names_in blocks Command = names_are ∙ ap (λ (o : ObjectsOf). names_in o.blocks o.kind) commands_are in
    let placed : places ≡ objects_in blocks Contact = places_are ∙ ap (λ (o : ObjectsOf). objects_in o.blocks o.kind) contacts_are in
    subst (λ (ps : List ℕ). Marks (OfSome (λ place. NamesCommand (names_in blocks Command) (list_at blocks directive place)) ps) old new) placed
    (subst (λ (ns : List (List ℕ)). Marks (OfSome (λ place. NamesCommand ns (list_at blocks directive place)) places) old new) named
    (subst (λ (d : List ℕ). Marks (OfSome (λ place. NamesCommand names (list_at blocks d place)) places) old new) given_is
    (subst (λ (c : Column). Marks (OfSome (λ place. NamesCommand names (list_at c.blocks c.directive place)) places) old new) column_is marks)))

-- the lanes, from what is marked for both directives
pub lanes-are : (blocks : List Block) (n : ℕ) (first middle last : List Bool) (numbers : List ℕ) → first ≡ replicate n false
    → Marks (IsUsed blocks (codes "host_notification_commands")) first middle → Marks (IsUsed blocks (codes "service_notification_commands")) middle last
    → numbers ≡ marked last → AreLanes (IsLane blocks) numbers
lanes-are blocks n first middle last numbers none hosts services are =
    are-lanes (IsLane blocks) n first last numbers none are
    (marks-both (IsUsed blocks (codes "host_notification_commands")) (IsUsed blocks (codes "service_notification_commands")) first middle last hosts services)

-- how many marks there are
pub marks-length : (n : ℕ) → length (replicate n false) ≡ n
marks-length n = length-replicate {A = Bool} n false

-- the same marks under other names
pub marks-moved : (P : ℕ → Type 0) (old first new last : List Bool) → old ≡ first → new ≡ last → Marks P old new → Marks P first last
marks-moved P old first new last old_is new_is marks = subst (λ (ms : List Bool). Marks P first ms) new_is (subst (λ (ms : List Bool). Marks P ms new) old_is marks)
