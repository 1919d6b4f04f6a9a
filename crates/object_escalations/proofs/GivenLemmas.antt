-- What is kept of the directives, read for a block, and the escalations made of it.
use Rattle.std.proofs.Common.{◌≡◌, ℕ, ◌+◌, ◌<◌, ◌≤◌, Bool, true, false, List, [], ◌∷◌, ◌++◌, append_assoc, length, map, take, get_or, Option, Some, refl, sym, ap, subst, ◌∙◌}
use Rattle.std.specs.Prelude.{codes, slice_get, slice_index_or, unwrap_or, if◌then◌else◌}
use Rattle.std.specs.List.{AllZip}
use Rattle.std.specs.Option.{option_map_or}
use Rattle.std.proofs.lemmas.List.{append-nil, take_all, take_more}
use Rattle.due_model.specs.declared.config.ContactId.{ContactId}
use Rattle.due_model.specs.declared.config.Escalation.{Escalation}
use Rattle.due_model.specs.declared.config.Object.{Object}
use Rattle.due_model.specs.declared.config.PeriodId.{PeriodId}
use Rattle.lemmas.proofs.Numbers.{flat_range_more}
use Rattle.lemmas.proofs.Zips.{zip-append, zip-map}
use Rattle.object_escalations.specs.claims.Entries.{AreContactsOf, AreEntriesOf, AreTold, ComesFrom, IsEscalationOf, option_kind, Origin, origins_at, origins_below}
use Rattle.object_escalations.specs.Entries.{AddsEntries}
use Rattle.object_escalations.specs.Given.{AddsTaken, IsGiven, IsTaken, IsTakenOf, list_kind}
use Rattle.object_escalations.specs.declared.given.Given.{Given}
use Rattle.object_groups.specs.claims.Objects.{is_object}
use Rattle.object_inheritance.specs.Columns.{Column}
use Rattle.object_listing.specs.claims.Listing.{AreThose, contact_directives, gives_neither, IsListed}
use Rattle.object_reader.specs.declared.block.Block.{Block}
use Rattle.object_reader.specs.declared.block.BlockKind.TheVariants.{HostEscalation}
use Rattle.object_listing.specs.claims.Readings.{letters_at}
use Rattle.object_values.specs.declared.options.OptionKind.{OptionKind}
use Rattle.object_values.specs.declared.options.OptionKind.TheVariants as lists

-- ---- what is kept

-- a value that is read of one column
pub read-are : {X : Type 0} (f : List Block → List ℕ → X) (blocks inside : List Block) (directive : List ℕ) (column : Column) → inside ≡ blocks → column ≡ record { blocks = inside; directive = directive }
    → f column.blocks column.directive ≡ f blocks directive
read-are f blocks inside directive column same are =
    ap (λ (c : Column). f c.blocks c.directive) are ∙ ap (λ (bs : List Block). f bs directive) same

-- ---- one escalation

kind-is : (blocks : List Block) (place : ℕ) (block : Block) → slice_get blocks place ≡ Some block → list_kind block ≡ option_kind blocks place
kind-is blocks place block here =
    sym (ap (λ (found : Option Block). if option_map_or (is_object HostEscalation) found false then lists.HostEscalation else lists.ServiceEscalation) here)

module _ (blocks : List Block) (place number : ℕ) (block : Block) (given : Given) (object : Object) (escalation : Escalation) (here : slice_get blocks place ≡ Some block)
    (gives : IsGiven blocks (list_kind block) place given) (taken : IsTaken given number object escalation) where
  told-are : (b : Bool) → given.lacks_contacts ≡ b → gives_neither blocks contact_directives place ≡ b → AreContactsOf blocks place object escalation.contacts
  told-are b lacks neither =
      subst (λ (c : Bool). AreTold c blocks place object escalation.contacts) (sym neither) (by_case b lacks)
    where
      by_case : (c : Bool) → given.lacks_contacts ≡ c → AreTold c blocks place object escalation.contacts
      by_case true is = taken.contacts ∙ ap (λ (c : Bool). if c then object.contacts else given.contacts.now) is
      by_case false is = subst (λ (contacts : List ContactId). AreThose (IsListed blocks contact_directives place) (map (λ contact. contact.0) contacts))
          (sym (taken.contacts ∙ ap (λ (c : Bool). if c then object.contacts else given.contacts.now) is)) gives.contacts

  escalation-is : IsEscalationOf blocks place number object escalation
  escalation-is = record {
    object_is = taken.object_is;
    first = taken.first ∙ gives.first;
    last = taken.last ∙ gives.last;
    interval = taken.interval ∙ ap (λ (own : Option ℕ). unwrap_or own object.interval) gives.interval;
    period = taken.period ∙ ap (λ (own : Option (Option PeriodId)). unwrap_or own object.period) gives.period;
    options = taken.options ∙ gives.options ∙ ap (λ (kind : OptionKind). letters_at blocks (codes "escalation_options") kind place) (kind-is blocks place block here);
    contacts = told-are given.lacks_contacts refl (sym gives.lacks);
  }

-- ---- the escalations of a block

pub taken-none : (given : Given) (objects : List Object) (escalations : List Escalation) → AddsTaken given objects [] escalations escalations
taken-none given objects escalations = record { added = []; are = sym (append-nil escalations); all = tt }

pub taken-more : (given : Given) (objects : List Object) (numbers : List ℕ) (i d : ℕ) (object : Object) (escalation : Escalation) (first old new : List Escalation) → i < length numbers
    → slice_get objects (get_or numbers i d) ≡ Some object → IsTaken given (get_or numbers i d) object escalation → AddsTaken given objects (take i numbers) first old
    → new ≡ old ++ escalation ∷ [] → AddsTaken given objects (take (i + 1) numbers) first new
taken-more given objects numbers i d object escalation first old new within here taken before are = record {
  added = before.added ++ escalation ∷ [];
  are = are ∙ ap (λ (es : List Escalation). es ++ escalation ∷ []) before.are ∙ append_assoc first before.added (escalation ∷ []);
  all = subst (λ (ns : List ℕ). AllZip (IsTakenOf given objects) ns (before.added ++ escalation ∷ [])) (sym (take_more numbers i d within))
      (zip-append (IsTakenOf given objects) (take i numbers) (get_or numbers i d ∷ []) before.added (escalation ∷ []) before.all ((object, here, taken), tt));
}

pub taken-all : (given : Given) (objects : List Object) (numbers : List ℕ) (i : ℕ) (first new : List Escalation) → length numbers ≤ i → AddsTaken given objects (take i numbers) first new
    → AddsTaken given objects numbers first new
taken-all given objects numbers i first new all before = subst (λ (ns : List ℕ). AddsTaken given objects ns first new) (take_all i numbers all) before

-- as entries of the blocks
pub block-entries : (blocks : List Block) (place : ℕ) (block : Block) (given : Given) (objects : List Object) (numbers : List ℕ) (old new : List Escalation)
    → slice_get blocks place ≡ Some block → IsGiven blocks (list_kind block) place given → AddsTaken given objects numbers old new
    → AddsEntries blocks objects (origins_at place numbers) old new
block-entries blocks place block given objects numbers old new here gives adds = record {
  added = adds.added;
  are = adds.are;
  all = zip-map (λ number. record { place = place; number = number }) (IsTakenOf given objects) (ComesFrom blocks objects)
      (λ number escalation taken. (taken.0, taken.1, escalation-is blocks place number block given taken.0 escalation here gives taken.2))
      numbers adds.added adds.all;
}

pub no-entries : (blocks : List Block) (objects : List Object) (place : ℕ) (numbers : List ℕ) (escalations : List Escalation) → numbers ≡ []
    → AddsEntries blocks objects (origins_at place numbers) escalations escalations
no-entries blocks objects place numbers escalations none =
    subst (λ (ns : List ℕ). AddsEntries blocks objects (origins_at place ns) escalations escalations) (sym none)
    (record { added = []; are = sym (append-nil escalations); all = tt })

-- ---- those of all blocks

pub entries-more : (blocks : List Block) (objects : List Object) (spoken : List (List ℕ)) (place : ℕ) (numbers : List ℕ) (old new : List Escalation)
    → numbers ≡ slice_index_or spoken place [] → AllZip (ComesFrom blocks objects) (origins_below spoken place) old
    → AddsEntries blocks objects (origins_at place numbers) old new → AllZip (ComesFrom blocks objects) (origins_below spoken (place + 1)) new
entries-more blocks objects spoken place numbers old new are before adds =
    subst (λ (es : List Escalation). AllZip (ComesFrom blocks objects) (origins_below spoken (place + 1)) es) (sym adds.are)
    (subst (λ (origins : List Origin). AllZip (ComesFrom blocks objects) origins (old ++ adds.added)) (sym (flat_range_more (λ at. origins_at at (slice_index_or spoken at [])) place))
    (zip-append (ComesFrom blocks objects) (origins_below spoken place) (origins_at place (slice_index_or spoken place [])) old adds.added before
    (subst (λ (ns : List ℕ). AllZip (ComesFrom blocks objects) (origins_at place ns) adds.added) are adds.all)))

pub entries-all : (blocks : List Block) (objects : List Object) (spoken : List (List ℕ)) (place : ℕ) (escalations : List Escalation) → place ≡ length spoken
    → AllZip (ComesFrom blocks objects) (origins_below spoken place) escalations → AreEntriesOf blocks objects spoken escalations
entries-all blocks objects spoken place escalations end before =
    subst (λ (n : ℕ). AllZip (ComesFrom blocks objects) (origins_below spoken n) escalations) end before
