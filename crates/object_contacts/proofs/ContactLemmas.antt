-- The contacts so far.
use Rattle.std.proofs.Common.{◌≡◌, ℕ, Bool, ◌+◌, ◌<◌, List, [], ◌∷◌, ◌++◌, length, take, get_or, sym, ap, subst, take_all, ◌≤◌, ◌∙◌}
use Rattle.std.specs.List.{AllZip}
use Rattle.std.proofs.lemmas.List.{get_or-map, take_more}
use Rattle.std.proofs.lemmas.Slice.Zip.{all_zipped_more}
use Rattle.due_model.specs.declared.config.Contact as model
use Rattle.object_contacts.specs.claims.Contacts.{AreContactsOf, IsContactOf}
use Rattle.object_groups.specs.claims.Objects.{name_at, names_in, objects_in}
use Rattle.object_groups.specs.Objects.{ObjectsOf}
use Rattle.object_reader.specs.declared.block.Block.{Block}
use Rattle.object_reader.specs.declared.block.BlockKind.TheVariants.{Contact}

-- the name of the contact of a number
pub name-is : (blocks inside : List Block) (contacts : ObjectsOf) (names : List (List ℕ)) (places : List ℕ) (i : ℕ) (name : List ℕ)
    → contacts ≡ record { blocks = blocks; kind = Contact } → inside ≡ blocks → names ≡ names_in contacts.blocks contacts.kind → places ≡ objects_in contacts.blocks contacts.kind
    → i < length places → name ≡ get_or names i [] → name ≡ name_at inside Contact (get_or places i 0)
unfolding names_in
name-is blocks inside contacts names places i name contacts_are same names_are places_are within is =
    let named : names ≡ names_in blocks Contact = names_are ∙ ap (λ (o : ObjectsOf). names_in o.blocks o.kind) contacts_are in
    let placed : places ≡ objects_in blocks Contact = places_are ∙ ap (λ (o : ObjectsOf). objects_in o.blocks o.kind) contacts_are in
    let low : i < length (objects_in blocks Contact) = subst (λ (ps : List ℕ). i < length ps) placed within in
    is ∙ ap (λ (ns : List (List ℕ)). get_or ns i []) named ∙ get_or-map (name_at blocks Contact) (objects_in blocks Contact) i 0 [] low
    ∙ ap (λ (ps : List ℕ). name_at blocks Contact (get_or ps i 0)) (sym placed) ∙ ap (λ (bs : List Block). name_at bs Contact (get_or places i 0)) (sym same)

-- one contact more
pub contacts-more : (daemons : Bool) (blocks inside : List Block) (lane_commands : List ℕ) (contacts : ObjectsOf) (places : List ℕ) (i : ℕ) (old new : List model.Contact) (contact : model.Contact)
    → contacts ≡ record { blocks = blocks; kind = Contact } → inside ≡ blocks → places ≡ objects_in contacts.blocks contacts.kind → i < length places → new ≡ old ++ contact ∷ []
    → AllZip (IsContactOf daemons blocks lane_commands) (take i (objects_in blocks Contact)) old → IsContactOf daemons inside lane_commands (get_or places i 0) contact
    → AllZip (IsContactOf daemons blocks lane_commands) (take (i + 1) (objects_in blocks Contact)) new
contacts-more daemons blocks inside lane_commands contacts places i old new contact contacts_are same places_are within more before is =
    let placed : places ≡ objects_in blocks Contact = places_are ∙ ap (λ (o : ObjectsOf). objects_in o.blocks o.kind) contacts_are in
    let low : i < length (objects_in blocks Contact) = subst (λ (ps : List ℕ). i < length ps) placed within in
    let here : IsContactOf daemons blocks lane_commands (get_or (objects_in blocks Contact) i 0) contact =
    subst (λ (ps : List ℕ). IsContactOf daemons blocks lane_commands (get_or ps i 0) contact) placed
    (subst (λ (bs : List Block). IsContactOf daemons bs lane_commands (get_or places i 0) contact) same is) in
    subst (λ (cs : List model.Contact). AllZip (IsContactOf daemons blocks lane_commands) (take (i + 1) (objects_in blocks Contact)) cs) (sym more)
    (subst (λ (ps : List ℕ). AllZip (IsContactOf daemons blocks lane_commands) ps (old ++ contact ∷ [])) (sym (take_more (objects_in blocks Contact) i 0 low))
    (all_zipped_more (IsContactOf daemons blocks lane_commands) (take i (objects_in blocks Contact)) old (get_or (objects_in blocks Contact) i 0) contact before here))

-- all contacts
pub contacts-all : (daemons : Bool) (blocks : List Block) (lane_commands : List ℕ) (contacts : ObjectsOf) (places : List ℕ) (i : ℕ) (made : List model.Contact)
    → contacts ≡ record { blocks = blocks; kind = Contact } → places ≡ objects_in contacts.blocks contacts.kind → length places ≤ i
    → AllZip (IsContactOf daemons blocks lane_commands) (take i (objects_in blocks Contact)) made → AreContactsOf daemons blocks lane_commands made
contacts-all daemons blocks lane_commands contacts places i made contacts_are places_are end so_far =
    let placed : places ≡ objects_in blocks Contact = places_are ∙ ap (λ (o : ObjectsOf). objects_in o.blocks o.kind) contacts_are in
    subst (λ (ps : List ℕ). AllZip (IsContactOf daemons blocks lane_commands) ps made)
    (take_all i (objects_in blocks Contact) (subst (λ (ps : List ℕ). length ps ≤ i) placed end)) so_far
