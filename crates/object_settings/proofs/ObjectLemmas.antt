-- The objects that came so far, and all objects.
use Rattle.std.proofs.Common.{◌≡◌, ℕ, zero, suc, ◌+◌, ◌<◌, ◌≤◌, Bool, List, [], ◌∷◌, ◌++◌, append_assoc, length, map, take, get_or, None, Some, sym, ap, subst, ◌∙◌, arith}
use Rattle.std.specs.Prelude.{All, slice_get, slice_index_or}
use Rattle.std.specs.List.{AllZip, flat_map, range_with_len, sum_by}
use Rattle.std.proofs.lemmas.List.{append-nil, get_or_default, get_or-map, take_all, take_more}
use Rattle.lemmas.proofs.Numbers.{flat_range_more}
use Rattle.lemmas.proofs.Zips.{zip-append, zip-map}
use Rattle.due_model.specs.claims.Limits.{max_objects}
use Rattle.due_model.specs.claims.Objects.{object_id}
use Rattle.due_model.specs.declared.config.Object.{Object}
use Rattle.object_groups.specs.claims.Objects.{name_at, names_in, objects_in}
use Rattle.object_listing.specs.Contacts.{IsAsked}
use Rattle.object_reader.specs.declared.block.Block.{Block}
use Rattle.object_reader.specs.declared.block.BlockKind.{BlockKind}
use Rattle.object_reader.specs.declared.block.BlockKind.TheVariants.{Host, Service}
use Rattle.object_services.specs.claims.Hosts.{AreHosts}
use Rattle.object_services.specs.claims.Limits.{AreHostLists}
use Rattle.object_settings.specs.Own.{AddsObjects, AddsServices, IsHostTaken, IsOwn, IsOwnOfHost, IsServiceTaken, IsTaken}
use Rattle.object_settings.specs.claims.Settings.{AreObjectsOf, block_origins, host_origins, IsObjectOf, Origin, service_origins}
use Rattle.object_settings.specs.Settings.{AskForHosts, AskForServices}
use Rattle.object_settings.specs.declared.own.Own.{Own}
use Rattle.object_settings.proofs.OwnLemmas.{host-is, service-is, zip-through}
use Rattle.object_settings.specs.ObjectLaws.{object-count}
use Rattle.object_values.specs.declared.options.OptionKind.TheVariants as lists

-- ---- what comes to a list

longer : (first old new added more : List Object) → old ≡ first ++ added → new ≡ old ++ more → new ≡ first ++ (added ++ more)
longer first old new added more before are = are ∙ ap (λ (objects : List Object). objects ++ more) before ∙ append_assoc first added more

-- ---- the services of a block

pub services-none : (hosts : List Own) (own : Own) (objects : List Object) → AddsServices hosts own [] objects objects
services-none hosts own objects = record { added = []; are = sym (append-nil objects); all = tt }

pub services-more : (hosts : List Own) (own host : Own) (numbers : List ℕ) (i d : ℕ) (object : Object) (first old new : List Object) → i < length numbers
    → slice_get hosts (get_or numbers i d) ≡ Some host → object.host ≡ Some (object_id (get_or numbers i d)) → IsTaken own host object
    → AddsServices hosts own (take i numbers) first old → new ≡ old ++ object ∷ [] → AddsServices hosts own (take (i + 1) numbers) first new
services-more hosts own host numbers i d object first old new within here named taken before are = record {
  added = before.added ++ object ∷ [];
  are = longer first old new before.added (object ∷ []) before.are are;
  all = subst (λ (ns : List ℕ). AllZip (IsServiceTaken hosts own) ns (before.added ++ object ∷ [])) (sym (take_more numbers i d within))
      (zip-append (IsServiceTaken hosts own) (take i numbers) (get_or numbers i d ∷ []) before.added (object ∷ []) before.all
      (record { host = host; here = here; named = named; taken = taken }, tt));
}

pub services-all : (hosts : List Own) (own : Own) (numbers : List ℕ) (i : ℕ) (first new : List Object) → length numbers ≤ i → AddsServices hosts own (take i numbers) first new
    → AddsServices hosts own numbers first new
services-all hosts own numbers i first new all before = subst (λ (ns : List ℕ). AddsServices hosts own ns first new) (take_all i numbers all) before

-- a block without hosts gives none
pub none-objects : (blocks : List Block) (place : ℕ) (numbers : List ℕ) (objects : List Object) → numbers ≡ []
    → AddsObjects blocks (map (λ host. record { place = place; host = Some host }) numbers) objects objects
none-objects blocks place numbers objects none =
    subst (λ (ns : List ℕ). AddsObjects blocks (map (λ host. record { place = place; host = Some host }) ns) objects objects) (sym none)
    (record { added = []; are = sym (append-nil objects); all = tt })

-- as objects of the blocks
pub block-objects : (blocks : List Block) (place : ℕ) (name : List ℕ) (hosts : List Own) (own : Own) (numbers : List ℕ) (old new : List Object)
    → AllZip (IsOwnOfHost blocks) (objects_in blocks Host) hosts → name ≡ name_at blocks Service place → IsOwn blocks lists.Service name place own
    → AddsServices hosts own numbers old new → AddsObjects blocks (map (λ host. record { place = place; host = Some host }) numbers) old new
block-objects blocks place name hosts own numbers old new all named gives adds = record {
  added = adds.added;
  are = adds.are;
  all = zip-map (λ host. record { place = place; host = Some host }) (IsServiceTaken hosts own) (IsObjectOf blocks)
      (λ number object taken. service-is blocks place own hosts number object (subst (λ (n : List ℕ). IsOwn blocks lists.Service n place own) named gives) all taken)
      numbers adds.added adds.all;
}

-- ---- the services of all blocks

pub objects-none : (blocks : List Block) (objects : List Object) → AddsObjects blocks [] objects objects
objects-none blocks objects = record { added = []; are = sym (append-nil objects); all = tt }

pub objects-more : (blocks : List Block) (hosts : List (List ℕ)) (number place : ℕ) (numbers : List ℕ) (first old new : List Object)
    → place ≡ slice_index_or (objects_in blocks Service) number 0 → numbers ≡ slice_index_or hosts number []
    → AddsObjects blocks (flat_map (block_origins blocks hosts) (range_with_len 0 number)) first old
    → AddsObjects blocks (map (λ host. record { place = place; host = Some host }) numbers) old new
    → AddsObjects blocks (flat_map (block_origins blocks hosts) (range_with_len 0 (number + 1))) first new
objects-more blocks hosts number place numbers first old new place_is numbers_are before adds = record {
  added = before.added ++ adds.added;
  are = longer first old new before.added adds.added before.are adds.are;
  all = subst (λ (origins : List Origin). AllZip (IsObjectOf blocks) origins (before.added ++ adds.added)) (sym (flat_range_more (block_origins blocks hosts) number))
      (zip-append (IsObjectOf blocks) (flat_map (block_origins blocks hosts) (range_with_len 0 number)) (block_origins blocks hosts number) before.added adds.added before.all
      (subst (λ (p : ℕ). AllZip (IsObjectOf blocks) (map (λ host. record { place = p; host = Some host }) (slice_index_or hosts number [])) adds.added) place_is
      (subst (λ (ns : List ℕ). AllZip (IsObjectOf blocks) (map (λ host. record { place = place; host = Some host }) ns) adds.added) numbers_are adds.all)));
}

pub objects-all : (blocks : List Block) (hosts : List (List ℕ)) (number : ℕ) (first new : List Object) → number ≡ length hosts
    → AddsObjects blocks (flat_map (block_origins blocks hosts) (range_with_len 0 number)) first new → AddsObjects blocks (service_origins blocks hosts) first new
objects-all blocks hosts number first new end before =
    subst (λ (n : ℕ). AddsObjects blocks (flat_map (block_origins blocks hosts) (range_with_len 0 n)) first new) end before

-- ---- all objects

pub all-objects : (blocks : List Block) (hosts : List (List ℕ)) (owns : List Own) (first all : List Object) → AllZip (IsOwnOfHost blocks) (objects_in blocks Host) owns
    → AllZip IsHostTaken owns first → AddsObjects blocks (service_origins blocks hosts) first all → AreObjectsOf blocks hosts all
all-objects blocks hosts owns first all gives taken adds =
    subst (λ (objects : List Object). AreObjectsOf blocks hosts objects) (sym adds.are)
    (zip-append (IsObjectOf blocks) (host_origins blocks) (service_origins blocks hosts) first adds.added
    (zip-through (λ place. record { place = place; host = None }) (IsOwnOfHost blocks) IsHostTaken (IsObjectOf blocks) (λ place own object. host-is blocks place own object)
    (objects_in blocks Host) owns first gives taken)
    adds.all)

-- ---- what was read

pub name-is : (blocks : List Block) (kind : BlockKind) (number place d : ℕ) → number < length (objects_in blocks kind) → place ≡ get_or (objects_in blocks kind) number d
    → slice_index_or (names_in blocks kind) number [] ≡ name_at blocks kind place
unfolding names_in
name-is blocks kind number place d within is =
    get_or-map (name_at blocks kind) (objects_in blocks kind) number d [] within ∙ ap (name_at blocks kind) (sym is)

-- the name that was read is that of the block at the place that was read
pub named-at : (blocks : List Block) (kind : BlockKind) (places : List ℕ) (names : List (List ℕ)) (i d : ℕ) (name : List ℕ) → places ≡ objects_in blocks kind → i < length places
    → names ≡ names_in blocks kind → name ≡ slice_index_or names i [] → name ≡ name_at blocks kind (get_or places i d)
named-at blocks kind places names i d name listed within names_are named =
    named ∙ ap (λ (ns : List (List ℕ)). slice_index_or ns i []) names_are
    ∙ name-is blocks kind i (get_or places i d) d (subst (λ (ps : List ℕ). i < length ps) listed within) (ap (λ (ps : List ℕ). get_or ps i d) listed)

-- the contacts of the host's block that was read are asked for
pub host-asked : (blocks : List Block) (asked : List Bool) (places : List ℕ) (i d : ℕ) → places ≡ objects_in blocks Host → i < length places → AskForHosts blocks asked
    → IsAsked asked (get_or places i d)
host-asked blocks asked places i d listed within all = subst (λ (ps : List ℕ). All (IsAsked asked) ps) (sym listed) all i d within

-- and those of the service block that was read, where it has hosts
pub service-asked : (blocks : List Block) (asked : List Bool) (places : List ℕ) (lists : List (List ℕ)) (i d : ℕ) (hosts : List ℕ) → places ≡ objects_in blocks Service → i < length places
    → AskForServices blocks lists asked → hosts ≡ slice_index_or lists i [] → 0 < length hosts → IsAsked asked (get_or places i d)
service-asked blocks asked places lists i d hosts listed within all are some =
    subst (λ (p : ℕ). IsAsked asked p) (get_or_default places i 0 d within)
    (subst (λ (ps : List ℕ). IsAsked asked (get_or ps i 0)) (sym listed) (all i (subst (λ (hs : List ℕ). 0 < length hs) are some)))

-- the hosts of the block of that number
hosts-at : (blocks : List Block) (places : List ℕ) (hosts : List (List ℕ)) (i d : ℕ) → i < length places → AreHostLists blocks places hosts
    → AreHosts blocks (get_or places i d) (slice_index_or hosts i [])
hosts-at blocks [] hosts i d low all = absurd (omega (arith, low))
hosts-at blocks (p ∷ ps) [] i d low all = absurd all
hosts-at blocks (p ∷ ps) (h ∷ hs) zero d low all = all.0
hosts-at blocks (p ∷ ps) (h ∷ hs) (suc i) d low all = hosts-at blocks ps hs i d (omega (arith, low)) all.1

pub block-hosts : (blocks : List Block) (places : List ℕ) (lists : List (List ℕ)) (i d : ℕ) (hosts : List ℕ) → places ≡ objects_in blocks Service → i < length places
    → AreHostLists blocks (objects_in blocks Service) lists → hosts ≡ slice_index_or lists i [] → AreHosts blocks (get_or places i d) hosts
block-hosts blocks places lists i d hosts listed within all are =
    subst (λ (hs : List ℕ). AreHosts blocks (get_or places i d) hs) (sym are)
    (hosts-at blocks places lists i d within (subst (λ (ps : List ℕ). AreHostLists blocks ps lists) (sym listed) all))

-- ---- what the host blocks give, one more

pub owns-more : (blocks : List Block) (places : List ℕ) (names : List (List ℕ)) (i d : ℕ) (name : List ℕ) (own : Own) (old new : List Own) → places ≡ objects_in blocks Host → i < length places
    → names ≡ names_in blocks Host → name ≡ slice_index_or names i [] → IsOwn blocks lists.Host name (get_or places i d) own
    → AllZip (IsOwnOfHost blocks) (take i (objects_in blocks Host)) old → new ≡ old ++ own ∷ [] → AllZip (IsOwnOfHost blocks) (take (i + 1) (objects_in blocks Host)) new
owns-more blocks places names i d name own old new listed within names_are named gives before are =
    let place : ℕ = get_or places i d in
    let is : place ≡ get_or (objects_in blocks Host) i d = ap (λ (ps : List ℕ). get_or ps i d) listed in
    let low : i < length (objects_in blocks Host) = subst (λ (ps : List ℕ). i < length ps) listed within in
    let called : name ≡ name_at blocks Host place = named-at blocks Host places names i d name listed within names_are named in
    let own_is : IsOwnOfHost blocks place own = subst (λ (n : List ℕ). IsOwn blocks lists.Host n place own) called gives in
    subst (λ (owns : List Own). AllZip (IsOwnOfHost blocks) (take (i + 1) (objects_in blocks Host)) owns) (sym are)
    (subst (λ (ps : List ℕ). AllZip (IsOwnOfHost blocks) ps (old ++ own ∷ [])) (sym (take_more (objects_in blocks Host) i d low))
    (zip-append (IsOwnOfHost blocks) (take i (objects_in blocks Host)) (get_or (objects_in blocks Host) i d ∷ []) old (own ∷ []) before
    (subst (λ (p : ℕ). IsOwnOfHost blocks p own) is own_is, tt)))

pub hosts-more : (owns : List Own) (i : ℕ) (own : Own) (object : Object) (old new : List Object) → i < length owns → own ≡ get_or owns i own → AllZip IsHostTaken (take i owns) old
    → object.host ≡ None → IsTaken own own object → new ≡ old ++ object ∷ [] → AllZip IsHostTaken (take (i + 1) owns) new
hosts-more owns i own object old new within is before host taken are =
    subst (λ (objects : List Object). AllZip IsHostTaken (take (i + 1) owns) objects) (sym are)
    (subst (λ (os : List Own). AllZip IsHostTaken os (old ++ object ∷ [])) (sym (take_more owns i own within))
    (zip-append IsHostTaken (take i owns) (get_or owns i own ∷ []) old (object ∷ []) before
    (subst (λ (o : Own). IsHostTaken o object) is (host, taken), tt)))

-- ---- there are no more of them than fit

pub objects-few : (blocks : List Block) (hosts : List (List ℕ)) (objects : List Object) → length (objects_in blocks Host) + sum_by length hosts ≤ max_objects → AreObjectsOf blocks hosts objects
    → length objects ≤ max_objects
objects-few blocks hosts objects few are = let count = object-count blocks hosts objects are in omega (arith, few, count)

pub hosts-few : (blocks : List Block) (hosts : List (List ℕ)) → length (objects_in blocks Host) + sum_by length hosts ≤ max_objects → length (objects_in blocks Host) ≤ max_objects
hosts-few blocks hosts few = omega (arith, few)
