-- What a block gives, and the objects made of it.
use Rattle.std.proofs.Common.{◌≡◌, ℕ, zero, suc, ◌<◌, Bool, true, false, cond, List, [], ◌∷◌, length, map, get_or, Option, None, Some, refl, sym, ap, subst, ◌∙◌, arith}
use Rattle.std.specs.Prelude.{All, codes, slice_get, slice_index_or, unwrap_or}
use Rattle.std.specs.List.{AllZip}
use Rattle.std.proofs.lemmas.List.Elements.{All-from_get_or, Contains-get_or}
use Rattle.std.proofs.lemmas.Slice.Zip.{AllZip-long}
use Rattle.due_model.specs.declared.config.ContactId.{ContactId}
use Rattle.due_model.specs.declared.config.Object.{Object}
use Rattle.due_model.specs.declared.config.PeriodId.{PeriodId}
use Rattle.object_groups.specs.claims.Objects.{name_at, names_in, objects_in}
use Rattle.object_groups.specs.ObjectLaws.{names-long}
use Rattle.object_listing.specs.Laws.{ListedAreObjects}
use Rattle.object_listing.specs.claims.Listing.{AreThose, contact_directives, gives_neither, host_directives, IsListed}
use Rattle.object_reader.specs.declared.block.Block.{Block}
use Rattle.object_reader.specs.declared.block.BlockKind.TheVariants.{Host, Service, TimePeriod}
use Rattle.object_listing.specs.claims.Readings.{own_number, own_period}
use Rattle.object_services.specs.claims.Hosts.{AreHosts}
use Rattle.object_settings.specs.Own.{contacts_of, IsOwn, IsHostTaken, IsOwnOfHost, IsServiceTaken, IsTaken}
use Rattle.object_settings.specs.claims.Settings.{contacts_from, HasSettings, host_place, IsHostOf, IsServiceOf}
use Rattle.object_settings.specs.declared.own.Own.{Own}
use Rattle.object_values.specs.declared.options.OptionKind.{OptionKind}
use Rattle.object_values.specs.declared.options.OptionKind.TheVariants as lists

-- ---- the settings of one object

numbers_of : List ContactId → List ℕ
numbers_of contacts = map (λ contact. contact.0) contacts

module _ (blocks : List Block) (kind : OptionKind) (name host_name : List ℕ) (place host : ℕ) (own hosts : Own) (object : Object)
    (gives : IsOwn blocks kind name place own) (host_gives : IsOwn blocks lists.Host host_name host hosts) (taken : IsTaken own hosts object) where
  contacts-are : (b : Bool) → own.lacks_contacts ≡ b → gives_neither blocks contact_directives place ≡ b
      → AreThose (IsListed blocks contact_directives (contacts_from blocks place host)) (map (λ contact. contact.0) (contacts_of own hosts))
  contacts-are b lacks neither =
      subst (λ (c : Bool). AreThose (IsListed blocks contact_directives (cond c host place)) (map (λ contact. contact.0) (contacts_of own hosts))) (sym neither)
      (subst (λ (c : Bool). AreThose (IsListed blocks contact_directives (cond b host place)) (map (λ contact. contact.0) (cond c hosts.contacts.now own.contacts.now))) (sym lacks) (by_case b))
    where
      by_case : (c : Bool) → AreThose (IsListed blocks contact_directives (cond c host place)) (map (λ contact. contact.0) (cond c hosts.contacts.now own.contacts.now))
      by_case true = host_gives.contacts
      by_case false = gives.contacts

  pub settings-are : HasSettings blocks kind place host object
  settings-are = record {
    enabled = taken.enabled ∙ gives.enabled;
    options = taken.options ∙ gives.options;
    delay = taken.delay ∙ gives.delay;
    volatile = taken.volatile ∙ gives.volatile;
    interval = taken.interval ∙ ap (λ (own_interval : Option ℕ). unwrap_or own_interval (unwrap_or hosts.interval 30)) gives.interval
        ∙ ap (λ (other : Option ℕ). unwrap_or (own_number blocks (codes "notification_interval") place) (unwrap_or other 30)) host_gives.interval;
    period = taken.period ∙ ap (λ (own_period : Option (Option PeriodId)). unwrap_or own_period (unwrap_or hosts.period None)) gives.period
        ∙ ap (λ (other : Option (Option PeriodId)). unwrap_or (own_period (names_in blocks TimePeriod) blocks (codes "notification_period") place) (unwrap_or other None)) host_gives.period;
    contacts = subst (λ (contacts : List ContactId). AreThose (IsListed blocks contact_directives (contacts_from blocks place host)) (map (λ contact. contact.0) contacts)) (sym taken.contacts)
        (contacts-are own.lacks_contacts refl (sym gives.lacks));
  }

pub host-is : (blocks : List Block) (place : ℕ) (own : Own) (object : Object) → IsOwnOfHost blocks place own → IsHostTaken own object → IsHostOf blocks place object
host-is blocks place own object gives taken = record {
  name = (taken.1).name ∙ gives.named;
  host = taken.0;
  settings = settings-are blocks lists.Host (name_at blocks Host place) (name_at blocks Host place) place place own own object gives gives taken.1;
}

-- ---- lists, place by place

-- what one list says of the next, and that of a third
pub zip-through : {X Y Z W : Type 0} (f : X → W) (R : X → Y → Type 0) (S : Y → Z → Type 0) (T : W → Z → Type 0) → ((x : X) (y : Y) (z : Z) → R x y → S y z → T (f x) z)
    → (xs : List X) (ys : List Y) (zs : List Z) → AllZip R xs ys → AllZip S ys zs → AllZip T (map f xs) zs
zip-through f R S T each [] [] [] first second = tt
zip-through f R S T each [] [] (z ∷ zs) first second = absurd second
zip-through f R S T each [] (y ∷ ys) zs first second = absurd first
zip-through f R S T each (x ∷ xs) [] zs first second = absurd first
zip-through f R S T each (x ∷ xs) (y ∷ ys) [] first second = absurd second
zip-through f R S T each (x ∷ xs) (y ∷ ys) (z ∷ zs) first second =
    (each x y z first.0 second.0, zip-through f R S T each xs ys zs first.1 second.1)

-- at one place
pub zip-at : {X Y : Type 0} (R : X → Y → Type 0) (xs : List X) (ys : List Y) (i : ℕ) (d : X) (y : Y) → AllZip R xs ys → slice_get ys i ≡ Some y → R (slice_index_or xs i d) y
zip-at R [] [] i d y all here = cc
zip-at R [] (z ∷ ys) i d y all here = absurd all
zip-at R (x ∷ xs) [] i d y all here = absurd all
zip-at R (x ∷ xs) (z ∷ ys) zero d y all here = let same : z ≡ y = cc in rw (← same) all.0
zip-at R (x ∷ xs) (z ∷ ys) (suc i) d y all here = zip-at R xs ys i d y all.1 here

-- ---- services

pub service-is : (blocks : List Block) (place : ℕ) (own : Own) (hosts : List Own) (number : ℕ) (object : Object) → IsOwn blocks lists.Service (name_at blocks Service place) place own
    → AllZip (IsOwnOfHost blocks) (objects_in blocks Host) hosts → IsServiceTaken hosts own number object → IsServiceOf blocks place number object
service-is blocks place own hosts number object gives all taken = record {
  name = (taken.taken).name ∙ gives.named;
  host = taken.named;
  settings = settings-are blocks lists.Service (name_at blocks Service place) (name_at blocks Host (host_place blocks number)) place (host_place blocks number) own taken.host object gives
      (zip-at (IsOwnOfHost blocks) (objects_in blocks Host) hosts number 0 taken.host all taken.here) taken.taken;
}

-- the hosts of a block are among those of which what they give was found
pub hosts-within : ListedAreObjects → (blocks : List Block) (place : ℕ) (hosts : List Own) (numbers : List ℕ) → AllZip (IsOwnOfHost blocks) (objects_in blocks Host) hosts
    → AreHosts blocks place numbers → All (λ host. host < length hosts) numbers
hosts-within law blocks place hosts numbers all are =
    All-from_get_or (λ host. host < length hosts) numbers 0
    (λ i low. let within = law blocks host_directives place (get_or numbers i 0) ((are.exactly (get_or numbers i 0)).0 (Contains-get_or numbers i 0 low)) in
    let names = names-long blocks Host in
    let long = AllZip-long (IsOwnOfHost blocks) (objects_in blocks Host) hosts all in
    omega (arith, within, names, long))
