-- The configuration that blocks give is accepted.
use Rattle.std.proofs.Common.{◌≡◌, ℕ, zero, suc, ◌+◌, ◌<◌, ◌≤◌, Bool, true, false, not, cond, nat_eq, nat_le, List, [], ◌∷◌, ◌++◌, length, map, get_or, All, Option, Some, None, IfSome, refl, sym, ap, subst, ◌∙◌, ⊎_elim, arith}
use Rattle.std.specs.Prelude.{codes, Contains, slice_get, slice_index_or, unwrap_or}
use Rattle.std.specs.List.{AllZip, list_all, range_with_len}
use Rattle.std.specs.Char.{is_ascii_digit}
use Rattle.std.specs.Option.{option_and_then, option_map}
use Rattle.std.proofs.lemmas.Bool.{cases_lt, leb-true}
use Rattle.std.proofs.lemmas.List.{get_or-map, get_or_past, length-map}
use Rattle.std.proofs.lemmas.List.Elements.{All-nil, All-cons, All-append, All-from_get_or, Contains-get_or}
use Rattle.std.proofs.lemmas.Option.{none-some, slice_get_within}
use Rattle.std.proofs.lemmas.Slice.Zip.{AllZip-long}
use Rattle.due_model.specs.claims.Accepted.{ContactFits, EscalationFits, HasContacts, IsAccepted, IsHost, ObjectFits, RightsFit}
use Rattle.due_model.specs.claims.Limits.{max_dependencies, max_escalations, max_number, max_objects}
use Rattle.due_model.specs.declared.config.Config.{Config}
use Rattle.due_model.specs.declared.config.ContactId.{ContactId}
use Rattle.due_model.specs.declared.config.Escalation.{Escalation}
use Rattle.due_model.specs.declared.config.LaneId.{LaneId}
use Rattle.due_model.specs.declared.config.Object.{Object}
use Rattle.due_model.specs.declared.config.ObjectId.{ObjectId}
use Rattle.due_model.specs.declared.config.PeriodId.{PeriodId}
use Rattle.due_model.specs.declared.config.Rights.{Rights}
use Rattle.lemmas.proofs.Lists.{All-flat_map, All-slice_get}
use Rattle.lemmas.proofs.Searches.{position-within}
use Rattle.object_contacts.specs.claims.Contacts.{AreRightsOf, IsContactOf}
use Rattle.object_contacts.specs.claims.Lanes.{lane_of, NamesLane}
use Rattle.object_contacts.specs.declared.rights.RightsKind.{RightsKind}
use Rattle.object_contacts.specs.declared.rights.RightsKind.TheVariants.{OfHosts, OfServices}
use Rattle.object_listing.specs.ReadingLaws.{period-few}
use Rattle.object_dependencies.specs.Laws as dependencies
use Rattle.object_dependencies.specs.claims.Limits.{GiveDependencies}
use Rattle.object_escalations.specs.claims.Entries as entries
use Rattle.object_escalations.specs.claims.Entries.{AreTold, ComesFrom, IsEscalationOf, origins_below}
use Rattle.object_escalations.specs.claims.Escalated.{GiveEscalations}
use Rattle.object_escalations.specs.Laws as escalations
use Rattle.object_groups.specs.claims.Objects.{names_in, objects_in}
use Rattle.object_inheritance.specs.claims.Inherited.{name, value}
use Rattle.object_listing.specs.Laws.{ListedAreObjects}
use Rattle.object_listing.specs.claims.Listing.{AreThose, contact_directives, gives_neither, host_directives, IsListed}
use Rattle.object_periods.specs.Laws.{NoLoopIsLeft, PeriodsFit}
use Rattle.object_periods.specs.claims.Loops.{IsLoopedAt}
use Rattle.object_reader.specs.declared.block.Block.{Block}
use Rattle.object_reader.specs.declared.block.BlockKind.TheVariants.{Command, Contact, Host, Service, TimePeriod}
use Rattle.object_listing.specs.claims.Readings.{period_named}
use Rattle.object_resolve.specs.claims.Config.{command_at, IsConfigOf}
use Rattle.object_resolve.specs.claims.First.{IsNowhere}
use Rattle.object_resolve.specs.claims.Limits.{AreFewDependencies, AreFewEscalations, AreWithin}
use Rattle.object_resolve.specs.claims.Resolve.{IsDependencyLooped}
use Rattle.object_resolve.proofs.CountLemmas.{dependencies-few}
use Rattle.object_groups.specs.ObjectLaws.{names-long}
use Rattle.object_services.specs.claims.Hosts.{AreHosts}
use Rattle.object_services.specs.Laws.{CountIsTheSum}
use Rattle.object_services.specs.claims.Limits.{AreWithinLimit}
use Rattle.object_services.specs.claims.Numbers.{pairs_of}
use Rattle.object_services.specs.HostLaws.{hosts-one, pairs-count}
use Rattle.object_settings.specs.claims.Settings.{block_origins, HasSettings, host_origins, IsGiven, IsObjectOf, Origin, service_origins}
use Rattle.object_settings.specs.ObjectLaws.{object-count}
use Rattle.object_values.specs.claims.Values.{number_in, number_of as value_of}
use Rattle.object_values.specs.declared.options.OptionKind.{OptionKind}

-- ---- values within their ranges

number-few : (b : Bool) (m other : ℕ) → nat_le m max_number ≡ b → other ≤ max_number → unwrap_or (cond b (Some m) None) other ≤ max_number
number-few true m other is few = leb-true m max_number is
number-few false m other is few = few

text-few : (empty digits : Bool) (m other : ℕ) → other ≤ max_number
    → unwrap_or (cond empty None (cond (not digits) None (cond (nat_le m max_number) (Some m) None))) other ≤ max_number
text-few true digits m other few = few
text-few false false m other few = few
text-few false true m other few = number-few (nat_le m max_number) m other refl few

pub value-few : (text : Option (List ℕ)) (other : ℕ) → other ≤ max_number → unwrap_or (option_and_then number_in text) other ≤ max_number
value-few None other few = few
value-few (Some text) other few = text-few (nat_eq (length text) 0) (list_all is_ascii_digit text) (value_of text) other few

pub given-few : (periods : List (List ℕ)) (given : Option (List ℕ)) (other : Option PeriodId) → IfSome other (λ p. p.0 < length periods)
    → IfSome (unwrap_or (option_map (period_named periods) given) other) (λ p. p.0 < length periods)
given-few periods None other few = few
given-few periods (Some text) other few = period-few periods text

-- what holds of the numbers holds of those that have them
numbered : {X : Type 0} (number : X → ℕ) (P : ℕ → Type 0) (ids : List X) → ((k : ℕ) → Contains (map number ids) k → P k) → All (λ id. P (number id)) ids
numbered number P ids each = λ k d below.
    let inside : k < length (map number ids) = rw (length-map ids number) below in
    let is : get_or (map number ids) k (number (get_or ids k d)) ≡ number (get_or ids k d) = get_or-map number ids k d (number (get_or ids k d)) below in
    each (number (get_or ids k d)) (k, inside, is)

-- of lists place by place
zip-all : {X Y : Type 0} (R : X → Y → Type 0) (G : X → Type 0) (Q : Y → Type 0) → ((x : X) (y : Y) → G x → R x y → Q y)
    → (xs : List X) (ys : List Y) → All G xs → AllZip R xs ys → All Q ys
zip-all R G Q each [] [] good all = All-nil Q
zip-all R G Q each [] (y ∷ ys) good all = absurd all
zip-all R G Q each (x ∷ xs) [] good all = absurd all
zip-all R G Q each (x ∷ xs) (y ∷ ys) good all =
    All-cons Q y ys (each x y (good 0 x (omega arith)) all.0)
    (zip-all R G Q each xs ys (λ k d below. good (suc k) d (omega (arith, below))) all.1)

all-of : {X : Type 0} (P : X → Type 0) (xs : List X) → ((x : X) → P x) → All P xs
all-of P xs each = λ k d below. each (get_or xs k d)

-- the host of a number
host-at : (blocks : List Block) (places : List ℕ) (others : List Origin) (objects : List Object) (number : ℕ) → number < length places
    → AllZip (IsObjectOf blocks) (map (λ place. record { place = place; host = None }) places ++ others) objects
    → (host : Object) × (slice_get objects number ≡ Some host) × (host.host ≡ None)
host-at blocks [] others objects number low all = absurd (omega (arith, low))
host-at blocks (p ∷ ps) others [] number low all = absurd all
host-at blocks (p ∷ ps) others (o ∷ os) zero low all = (o, refl, (all.0).host)
host-at blocks (p ∷ ps) others (o ∷ os) (suc n) low all = host-at blocks ps others os n (omega (arith, low)) all.1

-- ---- what blocks give

module _ (listed : ListedAreObjects) (blocks : List Block) (config : Config) (of : IsConfigOf blocks config) where
  contacts-long : length config.contacts ≡ length (names_in blocks Contact)
  contacts-long = AllZip-long (IsContactOf config.choices.contact_none blocks of.lanes) (objects_in blocks Contact) config.contacts of.contacts ∙ sym (names-long blocks Contact)

  periods-long : length config.periods ≡ length (names_in blocks TimePeriod)
  periods-long = (of.periods).count ∙ sym (names-long blocks TimePeriod)

  lanes-long : length config.lanes ≡ length of.lanes
  lanes-long = sym (length-map config.lanes (λ lane. lane.name)) ∙ ap length of.named ∙ length-map of.lanes (command_at blocks)

  period-fits : (given : Option (List ℕ)) (other : Option PeriodId) → IfSome other (λ p. p.0 < length config.periods)
      → IfSome (unwrap_or (option_map (period_named (names_in blocks TimePeriod)) given) other) (λ p. p.0 < length config.periods)
  period-fits given other few =
      subst (λ (n : ℕ). IfSome (unwrap_or (option_map (period_named (names_in blocks TimePeriod)) given) other) (λ p. p.0 < n)) (sym periods-long)
      (given-few (names_in blocks TimePeriod) given other (subst (λ (n : ℕ). IfSome other (λ p. p.0 < n)) periods-long few))

  contacts-fit : (place : ℕ) (contacts : List ContactId) → AreThose (IsListed blocks contact_directives place) (map (λ contact. contact.0) contacts)
      → All (λ k. k.0 < length config.contacts) contacts
  contacts-fit place contacts are =
      numbered (λ (contact : ContactId). contact.0) (λ k. k < length config.contacts) contacts
      (λ k at. let low = listed blocks contact_directives place k ((are.exactly k).0 at) in let long = contacts-long in omega (arith, low, long))

  -- ---- objects

  abbrev host_count : ℕ
  host_count = length (objects_in blocks Host)

  abbrev Good : Origin → Type 0
  Good origin = IfSome origin.host (λ number. number < host_count)

  hosts-few : (number : ℕ) → All (λ host. host < host_count) (slice_index_or of.hosts number [])
  hosts-few number = ⊎_elim within past (cases_lt number (length of.hosts))
    where
      few : (place : ℕ) (hosts : List ℕ) → AreHosts blocks place hosts → All (λ host. host < host_count) hosts
      few place hosts are = All-from_get_or (λ host. host < host_count) hosts 0
          (λ i low. let named : get_or hosts i 0 < length (names_in blocks Host) = listed blocks host_directives place (get_or hosts i 0) ((are.exactly (get_or hosts i 0)).0 (Contains-get_or hosts i 0 low)) in
          let long = names-long blocks Host in omega (arith, named, long))

      at : (places : List ℕ) (lists : List (List ℕ)) (i : ℕ) → i < length lists → AllZip (AreHosts blocks) places lists → All (λ host. host < host_count) (get_or lists i [])
      at places [] i low all = absurd (omega (arith, low))
      at [] (y ∷ ys) i low all = absurd all
      at (x ∷ xs) (y ∷ ys) zero low all = few x y all.0
      at (x ∷ xs) (y ∷ ys) (suc i) low all = at xs ys i (omega (arith, low)) all.1

      within : number < length of.hosts → All (λ host. host < host_count) (slice_index_or of.hosts number [])
      within low = at (objects_in blocks Service) of.hosts number low of.hosts_are

      past : length of.hosts ≤ number → All (λ host. host < host_count) (slice_index_or of.hosts number [])
      past high = subst (λ (hosts : List ℕ). All (λ host. host < host_count) hosts) (sym (get_or_past of.hosts number [] high)) (All-nil (λ host. host < host_count))

  block-good : (place : ℕ) (hosts : List ℕ) → All (λ host. host < host_count) hosts → All Good (map (λ host. record { place = place; host = Some host }) hosts)
  block-good place [] few = All-nil Good
  block-good place (h ∷ hs) few =
      All-cons Good (record { place = place; host = Some h }) (map (λ host. record { place = place; host = Some host }) hs)
      (few 0 h (omega arith)) (block-good place hs (λ k d below. few (suc k) d (omega (arith, below))))

  hosts-good : (places : List ℕ) → All Good (map (λ place. record { place = place; host = None }) places)
  hosts-good [] = All-nil Good
  hosts-good (p ∷ ps) = All-cons Good (record { place = p; host = None }) (map (λ place. record { place = place; host = None }) ps) tt (hosts-good ps)

  origins-good : All Good (host_origins blocks ++ service_origins blocks of.hosts)
  origins-good = All-append Good (host_origins blocks) (service_origins blocks of.hosts) (hosts-good (objects_in blocks Host))
      (All-flat_map Good (block_origins blocks of.hosts) (range_with_len 0 (length of.hosts))
      (all-of (λ number. All Good (block_origins blocks of.hosts number)) (range_with_len 0 (length of.hosts))
      (λ number. block-good (slice_index_or (objects_in blocks Service) number 0) (slice_index_or of.hosts number []) (hosts-few number))))

  settings-fit : (kind : OptionKind) (own host : ℕ) (object : Object) → HasSettings blocks kind own host object → IfSome object.host (λ h. IsHost config h.0)
      → ObjectFits config object
  settings-fit kind own host object has here = record {
    host = here;
    period = subst (λ (p : Option PeriodId). IfSome p (λ q. q.0 < length config.periods)) (sym has.period)
        (period-fits (name blocks (codes "notification_period") own) _ (period-fits (name blocks (codes "notification_period") host) None tt));
    interval = subst (λ (n : ℕ). n ≤ max_number) (sym has.interval)
        (value-few (value blocks (codes "notification_interval") own) _ (value-few (value blocks (codes "notification_interval") host) 30 (omega arith)));
    delay = subst (λ (n : ℕ). n ≤ max_number) (sym has.delay) (value-few (value blocks (codes "first_notification_delay") own) 0 (omega arith));
    contacts = contacts-fit _ object.contacts has.contacts;
  }

  given-fits : (place : ℕ) (host : Option ℕ) (object : Object) → IfSome host (λ number. number < host_count) → IsGiven blocks place host object → ObjectFits config object
  given-fits place None object good given =
      settings-fit _ place place object given.settings (subst (λ h. IfSome h (λ i. IsHost config i.0)) (sym given.host) tt)
  given-fits place (Some number) object good given =
      settings-fit _ place _ object given.settings (subst (λ h. IfSome h (λ i. IsHost config i.0)) (sym given.host)
      (host-at blocks (objects_in blocks Host) (service_origins blocks of.hosts) config.objects number good of.objects))

  objects-fit : All (ObjectFits config) config.objects
  objects-fit = zip-all (IsObjectOf blocks) Good (ObjectFits config) (λ origin object good given. given-fits origin.place origin.host object good given)
      (host_origins blocks ++ service_origins blocks of.hosts) config.objects origins-good of.objects

  -- ---- contacts

  lane-fits : (lane : ℕ) (found : Option ℕ) → option_and_then (lane_of of.lanes) found ≡ Some lane → lane < length config.lanes
  lane-fits lane None is = absurd (none-some lane is)
  lane-fits lane (Some command) is =
      let low : lane < length of.lanes = subst (λ (f : Option ℕ). IfSome f (λ k. k < length of.lanes)) is (position-within _ of.lanes) in
      let long = lanes-long in omega (arith, low, long)

  named-fits : (entries : List (List ℕ)) (lane : ℕ) → NamesLane (names_in blocks Command) of.lanes entries lane → lane < length config.lanes
  named-fits entries lane (entry, at, is) = lane-fits lane _ is

  rights-fit : (kind : RightsKind) (place : ℕ) (rights : Rights) → AreRightsOf config.choices.contact_none blocks of.lanes kind place rights → RightsFit config rights
  rights-fit kind place rights are = record {
    period = subst (λ (p : Option PeriodId). IfSome p (λ q. q.0 < length config.periods)) (sym are.period) (period-fits (name blocks _ place) None tt);
    lanes = numbered (λ (lane : LaneId). lane.0) (λ k. k < length config.lanes) rights.lanes
        (λ k at. named-fits _ k (((are.lanes).exactly k).0 at));
  }

  contacts-fit_all : All (ContactFits config) config.contacts
  contacts-fit_all = zip-all (IsContactOf config.choices.contact_none blocks of.lanes) (λ place. Unit {0}) (ContactFits config)
      (λ place contact good is. record { hosts = rights-fit OfHosts place contact.hosts is.hosts; services = rights-fit OfServices place contact.services is.services })
      (objects_in blocks Contact) config.contacts (all-of (λ place. Unit {0}) (objects_in blocks Contact) (λ place. tt)) of.contacts

  -- ---- escalations

  escalated-contacts : (place : ℕ) (object : Object) (contacts : List ContactId) (neither : Bool) → HasContacts config object.contacts
      → AreTold neither blocks place object contacts → HasContacts config contacts
  escalated-contacts place object contacts true few are = subst (λ (cs : List ContactId). HasContacts config cs) (sym are) few
  escalated-contacts place object contacts false few are = contacts-fit place contacts are

  escalation-fits : (place number : ℕ) (object : Object) (escalation : Escalation) → slice_get config.objects number ≡ Some object
      → IsEscalationOf blocks place number object escalation → EscalationFits config escalation
  escalation-fits place number object escalation here is =
      let fits : ObjectFits config object = All-slice_get (ObjectFits config) config.objects number object objects-fit here in
      record {
        object = subst (λ (o : ObjectId). o.0 < length config.objects) (sym is.object_is) (slice_get_within config.objects number object here);
        first = subst (λ (n : ℕ). n ≤ max_number) (sym is.first) (value-few (value blocks (codes "first_notification") place) 0 (omega arith));
        last = subst (λ (n : ℕ). n ≤ max_number) (sym is.last) (value-few (value blocks (codes "last_notification") place) 0 (omega arith));
        interval = subst (λ (n : ℕ). n ≤ max_number) (sym is.interval) (value-few (value blocks (codes "notification_interval") place) object.interval fits.interval);
        period = subst (λ (p : Option PeriodId). IfSome p (λ q. q.0 < length config.periods)) (sym is.period)
            (period-fits (name blocks (codes "escalation_period") place) object.period fits.period);
        contacts = escalated-contacts place object escalation.contacts (gives_neither blocks contact_directives place) fits.contacts is.contacts;
      }

  escalations-fit : All (EscalationFits config) config.escalations
  escalations-fit = zip-all (ComesFrom blocks config.objects) (λ origin. Unit {0}) (EscalationFits config)
      (λ origin escalation good comes. escalation-fits origin.place origin.number comes.0 escalation comes.1 comes.2)
      (origins_below of.spoken (length of.spoken)) config.escalations
      (all-of (λ (origin : entries.Origin). Unit {0}) (origins_below of.spoken (length of.spoken)) (λ origin. tt)) of.escalations

-- ---- the limits

escalations-few : escalations.OneForEach → escalations.CountIsTheSum → (blocks : List Block) (config : Config) → (of : IsConfigOf blocks config) → AreFewEscalations blocks
    → length config.escalations ≤ max_escalations
escalations-few each counted blocks config of (hosts, are, (count, given, few)) =
    let long = each blocks config.objects of.spoken config.escalations of.escalations in
    let sum = counted blocks of.hosts (length blocks) count of.spoken
    (subst (λ (lists : List (List ℕ)). GiveEscalations blocks lists (length blocks) count) (hosts-one blocks (objects_in blocks Service) hosts of.hosts are of.hosts_are) given) of.spoken_are in
    omega (arith, long, sum, few)

objects-few : CountIsTheSum → (blocks : List Block) (config : Config) → (of : IsConfigOf blocks config) → AreWithinLimit blocks → length config.objects ≤ max_objects
unfolding objects_in
objects-few law blocks config of (count, given, few) =
    let sum = law blocks (length blocks) count of.hosts given of.hosts_are in
    let long = object-count blocks of.hosts config.objects of.objects in
    omega (arith, sum, long, few)

dependency-few : (blocks : List Block) (config : Config) → (of : IsConfigOf blocks config) → AreFewDependencies blocks → length config.dependencies ≤ max_dependencies
dependency-few blocks config of (hosts, are, (count, given, few)) =
    dependencies-few blocks of.hosts (names_in blocks TimePeriod) config.dependencies count of.dependencies
    (subst (λ (lists : List (List ℕ)). GiveDependencies blocks lists (length blocks) count) (hosts-one blocks (objects_in blocks Service) hosts of.hosts are of.hosts_are) given) few

-- ---- dependencies

objects-long : (blocks : List Block) (config : Config) → (of : IsConfigOf blocks config)
    → length config.objects ≡ length (names_in blocks Host) + length (pairs_of (names_in blocks Service) of.hosts)
objects-long blocks config of =
    let long = object-count blocks of.hosts config.objects of.objects in
    let named = names-long blocks Host in
    let paired = pairs-count (names_in blocks Service) of.hosts in
    omega (arith, long, named, paired)

-- ---- the whole

pub resolved-accepted : ListedAreObjects → CountIsTheSum → PeriodsFit → NoLoopIsLeft → escalations.OneForEach → escalations.CountIsTheSum → dependencies.DependenciesFit
    → dependencies.NoLoopIsLeft → (blocks : List Block) (config : Config)
    → IsConfigOf blocks config → AreWithin blocks → IsNowhere (IsLoopedAt blocks) → IsNowhere (IsDependencyLooped blocks) → IsAccepted config
resolved-accepted listed counted fit unlooped each each_counted depend uncycled blocks config of within none no_cycle =
    let contacts = contacts-long listed blocks config of in
    let contact_names = names-long blocks Contact in
    let periods = periods-long listed blocks config of in
    let period_names = names-long blocks TimePeriod in
    let lanes = lanes-long listed blocks config of in
    let few_contacts = within.others.contacts in
    let few_periods = within.others.periods in
    let few_lanes = within.others.lanes of.lanes of.lanes_are in
    record {
      few_objects = objects-few counted blocks config of within.objects;
      few_contacts = omega (arith, contacts, contact_names, few_contacts);
      few_lanes = omega (arith, lanes, few_lanes);
      few_periods = omega (arith, periods, period_names, few_periods);
      few_escalations = escalations-few each each_counted blocks config of within.escalations;
      few_dependencies = dependency-few blocks config of within.dependencies;
      objects = objects-fit listed blocks config of;
      contacts = contacts-fit_all listed blocks config of;
      periods = fit blocks config of.periods;
      escalations = escalations-fit listed blocks config of;
      dependencies = depend blocks of.hosts (names_in blocks TimePeriod) config of.hosts_are (objects-long blocks config of) (periods-long listed blocks config of) of.dependencies;
      no_period_loop = unlooped blocks config of.periods none;
      no_dependency_loop = uncycled blocks of.hosts (names_in blocks TimePeriod) config of.dependencies
          (λ place looped. no_cycle place (within.objects, (of.hosts, of.hosts_are, looped)));
    }
