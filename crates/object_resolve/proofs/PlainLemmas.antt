-- The configuration of plain blocks.
use Rattle.std.proofs.Common.{◌≡◌, ℕ, List, [], ◌∷◌, ◌++◌, All, Option, None, Some, refl, sym, ap, subst, ◌∙◌, inl, inr, length, map, suc, arith}
use Rattle.std.specs.Prelude.{codes, slice_get, slice_index_or, unwrap_or}
use Rattle.std.specs.List.{AllZip}
use Rattle.std.specs.Option.{option_map}
use Rattle.std.proofs.lemmas.Bool.{false≢true}
use Rattle.lemmas.proofs.Elements.{Contains-none}
use Rattle.due_model.specs.declared.config.Object.{Object}
use Rattle.due_model.specs.declared.config.Period.{Period}
use Rattle.object_contacts.specs.claims.Contacts.{IsContactOf}
use Rattle.object_contacts.specs.claims.Lanes.{AreLanes, IsLane, IsUsed, NamesCommand}
use Rattle.object_contacts.specs.Laws.{IsPlainContact, PlainContactHasItsOwn}
use Rattle.object_groups.specs.claims.Names.{Lists, numbers_of}
use Rattle.object_groups.specs.claims.Objects.{list_at, name_at, name_directive, names_in, objects_in}
use Rattle.object_inheritance.specs.claims.Inherited.{own, own_entries}
use Rattle.object_inheritance.specs.Laws.{PlainBlockHasItsOwn, PlainListHasItsOwn}
use Rattle.object_periods.specs.claims.Periods.{IsPeriodOf, line_ranges}
use Rattle.object_reader.specs.declared.block.Block.{Block}
use Rattle.object_reader.specs.declared.block.BlockKind.{BlockKind}
use Rattle.object_reader.specs.declared.block.BlockKind.TheVariants.{Command, Contact, Host, HostGroup, Service, TimePeriod}
use Rattle.object_resolve.specs.PlainLaws.{AreAllPlain, ArePlainHosts, IsPlainGiven, IsPlainLane, IsPlainPeriod, IsPlainUsed, plain_entries, plain_name, plain_names, PlainConfigIsTheirOwn}
use Rattle.object_services.specs.claims.Hosts.{AreHosts, HasHost}
use Rattle.object_settings.specs.Laws.{IsPlain, PlainHostHasItsOwn, PlainServiceHasItsOwn}
use Rattle.object_settings.specs.claims.Settings.{host_origins, host_place, IsGiven, IsObjectOf, Origin, service_origins}
use Rattle.object_values.specs.claims.Ranges.{weekdays}

-- ---- lists that go together, place by place

zip-weaker : {X Y : Type 0} (R T : X → Y → Type 0) (G : X → Type 0) → ((x : X) (y : Y) → G x → R x y → T x y) → (xs : List X) (ys : List Y) → All G xs → AllZip R xs ys → AllZip T xs ys
zip-weaker R T G each [] [] good all = tt
zip-weaker R T G each [] (y ∷ ys) good all = absurd all
zip-weaker R T G each (x ∷ xs) [] good all = absurd all
zip-weaker R T G each (x ∷ xs) (y ∷ ys) good all =
    (each x y (good 0 x (omega arith)) all.0, zip-weaker R T G each xs ys (λ k d below. good (suc k) d (omega (arith, below))) all.1)

zip-from : {X Y : Type 0} (R : X → Y → Type 0) (xs : List X) (ys : List Y) → length ys ≡ length xs
    → ((k : ℕ) (x : X) (y : Y) → slice_get xs k ≡ Some x → slice_get ys k ≡ Some y → R x y) → AllZip R xs ys
zip-from R [] [] long each = tt
zip-from R [] (y ∷ ys) long each = absurd (omega (arith, long))
zip-from R (x ∷ xs) [] long each = absurd (omega (arith, long))
zip-from R (x ∷ xs) (y ∷ ys) long each = (each 0 x y refl refl, zip-from R xs ys (omega (arith, long)) (λ k. each (suc k)))

any : {X : Type 0} (xs : List X) → All (λ x. Unit {0}) xs
any xs = λ k d below. tt

-- an empty list names nothing
lists-none : (names : List (List ℕ)) (k : ℕ) → Lists names [] k → ⊥
lists-none names k (inl both) = false≢true both.0
lists-none names k (inr here) = Contains-none k here

-- ---- what plain blocks have is what they give themselves

module _ (has : PlainBlockHasItsOwn) (lists_has : PlainListHasItsOwn) (blocks : List Block) (plain : AreAllPlain blocks) where
  name-own : (kind : BlockKind) (place : ℕ) → name_at blocks kind place ≡ plain_name blocks kind place
  name-own kind place = ap (λ (found : Option (List ℕ)). unwrap_or found []) (has blocks (name_directive kind) place (plain.templates place))

  names-own : (kind : BlockKind) → names_in blocks kind ≡ plain_names blocks kind
  unfolding names_in
  names-own kind = λ i. map (λ place. name-own kind place i) (objects_in blocks kind)

  list-own : (directive : List ℕ) (place : ℕ) → list_at blocks directive place ≡ plain_entries blocks directive place
  list-own directive place = ap (λ (found : Option (List (List ℕ))). unwrap_or found []) (lists_has blocks directive place (plain.templates place))

  -- ---- the hosts of a service block

  hosts-own : (place : ℕ) (hosts : List ℕ) → own blocks (codes "hostgroup_name") place ≡ None → AreHosts blocks place hosts → ArePlainHosts blocks place hosts
  hosts-own place hosts none are = record {
    rising = are.rising;
    exactly = λ k. ((λ at. to k ((are.exactly k).0 at)), (λ named. (are.exactly k).1 (inl (from k named))));
  }
    where
      no-group : list_at blocks (codes "hostgroup_name") place ≡ []
      no-group = list-own (codes "hostgroup_name") place ∙ ap (λ (found : Option (List ℕ)). unwrap_or (option_map own_entries found) []) none

      to : (k : ℕ) → HasHost blocks place k → Lists (names_in blocks Host) (plain_entries blocks (codes "host_name") place) k
      to k (inl named) = subst (λ (es : List (List ℕ)). Lists (names_in blocks Host) es k) (list-own (codes "host_name") place) named
      to k (inr member) =
          absurd (lists-none (names_in blocks HostGroup) member.0 (subst (λ (es : List (List ℕ)). Lists (names_in blocks HostGroup) es member.0) no-group member.1))

      from : (k : ℕ) → Lists (names_in blocks Host) (plain_entries blocks (codes "host_name") place) k → Lists (names_in blocks Host) (list_at blocks (codes "host_name") place) k
      from k named = subst (λ (es : List (List ℕ)). Lists (names_in blocks Host) es k) (sym (list-own (codes "host_name") place)) named

  -- ---- objects

  is-plain : (place : ℕ) → IsPlain blocks place
  is-plain place = record { templates = plain.templates place; groups = plain.contact_groups place }

  given-own : PlainHostHasItsOwn → PlainServiceHasItsOwn → (place : ℕ) (host : Option ℕ) (object : Object) → IsGiven blocks place host object → IsPlainGiven blocks place host object
  given-own host_law service_law place None object given = host_law blocks place object (is-plain place) given
  given-own host_law service_law place (Some number) object given =
      service_law blocks place number object (is-plain place) (is-plain (host_place blocks number)) given

  -- ---- lanes

  used-own : (directive : List ℕ) (command : ℕ) → IsUsed blocks directive command → IsPlainUsed blocks directive command
  used-own directive command used =
      (used.0, used.1, subst (λ (es : List (List ℕ)). NamesCommand (names_in blocks Command) es command) (list-own directive used.0) used.2)

  own-used : (directive : List ℕ) (command : ℕ) → IsPlainUsed blocks directive command → IsUsed blocks directive command
  own-used directive command used =
      (used.0, used.1, subst (λ (es : List (List ℕ)). NamesCommand (names_in blocks Command) es command) (sym (list-own directive used.0)) used.2)

  lanes-own : (lanes : List ℕ) → AreLanes (IsLane blocks) lanes → AreLanes (IsPlainLane blocks) lanes
  lanes-own lanes are = record {
    rising = are.rising;
    exactly = λ k. ((λ at. to k ((are.exactly k).0 at)), (λ named. (are.exactly k).1 (from k named)));
  }
    where
      to : (k : ℕ) → IsLane blocks k → IsPlainLane blocks k
      to k (inl used) = inl (used-own (codes "host_notification_commands") k used)
      to k (inr used) = inr (used-own (codes "service_notification_commands") k used)

      from : (k : ℕ) → IsPlainLane blocks k → IsLane blocks k
      from k (inl used) = inl (own-used (codes "host_notification_commands") k used)
      from k (inr used) = inr (own-used (codes "service_notification_commands") k used)

  -- ---- periods

  period-own : (place : ℕ) (period : Period) → IsPeriodOf blocks place period → IsPlainPeriod blocks place period
  period-own place period of = record {
    name = of.name ∙ name-own TimePeriod place;
    days = of.days ∙ (λ i. map (λ weekday. line_ranges (has blocks weekday place (plain.templates place) i)) weekdays);
    excludes = of.excludes ∙ ap (numbers_of (names_in blocks TimePeriod)) (list-own (codes "exclude") place);
  }

-- ---- the whole

pub plain-config : PlainBlockHasItsOwn → PlainListHasItsOwn → PlainHostHasItsOwn → PlainServiceHasItsOwn → PlainContactHasItsOwn → PlainConfigIsTheirOwn
plain-config has lists_has host_law service_law contact_law blocks config plain of = record {
  names = names-own has lists_has blocks plain;
  hosts = of.hosts;
  hosts_are = zip-weaker (AreHosts blocks) (ArePlainHosts blocks) (λ place. own blocks (codes "hostgroup_name") place ≡ None) (hosts-own has lists_has blocks plain)
      (objects_in blocks Service) of.hosts plain.host_groups of.hosts_are;
  lanes = of.lanes;
  lanes_are = lanes-own has lists_has blocks plain of.lanes of.lanes_are;
  objects = zip-weaker (IsObjectOf blocks) (λ (origin : Origin) object. IsPlainGiven blocks origin.place origin.host object) (λ origin. Unit {0})
      (λ origin object good given. given-own has lists_has blocks plain host_law service_law origin.place origin.host object given)
      (host_origins blocks ++ service_origins blocks of.hosts) config.objects (any (host_origins blocks ++ service_origins blocks of.hosts)) of.objects;
  contacts = zip-weaker (IsContactOf config.choices.contact_none blocks of.lanes) (IsPlainContact config.choices.contact_none blocks of.lanes) (λ place. own blocks (codes "use") place ≡ None)
      (λ place contact none is. contact_law config.choices.contact_none blocks of.lanes place contact none is)
      (objects_in blocks Contact) config.contacts (λ k d below. plain.templates _) of.contacts;
  named = of.named ∙ ap (λ (names : List (List ℕ)). map (λ command. slice_index_or names command []) of.lanes) (names-own has lists_has blocks plain Command);
  periods = zip-from (IsPlainPeriod blocks) (objects_in blocks TimePeriod) config.periods (of.periods).count
      (λ number place period here found. period-own has lists_has blocks plain place period ((of.periods).each number place period here found));
  spoken = of.spoken;
  spoken_are = of.spoken_are;
  escalations = of.escalations;
  dependencies = of.dependencies;
}
