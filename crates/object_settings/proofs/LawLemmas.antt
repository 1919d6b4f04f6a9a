-- Hosts and services of plain blocks.
use Rattle.std.proofs.Common.{◌≡◌, ℕ, Bool, true, false, cond, List, [], ◌∷◌, Option, Some, None, refl, sym, ap, subst, ◌∙◌, inl, inr}
use Rattle.std.specs.Prelude.{codes, is_none, map, not, ◌&&◌, ◌==◌, ◌↔◌, unwrap_or}
use Rattle.std.specs.Option.{option_and_then, option_map, option_map_or}
use Rattle.std.proofs.lemmas.Bool.{false≢true}
use Rattle.lemmas.proofs.Elements.{Contains-none}
use Rattle.due_model.specs.claims.Options.{every_letter}
use Rattle.due_model.specs.declared.config.PeriodId.{PeriodId}
use Rattle.object_groups.specs.claims.Names.{Lists}
use Rattle.object_groups.specs.claims.Objects.{list_at, names_in}
use Rattle.object_inheritance.specs.claims.Inherited.{name_of, own, own_entries, value}
use Rattle.object_inheritance.specs.Laws.{PlainBlockHasItsOwn, PlainListHasItsOwn}
use Rattle.object_listing.specs.claims.Listing.{AreThose, contact_directives, gives_neither, IsListed}
use Rattle.object_reader.specs.declared.block.Block.{Block}
use Rattle.object_reader.specs.declared.block.BlockKind.TheVariants.{Contact, ContactGroup, TimePeriod}
use Rattle.object_listing.specs.claims.Readings.{is_on, letters_at, own_number, own_period, period_named}
use Rattle.object_listing.specs.Plain.{plain_letters, plain_list, plain_number, plain_period}
use Rattle.object_settings.specs.Laws.{IsPlain, PlainHostHasItsOwn, PlainServiceHasItsOwn}
use Rattle.object_settings.specs.claims.Settings.{host_place}
use Rattle.object_values.specs.claims.Options.{options_in}
use Rattle.object_values.specs.claims.Values.{number_in}
use Rattle.object_values.specs.declared.options.OptionKind.{OptionKind}
use Rattle.object_values.specs.declared.options.OptionKind.TheVariants as lists

-- what a host takes from itself
unwrap-same : {A : Type 0} (found : Option A) (other : A) → unwrap_or found (unwrap_or found other) ≡ unwrap_or found other
unwrap-same None other = refl
unwrap-same (Some x) other = refl

cond-same : (b : Bool) (place : ℕ) → cond b place place ≡ place
cond-same true place = refl
cond-same false place = refl

-- an empty list names nothing
lists-none : (names : List (List ℕ)) (entries : List (List ℕ)) (k : ℕ) → entries ≡ [] → Lists names entries k → ⊥
lists-none names [] k empty (inl both) = false≢true both.0
lists-none names [] k empty (inr here) = Contains-none k here
lists-none names (e ∷ es) k empty listed = absurd (false≢true (ap is_empty empty))
  where
    is_empty : List (List ℕ) → Bool
    is_empty [] = true
    is_empty (x ∷ xs) = false

-- ---- what a plain block has is what it gives itself

module _ (has : PlainBlockHasItsOwn) (lists_has : PlainListHasItsOwn) (blocks : List Block) (place : ℕ) (plain : IsPlain blocks place) where
  text-own : (directive : List ℕ) → unwrap_or (value blocks directive place) [] ≡ unwrap_or (own blocks directive place) []
  text-own directive = ap (λ (found : Option (List ℕ)). unwrap_or found []) (has blocks directive place plain.templates)

  number-own : (directive : List ℕ) → own_number blocks directive place ≡ plain_number blocks directive place
  number-own directive = ap (option_and_then number_in) (has blocks directive place plain.templates)

  flag-own : (directive : List ℕ) → is_on blocks directive true place ≡ option_map_or (λ number. not (number == 0)) (plain_number blocks directive place) true
  flag-own directive = ap (λ (found : Option ℕ). option_map_or (λ number. not (number == 0)) found true) (number-own directive)

  letters-own : (directive : List ℕ) (kind : OptionKind) → letters_at blocks directive kind place ≡ unwrap_or (plain_letters blocks directive kind place) every_letter
  letters-own directive kind = ap (λ (found : Option (List ℕ)). unwrap_or (option_and_then (options_in kind) found) every_letter) (has blocks directive place plain.templates)

  period-own : (directive : List ℕ) → own_period (names_in blocks TimePeriod) blocks directive place ≡ plain_period blocks directive place
  period-own directive = ap (λ (found : Option (List ℕ)). option_map (period_named (names_in blocks TimePeriod)) (option_map name_of found)) (has blocks directive place plain.templates)

  list-own : (directive : List ℕ) → list_at blocks directive place ≡ unwrap_or (plain_list blocks directive place) []
  list-own directive = ap (λ (found : Option (List (List ℕ))). unwrap_or found []) (lists_has blocks directive place plain.templates)

  no-group : list_at blocks (codes "contact_groups") place ≡ []
  no-group = list-own (codes "contact_groups") ∙ ap (λ (found : Option (List ℕ)). unwrap_or (option_map own_entries found) []) plain.groups

  -- whether it gives neither contacts nor groups of them
  neither-own : gives_neither blocks contact_directives place ≡ (is_none (own blocks (codes "contacts") place) && true)
  neither-own =
      ap (λ (found : Option (List ℕ)). is_none found && is_none (value blocks (codes "contact_groups") place)) (has blocks (codes "contacts") place plain.templates)
      ∙ ap (λ (found : Option (List ℕ)). is_none (own blocks (codes "contacts") place) && is_none found) (has blocks (codes "contact_groups") place plain.templates ∙ plain.groups)

  -- what is listed without groups is what is named
  listed-own : (k : ℕ) → IsListed blocks contact_directives place k ↔ Lists (names_in blocks Contact) (unwrap_or (plain_list blocks (codes "contacts") place) []) k
  listed-own k = (from, λ named. inl (subst (λ (es : List (List ℕ)). Lists (names_in blocks Contact) es k) (sym (list-own (codes "contacts"))) named))
    where
      from : IsListed blocks contact_directives place k → Lists (names_in blocks Contact) (unwrap_or (plain_list blocks (codes "contacts") place) []) k
      from (inl named) = subst (λ (es : List (List ℕ)). Lists (names_in blocks Contact) es k) (list-own (codes "contacts")) named
      from (inr member) = absurd (lists-none (names_in blocks ContactGroup) (list_at blocks (codes "contact_groups") place) member.0 no-group member.1)

  those-own : (numbers : List ℕ) → AreThose (IsListed blocks contact_directives place) numbers
      → AreThose (Lists (names_in blocks Contact) (unwrap_or (plain_list blocks (codes "contacts") place) [])) numbers
  those-own numbers are = record {
    rising = are.rising;
    exactly = λ k. ((λ at. (listed-own k).0 ((are.exactly k).0 at)), (λ listed. (are.exactly k).1 ((listed-own k).1 listed)));
  }

-- ---- hosts

pub plain-host : PlainBlockHasItsOwn → PlainListHasItsOwn → PlainHostHasItsOwn
plain-host has lists_has blocks place object plain of =
    let settings = of.settings in
    let numbers : List ℕ = map (λ contact. contact.0) object.contacts in
    record {
      name = of.name ∙ text-own has lists_has blocks place plain (codes "host_name");
      host = of.host;
      enabled = settings.enabled ∙ flag-own has lists_has blocks place plain (codes "notifications_enabled");
      options = settings.options ∙ letters-own has lists_has blocks place plain (codes "notification_options") lists.Host;
      delay = settings.delay ∙ ap (λ (found : Option ℕ). unwrap_or found 0) (number-own has lists_has blocks place plain (codes "first_notification_delay"));
      interval = settings.interval ∙ unwrap-same (own_number blocks (codes "notification_interval") place) 30
          ∙ ap (λ (found : Option ℕ). unwrap_or found 30) (number-own has lists_has blocks place plain (codes "notification_interval"));
      period = settings.period ∙ unwrap-same (own_period (names_in blocks TimePeriod) blocks (codes "notification_period") place) None
          ∙ ap (λ (found : Option (Option PeriodId)). unwrap_or found None) (period-own has lists_has blocks place plain (codes "notification_period"));
      contacts = those-own has lists_has blocks place plain numbers
          (subst (λ (p : ℕ). AreThose (IsListed blocks contact_directives p) numbers) (cond-same (gives_neither blocks contact_directives place) place) settings.contacts);
    }

-- ---- services

-- what is so of the first list that is given, where it is so of each that is taken
first-given : (P : List (List ℕ) → Type 0) (Q : ℕ → Type 0) (place host : ℕ) (given other : Option (List (List ℕ))) (b : Bool) → b ≡ (is_none given && true)
    → (Q place → P (unwrap_or given [])) → (Q host → P (unwrap_or other [])) → Q (cond b host place) → P (unwrap_or given (unwrap_or other []))
first-given P Q place host None other true same here there at = there at
first-given P Q place host None other false same here there at = absurd (false≢true same)
first-given P Q place host (Some entries) other true same here there at = absurd (false≢true (sym same))
first-given P Q place host (Some entries) other false same here there at = here at

-- a list is given where its text is
none-mapped : (found : Option (List ℕ)) → (is_none found && true) ≡ (is_none (option_map own_entries found) && true)
none-mapped None = refl
none-mapped (Some text) = refl

pub plain-service : PlainBlockHasItsOwn → PlainListHasItsOwn → PlainServiceHasItsOwn
plain-service has lists_has blocks place number object plain host_plain of =
    let settings = of.settings in
    let host = host_place blocks number in
    let numbers : List ℕ = map (λ contact. contact.0) object.contacts in
    record {
      name = of.name ∙ text-own has lists_has blocks place plain (codes "service_description");
      host = of.host;
      enabled = settings.enabled ∙ flag-own has lists_has blocks place plain (codes "notifications_enabled");
      options = settings.options ∙ letters-own has lists_has blocks place plain (codes "notification_options") lists.Service;
      delay = settings.delay ∙ ap (λ (found : Option ℕ). unwrap_or found 0) (number-own has lists_has blocks place plain (codes "first_notification_delay"));
      interval = settings.interval
          ∙ ap (λ (found : Option ℕ). unwrap_or found (unwrap_or (own_number blocks (codes "notification_interval") host) 30)) (number-own has lists_has blocks place plain (codes "notification_interval"))
          ∙ ap (λ (found : Option ℕ). unwrap_or (plain_number blocks (codes "notification_interval") place) (unwrap_or found 30)) (number-own has lists_has blocks host host_plain (codes "notification_interval"));
      period = settings.period
          ∙ ap (λ (found : Option (Option PeriodId)). unwrap_or found (unwrap_or (own_period (names_in blocks TimePeriod) blocks (codes "notification_period") host) None))
          (period-own has lists_has blocks place plain (codes "notification_period"))
          ∙ ap (λ (found : Option (Option PeriodId)). unwrap_or (plain_period blocks (codes "notification_period") place) (unwrap_or found None))
          (period-own has lists_has blocks host host_plain (codes "notification_period"));
      contacts = first-given (λ (entries : List (List ℕ)). AreThose (Lists (names_in blocks Contact) entries) numbers) (λ (p : ℕ). AreThose (IsListed blocks contact_directives p) numbers)
          place host (plain_list blocks (codes "contacts") place) (plain_list blocks (codes "contacts") host) (gives_neither blocks contact_directives place)
          (neither-own has lists_has blocks place plain ∙ none-mapped (own blocks (codes "contacts") place))
          (those-own has lists_has blocks place plain numbers) (those-own has lists_has blocks host host_plain numbers) settings.contacts;
    }
