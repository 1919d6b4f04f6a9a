-- Contacts of plain blocks.
use Rattle.std.proofs.Common.{◌≡◌, ℕ, Bool, true, List, [], Option, None, ap, subst, ◌∙◌}
use Rattle.std.specs.Prelude.{codes, map, not, ◌==◌, unwrap_or}
use Rattle.std.specs.Option.{option_and_then, option_map, option_map_or}
use Rattle.due_model.specs.declared.config.Contact as model
use Rattle.object_contacts.specs.claims.Contacts.{IsContactOf, letters_unlisted}
use Rattle.object_contacts.specs.claims.Lanes.{AreLanes, NamesLane}
use Rattle.object_listing.specs.Plain.{plain_letters, plain_number, plain_period}
use Rattle.object_contacts.specs.Laws.{IsPlainContact, PlainContactHasItsOwn}
use Rattle.object_groups.specs.claims.Objects.{list_at, names_in}
use Rattle.object_inheritance.specs.claims.Inherited.{name_of, own, own_entries}
use Rattle.object_inheritance.specs.Laws.{PlainBlockHasItsOwn, PlainListHasItsOwn}
use Rattle.object_reader.specs.declared.block.Block.{Block}
use Rattle.object_reader.specs.declared.block.BlockKind.TheVariants.{Command, TimePeriod}
use Rattle.object_listing.specs.claims.Readings.{is_on, letters_or, period_at, period_named}
use Rattle.object_values.specs.claims.Options.{options_in}
use Rattle.object_values.specs.claims.Values.{number_in}
use Rattle.object_values.specs.declared.options.OptionKind.{OptionKind}
use Rattle.object_values.specs.declared.options.OptionKind.TheVariants as lists

-- what a block without `use` has is what it gives itself
module _ (has : PlainBlockHasItsOwn) (lists_has : PlainListHasItsOwn) (blocks : List Block) (place : ℕ) (none : own blocks (codes "use") place ≡ None) where
  flag-own : (directive : List ℕ) → is_on blocks directive true place ≡ option_map_or (λ number. not (number == 0)) (plain_number blocks directive place) true
  flag-own directive = ap (λ (found : Option (List ℕ)). option_map_or (λ number. not (number == 0)) (option_and_then number_in found) true) (has blocks directive place none)

  letters-own : (daemons : Bool) (directive : List ℕ) (kind : OptionKind) → letters_or blocks directive kind (letters_unlisted daemons) place ≡ unwrap_or (plain_letters blocks directive kind place) (letters_unlisted daemons)
  letters-own daemons directive kind = ap (λ (found : Option (List ℕ)). unwrap_or (option_and_then (options_in kind) found) (letters_unlisted daemons)) (has blocks directive place none)

  period-own : (directive : List ℕ) → period_at (names_in blocks TimePeriod) blocks directive place ≡ unwrap_or (plain_period blocks directive place) None
  period-own directive =
      ap (λ (found : Option (List ℕ)). unwrap_or (option_map (period_named (names_in blocks TimePeriod)) (option_map name_of found)) None) (has blocks directive place none)

  list-own : (directive : List ℕ) → list_at blocks directive place ≡ unwrap_or (option_map own_entries (own blocks directive place)) []
  list-own directive = ap (λ (found : Option (List (List ℕ))). unwrap_or found []) (lists_has blocks directive place none)

  contact-own : (daemons : Bool) (lane_commands : List ℕ) (contact : model.Contact) → IsContactOf daemons blocks lane_commands place contact → IsPlainContact daemons blocks lane_commands place contact
  contact-own daemons lane_commands contact of =
      let hosts = of.hosts in
      let services = of.services in
      record {
        name = of.name ∙ ap (λ (found : Option (List ℕ)). unwrap_or found []) (has blocks (codes "contact_name") place none);
        host_enabled = hosts.enabled ∙ flag-own (codes "host_notifications_enabled");
        host_options = hosts.options ∙ letters-own daemons (codes "host_notification_options") lists.Host;
        host_period = hosts.period ∙ period-own (codes "host_notification_period");
        host_lanes = subst (λ (entries : List (List ℕ)). AreLanes (NamesLane (names_in blocks Command) lane_commands entries) (map (λ lane. lane.0) contact.hosts.lanes))
            (list-own (codes "host_notification_commands")) hosts.lanes;
        service_enabled = services.enabled ∙ flag-own (codes "service_notifications_enabled");
        service_options = services.options ∙ letters-own daemons (codes "service_notification_options") lists.Service;
        service_period = services.period ∙ period-own (codes "service_notification_period");
        service_lanes = subst (λ (entries : List (List ℕ)). AreLanes (NamesLane (names_in blocks Command) lane_commands entries) (map (λ lane. lane.0) contact.services.lanes))
            (list-own (codes "service_notification_commands")) services.lanes;
      }

pub plain-contact : PlainBlockHasItsOwn → PlainListHasItsOwn → PlainContactHasItsOwn
plain-contact has lists_has daemons blocks lane_commands place contact none of = contact-own has lists_has blocks place none daemons lane_commands contact of
