-- Laws of the objects of blocks, of any blocks.
use Rattle.std.specs.Prelude.{◌≡◌, ℕ, true, not, ◌==◌, List, [], map, codes, unwrap_or, None, Some}
use Rattle.std.specs.Option.{option_map_or}
use Rattle.due_model.specs.claims.Objects.{object_id}
use Rattle.due_model.specs.claims.Options.{every_letter}
use Rattle.due_model.specs.declared.config.Object.{Object}
use Rattle.object_groups.specs.claims.Names.{Lists}
use Rattle.object_groups.specs.claims.Objects.{names_in}
use Rattle.object_inheritance.specs.claims.Inherited.{own}
use Rattle.object_listing.specs.claims.Listing.{AreThose}
use Rattle.object_reader.specs.declared.block.Block.{Block}
use Rattle.object_reader.specs.declared.block.BlockKind.TheVariants.{Contact}
use Rattle.object_listing.specs.Plain.{plain_letters, plain_list, plain_number, plain_period}
use Rattle.object_settings.specs.claims.Settings.{host_place, IsHostOf, IsServiceOf}
use Rattle.object_values.specs.declared.options.OptionKind.TheVariants as lists

-- The block at the place is plain: it uses no templates and gives no contact groups.
pub record IsPlain (blocks : List Block) (place : ℕ) : Type 0 where
  pub templates : own blocks (codes "use") place ≡ None
  pub groups : own blocks (codes "contact_groups") place ≡ None

-- ---- hosts

-- The host of a plain block: without templates and groups, each setting is what the block gives itself, or the
-- default, and its contacts are those that it names.
pub record IsPlainHost (blocks : List Block) (place : ℕ) (object : Object) : Type 0 where
  pub name : object.name ≡ unwrap_or (own blocks (codes "host_name") place) []
  pub host : object.host ≡ None
  pub enabled : object.enabled ≡ option_map_or (λ number. not (number == 0))
      (plain_number blocks (codes "notifications_enabled") place) true
  pub options : object.options ≡ unwrap_or
      (plain_letters blocks (codes "notification_options") lists.Host place) every_letter
  pub delay : object.delay
      ≡ unwrap_or (plain_number blocks (codes "first_notification_delay") place) 0
  pub interval : object.interval
      ≡ unwrap_or (plain_number blocks (codes "notification_interval") place) 30
  pub period : object.period
      ≡ unwrap_or (plain_period blocks (codes "notification_period") place) None
  pub contacts : AreThose (Lists (names_in blocks Contact)
      (unwrap_or (plain_list blocks (codes "contacts") place) []))
      (map (λ contact. contact.0) object.contacts)

-- Without templates and groups, a host block gives what plain blocks give.
abbrev pub PlainHostHasItsOwn : Type 0
PlainHostHasItsOwn = (blocks : List Block) (place : ℕ) (object : Object)
    → IsPlain blocks place → IsHostOf blocks place object → IsPlainHost blocks place object

-- ---- services

-- The service of a plain block, on a host of that number: without templates and groups, each setting is what the
-- block gives itself, or the default; but where it gives no contacts, no interval or no period, what the host's
-- block gives itself comes before the default.
pub record IsPlainService (blocks : List Block) (place number : ℕ) (object : Object) : Type 0 where
  pub name : object.name ≡ unwrap_or (own blocks (codes "service_description") place) []
  pub host : object.host ≡ Some (object_id number)
  pub enabled : object.enabled ≡ option_map_or (λ number. not (number == 0))
      (plain_number blocks (codes "notifications_enabled") place) true
  pub options : object.options ≡ unwrap_or
      (plain_letters blocks (codes "notification_options") lists.Service place) every_letter
  pub delay : object.delay
      ≡ unwrap_or (plain_number blocks (codes "first_notification_delay") place) 0
  pub interval : object.interval
      ≡ unwrap_or (plain_number blocks (codes "notification_interval") place)
      (unwrap_or
      (plain_number blocks (codes "notification_interval") (host_place blocks number)) 30)
  pub period : object.period
      ≡ unwrap_or (plain_period blocks (codes "notification_period") place)
      (unwrap_or
      (plain_period blocks (codes "notification_period") (host_place blocks number)) None)
  pub contacts : AreThose (Lists (names_in blocks Contact)
      (unwrap_or (plain_list blocks (codes "contacts") place)
      (unwrap_or (plain_list blocks (codes "contacts") (host_place blocks number)) [])))
      (map (λ contact. contact.0) object.contacts)

-- Without templates and groups, a service block gives what plain blocks give, on a host whose block has none
-- of them either.
abbrev pub PlainServiceHasItsOwn : Type 0
PlainServiceHasItsOwn = (blocks : List Block) (place number : ℕ) (object : Object)
    → IsPlain blocks place → IsPlain blocks (host_place blocks number)
    → IsServiceOf blocks place number object → IsPlainService blocks place number object
