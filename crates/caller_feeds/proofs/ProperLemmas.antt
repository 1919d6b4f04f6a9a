-- A proper event, by the test that says so.
use Rattle.std.proofs.Common.{◌≡◌, ℕ, ◌<◌, ◌≤◌, Bool, true, false, if◌then◌else◌, length, nat_le, nat_lt, slice_get, is_some, Option, None, Some, refl, ap, subst}
use Rattle.std.specs.Bool.{IsTrue}
use Rattle.std.specs.Option.{option_map_or}
use Rattle.std.proofs.lemmas.Bool.{and_parts, leb-true, ltb-true}
use Rattle.std.proofs.lemmas.Option.{same_Some}
use Rattle.due_model.specs.declared.config.Config.{Config}
use Rattle.due_model.specs.declared.config.Object.{Object}
use Rattle.due_model.specs.declared.event.Event.{Event}
use Rattle.due_model.specs.declared.event.EventKind.{EventKind}
use Rattle.due_model.specs.declared.event.EventKind.TheVariants.{Clock, Program, Hard, Downtime, Flapping, Ack, AckRemoved, OwnSwitch}
use Rattle.due_model.specs.declared.state.State.{State}
use Rattle.due_model.specs.claims.Limits.{last_moment}
use Rattle.due_model.specs.claims.Proper.{IsProper, KindIsProper, is_state_of}
use Rattle.caller_feeds.specs.declared.item.FeedItem.{FeedItem}
use Rattle.caller_feeds.specs.declared.item.FeedItem.TheVariants.{End, Posted}
use Rattle.caller_feeds.specs.Items.{proper_event}
use Rattle.caller_feeds.specs.Properness.{is_proper, kind_is_proper}

found_proper : (c : Config) (o : ℕ) (s : State) (found : Option Object) → slice_get c.objects o ≡ found
    → option_map_or (λ (object : Object). is_state_of (is_some object.host) s) found false ≡ true
    → (object : Object) × (slice_get c.objects o ≡ Some object) × IsTrue (is_state_of (is_some object.host) s)
found_proper c o s None at holds = cc
found_proper c o s (Some object) at holds = (object, at, holds)

kind_proper : (c : Config) (k : EventKind) → kind_is_proper c k ≡ true → KindIsProper c k
kind_proper c Clock holds = tt
kind_proper c (Program on) holds = tt
kind_proper c (Hard o s) holds = found_proper c o.0 s (slice_get c.objects o.0) refl holds
kind_proper c (Downtime o change) holds = ltb-true o.0 (length c.objects) holds
kind_proper c (Flapping o starts) holds = ltb-true o.0 (length c.objects) holds
kind_proper c (Ack o ack) holds = ltb-true o.0 (length c.objects) holds
kind_proper c (AckRemoved o) holds = ltb-true o.0 (length c.objects) holds
kind_proper c (OwnSwitch o on) holds = ltb-true o.0 (length c.objects) holds

proper_is : (c : Config) (e : Event) → is_proper c e ≡ true → IsProper c e
proper_is c e holds =
    let parts = and_parts (nat_le e.moment last_moment) (kind_is_proper c e.kind) holds in
    record { stamp = leb-true e.moment last_moment parts.0; kind = kind_proper c e.kind parts.1 }

-- the proper event that an item is is one
pub given_proper : (c : Config) (item : FeedItem) (e : Event) → proper_event c item ≡ Some e → IsProper c e
given_proper c (Posted f) e is = by_test (is_proper c f) refl is
  where
    by_test : (b : Bool) → is_proper c f ≡ b → (if b then Some f else None) ≡ Some e → IsProper c e
    by_test true holds same = subst (IsProper c) (same_Some f e same) (proper_is c f holds)
    by_test false holds same = cc
given_proper c End e is = cc
