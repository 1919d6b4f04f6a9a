use Rattle.std.proofs.Common.{◌∙◌, List, Bool, ap, false, map, refl, subst, sym, true, ℕ}
use Rattle.std.specs.Prelude.{codes}
use Rattle.object_groups.specs.claims.Objects.{names_in}
use Rattle.object_inheritance.specs.Columns.{Column}
use Rattle.object_listing.specs.Contacts.{AskedContacts, IsAsked}
use Rattle.object_listing.specs.claims.Listing.{AreThose, contact_directives, gives_neither, IsListed}
use Rattle.object_reader.specs.declared.block.Block.{Block}
use Rattle.object_reader.specs.declared.block.BlockKind.TheVariants.{TimePeriod}
use Rattle.object_listing.specs.claims.Readings.{is_on, letters_at, number_at, own_number, own_period}
use Rattle.object_settings.specs.Own.{AreRead, options_of}
use Rattle.object_settings.proofs.TableLemmas.{read-are}
use Rattle.object_settings.proofs.tables.Tables.own_at.Goals as goal

pub gives_neither-requires : goal.gives_neither-requires
gives_neither-requires c = subst (λ (asked : List Bool). IsAsked asked c.args.place) (sym (ap (λ (t : AskedContacts). t.asked) c.self.view_is)) c.requires.asked

pub contacts_at-requires : goal.contacts_at-requires
contacts_at-requires c = subst (λ (asked : List Bool). IsAsked asked c.args.place) (sym (ap (λ (t : AskedContacts). t.asked) c.self.view_is)) c.requires.asked

pub letters_once-requires : goal.letters_once-requires
letters_once-requires c = subst (λ (options : Column). AreRead options c.args.kind c.args.read.now.items) (sym (c.self.invariant.filters_are.options_are ∙ ap (λ (t : AskedContacts). options_of t.blocks) c.self.view_is)) c.requires.read

pub returns-clause-read : goal.returns-clause-read
returns-clause-read c =
    subst (λ (options : Column). AreRead options c.args.kind c.letters_once.new.read.items) (c.self.invariant.filters_are.options_are ∙ ap (λ (t : AskedContacts). options_of t.blocks) c.self.view_is) c.letters_once.ensures.read

pub returns-clause-own : goal.returns-clause-own
returns-clause-own c =
    let blocks = c.args.self.now.blocks in
    let inside = c.self.inside.blocks.now in
    let times = c.self.inside.times in
    let filters = c.self.inside.filters in
    let place = c.args.place in
    let same = ap (λ (t : AskedContacts). t.blocks) c.self.view_is in
    let listed = c.self.invariant.contacts_are ∙ same in
    record {
      named = refl;
      enabled = c.is_on.ensures ∙ read-are (λ bs d. is_on bs d true place) blocks inside (codes "notifications_enabled") filters.flags same c.self.invariant.filters_are.flags_are;
      volatile = c.is_on-2.ensures ∙ read-are (λ bs d. is_on bs d false place) blocks inside (codes "is volatile") filters.volatiles same c.self.invariant.filters_are.volatiles_are;
      options = c.letters_once.ensures.letters ∙ read-are (λ bs d. letters_at bs d c.args.kind place) blocks inside (codes "notification_options") filters.options same c.self.invariant.filters_are.options_are;
      delay = c.number_at.ensures ∙ read-are (λ bs d. number_at bs d 0 place) blocks inside (codes "first_notification_delay") times.delays same c.self.invariant.times_are.delays_are;
      interval = c.own_number.ensures ∙ read-are (λ bs d. own_number bs d place) blocks inside (codes "notification_interval") times.intervals same c.self.invariant.times_are.intervals_are;
      period = c.own_period.ensures ∙ ap (λ (periods : List (List ℕ)). own_period periods times.periods.blocks times.periods.directive place) c.requires.periods.names
          ∙ read-are (λ bs d. own_period (names_in blocks TimePeriod) bs d place) blocks inside (codes "notification_period") times.periods same c.self.invariant.times_are.periods_are;
      lacks = c.gives_neither.ensures
          ∙ ap (λ (bs : List Block). gives_neither bs contact_directives place) listed;
      contacts = subst (λ (bs : List Block). AreThose (IsListed bs contact_directives place) (map (λ contact. contact.0) c.contacts_at.result.now)) listed
          c.contacts_at.ensures;
    }
