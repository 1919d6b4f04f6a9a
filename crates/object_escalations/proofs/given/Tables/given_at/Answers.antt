use Rattle.std.proofs.Common.{◌∙◌, List, Bool, ap, map, subst, sym, ℕ}
use Rattle.std.specs.Prelude.{codes}
use Rattle.object_groups.specs.claims.Objects.{names_in}
use Rattle.object_listing.specs.Contacts.{AskedContacts, IsAsked}
use Rattle.object_listing.specs.claims.Listing.{AreThose, contact_directives, gives_neither, IsListed}
use Rattle.object_reader.specs.declared.block.Block.{Block}
use Rattle.object_reader.specs.declared.block.BlockKind.TheVariants.{TimePeriod}
use Rattle.object_listing.specs.claims.Readings.{letters_at, number_at, own_number, own_period}
use Rattle.object_escalations.proofs.GivenLemmas.{read-are}
use Rattle.object_escalations.proofs.given.Tables.given_at.Goals as goal

pub gives_neither-requires : goal.gives_neither-requires
gives_neither-requires c = subst (λ (asked : List Bool). IsAsked asked c.args.place) (sym (ap (λ (t : AskedContacts). t.asked) c.self.view_is)) c.requires.asked

pub contacts_at-requires : goal.contacts_at-requires
contacts_at-requires c = subst (λ (asked : List Bool). IsAsked asked c.args.place) (sym (ap (λ (t : AskedContacts). t.asked) c.self.view_is)) c.requires.asked

pub returns : goal.returns
returns c =
    let blocks = c.args.self.now.blocks in
    let inside = c.self.inside.blocks.now in
    let times = c.self.inside.times in
    let filters = c.self.inside.filters in
    let place = c.args.place in
    let same = ap (λ (t : AskedContacts). t.blocks) c.self.view_is in
    let listed = c.self.invariant.contacts_are ∙ same in
    record {
      first = c.number_at.ensures ∙ read-are (λ bs d. number_at bs d 0 place) blocks inside (codes "first_notification") times.firsts same c.self.invariant.times_are.firsts_are;
      last = c.number_at-2.ensures ∙ read-are (λ bs d. number_at bs d 0 place) blocks inside (codes "last_notification") times.lasts same c.self.invariant.times_are.lasts_are;
      interval = c.own_number.ensures ∙ read-are (λ bs d. own_number bs d place) blocks inside (codes "notification_interval") times.intervals same c.self.invariant.times_are.intervals_are;
      period = c.own_period.ensures ∙ ap (λ (periods : List (List ℕ)). own_period periods filters.periods.blocks filters.periods.directive place) c.requires.periods.names
          ∙ read-are (λ bs d. own_period (names_in blocks TimePeriod) bs d place) blocks inside (codes "escalation_period") filters.periods same c.self.invariant.filters_are.periods_are;
      options = c.letters_at.ensures ∙ read-are (λ bs d. letters_at bs d c.args.kind place) blocks inside (codes "escalation_options") filters.options same c.self.invariant.filters_are.options_are;
      lacks = c.gives_neither.ensures
          ∙ ap (λ (bs : List Block). gives_neither bs contact_directives place) listed;
      contacts = subst (λ (bs : List Block). AreThose (IsListed bs contact_directives place) (map (λ contact. contact.0) c.contacts_at.result.now)) listed
          c.contacts_at.ensures;
    }
