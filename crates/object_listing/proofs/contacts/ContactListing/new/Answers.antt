use Rattle.std.proofs.Common.{rules, ◌≡◌, ◌∙◌, arith, ap, Bool, false, get_or, length, List, subst, sym}
use Rattle.std.specs.Prelude.{slice_index_or}
use Rattle.object_listing.specs.Contacts.{AddsList, HasLists, lists_in}
use Rattle.object_listing.specs.Listing.{ListingOf}
use Rattle.object_reader.specs.declared.block.Block.{Block}
use Rattle.object_listing.proofs.ContactLemmas.{lists-all, lists-more}
use Rattle.object_listing.proofs.contacts.ContactListing.new.Goals as goal

pub loop-place-preserved : goal.loop-place-preserved
loop-place-preserved c =
    let blocks = c.args.templates.now in
    let asked = c.args.asked.items in
    let place = c.loop-place.place in
    let old = lists_in c.loop-place.lists.items in
    let new = lists_in c.list_number.new.lists.items in
    let same = ap (λ (l : ListingOf). l.blocks) c.in_ok-listing.ensures in
    let flag : Bool = get_or c.deref-flag-items.result.now place false in
    let flag_is : flag ≡ slice_index_or asked place false = ap (λ (flags : List Bool). get_or flags place false) c.deref-flag-items.ensures.value in
    let adds = subst (λ (bs : List Block). AddsList bs place flag old new c.list_number.new.numbers.entries c.in_ok-number.number) same c.in_ok-number.ensures.list in
    record {
      same = c.list_number.ensures.same ∙ c.loop-place.invariant.same;
      found = adds.found;
      below = lists-more blocks asked place flag old new c.list_number.new.numbers.entries c.loop-place.numbers.items c.push.new.self.items c.in_ok-number.number
          flag_is c.loop-place.invariant.below adds c.in_ok-push.ensures.items;
    }

pub invariant_of-result : goal.invariant_of-result
invariant_of-result c =
    let asked = c.args.asked.items in
    let lists = lists_in c.loop-place.lists.items in
    let long = ap (λ (flags : List Bool). length flags) c.deref-flag-items.ensures.value in
    let end : c.loop-place.place ≡ length asked = omega (arith, long, c.loop-place.auto.place-end, c.loop-place-test.false) in
    subst (λ (bs : List Block). HasLists bs asked lists c.loop-place.numbers.items) (sym c.blocks-2.ensures.value)
    (lists-all c.args.templates.now asked c.loop-place.place lists c.loop-place.numbers.items end c.loop-place.invariant.below)

pub list_number-requires-clause-sources : goal.list_number-requires-clause-sources
list_number-requires-clause-sources c = search rules
