use Rattle.std.proofs.Common.{◌≡◌}
use Rattle.object_listing.specs.Contacts.{AreFound, HasListsBelow, lists_in}
use Rattle.object_listing.proofs.contacts.ContactListing.new.Given as goal

-- The groups stay; the lists so far, and those of the blocks so far.
abbrev pub invariant-loop-place : goal.invariant-loop-place
invariant-loop-place l = record {
  same : l.groups ≡ l.initial.groups;
  found : AreFound l.fn.templates (lists_in l.lists.items) l.found.entries;
  below : HasListsBelow l.fn.templates l.fn.asked.items l.place (lists_in l.lists.items) l.numbers.items;
}
