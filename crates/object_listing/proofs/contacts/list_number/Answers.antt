use Rattle.std.proofs.Common.{◌≡◌, ◌++◌, ◌∷◌, ◌∙◌, [], arith, ap, length, List, Vec, Global, sym}
use Rattle.std.proofs.lemmas.List.{length-map, map-append}
use Rattle.due_model.specs.declared.config.ContactId.{ContactId}
use Rattle.object_listing.specs.Contacts.{lists_in}
use Rattle.object_listing.proofs.ContactLemmas.{adds-found, adds-new, adds-none, adds-nothing, neither-is, origins-are}
use Rattle.object_listing.proofs.contacts.list_number.Goals as goal

pub returns-then-not-asked-clause-list : goal.returns-then-not-asked-clause-list
returns-then-not-asked-clause-list c =
    adds-nothing _ c.args.place c.args.asked (lists_in c.args.lists.now.items) c.args.numbers.now.entries c.if-not-asked.true c.requires.found

pub returns-then-gives_neither-clause-list : goal.returns-then-gives_neither-clause-list
returns-then-gives_neither-clause-list c =
    adds-none c.args.listing.now.blocks c.args.place c.args.asked (lists_in c.args.lists.now.items) c.args.numbers.now.entries
    (neither-is c.args.listing.now c.args.groups.now c.args.place c.gives_neither.result _ c.requires.sources c.gives_neither.ensures c.if-gives_neither.true) c.requires.found

pub returns-in-Some-clause-list : goal.returns-in-Some-clause-list
returns-in-Some-clause-list c =
    adds-found c.args.listing.now.blocks c.args.place c.args.asked c.origins-origins.result (lists_in c.args.lists.now.items) c.args.numbers.now.entries c.in-Some.number.now
    (neither-is c.args.listing.now c.args.groups.now c.args.place c.gives_neither.result _ c.requires.sources c.gives_neither.ensures c.if-gives_neither.false)
    (origins-are c.args.listing.now c.args.groups.now c.args.place c.origins-origins.result c.requires.sources c.origins-origins.ensures.same) (sym c.in-Some.ensures.value) c.requires.found

pub returns-clause-list : goal.returns-clause-list
returns-clause-list c =
    let old : List (Vec ContactId Global) = c.args.lists.now.items in
    let is : lists_in c.push.new.self.items ≡ lists_in old ++ c.in_ok-contacts.contacts.items ∷ [] =
    ap lists_in c.in_ok-push.ensures.items ∙ map-append (λ (list : Vec ContactId Global). list.items) old (c.in_ok-contacts.contacts ∷ []) in
    let long = length-map old (λ (list : Vec ContactId Global). list.items) in
    let number : c.len-number.result ≡ length (lists_in old) = omega (arith, c.len-number.ensures, c.args.lists.now.ok, long) in
    adds-new c.args.listing.now.blocks c.args.place c.origins-origins.result (lists_in old) c.in_ok-contacts.contacts.items (lists_in c.push.new.self.items)
    (origins-are c.args.listing.now c.args.groups.now c.args.place c.origins-origins.result c.requires.sources c.origins-origins.ensures.same) c.in_ok-contacts.ensures.contacts is c.args.asked c.args.numbers.now.entries c.insert.new.self.entries c.len-number.result c.if-not-asked.false
    (neither-is c.args.listing.now c.args.groups.now c.args.place c.gives_neither.result _ c.requires.sources c.gives_neither.ensures c.if-gives_neither.false) number c.in_ok-insert.ensures.updates.0 c.requires.found
