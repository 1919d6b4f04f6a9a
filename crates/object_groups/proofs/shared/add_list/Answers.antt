use Rattle.std.proofs.Common.{◌≡◌, arith, length}
use Rattle.object_groups.specs.declared.shared.SharedList.{SharedList}
use Rattle.object_groups.proofs.SharedLemmas.{found-more, grows-one, is-last, last-number}
use Rattle.object_groups.proofs.shared.add_list.Goals as goal

pub returns-clause-found : goal.returns-clause-found
returns-clause-found c =
    let blocks = c.args.values.now.blocks in
    let directive = c.args.values.now.directive in
    let old = c.args.found.now.lists.items in
    let one : SharedList = record { place = c.args.place; before = c.args.before } in
    let number : c.len-number.result ≡ length old = omega (arith, c.len-number.ensures, c.args.found.now.lists.ok) in
    found-more blocks directive old c.push.new.self.items one c.in_ok-push.ensures.items c.args.found.now.numbers.entries c.insert.new.self.entries c.len-number.result c.requires.found
    (is-last blocks directive old one c.requires.within c.requires.entries) number c.in_ok-insert.ensures.updates.0

pub returns-clause-grows : goal.returns-clause-grows
returns-clause-grows c =
    let one : SharedList = record { place = c.args.place; before = c.args.before } in
    grows-one c.args.values.now.blocks c.args.values.now.directive c.args.found.now.lists.items c.push.new.self.items one c.in_ok-push.ensures.items

pub returns-clause-number : goal.returns-clause-number
returns-clause-number c =
    let old = c.args.found.now.lists.items in
    let one : SharedList = record { place = c.args.place; before = c.args.before } in
    let number : c.len-number.result ≡ length old = omega (arith, c.len-number.ensures, c.args.found.now.lists.ok) in
    last-number c.args.values.now.blocks c.args.values.now.directive old c.push.new.self.items one c.in_ok-push.ensures.items c.len-number.result number
