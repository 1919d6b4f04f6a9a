use Rattle.std.proofs.Common.{◌∙◌, sym}
use Rattle.object_reached.proofs.AlikeLemmas.{alike-text, found-text, none-beside, text-alone}
use Rattle.object_reached.proofs.alike.by_text.Goals as goal

pub returns-in-Some-get-clause-same : goal.returns-in-Some-get-clause-same
returns-in-Some-get-clause-same c =
    let blocks = c.args.values.now.blocks in
    let directive = c.args.values.now.directive in
    found-text blocks directive c.args.alike.now.by_place.entries c.args.alike.now.by_text.entries c.in-Some.text c.in-Some-get.other.now c.requires (sym c.in-Some-get.ensures.value)
    ∙ sym (text-alone blocks directive c.args.place c.in-Some.text.now (none-beside blocks directive c.args.place c.added_to.result (sym c.if-is_some.ensures) c.added_to.ensures.beside) (sym c.in-Some.ensures))

pub returns-clause-alike : goal.returns-clause-alike
returns-clause-alike c =
    let blocks = c.args.values.now.blocks in
    let directive = c.args.values.now.directive in
    alike-text blocks directive c.args.alike.now.by_place.entries c.args.alike.now.by_text.entries c.insert.new.self.entries c.in-Some.text c.args.place c.requires
    (text-alone blocks directive c.args.place c.in-Some.text.now (none-beside blocks directive c.args.place c.added_to.result (sym c.if-is_some.ensures) c.added_to.ensures.beside) (sym c.in-Some.ensures))
    c.in_ok-insert.ensures.updates.0
