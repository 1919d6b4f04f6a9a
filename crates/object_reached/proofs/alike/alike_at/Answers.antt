use Rattle.std.proofs.Common.{◌∙◌, sym}
use Rattle.object_reached.proofs.AlikeLemmas.{alike-place, found-place, given-same}
use Rattle.object_reached.proofs.alike.alike_at.Goals as goal

pub returns-in-Some-clause-same : goal.returns-in-Some-clause-same
returns-in-Some-clause-same c =
    let blocks = c.args.values.now.blocks in
    let directive = c.args.values.now.directive in
    found-place blocks directive c.args.alike.now.by_place.entries c.args.alike.now.by_text.entries c.origin-origin.result c.in-Some.other.now c.requires (sym c.in-Some.ensures.value)
    ∙ given-same blocks directive c.origin-origin.result c.args.place c.origin-origin.ensures.same

pub returns-clause-alike : goal.returns-clause-alike
returns-clause-alike c =
    alike-place c.args.values.now.blocks c.args.values.now.directive c.by_text.new.alike.by_place.entries c.insert.new.self.entries c.by_text.new.alike.by_text.entries c.origin-origin.result c.in_ok-other.other
    c.in_ok-other.ensures.alike c.in_ok-other.ensures.same c.in_ok-insert.ensures.updates.0

pub returns-clause-same : goal.returns-clause-same
returns-clause-same c =
    c.in_ok-other.ensures.same ∙ given-same c.args.values.now.blocks c.args.values.now.directive c.origin-origin.result c.args.place c.origin-origin.ensures.same
