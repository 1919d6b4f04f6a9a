use Rattle.std.proofs.Common.{sym, ◌∙◌}
use Rattle.object_reached.specs.Listed.{is_named_at}
use Rattle.object_reached.proofs.AddsLemmas.{passes, stays-out}
use Rattle.object_reached.proofs.numbers.push_named.Goals as goal

pub returns-in_ok-push : goal.returns-in_ok-push
returns-in_ok-push c = passes (is_named_at c.args.services.now c.args.descriptions.now) c.args.found.now.items c.push.new.self.items c.args.service (sym c.has.ensures ∙ c.if-has.true) c.in_ok-push.ensures.items

pub returns-else-has : goal.returns-else-has
returns-else-has c = stays-out (is_named_at c.args.services.now c.args.descriptions.now) c.args.found.now.items c.args.service (sym c.has.ensures ∙ c.if-has.false)
