use Rattle.std.proofs.Common.{ap, sym, ◌∙◌}
use Rattle.object_inheritance.specs.Inherited.{has_any}
use Rattle.object_inheritance.proofs.EntryLemmas.{own-additive}
use Rattle.object_inheritance.proofs.inherited.has_own_entry.Goals as goal

pub returns-then-is_additive : goal.returns-then-is_additive
returns-then-is_additive c = c.has_entry.ensures ∙ ap has_any (own-additive c.args.text.now (sym c.is_additive.ensures ∙ c.if-is_additive.true))
