use Rattle.std.proofs.Common.{sym, ◌∙◌}
use Rattle.std.proofs.lemmas.Result.{IfOk-weaker}
use Rattle.object_inheritance.proofs.EntryLemmas.{own-additive}
use Rattle.object_inheritance.proofs.inherited.own_entries.Goals as goal

pub returns-then-is_additive : goal.returns-then-is_additive
returns-then-is_additive c =
    IfOk-weaker c.entries.result _ _ (λ list are. are ∙ own-additive c.args.text.now (sym c.is_additive.ensures ∙ c.if-is_additive.true)) c.entries.ensures
