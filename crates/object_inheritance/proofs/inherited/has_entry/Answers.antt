use Rattle.std.proofs.Common.{◌∙◌, rules, tests}
use Rattle.std.proofs.lemmas.Iterator.{YieldsList-from_slice}
use Rattle.std.proofs.lemmas.Iterator.Search.{any_from_yields_List}
use Rattle.object_inheritance.specs.Inherited.{is_of_entry}
use Rattle.object_inheritance.proofs.EntryLemmas.{any-entry}
use Rattle.object_inheritance.proofs.inherited.has_entry.Goals as goal

pub returns : goal.returns
returns c =
    any_from_yields_List is_of_entry _ _ _ c.any.ensures.ran (YieldsList-from_slice c.args.list.now cc) (λ x b q k. search (rules, tests))
    ∙ any-entry c.args.list.now
