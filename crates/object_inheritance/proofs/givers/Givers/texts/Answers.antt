use Rattle.std.proofs.Common.{List, ap, subst, ◌∙◌}
use Rattle.std.specs.Global.{Vec}
use Rattle.std.specs.Option.{option_and_then}
use Rattle.object_reader.specs.declared.block.Block.{Block}
use Rattle.object_inheritance.specs.Givers.{HasOwnTexts, last_at}
use Rattle.object_inheritance.specs.declared.givers.OwnText.{OwnText}
use Rattle.object_inheritance.proofs.GiverLemmas.{texts-within}
use Rattle.object_inheritance.proofs.givers.Givers.texts.Goals as goal

pub returns-in-Some-clause-last : goal.returns-in-Some-clause-last
returns-in-Some-clause-last c place =
    ap (λ (given : List OwnText). last_at c.args.self.now given place) c.as_slice.ensures.value
    ∙ ap (option_and_then (λ (given : Vec OwnText). last_at c.args.self.now given.items place)) c.in-Some.ensures.value
    ∙ (subst (λ (blocks : List Block). HasOwnTexts blocks c.self.inside.by_name.entries) c.self.view_is c.self.invariant).each c.args.directive.now place

pub returns-in-Some-clause-within : goal.returns-in-Some-clause-within
returns-in-Some-clause-within c = texts-within c.args.self.now c.args.directive.now c.as_slice.result.now (returns-in-Some-clause-last c)
