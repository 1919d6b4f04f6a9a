use Rattle.std.proofs.Common.{◌∙◌, Bor, List, subst, take_all, ℕ}
use Rattle.object_unknown_services.specs.Keys.{Adds}
use Rattle.object_unknown_services.proofs.KeyLemmas.{Pushed, pushed-more, pushed-none}
use Rattle.object_values.specs.Values.{texts}
use Rattle.object_unknown_services.proofs.keys.push_each.Goals as goal

pub loop-description-init : goal.loop-description-init
loop-description-init c = pushed-none c.args.names.now c.args.place c.args.lists.now

pub loop-description-preserved : goal.loop-description-preserved
loop-description-preserved c =
    pushed-more c.args.names.now c.args.place c.key_of.result c.args.descriptions.now c.loop-description.description-index _ c.args.lists.now c.loop-description.lists _
    c.loop-description-test.true c.key_of.ensures.key (c.loop-description.invariant.long ∙ c.requires) c.in_ok-push.ensures.pushed c.loop-description.invariant

pub returns : goal.returns
returns c =
    subst (λ (ds : List (Bor (List ℕ))). Adds (Pushed c.args.names.now (texts ds) c.args.place) c.args.lists.now c.loop-description.lists)
    (take_all c.loop-description.description-index c.args.descriptions.now c.loop-description-test.false) c.loop-description.invariant
