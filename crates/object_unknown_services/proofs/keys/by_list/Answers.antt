use Rattle.std.proofs.Common.{List, refl, subst, sym, take_all, ℕ}
use Rattle.std.proofs.lemmas.Result.{IfOk-weaker}
use Rattle.std.specs.Prelude.{Contains}
use Rattle.object_unknown_services.specs.Keys.{AreListsOf}
use Rattle.object_unknown_services.proofs.KeyLemmas.{places-more, places-none}
use Rattle.object_unknown_services.proofs.keys.by_list.Goals as goal

pub loop-pair-init : goal.loop-pair-init
loop-pair-init c = places-none c.args.blocks c.args.blocks c.in_ok-lists.lists refl c.in_ok-lists.ensures

pub loop-pair-preserved : goal.loop-pair-preserved
loop-pair-preserved c =
    places-more c.args.found.now c.loop-pair.pair-index c.loop-pair-test.true c.args.blocks c.loop-pair.lists c.push.new.self
    (c.requires c.loop-pair.pair-index (0, 0) c.loop-pair-test.true) c.in_ok-push.ensures.pushed c.loop-pair.invariant

pub returns : goal.returns
returns c =
    IfOk-weaker c.build.result _ _
    (λ lists is. subst (λ (ls : List (List ℕ)). AreListsOf c.args.blocks (λ list place. Contains c.args.found.now (place, list)) ls) (sym is)
    (subst (λ (ps : List (ℕ × ℕ)). AreListsOf c.args.blocks (λ list place. Contains ps (place, list)) c.loop-pair.lists) (take_all c.loop-pair.pair-index c.args.found.now c.loop-pair-test.false) c.loop-pair.invariant))
    c.build.ensures
