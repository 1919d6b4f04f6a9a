use Rattle.std.proofs.Common.{◌≡◌, ◌∙◌, List, subst, sym, take_all, true}
use Rattle.std.specs.List.{list_all}
use Rattle.object_pairs.specs.Pairs.{pairs_in}
use Rattle.object_pairs.specs.Wanted.{is_found}
use Rattle.object_pairs.proofs.PairLemmas.{Text}
use Rattle.object_pairs.proofs.UnknownLemmas.{one-missing, pair-found}
use Rattle.object_pairs.proofs.unknown.are_found.Goals as goal

pub returns-then-not-is_found : goal.returns-then-not-is_found
returns-then-not-is_found c =
    one-missing (is_found c.args.hosts.now c.args.found.now.keys) c.args.pairs.now c.loop-pair.pair-index _ c.loop-pair-test.true (sym c.is_found.ensures ∙ c.if-not-is_found.true)

pub loop-pair-preserved : goal.loop-pair-preserved
loop-pair-preserved c =
    pair-found (is_found c.args.hosts.now c.args.found.now.keys) c.args.pairs.now c.loop-pair.pair-index _ c.loop-pair-test.true c.loop-pair.invariant (sym c.is_found.ensures ∙ c.if-not-is_found.false)

pub returns : goal.returns
returns c =
    sym (subst (λ (ps : List (Text × Text)). list_all (is_found c.args.hosts.now c.args.found.now.keys) (pairs_in ps) ≡ true)
    (take_all c.loop-pair.pair-index c.args.pairs.now c.loop-pair-test.false) c.loop-pair.invariant)
