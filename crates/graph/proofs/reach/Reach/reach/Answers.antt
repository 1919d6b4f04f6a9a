use Rattle.std.proofs.Common.{◌≡◌, ◌≢◌, ◌<◌, ◌≤◌, length, get_or, take, arith, ◌∙◌, ◌∷◌, [], List, ℕ, sym, ap, subst}
use Rattle.std.specs.Prelude.{AllPairs}
use Rattle.std.proofs.lemmas.List.{get_or_default, get_or-take, length-take-le}
use Rattle.graph.specs.Reach.{Found, Gains}
use Rattle.graph.proofs.ReachLemmas.{IsSearch-node, IsTurn-start, IsTurn-more, IsTurn-end}
use Rattle.graph.proofs.reach.Reach.reach.Goals as goal

pub loop-turn-init : goal.loop-turn-init
loop-turn-init c = record {
  same = c.find.ensures.nodes ∙ ap (λ (found : Found). found.nodes) c.begin.ensures ∙ sym c.requires.same;
  turn = IsTurn-start c.args.graph.now c.args.from c.find.new.self.found
      (subst (λ (old : List ℕ). Gains old (c.args.from ∷ []) c.find.new.self.found) (ap (λ (found : Found). found.found) c.begin.ensures) c.find.ensures.gains);
}

pub ends-requires : goal.ends-requires
ends-requires c =
    let s = c.self.inside in
    let within : c.loop-turn.turn < length s.queue.items = omega (arith, c.self.invariant.room, c.loop-turn-test.true) in
    let at : c.index-node.result.now ≡ get_or s.queue.items c.loop-turn.turn 0 =
    c.index-node.ensures ∙ get_or_default s.queue.items c.loop-turn.turn c.index-node.result.now 0 within in
    let nodes : length s.marks.items ≡ length c.args.graph.now = ap (λ (found : Found). found.nodes) c.self.view_is ∙ c.loop-turn.invariant.same in
    omega (arith, at, nodes, IsSearch-node s.marks.items s.stamp s.queue.items s.count c.loop-turn.turn c.self.invariant c.loop-turn-test.true)

pub loop-turn-preserved : goal.loop-turn-preserved
loop-turn-preserved c =
    let s = c.self.inside in
    let turn = c.loop-turn.turn in
    let within : turn < length s.queue.items = omega (arith, c.self.invariant.room, c.loop-turn-test.true) in
    let at : c.index-node.result.now ≡ get_or s.queue.items turn 0 = c.index-node.ensures ∙ get_or_default s.queue.items turn c.index-node.result.now 0 within in
    let found_is : take s.count s.queue.items ≡ c.loop-turn.self.found = ap (λ (found : Found). found.found) c.self.view_is in
    let long : turn < length c.loop-turn.self.found = rw (← found_is, length-take-le s.count s.queue.items c.self.invariant.room) c.loop-turn-test.true in
    let node : c.index-node.result.now ≡ get_or c.loop-turn.self.found turn 0 =
    at ∙ sym (get_or-take s.count s.queue.items turn 0 c.loop-turn-test.true) ∙ ap (λ (found : List ℕ). get_or found turn 0) found_is in
    record {
      same = c.find_each.ensures.nodes ∙ c.loop-turn.invariant.same;
      turn = IsTurn-more c.args.graph.now c.args.from turn c.loop-turn.self.found c.find_each.new.self.found c.ends.result.now long
          (c.ends.ensures.value ∙ ap (λ (p : ℕ). get_or c.args.graph.now p []) node) c.loop-turn.invariant.turn c.find_each.ensures.gains;
    }

pub returns-clause-found : goal.returns-clause-found
returns-clause-found c =
    let s = c.self.inside in
    let found_is : take s.count s.queue.items ≡ c.loop-turn.self.found = ap (λ (found : Found). found.found) c.self.view_is in
    let over : length c.loop-turn.self.found ≤ c.loop-turn.turn = rw (← found_is, length-take-le s.count s.queue.items c.self.invariant.room) c.loop-turn-test.false in
    IsTurn-end c.args.graph.now c.args.from c.loop-turn.turn c.loop-turn.self.found c.loop-turn.invariant.turn over
    (subst (λ (found : List ℕ). AllPairs (λ p q. p ≢ q) found) found_is c.self.invariant.marked.once)
