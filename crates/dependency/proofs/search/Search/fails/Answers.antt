use Rattle.std.proofs.Common.{◌∙◌, ◌<◌, ◌≤◌, List, ℕ, length, get_or, refl, sym, ap, subst, arith, eqb-true}
use Rattle.std.proofs.lemmas.List.{nil_from_length}
use Rattle.dependency.specs.Entry.{state_of}
use Rattle.dependency.proofs.WalkLemmas.{IsWalk-start, IsWalk-more, IsWalk-fails, IsWalk-end, fails-alone, few_found, is_there}
use Rattle.dependency.proofs.search.Search.fails.Goals as goal

pub returns-then-is_empty-clause-fails : goal.returns-then-is_empty-clause-fails
returns-then-is_empty-clause-fails c = sym (fails-alone c.args.config.now c.args.zone.now (state_of c.args.states.now) c.args.t c.args.object.0
    (sym c.of.ensures ∙ nil_from_length c.of.result.now (eqb-true _ 0 (sym c.if-is_empty.ensures))))

pub find-requires : goal.find-requires
find-requires c =
    let there : c.args.object.0 < length c.args.config.now.objects = is_there c.args.config.now c.args.object.0 c.of.result.now c.requires.accepted c.of.ensures c.if-is_empty.ensures in
    subst (λ (n : ℕ). c.from.result < n) {x = length c.args.config.now.objects} (cc) (rw c.from.ensures there)

pub loop-turn-init : goal.loop-turn-init
loop-turn-init c = record {
  same = refl;
  walk = IsWalk-start c.args.config.now c.args.zone.now (state_of c.args.states.now) c.args.t c.args.object.0 _ _ c.find.new.self.found c.find.ensures.gains (cc) (cc);
}

pub loop-turn-smaller : goal.loop-turn-smaller
loop-turn-smaller c =
    let few : length c.found.result.now ≤ c.loop-turn.self-inside.reach.nodes =
    few_found c.loop-turn.self-inside.reach.nodes c.found.result.now c.found.ensures.within c.found.ensures.once in
    omega (arith, few, c.loop-turn-test.true, c.follow.ensures.nodes)

pub returns-then-follow-clause-fails : goal.returns-then-follow-clause-fails
returns-then-follow-clause-fails c =
    let turn = c.loop-turn.turn in
    let found = c.loop-turn.self-inside.reach.found in
    let low : turn < length found = subst (λ (xs : List ℕ). turn < length xs) c.found.ensures.value c.loop-turn-test.true in
    sym (IsWalk-fails c.args.config.now c.args.zone.now (state_of c.args.states.now) c.args.t c.args.object.0 turn found _ low (ap (λ (xs : List ℕ). get_or xs turn 0) c.found-in-loop-turn.ensures.value)
    c.loop-turn.invariant.walk (sym c.if-follow.ensures.fails))

pub loop-turn-preserved : goal.loop-turn-preserved
loop-turn-preserved c =
    let turn = c.loop-turn.turn in
    let found = c.loop-turn.self-inside.reach.found in
    let low : turn < length found = subst (λ (xs : List ℕ). turn < length xs) c.found.ensures.value c.loop-turn-test.true in
    record {
      same = c.follow.ensures.nodes ∙ c.loop-turn.invariant.same;
      walk = IsWalk-more c.args.config.now c.args.zone.now (state_of c.args.states.now) c.args.t c.args.object.0 turn found _ low (ap (λ (xs : List ℕ). get_or xs turn 0) c.found-in-loop-turn.ensures.value) c.loop-turn.invariant.walk
          c.follow.new.reach.found (sym c.if-follow.ensures.fails) (c.if-follow.ensures.gains refl);
    }

pub returns-clause-fails : goal.returns-clause-fails
returns-clause-fails c =
    let over : length c.loop-turn.self-inside.reach.found ≤ c.loop-turn.turn = subst (λ (xs : List ℕ). length xs ≤ c.loop-turn.turn) c.found.ensures.value c.loop-turn-test.false in
    sym (IsWalk-end c.args.config.now c.args.zone.now (state_of c.args.states.now) c.args.t c.args.object.0 c.loop-turn.turn c.loop-turn.self-inside.reach.found c.loop-turn.invariant.walk over)
