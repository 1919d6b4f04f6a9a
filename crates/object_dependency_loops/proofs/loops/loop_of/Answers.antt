use Rattle.std.proofs.Common.{arith, eqb-true, sym}
use Rattle.std.proofs.lemmas.List.{nil_from_length}
use Rattle.object_dependency_loops.proofs.LoopLemmas.{first-looped, none-depends, none-looped}
use Rattle.object_dependency_loops.proofs.loops.loop_of.Goals as goal

pub first_looped-requires : goal.first_looped-requires
first_looped-requires c = c.in_ok-rules.ensures.rules.within

pub returns-then-is_empty-clause-no_loop : goal.returns-then-is_empty-clause-no_loop
returns-then-is_empty-clause-no_loop c =
    let zero = eqb-true _ 0 (sym c.if-is_empty.ensures) in
    none-depends c.args.blocks.now c.in_ok-rules.rules c.in_ok-rules.ensures.rules
    (nil_from_length c.in_ok-rules.rules.dependents.items (omega (arith, zero, c.in_ok-rules.rules.dependents.ok)))

pub returns-then-apart-clause-no_loop : goal.returns-then-apart-clause-no_loop
returns-then-apart-clause-no_loop c =
    none-looped c.args.blocks.now c.in_ok-rules.rules c.in_ok-rules.ensures.rules (c.in_ok-apart.ensures c.if-apart.true)

pub are_apart-requires : goal.are_apart-requires
are_apart-requires c = c.in_ok-rules.ensures.rules.within

pub returns-in-None-clause-no_loop : goal.returns-in-None-clause-no_loop
returns-in-None-clause-no_loop c =
    none-looped c.args.blocks.now c.in_ok-rules.rules c.in_ok-rules.ensures.rules (rw c.in-None.is at c.in_ok-first_looped.ensures.no_loop)

pub returns-clause-first : goal.returns-clause-first
returns-clause-first c =
    first-looped c.args.blocks.now c.in_ok-rules.rules c.in_ok-rules.ensures.rules c.in-Some.rule (rw c.in-Some.is at c.in_ok-first_looped.ensures.first)
