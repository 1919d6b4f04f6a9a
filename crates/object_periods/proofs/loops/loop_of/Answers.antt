use Rattle.std.proofs.Common.{◌≡◌, ◌∙◌, List, Some, ap, arith, get_or, length, subst, sym, ℕ}
use Rattle.std.proofs.lemmas.Option.{slice_get-get_or}
use Rattle.object_groups.specs.claims.Objects.{objects_in}
use Rattle.object_groups.specs.Objects.{ObjectsOf}
use Rattle.object_reader.specs.declared.block.BlockKind.TheVariants.{TimePeriod}
use Rattle.object_periods.specs.Loops.{AreExclusions}
use Rattle.object_periods.proofs.LoopLemmas.{first-looped, loop-within, none-looped}
use Rattle.object_periods.proofs.loops.loop_of.Goals as goal

pub returns-in-None-clause-no_loop : goal.returns-in-None-clause-no_loop
returns-in-None-clause-no_loop c =
    let are = subst (λ (o : ObjectsOf). AreExclusions o.blocks c.in_ok-rules.rules) c.requires c.in_ok-rules.ensures in
    none-looped c.args.templates.now c.in_ok-rules.rules are (rw c.in-None.is at c.in_ok-first_looped.ensures.no_loop)

pub bounds-places-rule : goal.bounds-places-rule
bounds-places-rule c =
    let are = subst (λ (o : ObjectsOf). AreExclusions o.blocks c.in_ok-rules.rules) c.requires c.in_ok-rules.ensures in
    let listed : c.places-places.result.now ≡ objects_in c.args.templates.now TimePeriod =
    c.places-places.ensures.places ∙ ap (λ (o : ObjectsOf). objects_in o.blocks o.kind) c.requires in
    let long = ap (λ (ps : List ℕ). length ps) listed in
    let low = loop-within c.args.templates.now c.in_ok-rules.rules are c.in-Some.rule (rw c.in-Some.is at c.in_ok-first_looped.ensures.first) in
    omega (arith, long, low)

pub returns-clause-first : goal.returns-clause-first
returns-clause-first c =
    let blocks = c.args.templates.now in
    let places = objects_in blocks TimePeriod in
    let rule = c.in-Some.rule in
    let are = subst (λ (o : ObjectsOf). AreExclusions o.blocks c.in_ok-rules.rules) c.requires c.in_ok-rules.ensures in
    let listed : c.places-places.result.now ≡ places = c.places-places.ensures.places ∙ ap (λ (o : ObjectsOf). objects_in o.blocks o.kind) c.requires in
    let is = rw c.in-Some.is at c.in_ok-first_looped.ensures.first in
    let low = loop-within blocks c.in_ok-rules.rules are rule is in
    first-looped blocks c.in_ok-rules.rules are rule _
    (slice_get-get_or places rule 0 low ∙ ap (λ (ps : List ℕ). Some (get_or ps rule 0)) (sym listed)) is
