use Rattle.std.proofs.Common.{◌≡◌, ◌∷◌, ◌++◌, ◌<◌, ◌∙◌, List, ap, arith, eqb-true, get_or, length, map, reverse, subst, sym, ℕ}
use Rattle.std.specs.Prelude.{All}
use Rattle.object_inheritance.specs.declared.dated_lines.Turn.{Turn}
use Rattle.object_inheritance.specs.declared.dated_lines.Turn.TheVariants.{Enter, Leave}
use Rattle.object_inheritance.specs.LineSearch.{IsSearch, IsTurn, used_at}
use Rattle.object_inheritance.proofs.LineLemmas.{on-both}
use Rattle.object_inheritance.proofs.SearchLemmas.{taken-done, taken-enter, taken-leave}
use Rattle.object_inheritance.proofs.UseLemmas.{used-within}
use Rattle.object_inheritance.proofs.dated_lines.take_turn.Goals as goal

pub leave-requires : goal.leave-requires
leave-requires c =
    let low : c.in-Leave.place < length c.args.blocks.now = subst (λ (turn : Turn). IsTurn c.args.blocks.now turn) c.in-Leave.is c.requires.turn in
    let long = c.requires.long in
    omega (arith, low, long)

pub returns-in-Leave-clause-search : goal.returns-in-Leave-clause-search
returns-in-Leave-clause-search c root is =
    let blocks = c.args.blocks.now in
    let place = c.in-Leave.place in
    let rest = reverse c.args.turns.now.items in
    let low : place < length blocks = subst (λ (turn : Turn). IsTurn blocks turn) c.in-Leave.is c.requires.turn in
    let long = c.requires.long in
    taken-leave blocks root c.args.found.now.lines.items c.args.marks.now place rest c.leave.new.marks
    (subst (λ (turn : Turn). IsSearch blocks root c.args.found.now.lines.items c.args.marks.now (turn ∷ rest)) c.in-Leave.is is)
    c.leave.ensures.mark c.leave.ensures.marks (omega (arith, low, long))

pub is_done-requires : goal.is_done-requires
is_done-requires c =
    let low : c.in-Enter.place < length c.args.blocks.now = subst (λ (turn : Turn). IsTurn c.args.blocks.now turn) c.in-Enter.is c.requires.turn in
    let long = c.requires.long in
    omega (arith, low, long)

pub returns-then-is_done-clause-search : goal.returns-then-is_done-clause-search
returns-then-is_done-clause-search c root is =
    let blocks = c.args.blocks.now in
    let place = c.in-Enter.place in
    let rest = reverse c.args.turns.now.items in
    taken-done blocks root c.args.found.now.lines.items c.args.marks.now place rest
    (subst (λ (turn : Turn). IsSearch blocks root c.args.found.now.lines.items c.args.marks.now (turn ∷ rest)) c.in-Enter.is is)
    (eqb-true _ _ (sym c.is_done.ensures ∙ c.if-is_done.true))

pub returns-in_ok-count-in-Enter-clause-search : goal.returns-in_ok-count-in-Enter-clause-search
returns-in_ok-count-in-Enter-clause-search c =
    let blocks = c.args.blocks.now in
    let place = c.in-Enter.place in
    let rest = reverse c.args.turns.now.items in
    let low : place < length blocks = subst (λ (turn : Turn). IsTurn blocks turn) c.in-Enter.is c.requires.turn in
    on-both c.enter.result _ _ _
    (λ more above root is. subst (λ (turns : List Turn). IsSearch blocks root c.enter.new.found.lines.items c.count.new.marks turns) (sym above)
    (taken-enter blocks root c.args.found.now.lines.items c.args.marks.now place rest c.requires.inherited c.enter.new.found.lines.items c.count.new.marks
    c.count.ensures.marks c.count.ensures.mark low (used-within blocks place)
    (subst (λ (turn : Turn). IsSearch blocks root c.args.found.now.lines.items c.args.marks.now (turn ∷ rest)) c.in-Enter.is is) more))
    c.enter.ensures.noted c.enter.ensures.turns
