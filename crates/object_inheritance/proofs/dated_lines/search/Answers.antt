use Rattle.std.proofs.Common.{◌≡◌, ◌∷◌, ◌++◌, ◌∙◌, List, Option, [], ap, reverse, subst, sym}
use Rattle.std.specs.Prelude.{All}
use Rattle.std.proofs.lemmas.List.Elements.{All-head}
use Rattle.object_inheritance.specs.declared.dated_lines.Line.{Line}
use Rattle.object_inheritance.specs.declared.dated_lines.Turn.{Turn}
use Rattle.object_inheritance.specs.declared.dated_lines.Turn.TheVariants.{Enter}
use Rattle.object_inheritance.specs.LineSearch.{IsNextTurn, IsSearch, IsTurn}
use Rattle.object_inheritance.proofs.SearchLemmas.{search-begun}
use Rattle.object_inheritance.proofs.dated_lines.search.Goals as goal

pub loop-step-init : goal.loop-step-init
loop-step-init c =
    let blocks = c.args.blocks.now in
    let root = c.args.root in
    let is : c.push.new.self.items ≡ Enter root ∷ [] = c.in_ok-push.ensures.items ∙ ap (λ (turns : List Turn). turns ++ Enter root ∷ []) c.new-turns.ensures.items in
    record {
      found = c.requires.found;
      search = subst (λ (turns : List Turn). IsSearch blocks root c.args.found.now.lines.items c.args.marks.now (reverse turns)) (sym is)
          (subst (λ (lines : List Line). IsSearch blocks root lines c.args.marks.now (Enter root ∷ [])) (sym c.requires.fresh)
          (search-begun blocks root c.args.marks.now c.requires.within c.requires.marks));
    }

pub take_turn-requires-clause-long : goal.take_turn-requires-clause-long
take_turn-requires-clause-long c = c.loop-step.invariant.search.long

pub take_turn-requires-clause-found : goal.take_turn-requires-clause-found
take_turn-requires-clause-found c = c.loop-step.invariant.found

pub take_turn-requires-clause-turn : goal.take_turn-requires-clause-turn
take_turn-requires-clause-turn c =
    let blocks = c.args.blocks.now in
    let next = subst (λ (found : Option Turn). IsNextTurn (reverse c.loop-step.turns.items) found (reverse c.next_turn.new.turns.items)) c.in-Some.is c.next_turn.ensures in
    All-head (IsTurn blocks) c.in-Some.turn (reverse c.next_turn.new.turns.items) (subst (λ (turns : List Turn). All (IsTurn blocks) turns) next c.loop-step.invariant.search.are_turns)

pub loop-step-preserved : goal.loop-step-preserved
loop-step-preserved c =
    let blocks = c.args.blocks.now in
    let next = subst (λ (found : Option Turn). IsNextTurn (reverse c.loop-step.turns.items) found (reverse c.next_turn.new.turns.items)) c.in-Some.is c.next_turn.ensures in
    record {
      found = c.in_ok-take_turn-in-Some.ensures.found;
      search = c.in_ok-take_turn-in-Some.ensures.search c.args.root
          (subst (λ (turns : List Turn). IsSearch blocks c.args.root c.loop-step.found.lines.items c.loop-step.marks turns) next c.loop-step.invariant.search);
    }

pub returns-in-None-clause-found : goal.returns-in-None-clause-found
returns-in-None-clause-found c = c.loop-step.invariant.found

pub returns-in-None-clause-search : goal.returns-in-None-clause-search
returns-in-None-clause-search c =
    let blocks = c.args.blocks.now in
    let none = subst (λ (found : Option Turn). IsNextTurn (reverse c.loop-step.turns.items) found (reverse c.next_turn.new.turns.items)) c.in-None.is c.next_turn.ensures in
    subst (λ (turns : List Turn). IsSearch blocks c.args.root c.loop-step.found.lines.items c.loop-step.marks turns) none c.loop-step.invariant.search
