use Rattle.std.proofs.Common.{◌≡◌, ◌∷◌, ◌++◌, ◌∙◌, ◌-◌, ◌<◌, List, ap, arith, drop, drop-cons, get_or, length, map, reverse, suc, sym, ℕ}
use Rattle.std.proofs.lemmas.List.{drop_all}
use Rattle.object_inheritance.specs.declared.dated_lines.Turn.TheVariants.{Enter}
use Rattle.object_inheritance.proofs.TurnLemmas.{turns-more}
use Rattle.object_inheritance.proofs.dated_lines.push_templates.Goals as goal

pub loop-left-init : goal.loop-left-init
loop-left-init c =
    let used = c.args.used.now in record {
      low = omega arith;
      turns = sym (ap (λ (ps : List ℕ). map Enter ps ++ reverse c.args.turns.now.items) (drop_all (length used) used (omega arith)));
    }

pub loop-left-preserved : goal.loop-left-preserved
loop-left-preserved c =
    let used = c.args.used.now in
    let left = c.loop-left.left in
    let i = left - 1 in
    let low = c.loop-left.invariant.low in
    let next : suc i ≡ left = omega (arith, c.loop-left-test.true) in
    let within : i < length used = omega (arith, low, c.loop-left-test.true) in
    let split : drop i used ≡ get_or used i 0 ∷ drop left used = drop-cons used i 0 within ∙ ap (λ (n : ℕ). get_or used i 0 ∷ drop n used) next in record {
      low = omega (arith, low);
      turns = turns-more (drop i used) (drop left used) (get_or used i 0) (reverse c.args.turns.now.items) c.loop-left.turns.items c.push.new.self.items split c.loop-left.invariant.turns c.in_ok-push.ensures.items;
    }

pub returns : goal.returns
returns c =
    let none : c.loop-left.left ≡ 0 = omega (arith, c.loop-left-test.false) in
    c.loop-left.invariant.turns ∙ ap (λ (n : ℕ). map Enter (drop n c.args.used.now) ++ reverse c.args.turns.now.items) none
