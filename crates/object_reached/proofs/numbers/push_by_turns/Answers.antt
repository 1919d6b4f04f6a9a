use Rattle.std.proofs.Common.{◌≡◌, [], List, arith, subst, sym, ℕ}
use Rattle.std.specs.List.{range_with_len}
use Rattle.lemmas.proofs.Numbers.{below_more}
use Rattle.object_reached.specs.Listed.{IsNthOn, OfSome}
use Rattle.object_listing.specs.Listing.{Adds}
use Rattle.object_reached.proofs.AddsLemmas.{adds-by_turns, adds-next, adds-none}
use Rattle.object_reached.proofs.numbers.push_by_turns.Goals as goal

pub loop-turn-init : goal.loop-turn-init
loop-turn-init c =
    subst (λ (now : List ℕ). Adds (OfSome (λ turn. OfSome (IsNthOn c.args.services.now c.args.descriptions.now turn) c.args.hosts.now) []) c.args.found.now.items now)
    (sym c.in_ok-reserve_all.ensures) (adds-none (λ turn. OfSome (IsNthOn c.args.services.now c.args.descriptions.now turn) c.args.hosts.now) c.args.found.now.items)

pub loop-turn-preserved : goal.loop-turn-preserved
loop-turn-preserved c =
    adds-next (λ turn. OfSome (IsNthOn c.args.services.now c.args.descriptions.now turn) c.args.hosts.now) (range_with_len 0 c.loop-turn.turn) _ c.loop-turn.turn
    c.args.found.now.items c.loop-turn.found.items c.push_turn.new.found.items (below_more c.loop-turn.turn) c.loop-turn.invariant c.in_ok-push_turn.ensures

pub returns : goal.returns
returns c =
    let end : c.loop-turn.turn ≡ c.args.turns = omega (arith, c.loop-turn-test.false, c.loop-turn.auto.turn-end) in
    adds-by_turns c.args.services.now c.args.descriptions.now c.args.hosts.now c.args.turns c.args.found.now.items c.loop-turn.found.items c.requires
    (subst (λ (n : ℕ). Adds (OfSome (λ turn. OfSome (IsNthOn c.args.services.now c.args.descriptions.now turn) c.args.hosts.now) (range_with_len 0 n)) c.args.found.now.items c.loop-turn.found.items) end c.loop-turn.invariant)
