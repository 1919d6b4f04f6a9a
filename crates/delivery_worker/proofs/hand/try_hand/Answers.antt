use Rattle.std.proofs.Common.{rules, ◌≡◌, [], ◌∷◌, List, refl, subst, sym}
use Rattle.std.specs.Option.{option_to_list}
use Rattle.due_model.specs.declared.notice.Notice.{Notice}
use Rattle.delivery_worker.specs.claims.Offers.{AreSettling}
use Rattle.delivery_worker.proofs.OfferLaws.{same_hand, settles_if, vain_if}
use Rattle.delivery_worker.proofs.hand.try_hand.Goals as goal

pub returns-in_default-clause-offered : goal.returns-in_default-clause-offered
returns-in_default-clause-offered g c = (
  [],
  (let none : option_to_list c.args.lane.now.hand ≡ [] = search rules in subst (λ (ns : List Notice). AreSettling c.args.tries c.args.config.now ns []) (sym none) refl),
  g.C.Channel.stays c.args.channel.now,
)

pub returns-clause-offered : goal.returns-clause-offered
returns-clause-offered g c =
    let hand : option_to_list c.args.lane.now.hand ≡ c.in-Some.notice ∷ [] = search rules in
    settles_if _ g.C.Channel.follows _ _ _ _ c.deliver_hand.result _ _ _ c.keep_room.ensures.offered hand c.deliver_hand.ensures.offered

pub returns-clause-offered_in_vain : goal.returns-clause-offered_in_vain
returns-clause-offered_in_vain g c =
    vain_if _ g.C.Channel.follows _ _ c.in-Some.notice _ c.deliver_hand.result _ _ _ c.keep_room.ensures.offered
    (same_hand c.in-Some.notice c.deliver_hand.result c.args.lane.now c.deliver_hand.new.lane (search rules) c.deliver_hand.ensures.held) c.deliver_hand.ensures.offered_in_vain
