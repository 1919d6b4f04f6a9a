use Rattle.std.proofs.Common.{◌≡◌, ◌<◌, refl, length, Some, arith, sym, ◌∙◌}
use Rattle.graph_order.specs.declared.walk.Mark.TheVariants.{Unseen}
use Rattle.graph_order.proofs.TopLemmas.{live-few, mark-is}
use Rattle.graph_order.proofs.OverLemmas.{none_live, Goes-next}
use Rattle.graph_order.proofs.MoveLemmas.{Goes-enter}
use Rattle.graph_order.proofs.walk.Walk.begin.Goals as goal

pub enter-requires-clause-room : goal.enter-requires-clause-room
enter-requires-clause-room c = live-few c.args.graph.now c.args.self.now c.requires.fits

pub returns-in_ok-enter-in-Unseen : goal.returns-in_ok-enter-in-Unseen
returns-in_ok-enter-in-Unseen c =
    let walk = c.args.self.now in
    let within : walk.next < length c.args.graph.now = omega (arith, c.requires.within, c.if-self-starts.false) in
    let low : walk.next < length walk.marks.items = omega (arith, c.requires.fits.begun.as_many) in
    Goes-enter c.args.graph.now walk c.enter.new.self walk.next c.requires.fits c.in_ok-enter-in-Unseen.ensures
    (mark-is walk.marks.items walk.next c.index.result.now Unseen low c.index.ensures c.in-Unseen.is)
    (λ i p at. absurd (none_live c.args.graph.now walk c.requires.fits c.requires.empty i p at))

pub returns-in_default : goal.returns-in_default
returns-in_default c =
    let walk = c.args.self.now in
    let within : walk.next < length c.args.graph.now = omega (arith, c.requires.within, c.if-self-starts.false) in
    let low : walk.next < length walk.marks.items = omega (arith, c.requires.fits.begun.as_many) in
    Goes-next c.args.graph.now walk _ c.requires.fits within
    (λ unseen. c.in_default.not-Unseen (let same : Some c.index.result.now ≡ Some Unseen = sym (mark-is walk.marks.items walk.next c.index.result.now c.index.result.now low c.index.ensures refl) ∙ unseen in cc))
    refl refl refl refl refl refl refl refl
