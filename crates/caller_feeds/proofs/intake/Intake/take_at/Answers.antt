use Rattle.std.proofs.Common.{rules, ◌≡◌, ◌<◌, length, Some, slice_get, refl, subst}
use Rattle.std.specs.Vec.{with_item}
use Rattle.lemmas.proofs.Lists.{slice_get_read}
use Rattle.caller_feeds.specs.Taken.{GivesNext, Taking}
use Rattle.caller_feeds.proofs.TakenLemmas.{gives-at}
use Rattle.caller_feeds.proofs.intake.Intake.take_at.Goals as goal

pub returns-clause-next : goal.returns-clause-next
returns-clause-next c =
    let inside = c.self.inside in
    let ends = inside.ends.items in
    let place = c.args.place in
    let e = c.index_mut.result.now in
    let within : place < length ends = search rules in
    let at : slice_get ends place ≡ Some e = slice_get_read ends place e within (search rules) in
    let new : Taking = record {
      ends = (with_item inside.ends place c.take_next.new.end).items;
      events = c.take_next.new.events.items;
      most = inside.most;
    } in
    subst (λ (old : Taking). GivesNext c.args.config.now c.take_next.result old new) c.self.view_is
    (gives-at c.args.config.now c.take_next.result (record { ends = ends; events = inside.events.items; most = inside.most }) new place e c.take_next.new.end at refl refl c.take_next.ensures)
