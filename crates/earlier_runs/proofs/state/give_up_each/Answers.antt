use Rattle.std.proofs.Common.{◌<◌, length, refl, rules}
use Rattle.earlier_runs.proofs.DoubtLaws.{written_more}
use Rattle.earlier_runs.proofs.state.give_up_each.Goals as goal

pub loop-notice-init : goal.loop-notice-init
loop-notice-init g c = g.J.Journal.stays c.args.journal.now

pub loop-notice-preserved : goal.loop-notice-preserved
loop-notice-preserved g c =
    let within : c.loop-notice.notice-index < length c.args.notices.now = search rules in
    written_more g.J.Journal.wrote g.J.Journal.follows c.args.journal.now c.loop-notice.journal c.write.new.self c.args.notices.now c.loop-notice.notice-index _ _ within refl
    c.loop-notice.invariant (c.write.ensures.wrote (search rules))
