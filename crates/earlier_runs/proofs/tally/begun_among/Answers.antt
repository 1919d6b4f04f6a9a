use Rattle.std.proofs.Common.{◌<◌, length, refl, rules}
use Rattle.earlier_runs.proofs.TallyLaws.{begun_more}
use Rattle.earlier_runs.proofs.tally.begun_among.Goals as goal

pub loop-notice-preserved : goal.loop-notice-preserved
loop-notice-preserved c = λ was_begun is.
    let within : c.loop-notice.notice-index < length c.args.notices.now = search rules in
    begun_more was_begun c.args.notices.now c.loop-notice.found.items c.push_begun.new.found.items c.loop-notice.notice-index _ _ within (c.in_ok-push_begun.ensures was_begun is) refl
    (c.loop-notice.invariant was_begun is)
