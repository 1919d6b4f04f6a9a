use Rattle.std.proofs.Common.{Err, ap, length, rules, subst}
use Rattle.due_feed.specs.Seen.{past_of}
use Rattle.earlier_runs.specs.Compared.{AreLong, IsFirstLeft, IsShort}
use Rattle.earlier_runs.proofs.CompareLaws.{told_first, told_left, told_short}
use Rattle.earlier_runs.proofs.compared.change_of.Goals as goal

pub returns-in-Some : goal.returns-in-Some
returns-in-Some g c =
    let seen = c.in-Ok.ensures.seen in
    let short : IsShort c.args.states.now c.in-Ok.count c.in-Some.short = search rules in
    record {
      change = (
        seen.given,
        seen.are,
        told_short _ _ _ _ _ _ (length (past_of seen.given)) _ c.in-Some.short seen.saw_all
            (subst (λ n. IsShort c.args.states.now n c.in-Some.short) seen.count_is short),
      );
    }

pub returns-in-Ok : goal.returns-in-Ok
returns-in-Ok g c =
    let seen = c.in-Ok.ensures.seen in
    let long : AreLong c.args.states.now c.in-Ok.count = search rules in
    record {
      change = (
        seen.given,
        seen.are,
        told_left _ _ _ _ _ _ (length (past_of seen.given)) _ c.first_left.result c.in_ok-left.ensures seen.saw_all
            (subst (λ n. AreLong c.args.states.now n) seen.count_is long)
            (subst (λ xs. IsFirstLeft xs c.first_left.result) c.deref.ensures.value c.first_left.ensures),
      );
    }

pub returns-in-Err-Stopped : goal.returns-in-Err-Stopped
returns-in-Err-Stopped g c =
    let stopped = c.in-Err-Stopped.ensures.stopped (ap Err c.in-Err-Stopped.field-0-is) in
    let among = stopped.among in
    let differs = among.stopped.differs_is in
    let told = rw differs at c.difference.ensures in
    record {
      change = (stopped.given, stopped.are, told_first _ _ _ _ _ _ _ _ (length (past_of stopped.given)) _ among.first among.others among.at c.difference.result among.are among.saw_first among.stopped told);
    }
