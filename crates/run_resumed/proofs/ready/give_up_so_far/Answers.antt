use Rattle.std.proofs.Common.{ℕ, subst}
use Rattle.std.specs.Arc.{arc_value}
use Rattle.due_feed.specs.Seen.{due_of, past_of}
use Rattle.earlier_runs.specs.FromNow.{GivesUpAll}
use Rattle.run_resumed.proofs.ready.give_up_so_far.Goals as goal

pub returns-in_ok-give_up_all-in-Some : goal.returns-in_ok-give_up_all-in-Some
returns-in_ok-give_up_all-in-Some g c = λ _.
    let given = c.in_ok-give_up_all-in-Some.ensures in
    let config = arc_value c.args.config.now in
    record {
      counted = c.in_ok-from-in-Some.ensures.0;
      due = given.0;
      all = subst (λ (from : ℕ). GivesUpAll g.F.Journals.knows g.F.Journals.begins g.F.Journals.replaced g.J.Journal.wrote c.args.journals.now config from
          (due_of config c.args.zone.now (past_of given.0))) c.in_ok-from-in-Some.ensures.1 given.2;
    }
