use Rattle.std.proofs.Common.{ap, sym, ◌∙◌, arith}
use Rattle.problem_count.specs.claims.Book.{BookValues}
use Rattle.outcomes.proofs.OutcomeLemmas.{removal_state}
use Rattle.outcomes.proofs.outcome.begin.Goals as goal

pub returns-then-is_taken_back : goal.returns-then-is_taken_back
returns-then-is_taken_back c =
    let o = c.args.object.0 in
    let seen = c.args.found.now in
    let taken = c.if-is_taken_back.true in
    record {
      state = ap (λ (b : BookValues). b.state) c.release.ensures.values ∙ sym (removal_state o seen.event c.args.book.state (c.is_taken_back.ensures.removal taken));
      sent = omega (arith, ap (λ (b : BookValues). b.sent) c.release.ensures.values);
      fits = λ config zone settings e past chosen says at known fits. c.release.ensures.fits config zone o settings e past fits (c.is_taken_back.ensures.takes e past says known ∙ taken) at;
    }
