use Rattle.std.proofs.Common.{◌≡◌, refl, rules}
use Rattle.std.proofs.lemmas.Result.{on_ok_weaker}
use Rattle.written.specs.WrittenLaws.{front_less, front_longer, front_same, leaves_less, leaves_same}
use Rattle.report_telling.proofs.told_lines.ToldLines.finish.Goals as goal

pub returns-in_err-push-clause-front : goal.returns-in_err-push-clause-front
returns-in_err-push-clause-front g c =
    let text : c.deref.result.now ≡ g.T.Teller.ended c.args.self.now.teller c.args.config.now c.args.clock.now = search rules in
    front_same _ _ c.args.self.now.buffer c.args.self.now.buffer _ _ refl text c.push.ensures.front

pub returns-then-is_err-clause-front : goal.returns-then-is_err-clause-front
returns-then-is_err-clause-front g c = front_longer _ _ c.args.self.now.buffer _ c.out_of_memory.ensures.front

pub returns-clause-ok : goal.returns-clause-ok
returns-clause-ok g c =
    let text : c.deref.result.now ≡ g.T.Teller.ended c.args.self.now.teller c.args.config.now c.args.clock.now = search rules in
    let pushed = leaves_same _ _ c.args.self.now.buffer _ _ _ text c.in_ok-push.ensures.ok in
    on_ok_weaker c.flush.result (λ flushed. leaves_less _ _ _ _ _ _ pushed flushed) c.flush.ensures.ok

pub returns-clause-front : goal.returns-clause-front
returns-clause-front g c =
    let text : c.deref.result.now ≡ g.T.Teller.ended c.args.self.now.teller c.args.config.now c.args.clock.now = search rules in
    front_less _ _ _ _ _ (leaves_same _ _ c.args.self.now.buffer _ _ _ text c.in_ok-push.ensures.ok) c.flush.ensures.front
