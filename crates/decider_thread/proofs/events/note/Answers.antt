use Rattle.std.proofs.Common.{rules, ◌≡◌, ◌++◌, ◌∙◌, List, [], sym, ap, append-nil}
use Rattle.due_model.specs.declared.notice.Suppression.{Suppression}
use Rattle.decider.specs.claims.Fits.{kept}
use Rattle.decider_thread.proofs.events.note.Goals as goal

-- what was told before, then what is told now
pub returns-then-tell-clause-noted : goal.returns-then-tell-clause-noted
returns-then-tell-clause-noted g c = λ first all noted.
    let lines : c.log.result.now ≡ (kept c.args.decider.now).log = search rules in
    let none : (kept c.clear_log.new.self).log ≡ [] = search rules in
    let told : g.L.DeciderLog.tells c.args.log.now (kept c.args.decider.now).log c.tell.new.self = search rules in record {
      told = noted.told ++ (kept c.args.decider.now).log;
      are_told = g.L.DeciderLog.follows first c.args.log.now c.tell.new.self noted.told (kept c.args.decider.now).log noted.are_told told;
      both = ap (λ (l : List Suppression). (noted.told ++ (kept c.args.decider.now).log) ++ l) none ∙ append-nil (noted.told ++ (kept c.args.decider.now).log) ∙ noted.both;
    }
