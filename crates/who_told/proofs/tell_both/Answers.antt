use Rattle.who_told.proofs.WhoLaws.{both_told, missing_cut, table_cut}
use Rattle.who_told.proofs.tell_both.Goals as goal

pub returns-in_err-ending-clause-front : goal.returns-in_err-ending-clause-front
returns-in_err-ending-clause-front g c = table_cut c.args.form c.args.supposed.now c.args.config.now c.args.zone.now _ _ c.tell_table.ensures.front

pub returns-in_err-tell_missing-clause-front : goal.returns-in_err-tell_missing-clause-front
returns-in_err-tell_missing-clause-front g c =
    missing_cut c.args.form c.args.supposed.now c.args.config.now c.args.zone.now c.in_ok-ending.ending _ _ _ c.in_ok-ending.ensures.ok c.tell_missing.ensures.front

pub returns-clause-ok : goal.returns-clause-ok
returns-clause-ok g c =
    both_told c.args.form c.args.supposed.now c.args.config.now c.args.zone.now c.in_ok-ending.ending _ _ _ c.in_ok-ending.ensures.ok c.in_ok-tell_missing.ensures.ok

pub returns-clause-front : goal.returns-clause-front
returns-clause-front g c =
    missing_cut c.args.form c.args.supposed.now c.args.config.now c.args.zone.now c.in_ok-ending.ending _ _ _ c.in_ok-ending.ensures.ok c.tell_missing.ensures.front
