use Rattle.std.proofs.Common.{◌<◌, length, rules}
use Rattle.report_telling.specs.Told.{form_of}
use Rattle.report_telling.proofs.ToldLaws.{mapped, told_cut, told_more}
use Rattle.report_telling.proofs.told_lines.ToldLines.tell_entries.Goals as goal

pub returns-in_err-tell-clause-front : goal.returns-in_err-tell-clause-front
returns-in_err-tell-clause-front g c =
    let within : c.loop-entry.entry-index < length c.args.entries.now = search rules in
    told_cut (form_of g.T.Teller.told g.T.Teller.after g.T.Teller.ended c.args.config.now c.args.clock.now) c.args.self.now.teller _ _ _ _ _ _ _ _ _ _
    c.loop-entry.invariant (mapped c.args.entries.now c.loop-entry.entry-index _ within) c.tell.ensures.front

pub loop-entry-preserved : goal.loop-entry-preserved
loop-entry-preserved g c =
    let within : c.loop-entry.entry-index < length c.args.entries.now = search rules in
    told_more (form_of g.T.Teller.told g.T.Teller.after g.T.Teller.ended c.args.config.now c.args.clock.now) c.args.self.now.teller _ _ _ _ _ _ _ _ _ _ _ _
    c.loop-entry.invariant (mapped c.args.entries.now c.loop-entry.entry-index _ within) c.in_ok-tell.ensures.ok c.in_ok-tell.ensures.after
