use Rattle.std.specs.Arc.{arc_value}
use Rattle.run_resumed.proofs.TiedLaws.{adds_lines}
use Rattle.run_resumed.proofs.resumed.run_posted.Goals as goal

pub run_journaled-requires-clause-tells : goal.run_journaled-requires-clause-tells
run_journaled-requires-clause-tells g c κs within = λ a offers b told. told

pub returns : goal.returns
returns g c =
    let states = c.args.kept.now.states.items in
    let middle = g.W.Write.contents c.run_journaled.new.writer in
    record {
      middle = middle;
      report = c.in_ok-ending.ensures.report states c.requires.fresh;
      lines = adds_lines (λ cs. cs.items) (arc_value c.args.config.now) _ states _ c.in_ok-ending.channels.items _ middle (g.W.Write.contents c.write_journal_lines.new.writer)
          c.deref.ensures c.deref-2.ensures.value c.deref-3.ensures.value c.in_ok-write_journal_lines.ensures;
    }
