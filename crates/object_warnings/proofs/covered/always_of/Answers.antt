use Rattle.std.proofs.Common.{arith, rules}
use Rattle.object_warnings.proofs.CoveredLemmas.{always-all, always-more}
use Rattle.object_warnings.proofs.covered.always_of.Goals as goal

pub loop-number-init : goal.loop-number-init
loop-number-init c = record { long = search rules; each = λ k within. absurd (omega (arith, within)) }

pub loop-number-preserved : goal.loop-number-preserved
loop-number-preserved c = record {
  long = search rules;
  each = always-more c.args.all.now c.loop-number.number c.loop-number.flags.items c.push.new.self.items c.is_always.result c.period_id.result c.loop-number.invariant.long
      c.loop-number.invariant.each (search rules) c.period_id.ensures c.is_always.ensures;
}

pub returns : goal.returns
returns c = always-all c.args.all.now c.loop-number.number c.loop-number.flags.items c.loop-number.invariant.long c.loop-number.invariant.each
