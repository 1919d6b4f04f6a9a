use Rattle.std.proofs.Common.{subst, sym, rules}
use Rattle.due_model.specs.claims.Accepted.{IsAccepted}
use Rattle.object_warnings.proofs.AcceptedLemmas.{weekly-accepted}
use Rattle.std.specs.Prelude.{All}
use Rattle.due_model.specs.declared.config.Config.{Config}
use Rattle.object_warnings.specs.Hours.{IsUndated}
use Rattle.object_warnings.proofs.HourLemmas.{spans-more}
use Rattle.object_warnings.proofs.SteadyLemmas.{weekly-undated}
use Rattle.object_warnings.proofs.hours.without_hours.Goals as goal

pub new-requires : goal.new-requires
new-requires c = record {
  accepted = subst IsAccepted (sym c.in_ok-weekly.ensures) (weekly-accepted c.args.config.now c.requires);
  plain = subst (λ (made : Config). All IsUndated made.periods) (sym c.in_ok-weekly.ensures) (weekly-undated c.args.config.now);
}

pub loop-number-preserved : goal.loop-number-preserved
loop-number-preserved c = record {
  as_many = search rules;
  known = c.in_ok-span.ensures.known;
  each = spans-more c.args.config.now c.loop-number.number c.loop-number.spans.items c.push.new.self.items c.in_ok-span.span c.loop-number.invariant.as_many
      c.loop-number.invariant.each (search rules) c.in_ok-span.ensures.first;
}
