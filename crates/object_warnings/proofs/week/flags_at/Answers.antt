use Rattle.std.proofs.Common.{ap₂, ℕ, ◌∙◌, rules, Some}
use Rattle.due_model.specs.claims.Periods.{in_period}
use Rattle.due_model.specs.declared.zone.Zone.{Zone}
use Rattle.due_model.specs.declared.zone.Zone.TheVariants.{Utc}
use Rattle.object_warnings.specs.Hours.{moment_of}
use Rattle.object_warnings.proofs.HourLemmas.{row-more}
use Rattle.object_warnings.proofs.week.flags_at.Goals as goal

pub loop-number-init : goal.loop-number-init
loop-number-init c config are = search rules

pub loop-number-preserved : goal.loop-number-preserved
loop-number-preserved c config are =
    let number = c.loop-number.number in
    row-more (λ n. in_period config Utc (Some (record { 0 = n })) (moment_of c.args.minute)) number c.loop-number.flags.items c.push.new.self.items c.holds_at.result
    (c.loop-number.invariant config are) (search rules)
    (c.holds_at.ensures config are
    ∙ ap₂ (λ (zone : Zone) (t : ℕ). in_period config zone (Some (record { 0 = number })) t) c.requires.clock c.moment_of-t.ensures)
