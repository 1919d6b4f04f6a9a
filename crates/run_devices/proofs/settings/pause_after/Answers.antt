use Rattle.std.proofs.Common.{◌≡◌, ◌∙◌, ◌*◌, ◌^◌, ℕ, min, ap, rules}
use Rattle.run_devices.proofs.PauseLaws.{next}
use Rattle.run_devices.proofs.settings.pause_after.Goals as goal

pub loop-doubled-preserved : goal.loop-doubled-preserved
loop-doubled-preserved c =
    let doubled : c.min-pause-in-loop-doubled.result ≡ min (2 * c.loop-doubled.pause) 60 = search rules in
    doubled ∙ ap (λ (p : ℕ). min (2 * p) 60) c.loop-doubled.invariant ∙ next c.args.first c.loop-doubled._doubled
