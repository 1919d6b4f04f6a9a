use Rattle.std.proofs.Common.{ℕ, ◌∙◌, ap, get_or}
use Rattle.time_period.proofs.DoneLemmas.{its_own}
use Rattle.time_period.proofs.compile.compile.Goals as goal

pub returns : goal.returns
returns c =
    its_own c.args.config.now c.in_ok-all.all.items c.args.period c.swap_remove.result c.in_ok-all.ensures c.requires.within
    (c.swap_remove.ensures.value ∙ ap (λ (n : ℕ). get_or c.in_ok-all.all.items n c.swap_remove.result) c.from.ensures)
