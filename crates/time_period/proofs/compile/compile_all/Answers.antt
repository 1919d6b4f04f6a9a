use Rattle.std.proofs.Common.{ℕ, List, arith, subst, sym}
use Rattle.std.specs.Prelude.{Contains}
use Rattle.time_period.specs.Needs.{AreForward}
use Rattle.time_period.proofs.DoneLemmas.{forward}
use Rattle.time_period.proofs.compile.compile_all.Goals as goal

pub all_of-requires-clause-each : goal.all_of-requires-clause-each
all_of-requires-clause-each c p within =
    subst (λ (order : List ℕ). Contains order p) (sym c.as_slice-2.ensures.value) (c.in_ok-order.ensures.each p (omega (arith, within, c.in_ok-table.ensures.as_many)))

pub all_of-requires-clause-forward : goal.all_of-requires-clause-forward
all_of-requires-clause-forward c =
    subst (AreForward c.in_ok-table.table.items) (sym c.as_slice-2.ensures.value)
    (forward c.args.config.now c.in_ok-table.table.items c.in_ok-order.order.items c.requires c.in_ok-order.ensures c.in_ok-table.ensures)
