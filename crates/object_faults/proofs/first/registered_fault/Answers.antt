use Rattle.std.proofs.Common.{◌≡◌, ◌∙◌, Option, false, subst, sym}
use Rattle.std.specs.Prelude.{is_some}
use Rattle.std.proofs.lemmas.Result.{IfOk-weaker}
use Rattle.object_faults.specs.declared.column.Check.{Check}
use Rattle.object_faults.proofs.KnownLemmas.{of-registered, unasked, unregistered}
use Rattle.object_faults.proofs.first.registered_fault.Goals as goal

pub returns-then-is_none-clause-fault : goal.returns-then-is_none-clause-fault
returns-then-is_none-clause-fault c =
    unasked c.args.values.now.blocks c.args.place c.args.column c.args.block.now
    (subst (λ (check : Option Check). is_some check ≡ false) c.check_of.ensures c.if-is_none.ensures)

pub returns-then-not-is_marked-clause-fault : goal.returns-then-not-is_marked-clause-fault
returns-then-not-is_marked-clause-fault c =
    unregistered c.args.values.now.blocks c.args.place c.args.column c.args.block.now (sym c.requires.registered ∙ sym c.is_marked.ensures ∙ c.if-not-is_marked.true)

pub returns-clause-fault : goal.returns-clause-fault
returns-clause-fault c =
    IfOk-weaker c.known_fault.result _ _
    (λ fault is. is ∙ of-registered c.args.values.now.blocks c.args.place c.args.column c.args.block.now (sym c.requires.registered ∙ sym c.is_marked.ensures ∙ c.if-not-is_marked.false))
    c.known_fault.ensures.fault
