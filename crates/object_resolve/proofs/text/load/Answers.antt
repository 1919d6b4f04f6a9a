use Rattle.std.proofs.Common.{◌≡◌, ◌∙◌, subst}
use Rattle.std.proofs.lemmas.Result.{err_from_is_err_and}
use Rattle.object_resolve.specs.claims.Resolve.{IsRefusal, IsResolved}
use Rattle.object_resolve.specs.Fault.{IsAmong}
use Rattle.object_resolve.specs.claims.Text.{blocks_read}
use Rattle.object_resolve.proofs.TextLemmas.{blocks-fault, blocks-only, read-fault, read-only, read-same, read-unrefused, text-unrefused}
use Rattle.object_resolve.proofs.text.load.Goals as goal

pub returns-clause-config : goal.returns-clause-config
returns-clause-config c =
    (c.in_ok-blocks.blocks, c.in_ok-blocks.ensures.blocks, subst (λ blocks. IsResolved blocks c.in_ok-resolve.field-0) (c.as_slice.ensures ∙ c.in_ok-taken.ensures) c.in_ok-resolve.ensures.resolved)

pub returns-clause-accepted : goal.returns-clause-accepted
returns-clause-accepted c = c.accept_resolved.ensures _ c.in_ok-resolve.field-0 c.in_ok-resolve.ensures.resolved

pub returns-clause-refused : goal.returns-clause-refused
returns-clause-refused c = λ fault refused.
    text-unrefused c.resolve_no_refused.ensures c.args.choices.text c.args.text.items c.in_ok-blocks.blocks c.in_ok-resolve.field-0
    (subst (λ blocks. IsResolved blocks c.in_ok-resolve.field-0) (c.as_slice.ensures ∙ c.in_ok-taken.ensures) c.in_ok-resolve.ensures.resolved)
    (λ others whole. read-same c.blocks_of.result c.in_ok-blocks.blocks others c.in_ok-blocks.was (c.blocks_of.ensures.only others whole))
    (λ given is. read-unrefused c.blocks_of.result c.in_ok-blocks.blocks given c.in_ok-blocks.was (c.blocks_of.ensures.refused given is))
    fault refused

pub returns-in_err-blocks-clause-fault : goal.returns-in_err-blocks-clause-fault
returns-in_err-blocks-clause-fault c =
    let p = err_from_is_err_and c.from_residual.result c.from_residual.ensures.1 in
    rw (p.1, p.2) (read-fault c.args.choices.text c.args.text.items c.in_err-blocks.field-0.0 c.in_err-blocks.ensures.fault)

pub returns-in_err-blocks-clause-only : goal.returns-in_err-blocks-clause-only
returns-in_err-blocks-clause-only c = λ config of.
    let p = err_from_is_err_and c.from_residual.result c.from_residual.ensures.1 in
    rw (p.1, p.2) (read-only c.blocks_of.result c.in_err-blocks.field-0.0 of.0 c.in_err-blocks.was (c.blocks_of.ensures.only of.0 of.1))

pub returns-in_err-resolve-clause-fault : goal.returns-in_err-resolve-clause-fault
returns-in_err-resolve-clause-fault c =
    let p = err_from_is_err_and c.from_residual-in_err-resolve.result c.from_residual-in_err-resolve.ensures.1 in
    rw (p.1, p.2) (blocks-fault c.args.choices.text c.args.text.items c.in_ok-blocks.blocks c.as_slice.result.now c.in_err-resolve.field-0.0 (c.as_slice.ensures ∙ c.in_ok-taken.ensures)
    c.in_ok-blocks.ensures.blocks c.in_err-resolve.ensures.refusal)

pub returns-in_err-resolve-clause-only : goal.returns-in_err-resolve-clause-only
returns-in_err-resolve-clause-only c = λ config of.
    let p = err_from_is_err_and c.from_residual-in_err-resolve.result c.from_residual-in_err-resolve.ensures.1 in
    let same : of.0 ≡ c.in_ok-blocks.blocks = read-same c.blocks_of.result c.in_ok-blocks.blocks of.0 c.in_ok-blocks.was (c.blocks_of.ensures.only of.0 of.1) in
    rw (p.1, p.2) (blocks-only c.resolve_no_refused.ensures (blocks_read c.args.choices.text c.in_ok-blocks.blocks) config c.in_err-resolve.field-0.0 (subst (λ blocks. IsResolved (blocks_read c.args.choices.text blocks) config) same of.2)
    (subst (λ blocks. IsAmong (IsRefusal blocks) c.in_err-resolve.field-0.0) (c.as_slice.ensures ∙ c.in_ok-taken.ensures) c.in_err-resolve.ensures.refusal))
