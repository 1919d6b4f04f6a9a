use Rattle.std.proofs.Common.{◌≡◌, List, ap, arith, eq-eqb, eqb-true, length, map, sym, ◌∙◌}
use Rattle.std.proofs.lemmas.Bool.{false≢true}
use Rattle.std.proofs.lemmas.List.{nil_from_length}
use Rattle.object_check.specs.declared.misfits.Misfit.{Misfit}
use Rattle.site_check.specs.Faults.{load_fault, value_found}
use Rattle.site_check.proofs.FaultLemmas.{names-told, values-told}
use Rattle.site_check.proofs.all_faults.told_of_templates.Goals as goal

pub returns-then-is_empty : goal.returns-then-is_empty
returns-then-is_empty c refused =
    let zero = eqb-true _ 0 (sym c.if-is_empty.ensures) in
    names-told c.args.templates.now c.args.line c.args.fault c.in_ok-misfits.misfits.items c.in_ok-of_names.of_names.faults.items
    (nil_from_length c.in_ok-misfits.misfits.items (omega (arith, zero, c.in_ok-misfits.misfits.ok))) c.in_ok-misfits.ensures.answered
    c.in_ok-of_names.ensures.begins c.in_ok-of_names.ensures.names

pub returns : goal.returns
returns c refused =
    values-told c.args.templates.now c.args.line c.args.fault c.in_ok-misfits.misfits.items c.in_ok-of_values.of_values.faults.items c.requires
    (λ none. let short = ap length none in
    let zero : c.in_ok-misfits.misfits.len ≡ 0 = omega (arith, short, c.in_ok-misfits.misfits.ok) in
    false≢true (c.if-is_empty.ensures ∙ eq-eqb c.in_ok-misfits.misfits.len 0 zero))
    (ap (map value_found) c.in_ok-misfits.ensures.all) c.in_ok-misfits.ensures.answered
    (c.in_ok-of_values.ensures ∙ ap (λ (ms : List Misfit). map (load_fault c.args.templates.now) (map value_found ms)) c.as_slice.ensures.value)
    refused
