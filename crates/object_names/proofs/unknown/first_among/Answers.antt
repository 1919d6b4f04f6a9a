use Rattle.std.proofs.Common.{◌∙◌, List, ap, map, subst, take_all}
use Rattle.object_names.specs.declared.references.Reference.{Reference}
use Rattle.object_groups.specs.claims.First.{IsFirst}
use Rattle.object_names.specs.claims.Unknown.{is_registered}
use Rattle.object_names.specs.Unknown.{HasUnknownAmong}
use Rattle.object_names.proofs.UnknownLemmas.{none-yet, one-more}
use Rattle.object_names.proofs.unknown.first_among.Goals as goal

pub loop-reference-init : goal.loop-reference-init
loop-reference-init c = none-yet c.args.templates.now

pub first_by-requires-clause-registered : goal.first_by-requires-clause-registered
first_by-requires-clause-registered c = c.as_slice-registered.ensures.value ∙ c.in_ok-marks.ensures ∙ ap (map is_registered) c.blocks-2.ensures.value

pub loop-reference-preserved : goal.loop-reference-preserved
loop-reference-preserved c =
    one-more c.args.templates.now c.args.references.now c.loop-reference.reference-index _ c.loop-reference.first c.in_ok-found.found _ c.loop-reference-test.true c.lower-first.ensures
    c.loop-reference.invariant c.in_ok-found.ensures

pub returns : goal.returns
returns c =
    subst (λ (references : List Reference). IsFirst (HasUnknownAmong c.args.templates.now references) c.loop-reference.first)
    (take_all c.loop-reference.reference-index c.args.references.now c.loop-reference-test.false) c.loop-reference.invariant
