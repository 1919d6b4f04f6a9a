use Rattle.std.proofs.Common.{◌∙◌, Bool, List, subst, sym}
use Rattle.object_warnings.specs.Hours.{AreKnown}
use Rattle.object_warnings.proofs.CoveredLemmas.{first-of-covered}
use Rattle.object_warnings.proofs.HourLemmas.{first-of-told, first-of-untold}
use Rattle.object_warnings.proofs.hours.first_at.Goals as goal

pub returns-then-not-tells_somebody-clause-first : goal.returns-then-not-tells_somebody-clause-first
returns-then-not-tells_somebody-clause-first c =
    first-of-untold c.args.config.now c.args.number c.object_id-id.result.0 c.index-as_slice-number.result c.as_slice.result.now
    c.object_id-id.ensures c.as_slice.ensures c.requires.within c.index-as_slice-number.is (sym c.if-not-tells_somebody.true ∙ c.tells_somebody.ensures)

pub returns-then-is_covered-clause-first : goal.returns-then-is_covered-clause-first
returns-then-is_covered-clause-first c =
    first-of-covered c.args.config.now c.args.number c.object_id-id.result.0 c.index-as_slice-number.result c.as_slice.result.now c.args.all.now c.args.always.now
    c.object_id-id.ensures c.as_slice.ensures c.requires.within c.index-as_slice-number.is c.requires.week (sym c.if-not-tells_somebody.false ∙ c.tells_somebody.ensures)
    c.requires.always c.if-is_covered.ensures

pub returns-clause-first : goal.returns-clause-first
returns-clause-first c =
    first-of-told c.args.config.now c.args.number c.object_id-id.result.0 c.index-as_slice-number.result c.as_slice.result.now c.args.all.now c.in_ok-hours.hours.items c.span_of.result
    c.object_id-id.ensures c.as_slice.ensures c.requires.within c.index-as_slice-number.is c.requires.week (sym c.if-not-tells_somebody.false ∙ c.tells_somebody.ensures)
    c.in_ok-hours.ensures c.span_of.ensures.first

pub span_of-requires : goal.span_of-requires
span_of-requires c = subst (λ (rows : List (List Bool)). AreKnown rows c.args.known.now.items) (sym c.requires.week) c.requires.known

pub returns-clause-known : goal.returns-clause-known
returns-clause-known c = subst (λ (rows : List (List Bool)). AreKnown rows c.span_of.new.known.items) c.requires.week c.span_of.ensures.known
