use Rattle.std.proofs.Common.{◌≡◌, ◌∙◌, sym, true}
use Rattle.std.proofs.lemmas.Bool.{false≢true}
use Rattle.object_unknown_services.specs.Unknown.{is_before, ListsUnstamped}
use Rattle.object_unknown_services.proofs.UnknownLemmas.{at-place, not-at}
use Rattle.object_unknown_services.proofs.unknown.if_lacks.Goals as goal

pub returns-then-not-is_before-clause-first : goal.returns-then-not-is_before-clause-first
returns-then-not-is_before-clause-first c =
    not-at (λ at. is_before c.args.first at ≡ true) (ListsUnstamped c.args.naming.now.blocks c.args.naming.now.role c.args.stamps.now c.args.stamp) c.args.place
    (λ before lacks. false≢true (sym c.if-not-is_before.true ∙ c.is_before.ensures ∙ before))

pub returns-then-branch-clause-first : goal.returns-then-branch-clause-first
returns-then-branch-clause-first c =
    at-place (λ at. is_before c.args.first at ≡ true) (ListsUnstamped c.args.naming.now.blocks c.args.naming.now.role c.args.stamps.now c.args.stamp) c.args.place
    (sym c.is_before.ensures ∙ c.if-not-is_before.false) (c.in_ok-lacks_at.ensures.lacks.0 c.if-branch.true)

pub returns-clause-first : goal.returns-clause-first
returns-clause-first c =
    not-at (λ at. is_before c.args.first at ≡ true) (ListsUnstamped c.args.naming.now.blocks c.args.naming.now.role c.args.stamps.now c.args.stamp) c.args.place
    (λ before lacks. false≢true (sym c.if-branch.false ∙ c.in_ok-lacks_at.ensures.lacks.1 lacks))
