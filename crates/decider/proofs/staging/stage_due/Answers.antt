use Rattle.std.proofs.Common.{◌<◌, ◌+◌, ℕ, length, subst, sym, ◌∙◌, arith}
use Rattle.std.proofs.lemmas.Option.{slice_get_within}
use Rattle.lemmas.proofs.Numbers.{flat_below}
use Rattle.messages.specs.claims.Entries.{object_entries}
use Rattle.decider.specs.Books.{new_books}
use Rattle.decider.specs.Events.{values}
use Rattle.decider.specs.claims.Share.{is_owned}
use Rattle.decider.specs.Staging.{Adds}
use Rattle.decider.proofs.ReadyLaws.{adds_all, adds_due, found_due}
use Rattle.decider.proofs.StagingLaws.{at_same}
use Rattle.decider.proofs.staging.stage_due.Goals as goal

pub stage_touched-requires : goal.stage_touched-requires
stage_touched-requires c =
    let r = c.args.reading.now in
    let was = c.loop-object.invariant in
    let o = c.in-Some.object.0 in
    let v = values r c.args.dependencies.now c.args.statuses.now in
    let found = found_due c.fit_on.ensures.untouched v c.requires.at.0 c.requires.at.1 c.requires.at.2 c.requires.clock o c.in-Some.ensures.some.due in
    record {
      at = (c.requires.at.0, c.requires.at.1, at_same r _ _ _ _ c.requires.at.0 c.requires.at.1 was.dependencies was.statuses c.requires.at.2);
      object = slice_get_within r.rules.config.now.objects o found.1.0 found.1.1;
      owned = found.0;
    }

pub loop-object-preserved : goal.loop-object-preserved
loop-object-preserved c =
    let r = c.args.reading.now in
    let was = c.loop-object.invariant in
    let o = c.in-Some.object.0 in
    let v = values r c.args.dependencies.now c.args.statuses.now in
    let found = found_due c.fit_on.ensures.untouched v c.requires.at.0 c.requires.at.1 c.requires.at.2 c.requires.clock o c.in-Some.ensures.some.due in
    let within : o < length r.rules.config.now.objects = slice_get_within r.rules.config.now.objects o found.1.0 found.1.1 in
    record {
      dependencies = c.in_ok-stage_touched.ensures.dependencies ∙ was.dependencies;
      statuses = c.in_ok-stage_touched.ensures.statuses ∙ was.statuses;
      below = omega (arith, c.from-from.ensures, within);
      staged = λ e past is.
          subst (λ (n : ℕ). Adds (flat_below (object_entries r.rules.config.now r.rules.zone.now e past) (is_owned r.share) (n + 1))
          (flat_below (new_books r.rules.config.now r.rules.zone.now e past) (is_owned r.share) (n + 1)) c.args.staged.now c.stage_touched.new.staged)
          (sym c.from-from.ensures)
          (adds_due c.fit_on.ensures.untouched v e past is c.requires.clock c.loop-object.from o c.in-Some.ensures.some c.args.staged.now c.loop-object.staged c.stage_touched.new.staged
          (was.staged e past is) (c.in_ok-stage_touched.ensures.staged e past (at_same r _ _ _ _ e past was.dependencies was.statuses is)));
    }

pub returns-clause-staged : goal.returns-clause-staged
returns-clause-staged c = λ e past is.
    let v = values c.args.reading.now c.args.dependencies.now c.args.statuses.now in
    adds_all c.fit_on.ensures.untouched v e past is c.requires.clock c.loop-object.from c.loop-object.invariant.below c.in_default.ensures.none c.args.staged.now c.loop-object.staged
    (c.loop-object.invariant.staged e past is)
