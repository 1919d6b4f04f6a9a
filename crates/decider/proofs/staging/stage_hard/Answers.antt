use Rattle.std.proofs.Common.{ℕ, sym, ap, ◌∙◌}
use Rattle.std.proofs.lemmas.Result.{on_ok_weaker}
use Rattle.decider.specs.Events.{values}
use Rattle.decider.specs.Found.{names}
use Rattle.decider.specs.Statuses.{named_by}
use Rattle.decider.proofs.StagingLaws.{adds_more, adds_same, at_same, named_books, named_entries, named_touched, pair_books, pair_entries, pair_touched, pair_within}
use Rattle.decider.proofs.StatusLaws.{named_within}
use Rattle.decider.proofs.staging.stage_hard.Goals as goal

pub repeated-requires : goal.repeated-requires
repeated-requires c = record { at = (c.requires.at.0, c.requires.at.1, c.args.dependencies.now, c.requires.at.2) }

pub stage_owned-requires : goal.stage_owned-requires
stage_owned-requires c =
    let r = c.args.reading.now in
    let v = values r c.args.dependencies.now c.args.statuses.now in
    let pair = c.in_order-pair.result in
    record {
      at = c.requires.at;
      touched = λ e past settings is at.
          (pair_touched c.fit_on.ensures.untouched v e past is c.args.object c.in-Some.host c.requires.named
          (λ o. c.repeated.ensures e past c.args.dependencies.now o is ∙ ap (λ found. names found o) c.in-Some.is) pair.first pair.second c.in_order-pair.ensures.are).0 settings;
      object = (pair_within c.fit_on.ensures.untouched v c.requires.at.0 c.requires.at.1 c.requires.at.2 c.args.object c.in-Some.host c.requires.named
          (λ o. c.repeated.ensures c.requires.at.0 c.requires.at.1 c.args.dependencies.now o c.requires.at.2 ∙ ap (λ found. names found o) c.in-Some.is) pair.first pair.second c.in_order-pair.ensures.are
          c.in_order-pair.ensures.order).1.0;
    }

pub stage_owned-requires-in-Some : goal.stage_owned-requires-in-Some
stage_owned-requires-in-Some c =
    let r = c.args.reading.now in
    let v = values r c.args.dependencies.now c.args.statuses.now in
    let pair = c.in_order-pair.result in
    let first = c.stage_owned.ensures in
    record {
      at = (c.requires.at.0, c.requires.at.1, at_same r _ _ _ _ c.requires.at.0 c.requires.at.1 first.dependencies first.statuses c.requires.at.2);
      touched = λ e past settings is' at.
          let is = at_same r _ _ _ _ e past (sym first.dependencies) (sym first.statuses) is' in
          (pair_touched c.fit_on.ensures.untouched v e past is c.args.object c.in-Some.host c.requires.named
          (λ o. c.repeated.ensures e past c.args.dependencies.now o is ∙ ap (λ found. names found o) c.in-Some.is) pair.first pair.second c.in_order-pair.ensures.are).1 settings;
      object = (pair_within c.fit_on.ensures.untouched v c.requires.at.0 c.requires.at.1 c.requires.at.2 c.args.object c.in-Some.host c.requires.named
          (λ o. c.repeated.ensures c.requires.at.0 c.requires.at.1 c.args.dependencies.now o c.requires.at.2 ∙ ap (λ found. names found o) c.in-Some.is) pair.first pair.second c.in_order-pair.ensures.are
          c.in_order-pair.ensures.order).1.1;
    }

pub returns-in_ok-stage_owned-in-Some-clause-staged : goal.returns-in_ok-stage_owned-in-Some-clause-staged
returns-in_ok-stage_owned-in-Some-clause-staged c = on_ok_weaker c.stage_owned-in-Some.result (λ adds e past is.
    let r = c.args.reading.now in
    let v = values r c.args.dependencies.now c.args.statuses.now in
    let pair = c.in_order-pair.result in
    let first = c.stage_owned.ensures in
    let again = (λ (o : ℕ). c.repeated.ensures e past c.args.dependencies.now o is ∙ ap (λ found. names found o) c.in-Some.is) in
    let laws = c.fit_on.ensures.untouched in
    let are = c.in_order-pair.ensures.are in
    let within = pair_within laws v e past is c.args.object c.in-Some.host c.requires.named again pair.first pair.second are c.in_order-pair.ensures.order in
    adds_same _ _ _ _ c.args.staged.now c.stage_owned-in-Some.new.staged
    (sym (pair_entries laws v e past is c.args.object c.in-Some.host c.requires.named again pair.first pair.second are within.0 within.1.1))
    (sym (pair_books laws v e past is c.args.object c.in-Some.host c.requires.named again pair.first pair.second are within.0 within.1.1))
    (adds_more _ _ _ _ c.args.staged.now c.stage_owned.new.staged c.stage_owned-in-Some.new.staged (c.in_ok-stage_owned-in-Some.ensures.staged e past is)
    (adds e past (at_same r _ _ _ _ e past first.dependencies first.statuses is)))) c.stage_owned-in-Some.ensures.staged

pub stage_owned-requires-in-None : goal.stage_owned-requires-in-None
stage_owned-requires-in-None c =
    let v = values c.args.reading.now c.args.dependencies.now c.args.statuses.now in
    let is = c.requires.at.2 in
    record {
      at = c.requires.at;
      touched = λ e past settings is at. named_touched v e past is c.args.object settings c.requires.named;
      object = named_within v.config c.requires.at.0.kind is.proper.kind c.args.object (sym (ap named_by is.says) ∙ c.requires.named);
    }

pub returns-in-None-clause-staged : goal.returns-in-None-clause-staged
returns-in-None-clause-staged c = on_ok_weaker c.stage_owned-in-None.result (λ adds e past is.
    let v = values c.args.reading.now c.args.dependencies.now c.args.statuses.now in
    let none = (λ (o : ℕ). c.repeated.ensures e past c.args.dependencies.now o is ∙ ap (λ found. names found o) c.in-None.is) in
    adds_same _ _ _ _ c.args.staged.now c.stage_owned-in-None.new.staged
    (sym (named_entries c.fit_on.ensures.untouched v e past is c.args.object c.requires.named none))
    (sym (named_books c.fit_on.ensures.untouched v e past is c.args.object c.requires.named none))
    (adds e past is)) c.stage_owned-in-None.ensures.staged
