use Rattle.std.proofs.Common.{rules, arith, ◌≡◌, ◌<◌, ◌%◌, ◌||◌, ◌∙◌, ℕ, List, length, slice_get, Some, ap, refl, subst, sym, reverse}
use Rattle.std.proofs.lemmas.Option.{none-some, slice_get_within}
use Rattle.due_model.specs.declared.event.Event.{Event}
use Rattle.delivery_worker.specs.declared.worker.Served.{Served}
use Rattle.engine_threads.specs.Told.{HasRun, HaveTold, NoneIsLeft}
use Rattle.lemmas.proofs.Lists.{some_at}
use Rattle.engine_threads.proofs.JoinLaws.{channels_still}
use Rattle.engine_threads.proofs.RunLaws.{none_has_run, told_or}
use Rattle.engine_threads.proofs.WorkLaws.{number_at, number_of}
use Rattle.engine_threads.proofs.run.run_threads.Goals as goal

pub returns-in_default-clause-run : goal.returns-in_default-clause-run
returns-in_default-clause-run g c = λ channels given.
    let end = c.nothing.result in
    let none = c.nothing.ensures in
    none_has_run g.L.DeciderLog.tells g.L.DeciderLog.failed c.args.setup.config.now c.args.setup.zone.now channels (reverse (g.S.Source.given_so_far end.source)) end.memory end.lanes.items end.log.items c.args.logs.items end.logs.items none.lanes none.log none.logs none.memory

pub returns-clause-run : goal.returns-clause-run
returns-clause-run g c = λ channels given.
    let end = c.nothing-in-Err.result in
    let none = c.nothing-in-Err.ensures in
    none_has_run g.L.DeciderLog.tells g.L.DeciderLog.failed c.args.setup.config.now c.args.setup.zone.now channels (reverse (g.S.Source.given_so_far end.source)) end.memory end.lanes.items end.log.items c.args.logs.items end.logs.items none.lanes none.log none.logs none.memory

pub returns-in-Ok-run_scope-clause-run : goal.returns-in-Ok-run_scope-clause-run
returns-in-Ok-run_scope-clause-run g c = λ channels given.
    let set = c.in-Ok.ensures in
    let works : (l : ℕ) (w : _) → slice_get c.in-Ok.prepared.works.items l ≡ Some w → length w.channels.items ≡ channels l = λ l w at.
    let s = some_at c.args.given.items l (subst (λ n. l < n) set.works (slice_get_within c.in-Ok.prepared.works.items l w at)) in
    ap (λ bs. length bs.items) (set.given l w s.0 s.1 at).0 ∙ given l s.0 s.1 in
    let logged = c.in-Ok-run_scope.ensures.log in
    let run = c.end_of.ensures.run c.args.setup.config.now c.args.setup.zone.now channels (reverse (g.S.Source.given_so_far c.in-Ok-run_scope.driven.source)) (λ o. logged.0 (o % length c.args.logs.items)) (c.in-Ok-run_scope.ensures.lanes channels works) logged.2 in
    let past = ap (λ s. reverse (g.S.Source.given_so_far s)) (sym c.end_of.ensures.source) in
    let driven = c.in-Ok-run_scope.driven in
    let then = reverse (g.S.Source.given_so_far driven.source) in
    let n = length c.args.logs.items in
    let told = told_or g.L.DeciderLog.tells g.L.DeciderLog.failed c.args.setup.config.now c.args.setup.zone.now n then (driven.refused || driven.memory) c.end_of.result.memory c.args.logs.items driven.logs.items logged.0 c.end_of.ensures.refused logged.1 in
    subst (λ (es : List Event). HasRun g.L.DeciderLog.tells g.L.DeciderLog.failed c.args.setup.config.now c.args.setup.zone.now channels es c.end_of.result.memory c.end_of.result.lanes.items c.args.logs.items c.end_of.result.logs.items c.end_of.result.log.items) past (
      logged.0,
      subst (λ back. HaveTold g.L.DeciderLog.tells g.L.DeciderLog.failed c.args.setup.config.now c.args.setup.zone.now n then c.end_of.result.memory c.args.logs.items back logged.0) (sym c.end_of.ensures.logs) told,
      run,
      subst (λ back. NoneIsLeft g.L.DeciderLog.failed n back c.end_of.result.log.items) (sym c.end_of.ensures.logs) (subst (λ log. NoneIsLeft g.L.DeciderLog.failed n driven.logs.items log) (sym c.end_of.ensures.log) logged.3),
    )

pub returns-in-Ok-run_scope-clause-whole : goal.returns-in-Ok-run_scope-clause-whole
returns-in-Ok-run_scope-clause-whole g c = λ some.
    let works = c.in-Ok.prepared.works.items in
    let lanes = c.in-Ok-run_scope.ensures.lanes (number_of works (λ w. length w.channels.items)) (number_at works (λ w. length w.channels.items)) in
    subst (λ (ss : List Served). length ss ≡ length c.args.setup.config.now.lanes) (sym c.end_of.ensures.lanes) (lanes.count)

pub returns-in_default-clause-few : goal.returns-in_default-clause-few
returns-in_default-clause-few g c = let none = ap (λ (ss : List Served). length ss) c.nothing.ensures.lanes in omega (arith, none)

pub returns-clause-few : goal.returns-clause-few
returns-clause-few g c = let none = ap (λ (ss : List Served). length ss) c.nothing-in-Err.ensures.lanes in omega (arith, none)

pub returns-in-Ok-run_scope-clause-few : goal.returns-in-Ok-run_scope-clause-few
returns-in-Ok-run_scope-clause-few g c =
    let works = c.in-Ok.prepared.works.items in
    let lanes = c.in-Ok-run_scope.ensures.lanes (number_of works (λ w. length w.channels.items)) (number_at works (λ w. length w.channels.items)) in
    let same = ap (λ (ss : List Served). length ss) c.end_of.ensures.lanes in
    omega (arith, same, lanes.count)

pub returns-in_default-clause-channels : goal.returns-in_default-clause-channels
returns-in_default-clause-channels g c = λ l of_lane s b at_c at_s at_b. absurd (none-some s (subst (λ (ss : List Served). slice_get ss l ≡ Some s) c.nothing.ensures.lanes at_s))

pub returns-clause-channels : goal.returns-clause-channels
returns-clause-channels g c = λ l of_lane s b at_c at_s at_b. absurd (none-some s (subst (λ (ss : List Served). slice_get ss l ≡ Some s) c.nothing-in-Err.ensures.lanes at_s))

pub returns-in-Ok-run_scope-clause-channels : goal.returns-in-Ok-run_scope-clause-channels
returns-in-Ok-run_scope-clause-channels g c = λ l of_lane s b at_c at_s at_b.
    let set = c.in-Ok.ensures in
    let w = some_at c.in-Ok.prepared.works.items l (subst (λ n. l < n) (sym set.works) (slice_get_within c.args.given.items l of_lane at_c)) in
    let same = (set.given l w.0 of_lane at_c w.1).0 in
    let at_served = subst (λ (ss : List Served). slice_get ss l ≡ Some s) c.end_of.ensures.lanes at_s in
    let at_channels = subst (λ bs. slice_get bs l ≡ Some b) c.end_of.ensures.channels at_b in
    channels_still _ _ _ _ _ _ s s _ _ b.items refl refl (ap (λ v. v.items) same) (record { held = refl; why = refl; picked = refl }) (c.in-Ok-run_scope.ensures.channels l w.0 s b w.1 at_served at_channels)

pub returns-in-Ok-run_scope-clause-all : goal.returns-in-Ok-run_scope-clause-all
returns-in-Ok-run_scope-clause-all g c = λ began.
    let works = c.in-Ok.prepared.works.items in
    let lanes = c.in-Ok-run_scope.ensures.lanes (number_of works (λ w. length w.channels.items)) (number_at works (λ w. length w.channels.items)) in
    subst (λ (ss : List Served). length ss ≡ length c.args.setup.config.now.lanes) (sym c.end_of.ensures.lanes) (lanes.count)

pub returns-clause-source : goal.returns-clause-source
returns-clause-source g c =
    let kept : c.in-Err.source ≡ c.args.source = search rules in
    subst (λ s. g.S.Source.goes c.args.setup.config.now c.args.source s) (sym (c.nothing-in-Err.ensures.source ∙ kept)) (g.S.Source.stays c.args.setup.config.now c.args.source)
