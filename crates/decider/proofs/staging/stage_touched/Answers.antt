use Rattle.std.proofs.Common.{List, ◌++◌, get_or, refl, sym, ap, ◌∙◌, arith}
use Rattle.lemmas.proofs.Lists.{some_at}
use Rattle.outcomes.specs.Outcome.{with_heard}
use Rattle.messages.specs.declared.entries.Entry.{Entry}
use Rattle.decider.specs.declared.staging.NewBook.{NewBook}
use Rattle.decider.specs.Events.{values}
use Rattle.decider.proofs.StagingLaws.{book_fits, book_is, book_read, depth_fits, entries_are, moment_fits, number_fits, repeats_fits, state_fits}
use Rattle.decider.proofs.staging.stage_touched.Goals as goal

pub decide-judgement-requires-clause-moment : goal.decide-judgement-requires-clause-moment
decide-judgement-requires-clause-moment c =
    let v = values c.args.reading.now c.args.dependencies.now c.args.statuses.now in
    let is = c.requires.at.2 in
    let settings = some_at v.config.objects c.args.object.0 c.requires.object in
    moment_fits v c.requires.at.0 c.requires.at.1 is c.args.object.0 settings.0 settings.1 c.find-found.result
    (c.find-found.ensures.found c.requires.at.0 c.requires.at.1 settings.0 is settings.1)

pub decide-judgement-requires-clause-depth : goal.decide-judgement-requires-clause-depth
decide-judgement-requires-clause-depth c =
    let v = values c.args.reading.now c.args.dependencies.now c.args.statuses.now in
    let is = c.requires.at.2 in
    let settings = some_at v.config.objects c.args.object.0 c.requires.object in
    depth_fits v c.requires.at.0 c.requires.at.1 is c.args.object.0 settings.0 settings.1 c.find-found.result
    (c.find-found.ensures.found c.requires.at.0 c.requires.at.1 settings.0 is settings.1)

pub decide-judgement-requires-clause-number : goal.decide-judgement-requires-clause-number
decide-judgement-requires-clause-number c =
    let v = values c.args.reading.now c.args.dependencies.now c.args.statuses.now in
    let is = c.requires.at.2 in
    let o = c.args.object.0 in
    let settings = some_at v.config.objects o c.requires.object in
    number_fits v c.requires.at.0 c.requires.at.1 is o settings.0 settings.1 c.requires.owned (get_or v.books c.from.result c.index-reading-from.result)
    (book_read v.books o c.from.result c.index-reading-from.result c.from.ensures (omega (arith, c.requires.object, is.kept.count))) c.count_few.ensures.after

pub decide-judgement-requires-clause-state : goal.decide-judgement-requires-clause-state
decide-judgement-requires-clause-state c =
    let v = values c.args.reading.now c.args.dependencies.now c.args.statuses.now in
    let is = c.requires.at.2 in
    let o = c.args.object.0 in
    let settings = some_at v.config.objects o c.requires.object in
    state_fits v c.requires.at.0 c.requires.at.1 is o settings.0 settings.1 c.requires.owned (get_or v.books c.from.result c.index-reading-from.result)
    (book_read v.books o c.from.result c.index-reading-from.result c.from.ensures (omega (arith, c.requires.object, is.kept.count)))
    c.find-found.result (c.find-found.ensures.found c.requires.at.0 c.requires.at.1 settings.0 is settings.1)

pub decide-judgement-requires-clause-repeats : goal.decide-judgement-requires-clause-repeats
decide-judgement-requires-clause-repeats c =
    let v = values c.args.reading.now c.args.dependencies.now c.args.statuses.now in
    let is = c.requires.at.2 in
    let settings = some_at v.config.objects c.args.object.0 c.requires.object in
    repeats_fits v c.requires.at.0 c.requires.at.1 is c.args.object.0 settings.0 settings.1 c.find-found.result
    (c.find-found.ensures.found c.requires.at.0 c.requires.at.1 settings.0 is settings.1) c.attempt_by_due.ensures.repeats

pub returns-clause-staged : goal.returns-clause-staged
returns-clause-staged c = λ e past is.
    let v = values c.args.reading.now c.args.dependencies.now c.args.statuses.now in
    let o = c.args.object.0 in
    let settings = some_at v.config.objects o c.requires.object in
    let finds = c.find-found.ensures.found e past settings.0 is settings.1 in
    let book = get_or v.books c.from.result c.index-reading-from.result in
    let kept = book_read v.books o c.from.result c.index-reading-from.result c.from.ensures (omega (arith, c.requires.object, is.kept.count)) in
    let decided = c.decide-judgement.ensures.decides settings.0 e past settings.1 finds (book_fits v e past is o settings.0 settings.1 c.requires.owned book kept) in
    let same = decided.0 ∙ ap (λ b. with_heard b c.decide-judgement.result.outcome) (sym (c.in_ok-heard.ensures.heard settings.0 settings.1)) in
    record {
      entries = c.in_ok-heard.ensures.entries settings.0 settings.1
          ∙ ap (λ (xs : List Entry). c.args.staged.now.entries.items ++ xs) (entries_are v e past is o settings.0 settings.1 c.in_ok-heard.heard c.decide-judgement.result.outcome same);
      books = c.in_ok-push.ensures.items
          ∙ ap (λ (xs : List NewBook). c.args.staged.now.books.items ++ xs) (book_is v e past is o settings.0 settings.1 c.args.object c.conclude-decision.result.book refl (c.conclude-decision.ensures settings.0 e past settings.1 same decided.1).1);
    }
