use Rattle.std.proofs.Common.{◌∙◌, Err, Option, ap, sym}
use Rattle.std.specs.Option.{ok_or, option_copied}
use Rattle.due_model.specs.declared.event.EventKind.{EventKind}
use Rattle.event_feed.specs.declared.fault.FeedFault.TheVariants.{BadState}
use Rattle.event_feed.proofs.WordLemmas.{last-known, last-unknown}
use Rattle.event_feed.proofs.line.read_last.Goals as goal

pub returns-in-Some-find : goal.returns-in-Some-find
returns-in-Some-find c =
    c.ok_or.ensures.value ∙ ap (λ (kind : Option EventKind). ok_or kind BadState) c.find_said.ensures
    ∙ last-known c.args.config.now.objects c.args.words c.args.subject c.args.host.now (option_copied c.args.service) (option_copied c.args.arguments)
    c.in-Some-find.object c.in-Some.arguments.now (sym c.find.ensures ∙ c.in-Some-find.is) (ap option_copied c.in-Some.is)

pub returns-in-None : goal.returns-in-None
returns-in-None c =
    ap Err c.unknown_fault.ensures
    ∙ last-unknown c.args.config.now.objects c.args.words c.args.subject c.args.host.now (option_copied c.args.service) (option_copied c.args.arguments)
    c.in-Some.arguments.now (sym c.find.ensures ∙ c.in-None.is) (ap option_copied c.in-Some.is)
