use Rattle.command_input.specs.Objects.{feed_in, objects_in}
use Rattle.report_forms.proofs.ShownLaws.{err_shown, fails, ok_shown, shows, some_shown}
use Rattle.report_forms.proofs.show_in.Goals as goal

pub returns-clause-report : goal.returns-clause-report
returns-clause-report g c =
    some_shown (g.R.Read.remaining c.args.reader) _ _
    (λ bytes h. ok_shown c.tell_in.result _ _ (λ ending told. shows c.args.choices c.args.shown g.R.Input.can_fail (objects_in bytes) (feed_in bytes) c.args.zone.now ending _ _ told) h)
    c.tell_in.ensures.report

pub returns-clause-fault : goal.returns-clause-fault
returns-clause-fault g c =
    some_shown (g.R.Read.remaining c.args.reader) _ _
    (λ bytes h. err_shown c.tell_in.result _ _ (λ fault told. fails c.args.choices c.args.shown g.R.Input.can_fail g.R.Input.can_fail (objects_in bytes) (feed_in bytes) c.args.zone.now fault _ _ told) h)
    c.tell_in.ensures.fault
