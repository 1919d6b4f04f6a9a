use Rattle.std.proofs.lemmas.Result.{on_ok_weaker}
use Rattle.contact_tallies.proofs.TallyLaws.{notice_given}
use Rattle.contact_tallies.proofs.tallies.Tallies.count_notice.Goals as goal

pub returns : goal.returns
returns c =
    on_ok_weaker c.tell.result
    (λ h. λ count past are. notice_given c.args.clock.now count past c.args.notice.now _ c.args.self.now _ are c.silence_in-silence.ensures.within c.silence_in-silence.ensures.value c.add_notice.ensures h)
    c.tell.ensures
