use Rattle.contact_tallies.proofs.TallyLaws.{none_given}
use Rattle.contact_tallies.proofs.tallies.Tallies.new.Goals as goal

pub returns : goal.returns
returns c = λ zone. none_given zone c.args.count _ c.in_ok-nothing.ensures c.in_ok-new.ensures
