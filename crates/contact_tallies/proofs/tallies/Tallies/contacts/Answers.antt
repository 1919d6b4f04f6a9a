use Rattle.std.proofs.Common.{◌∙◌}
use Rattle.contact_tallies.proofs.TallyLaws.{all_tallies}
use Rattle.contact_tallies.proofs.tallies.Tallies.contacts.Goals as goal

pub returns : goal.returns
returns c = λ zone count past are. c.as_slice.ensures.value ∙ all_tallies zone count past c.args.self.now are
