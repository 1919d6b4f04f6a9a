use Rattle.std.proofs.Common.{arith}
use Rattle.channel_words.proofs.AddressLaws.{is_address, no_address}
use Rattle.channel_words.proofs.Parts.{lacks_all, last_parts}
use Rattle.channel_words.proofs.address.is_address.Goals as goal

pub returns-in-Some : goal.returns-in-Some
returns-in-Some c =
    is_address c.args.text.now c.in-Some.host.now c.in-Some.digits.now
    (last_parts 58 c.args.text.now c.in-Some.host.now c.in-Some.digits.now c.in-Some.ensures.cases (omega arith)) c.is_parted.result c.is_parted.ensures

pub returns-in-None : goal.returns-in-None
returns-in-None c = (λ h. cc, λ a. absurd (no_address c.args.text.now (lacks_all 58 c.args.text.now c.in-None.ensures.cases (omega arith)) a))
