use Rattle.channel_words.proofs.AddressLaws.{no_port}
use Rattle.channel_words.proofs.address.is_port.Goals as goal

pub returns-in-Err : goal.returns-in-Err
returns-in-Err c = (λ h. cc, λ p. absurd (no_port _ c.args.digits.now c.in-Err.field-0 c.in-Err.ensures.value.0 p))
