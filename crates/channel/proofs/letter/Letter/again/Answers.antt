use Rattle.std.proofs.Common.{◌≡◌, suc, ap, ◌∙◌}
use Rattle.channel.specs.Letter.{again_of}
use Rattle.channel.proofs.letter.Letter.again.Goals as goal

pub invariant_of-result : goal.invariant_of-result
invariant_of-result c =
    let text : c.new.result ≡ again_of c.args.self.now.text =
    c.new.ensures ∙ c.in_ok-text.ensures ∙ ap again_of c.as_slice.ensures in
    record { said = λ no. c.args.self.now.said (λ is. no (is.0, suc is.1, text ∙ ap again_of is.2)) }
