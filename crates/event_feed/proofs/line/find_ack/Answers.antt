use Rattle.std.proofs.Common.{◌≡◌, ◌∙◌, ◌∷◌, ap}
use Rattle.std.specs.Option.{option_copied}
use Rattle.event_feed.specs.claims.Line.{fields, told_ack_said}
use Rattle.event_feed.specs.Line.{fields_after}
use Rattle.event_feed.proofs.WordLemmas.{acks-told}
use Rattle.event_feed.proofs.line.find_ack.Goals as goal

pub returns-in_default-Some : goal.returns-in_default-Some
returns-in_default-Some c = λ subject.
    let parts : fields c.args.arguments.now ≡ c.split_field.result.0.now ∷ fields c.in_default-Some.more.now =
    c.split_field.ensures ∙ ap (λ rest. c.split_field.result.0.now ∷ fields_after (option_copied rest)) c.in_default-Some.is-1 in
    c.find_told_ack.ensures ∙ ap (λ m. told_ack_said c.args.object c.split_field.result.0.now m.now) c.in_default-Some.more-is
    ∙ acks-told subject c.args.object c.split_field.result.0.now c.in_default-Some.more.now (fields c.args.arguments.now) parts
