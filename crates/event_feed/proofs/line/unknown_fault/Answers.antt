use Rattle.std.proofs.Common.{◌≡◌, ◌∙◌, ◌∷◌, ap, sym}
use Rattle.std.specs.Option.{option_copied}
use Rattle.event_feed.specs.claims.Line.{fields}
use Rattle.event_feed.specs.Line.{unknown_fault, fields_after}
use Rattle.event_feed.proofs.line.unknown_fault.Goals as goal

pub returns-in_default-Some : goal.returns-in_default-Some
returns-in_default-Some c =
    let parts : fields c.args.arguments.now ≡ c.split_field.result.0.now ∷ fields c.in_default-Some.more.now =
    c.split_field.ensures ∙ ap (λ rest. c.split_field.result.0.now ∷ fields_after (option_copied rest)) c.in_default-Some.is-1 in
    c.unknown_fault_after.ensures c.split_field.result.0.now ∙ sym (ap (λ all. unknown_fault c.args.words all) parts)
