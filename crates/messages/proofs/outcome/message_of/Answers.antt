use Rattle.std.proofs.Common.{is_some, ap, refl, ◌∙◌}
use Rattle.due_model.specs.declared.config.Object.{Object}
use Rattle.lemmas.proofs.Lists.{is_read}
use Rattle.messages.proofs.outcome.message_of.Goals as goal

pub returns-clause-is : goal.returns-clause-is
returns-clause-is c =
    let config = c.args.rules.now.config.now in
    record {
      readable = record {
        accepted = c.requires.rules.accepted;
        compiled = c.requires.rules.compiled;
        moment = c.requires.moment;
        letter = c.letter.ensures;
      };
      object = c.requires.object;
      zone = refl;
      service = λ settings at. c.is_some.ensures
          ∙ ap (λ (o : Object). is_some o.host) (c.index-as_slice-from.is ∙ is_read config.objects c.as_slice.result.now c.args.object.0 c.from.result c.index-as_slice-from.result settings c.as_slice.ensures c.from.ensures at);
    }
