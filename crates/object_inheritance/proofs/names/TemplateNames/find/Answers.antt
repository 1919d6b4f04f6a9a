use Rattle.std.proofs.Common.{◌<◌, ◌∙◌, List, ℕ, IfSome, Option, ap, length, subst, sym}
use Rattle.std.specs.List.{position}
use Rattle.object_reader.specs.declared.block.Block.{Block}
use Rattle.object_inheritance.specs.Names.{has_key}
use Rattle.object_inheritance.specs.claims.Templates.{is_template, template_place}
use Rattle.lemmas.proofs.Searches.{position-within}
use Rattle.object_inheritance.proofs.names.TemplateNames.find.Goals as goal

pub returns-clause-place : goal.returns-clause-place
unfolding template_place
returns-clause-place c =
    c.copied.ensures ∙ c.get.ensures.value ∙ c.self.invariant.firsts (c.kind_number.result, c.args.name)
    ∙ ap (λ (n : ℕ). position (has_key (n, c.args.name)) c.self.inside.blocks.now) c.kind_number.ensures
    ∙ ap (λ (blocks : List Block). position (is_template c.args.kind c.args.name.now) blocks) c.self.view_is

pub returns-clause-within : goal.returns-clause-within
unfolding template_place
returns-clause-within c =
    subst (λ (found : Option ℕ). IfSome found (λ number. number < length c.args.self.now)) (sym (returns-clause-place c))
    (position-within (is_template c.args.kind c.args.name.now) c.args.self.now)
