use Rattle.std.proofs.Common.{ap, sym, ◌∙◌}
use Rattle.std.specs.Option.{option_copied}
use Rattle.std.proofs.lemmas.Result.{IfOk-weaker}
use Rattle.value_places.specs.Places.{file_of}
use Rattle.value_places.proofs.PlaceLemmas.{answer-none, answer-some}
use Rattle.value_places.proofs.places.filter_text.Goals as goal

pub returns-in-None : goal.returns-in-None
returns-in-None c =
    answer-none (file_of c.args.source) c.args.templates.now c.args.origin c.args.filter _ (sym c.directive_at.ensures ∙ ap option_copied c.in-None.is) c.new.ensures.items

pub returns-in-Some : goal.returns-in-Some
returns-in-Some c =
    IfOk-weaker c.directive_text.result _ _
    (λ text told. answer-some (file_of c.args.source) c.args.templates.now c.args.origin c.args.filter c.in-Some.directive.now c.other_place.result text.items
    (sym c.directive_at.ensures ∙ ap option_copied c.in-Some.is) c.other_place.ensures told)
    c.directive_text.ensures
