use Rattle.std.proofs.lemmas.Result.{on_ok_weaker}
use Rattle.value_places.specs.Places.{file_of}
use Rattle.value_places.specs.Questions.{question_at}
use Rattle.value_places.proofs.AddLemmas.{adds-one}
use Rattle.value_places.proofs.places.push_filter.Goals as goal

pub returns : goal.returns
returns c =
    on_ok_weaker c.push_text.result
    (λ are. adds-one (file_of c.args.source) c.args.templates.now (question_at c.args.templates.now c.args.origin c.args.filter) c.in_ok-text.text.items _ _ c.in_ok-text.ensures are)
    c.push_text.ensures
