use Rattle.std.proofs.Common.{Some}
use Rattle.std.proofs.lemmas.Result.{on_ok_weaker}
use Rattle.value_places.specs.Places.{file_of}
use Rattle.value_places.proofs.AddLemmas.{adds-one}
use Rattle.value_places.proofs.places.push_value.Goals as goal

pub returns : goal.returns
returns c =
    on_ok_weaker c.push_text.result
    (λ are. adds-one (file_of c.args.source) c.args.blocks.now (Some (record { directive = c.args.directive.now; place = c.args.place })) c.in_ok-text.text.items _ _ c.in_ok-text.ensures are)
    c.push_text.ensures
