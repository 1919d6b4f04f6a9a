use Rattle.std.proofs.Common.{◌≡◌, Bor, List, Option, ap, subst, sym, ◌∙◌, ℕ}
use Rattle.std.specs.Prelude.{is_some}
use Rattle.std.specs.Option.{option_copied}
use Rattle.std.proofs.lemmas.Result.{IfOk-weaker}
use Rattle.object_inheritance.specs.Columns.{Column}
use Rattle.object_inheritance.specs.claims.Inherited.{own, value}
use Rattle.value_places.specs.Places.{file_of}
use Rattle.value_places.proofs.PlaceLemmas.{giver-is, none-given}
use Rattle.value_places.proofs.places.value_text.Goals as goal

pub returns-in-None : goal.returns-in-None
returns-in-None c =
    let same = c.value.ensures ∙ ap (λ (v : Column). value v.blocks v.directive c.args.place) c.requires in
    none-given (file_of c.args.source) c.args.blocks.now c.args.directive.now c.args.place _ (sym same ∙ ap option_copied c.in-None.is) c.new.ensures.items

pub returns-in-Some : goal.returns-in-Some
returns-in-Some c =
    let same = c.value.ensures ∙ ap (λ (v : Column). value v.blocks v.directive c.args.place) c.requires in
    IfOk-weaker c.giver_text.result _ _
    (λ text told. giver-is (file_of c.args.source) c.args.blocks.now c.args.directive.now c.args.place c.origin.result text.items
    (ap is_some (sym same) ∙ ap (λ (o : Option (Bor (List ℕ))). is_some (option_copied o)) c.in-Some.is)
    (subst (λ (v : Column). own v.blocks v.directive c.origin.result ≡ value v.blocks v.directive c.args.place) c.requires c.origin.ensures.own) told)
    c.giver_text.ensures
