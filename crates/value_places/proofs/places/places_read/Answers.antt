use Rattle.std.proofs.Common.{List, ap, subst, ◌∙◌, ℕ}
use Rattle.std.specs.Prelude.{IfOk, map}
use Rattle.object_values.specs.Values.{texts}
use Rattle.value_places.specs.Places.{ArePlaces, AreSound, File}
use Rattle.value_places.proofs.places.places_read.Goals as goal

pub returns : goal.returns
returns c =
    let same = ap texts c.as_slice.ensures.value ∙ c.in_ok-lines.ensures in
    let file : List (List ℕ) → File = λ lines. record { name = c.args.file.now; lines = lines } in
    subst (λ (lines : List (List ℕ)). AreSound c.args.blocks.now → IfOk c.places_in.result (λ found. ArePlaces (file lines) c.args.blocks.now c.args.object (map (λ text. text.items) found.items))) same
    c.places_in.ensures
