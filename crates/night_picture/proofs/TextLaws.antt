-- What a text is after bytes are added to it.
use Rattle.std.proofs.Common.{◌≡◌, ℕ, cond, List, Result, Ok, Err, OnOk, is_ok, ◌∙◌}

pub ok_items : {T E : Type 0} (r : Result T E) (new grown old all : List ℕ) → new ≡ cond (is_ok r) grown old → grown ≡ all → OnOk r (new ≡ all)
ok_items (Ok x) new grown old all e f = e ∙ f
ok_items (Err x) new grown old all e f = tt
