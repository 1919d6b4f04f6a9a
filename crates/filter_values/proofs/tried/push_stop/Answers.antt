use Rattle.std.proofs.Common.{List, ap, append_assoc, codes, ◌++◌, ◌∙◌, ℕ}
use Rattle.line_forms.specs.Json.{string_json}
use Rattle.filter_values.specs.Tried.{stop_json}
use Rattle.filter_values.specs.Values.{filter_text}
use Rattle.filter_values.proofs.tried.push_stop.Goals as goal

pub returns : goal.returns
unfolding stop_json
returns c =
    let told = string_json (filter_text c.args.config.now c.args.object.0 c.args.filter) in
    c.in_ok-push_filter_string.ensures ∙ ap (λ (text : List ℕ). text ++ told) c.in_ok-extend_from_slice.ensures.items
    ∙ append_assoc c.args.text.now.items (codes ",\"stopped\":") told
