use Rattle.std.proofs.Common.{◌++◌, ◌∷◌, [], ◌∙◌, Bool, ap, append-nil, cond, map, rules, sym}
use Rattle.std.proofs.lemmas.List.{map-append}
use Rattle.object_check.specs.Rows.{said_by}
use Rattle.object_warnings.proofs.unused.push_row.Goals as goal

pub returns-then-asked : goal.returns-then-asked
returns-then-asked c =
    ap (map said_by) (search rules) ∙ map-append said_by c.args.rows.now.items (c.args.row ∷ [])
    ∙ ap (λ (b : Bool). map said_by c.args.rows.now.items ++ cond b (said_by c.args.row ∷ []) []) (sym c.if-asked.true)

pub returns : goal.returns
returns c =
    sym (append-nil (map said_by c.args.rows.now.items))
    ∙ ap (λ (b : Bool). map said_by c.args.rows.now.items ++ cond b (said_by c.args.row ∷ []) []) (sym c.if-asked.false)
