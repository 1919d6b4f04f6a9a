use Rattle.std.proofs.Common.{◌≡◌, ◌-◌, [], length, ap, ◌∙◌, arith}
use Rattle.std.proofs.lemmas.List.{get_or_default}
use Rattle.due_times.specs.claims.Index.{at}
use Rattle.due_times.specs.Levels.{level}
use Rattle.due_times.proofs.Tops.{least_by_top, none_by_top}
use Rattle.due_times.proofs.first_moment.Goals as goal

top_is : (c : goal.After-at) → c.at.result ≡ at (level c.args.levels.now (length c.args.levels.now - 1)) 0
top_is c =
    c.at.ensures ∙ ap (λ xs. at xs 0) (c.top-item.is
    ∙ get_or_default c.args.levels.now (length c.args.levels.now - 1) c.top-item.result [] (omega (arith, c.in-len1-up.len_at_least)))

pub returns-in-len1-up-clause-least : goal.returns-in-len1-up-clause-least
returns-in-len1-up-clause-least c = least_by_top c.args.levels.now c.at.result c.requires c.in-len1-up.len_at_least (top_is c)

pub returns-in-len1-up-clause-none : goal.returns-in-len1-up-clause-none
returns-in-len1-up-clause-none c = none_by_top c.args.levels.now c.at.result c.requires c.in-len1-up.len_at_least (top_is c)
