use Rattle.std.proofs.Common.{Bool, ◌∙◌, ap}
use Rattle.problem_count.specs.Book.{begins_problem, delayed_from, delays_by, emptied, stated}
use Rattle.problem_count.proofs.book.Book.in_state.Goals as goal

pub returns : goal.returns
returns c =
    let book = c.args.self in
    let s = c.args.state in
    let t = c.args.t in
    c.stated.ensures
    ∙ ap (stated s c.ends-over.result) (c.delayed.ensures ∙ ap (delayed_from c.delays-anew.result t) c.emptied.ensures)
    ∙ ap (λ (begins : Bool). stated s c.ends-over.result (delayed_from c.delays-anew.result t (emptied begins book))) c.begins-begun.ensures
    ∙ ap (λ (anew : Bool). stated s c.ends-over.result (delayed_from anew t (emptied (begins_problem s book) book))) c.delays-anew.ensures
    ∙ ap (λ (ended : Bool). stated s ended (delayed_from (delays_by c.args.choices s book) t (emptied (begins_problem s book) book))) c.ends-over.ensures
