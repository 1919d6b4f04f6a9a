use Rattle.std.proofs.Common.{◌≡◌, ◌∙◌, ◌-◌, ◌&&◌, Bool, true, length, take, drop, sym, ap, ap₂, arith}
use Rattle.std.specs.Str.{bytes_eq}
use Rattle.due_model.proofs.SameBytes.{same_ends}
use Rattle.due_model.proofs.objects.has_same_ends.Goals as goal

pub returns-then-has_front : goal.returns-then-has_front
returns-then-has_front g c =
    let a = c.args.a.now in
    let b = c.args.b.now in
    let a_front = c.in_ok-first_chunk.ensures.cases in
    let b_front = c.in_ok-first_chunk-2.ensures.cases in
    let a_back = c.in_ok-last_chunk.ensures.cases in
    let b_back = c.in_ok-last_chunk-2.ensures.cases in
    let front : bytes_eq (take g.row.N a) (take g.row.N b) ≡ true =
    sym (c.is_same_word-has_front.ensures ∙ ap₂ bytes_eq a_front.same b_front.same) ∙ c.if-has_front.true in
    let back : c.is_same_word-has_back.result ≡ bytes_eq (drop (length a - g.row.N) a) (drop (length b - g.row.N) b) =
    c.is_same_word-has_back.ensures ∙ ap₂ bytes_eq a_back.1.same b_back.1.same in
    back ∙ ap (λ (t : Bool). t && bytes_eq (drop (length a - g.row.N) a) (drop (length b - g.row.N) b)) (sym front)
    ∙ same_ends a b g.row.N c.requires.long a_front.enough (omega (arith, c.if-a.false))
