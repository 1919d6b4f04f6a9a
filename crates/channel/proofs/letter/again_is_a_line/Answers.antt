use Rattle.std.proofs.Common.{◌≡◌, ℕ, ◌+◌, ◌-◌, List, [], ◌∷◌, ◌++◌, codes, length, take, sym, ap, ◌∙◌, arith, append_assoc, length-append}
use Rattle.std.proofs.lemmas.List.{take_at}
use Rattle.channel.specs.claims.Letter.{line, number_lines, subject_lines}
use Rattle.channel.proofs.letter.again_is_a_line.Goals as goal

pub returns : goal.returns
returns c = λ config n.
    let said : List ℕ = subject_lines config n ++ number_lines n in
    let long : length (said ++ 10 ∷ []) ≡ length said + 1 = length-append said (10 ∷ []) in
    ap (λ (front : List ℕ). front ++ codes "Again: yes\n\n") (take_at said (10 ∷ []) (length (said ++ 10 ∷ []) - 1) (omega arith))
    ∙ sym (append_assoc said (line (codes "Again: ") (codes "yes")) (10 ∷ []))
