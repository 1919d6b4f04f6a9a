use Rattle.std.proofs.Common.{◌≡◌, ◌*◌, ◌∙◌, List, ap, arith, length, min, sym, ℕ}
use Rattle.object_dependencies.specs.claims.Pairs.{Pair}
use Rattle.object_dependencies.proofs.PairLemmas.{paired-length}
use Rattle.object_dependencies.proofs.sides.Sides.count.Goals as goal

pub returns : goal.returns
returns c =
    let dependents = c.self.inside.dependents.items in
    let masters = c.self.inside.masters.items in
    let one : c.len.result ≡ length dependents = omega (arith, c.len.ensures, c.self.inside.dependents.ok) in
    let other : c.len-2.result ≡ length masters = omega (arith, c.len-2.ensures, c.self.inside.masters.ok) in
    let many : c.len.result * c.len-2.result ≡ length c.args.self.now =
    ap (λ (n : ℕ). n * c.len-2.result) one ∙ ap (λ (n : ℕ). length dependents * n) other
    ∙ sym (paired-length dependents masters) ∙ ap (λ (pairs : List Pair). length pairs) c.self.view_is in
    c.saturating_mul.ensures ∙ ap (λ (n : ℕ). min n 18446744073709551615) many
