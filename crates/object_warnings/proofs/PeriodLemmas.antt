-- The periods that are worked out, by their numbers.
use Rattle.std.proofs.Common.{◌≡◌, ℕ, ◌<◌, List, length, get_or, sym, subst, ◌∙◌, arith}
use Rattle.std.proofs.lemmas.List.{get_or_default}
use Rattle.due_model.specs.declared.config.Config.{Config}
use Rattle.time_period.specs.claims.Days.{AreCompiled, IsCompiled, never, Worked}

-- what the place of a period holds is worked out of it
pub its_own : (c : Config) (all : List Worked) (number : ℕ) (worked : Worked) → AreCompiled c all → number < length all
    → worked ≡ get_or all number worked → IsCompiled c (record { 0 = number }) worked
its_own c all number worked are within is =
    let known : number < length c.periods = let long = are.0 in omega (arith, within, long) in
    subst (IsCompiled c (record { 0 = number })) (sym (is ∙ get_or_default all number worked never within)) (are.1 (record { 0 = number }) known)
