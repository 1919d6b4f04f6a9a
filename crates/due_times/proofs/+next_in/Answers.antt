use Rattle.std.proofs.Common.{◌≡◌, ◌<◌, ℕ, List, Bool, false, Option, length, ap, sym, ◌∙◌, arith}
use Rattle.due_model.specs.claims.Rules.{has_come}
use Rattle.due_times.specs.claims.Index.{at}
use Rattle.due_times.specs.Levels.{level}
use Rattle.due_times.proofs.Next.{level_read, next_here, none_here, place_within}
use Rattle.due_times.proofs.+next_in.Goals as goal

-- what was read of a level is the level's
waits_in : (here real : List (Option ℕ)) (from t : ℕ) (found : Option ℕ) (come : Bool) → here ≡ real → found ≡ at here from → come ≡ has_come found t → come ≡ false → has_come (at real from) t ≡ false
waits_in here real from t found come is read test waits =
    ap (λ (xs : List (Option ℕ)). has_come (at xs from) t) (sym is) ∙ ap (λ (x : Option ℕ). has_come x t) (sym read) ∙ sym test ∙ waits

pub due_below-requires : goal.due_below-requires
due_below-requires t c =
    let there : c.args.number < length c.args.levels.now = omega (arith, c.if-number-levels.false) in
    let here = level_read c.args.levels.now c.args.number c.index-levels-number.result there c.index-levels-number.is in
    rw here (place_within c.args.levels.now c.args.number c.args.from c.args.t c.requires there c.in-Some.place c.in-Some.ensures.some)

pub returns-in-Some-clause-some : goal.returns-in-Some-clause-some
returns-in-Some-clause-some t c =
    let there : c.args.number < length c.args.levels.now = omega (arith, c.if-number-levels.false) in
    let here = level_read c.args.levels.now c.args.number c.index-levels-number.result there c.index-levels-number.is in
    let waits = waits_in _ _ c.args.from c.args.t c.at.result c.has_come.result here c.at.ensures c.has_come.ensures c.if-has_come.false in
    rw (c.due_below.ensures, here) (next_here c.args.levels.now c.args.number c.args.from c.args.t c.requires there c.in-Some.place c.in-Some.ensures.some waits)

pub returns-in-None-clause-none : goal.returns-in-None-clause-none
returns-in-None-clause-none t c =
    let there : c.args.number < length c.args.levels.now = omega (arith, c.if-number-levels.false) in
    let here = level_read c.args.levels.now c.args.number c.index-levels-number.result there c.index-levels-number.is in
    let within : c.args.from < length (level c.args.levels.now c.args.number) = omega (arith, c.if-from-len.false, c.len.ensures, ap length here) in
    let waits = waits_in _ _ c.args.from c.args.t c.at.result c.has_come.result here c.at.ensures c.has_come.ensures c.if-has_come.false in
    none_here c.args.levels.now c.args.number c.args.from c.args.t c.requires there within waits c.in-None.ensures.none
