use Rattle.std.proofs.Common.{◌≡◌, ◌<◌, List, length, ap, ℕ, get_or, set, ◌∙◌, arith, length-set, Option, sym}
use Rattle.due_times.specs.claims.Index.{at}
use Rattle.due_times.specs.Levels.{level}
use Rattle.due_times.proofs.Mending.{IsMendedUpTo, mended_more, mended_there, mended_whole, set_there}
use Rattle.due_times.proofs.Next.{level_read}
use Rattle.due_times.proofs.Tops.{some_level}
use Rattle.due_times.proofs.set_in.Goals as goal

-- the place that is to be mended is in the level that was read
inside : (old : List (List (Option ℕ))) (place0 : ℕ) (moment0 : Option ℕ) (number : ℕ) (new : List (List (Option ℕ))) (p : ℕ) (m : Option ℕ) (it : List (Option ℕ))
    → IsMendedUpTo old place0 moment0 number new p m → number < length old → it ≡ get_or new number it → p < length it
inside old place0 moment0 number new p m it was more e =
    omega (arith, was.within more, was.sizes number, ap length (level_read new number it (omega (arith, was.count, more)) e))

pub set-requires : goal.set-requires
set-requires c = inside _ _ _ _ _ _ _ _ c.loop-number.invariant (omega (arith, c.loop-number.invariant.count)) c.index_mut-level.ensures.value

pub of_pair-value-requires : goal.of_pair-value-requires
of_pair-value-requires c =
    let before = inside _ _ _ _ _ _ _ _ c.loop-number.invariant (omega (arith, c.loop-number.invariant.count)) c.index_mut-level.ensures.value in
    omega (arith, before, ap length c.set.ensures, length-set c.index_mut-level.result.now c.loop-number.spot c.loop-number.value)

pub loop-number-preserved : goal.loop-number-preserved
loop-number-preserved c =
    let was = c.loop-number.invariant in
    let more : c.loop-number.number < length c.args.levels.now.items = omega (arith, was.count) in
    let read = level_read c.loop-number.levels.items c.loop-number.number c.index_mut-level.result.now (omega (arith, was.count, more)) c.index_mut-level.ensures.value in
    rw c.of_pair-value.ensures (mended_more c.args.levels.now.items c.args.place c.args.moment c.loop-number.number c.loop-number.levels.items c.loop-number.spot c.loop-number.value
    c.requires.paired was more c.set.new.self (c.set.ensures ∙ ap (λ xs. set xs c.loop-number.spot c.loop-number.value) read))

-- the moment that is to be put stands there already
there : (c : goal.Then-is_same) → at (level c.loop-number.levels.items c.loop-number.number) c.loop-number.spot ≡ c.loop-number.value
there c =
    let read = level_read c.loop-number.levels.items c.loop-number.number c.index.result.now (omega (arith, c.loop-number.invariant.count)) c.index.ensures in
    ap (λ xs. at xs c.loop-number.spot) (sym read) ∙ sym c.at.ensures ∙ c.is_same.ensures.0 c.if-is_same.true

pub returns-then-is_same-clause-leaves : goal.returns-then-is_same-clause-leaves
returns-then-is_same-clause-leaves c =
    set_there c.args.levels.now.items c.args.place c.args.moment c.loop-number.number c.loop-number.levels.items c.loop-number.spot c.loop-number.value
    c.requires.paired c.loop-number.invariant (omega (arith, c.loop-number.invariant.count)) (there c)

pub returns-then-is_same-clause-room : goal.returns-then-is_same-clause-room
returns-then-is_same-clause-room c = c.loop-number.invariant.sizes 0

pub returns-then-is_same-clause-paired : goal.returns-then-is_same-clause-paired
returns-then-is_same-clause-paired c =
    mended_there c.args.levels.now.items c.args.place c.args.moment c.loop-number.number c.loop-number.levels.items c.loop-number.spot c.loop-number.value
    c.requires.paired c.loop-number.invariant (omega (arith, c.loop-number.invariant.count)) (there c)

pub returns-clause-leaves : goal.returns-clause-leaves
returns-clause-leaves c = c.loop-number.invariant.lowest (omega (arith, some_level c.args.levels.now.items c.args.place c.requires.place))

pub returns-clause-room : goal.returns-clause-room
returns-clause-room c = c.loop-number.invariant.sizes 0

pub returns-clause-paired : goal.returns-clause-paired
returns-clause-paired c =
    mended_whole c.args.levels.now.items c.args.place c.args.moment c.loop-number.number c.loop-number.levels.items c.loop-number.spot c.loop-number.value
    c.requires.paired c.loop-number.invariant (omega (arith, c.loop-number.invariant.count))
