use Rattle.std.proofs.Common.{◌∙◌, sym}
use Rattle.std.proofs.lemmas.Bool.{false≢true}
use Rattle.due_times.proofs.Moments.{first_below, second_below}
use Rattle.due_times.proofs.place_below.Goals as goal

pub returns-then-is_moment : goal.returns-then-is_moment
returns-then-is_moment c =
    first_below c.args.level.now c.requires.0 c.args.place c.args.moment c.requires.1 c.requires.2 (sym c.at.ensures ∙ c.is_moment.ensures.0 c.if-is_moment.true)

pub returns-else-is_moment : goal.returns-else-is_moment
returns-else-is_moment c =
    second_below c.args.level.now c.requires.0 c.args.place c.args.moment c.requires.1 c.requires.2
    (λ found. absurd (false≢true (c.if-is_moment.ensures.1 (c.at.ensures ∙ found))))
