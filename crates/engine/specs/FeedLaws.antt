-- Laws of what is taken of a feed.
use Rattle.std.proofs.Common.{Bool, refl, ◌∙◌}
use Rattle.due_model.specs.declared.config.Config.{Config}
use Rattle.engine.specs.Feed.{Goes, Kept, StaysOpen}

pub stays_open_then : (a b d : Kept) → StaysOpen a b → StaysOpen b d → StaysOpen a d
stays_open_then a b d one two =
    ((λ is none. two.0 (one.1 ∙ is) (one.0 is none)), two.1 ∙ one.1)

pub goes_nowhere : (can_fail : Bool) (c : Config) (s : Kept) → Goes can_fail c s s
goes_nowhere can_fail c s = ((λ start said taken. (said, taken)), ((λ is none. none), refl))

pub goes_then : (can_fail : Bool) (c : Config) (a b d : Kept) → Goes can_fail c a b
    → Goes can_fail c b d → Goes can_fail c a d
goes_then can_fail c a b d one two = (
  (λ start said taken.
      two.0 start (one.0 start said taken).0 (one.0 start said taken).1),
  stays_open_then a b d one.1 two.1,
)
