-- A law of the answers of a feed, of any bytes.
use Rattle.std.specs.Prelude.{◌≡◌, ℕ, Bool, true, List, [], ◌∷◌, ◌++◌}
use Rattle.due_model.specs.declared.config.Config.{Config}
use Rattle.event_feed.specs.claims.Feed.{Answer, AreGiven, answers_within, ends_feed}

-- After Cut or Read nothing is given of a feed, whether its reading broke off or not.
abbrev pub NothingFollowsTheEnd : Type 0
NothingFollowsTheEnd = (far : ℕ → Bool) (can_fail : Bool) (c : Config) (from last : ℕ) (texts : List (List ℕ))
    (front others : List Answer) (answer : Answer)
    → AreGiven can_fail (front ++ answer ∷ others) (answers_within far c.objects from last texts) from texts
    → ends_feed answer.given ≡ true
    → others ≡ []
