-- What the reading of a feed does to a run.
use Rattle.std.specs.Prelude.{◌≡◌, Bool, List, ℕ, Option}
use Rattle.event_feed.specs.claims.Feed.{Answer, Feed}
use Rattle.event_feed.specs.Feed.{answers_from}
use Rattle.written.specs.claims.Written.{Leaves, WritesFront}
use Rattle.world_steps.specs.claims.Views.{world_setup, world_state}
use Rattle.trace.specs.declared.feed.AfterFeed.{AfterFeed}
use Rattle.trace.specs.declared.run.Run.{Run}
use Rattle.trace.specs.Feed.{FeedBegins, FeedState, FeedEnds, FeedGoesOn, FeedSoFar, after_answers, after_answer}

-- the feed of a run, with bytes that are to be written
abbrev pub feed_state : Run → List ℕ → FeedState
feed_state run text = record { events = run.events.items; over = run.is_over; text = text }

-- but for its events the run is as it was
pub record Unmoved (old new : Run) : Type 0 where
  pub config : new.config ≡ old.config
  pub deciders : new.deciders ≡ old.deciders
  pub world : world_state new.world ≡ world_state old.world
  pub setup : world_setup new.world ≡ world_setup old.world
  pub posted : new.posted ≡ old.posted

-- the run has these events, and this text is on its way to the writer
pub record Has (f : FeedState) (run : Run) (before after : Option (List ℕ))
    (held : List ℕ) : Type 0 where
  pub events : run.events.items ≡ f.events
  pub over : run.is_over ≡ f.over
  pub text : Leaves before after f.text held

-- one line of the feed was read, and what it gives is kept or written
abbrev pub GoesOn : Run → Feed → List ℕ → Run → Feed → List ℕ
    → (before after : Option (List ℕ)) → (held held' : List ℕ) → Type 0
GoesOn old feed bytes new feed' rest before after held held' =
    (answer : Answer) × FeedGoesOn old.config.now.objects feed bytes feed' rest answer
    × Has (after_answer (feed_state old held) answer) new before after held'

-- the feed came to its end, and what its last line gives is written
abbrev pub EndsFeed : (can_fail : Bool) → Run → Feed → List ℕ → AfterFeed → Run → List ℕ
    → (before after : Option (List ℕ)) → (held held' : List ℕ) → Type 0
EndsFeed can_fail old feed bytes end new rest before after held held' =
    (given : List Answer)
    × FeedEnds can_fail
    (answers_from old.config.now.objects feed bytes) feed.line bytes end given rest
    × Has (after_answers (feed_state old held) given) new before after held'

-- the whole feed was read
abbrev pub ReadsFeed : (can_fail : Bool) → Run → Feed → List ℕ → AfterFeed → Run → List ℕ
    → (before after : Option (List ℕ)) → (held held' : List ℕ) → Type 0
ReadsFeed can_fail old feed bytes end new rest before after held held' =
    EndsFeed can_fail old feed bytes end new rest before after held held'

-- a front of what the first lines of the feed give is written, after what is held
abbrev pub ReadsFront : (can_fail : Bool) → Run → Feed → List ℕ → (before after : Option (List ℕ))
    → (held : List ℕ) → Type 0
ReadsFront can_fail old feed bytes before after held =
    (given : List Answer)
    × FeedBegins can_fail
    (answers_from old.config.now.objects feed bytes) feed.line bytes given
    × WritesFront before after (after_answers (feed_state old held) given).text

-- so many lines of the feed were read, and what they give is kept or written
abbrev pub ReadsSome : Run → Feed → List ℕ → Run → Feed → List ℕ
    → (before after : Option (List ℕ)) → (held held' : List ℕ) → Type 0
ReadsSome old feed bytes new feed' rest before after held held' =
    (given : List Answer) × FeedSoFar old.config.now.objects feed bytes feed' rest given
    × Has (after_answers (feed_state old held) given) new before after held'
