-- Runs over one feed, one after another: each reads it from its start, and further than those before.
use Rattle.std.specs.Prelude.{◌≡◌, ℕ, ◌<◌, ◌≤◌, List, [], ◌∷◌, ◌++◌, length, reverse}
use Rattle.std.specs.List.Sorted.{IsPermutation}
use mathlib.Core.List.{IsPrefix}
use Rattle.due_model.specs.claims.Due.{due}
use Rattle.due_model.specs.declared.config.Config.{Config}
use Rattle.due_model.specs.declared.event.Event.{Event}
use Rattle.due_model.specs.declared.notice.Notice.{Notice}
use Rattle.due_model.specs.declared.zone.Zone.{Zone}
use Rattle.journaled.specs.Claims.{Past, new_of}
use Rattle.journaled.specs.Runs.{of_object, since}

-- what is due of object o on lane l after a feed, from an event on
abbrev pub due_since : Config → Zone → (from o l : ℕ) → (feed : List Event) → List Notice
due_since c zone from o l feed = since from (due c zone o l (reverse feed))

-- a run of a lane: what its feed has more than that of the run before, what it took and left of what is due, and of the new that its
-- inner channel took, what its journal tells, and what it doesn't
pub record Run : Type 0 where
  pub more : List Event
  pub taken : List Notice
  pub left : List Notice
  pub told : List Notice
  pub doubt : List Notice

-- What such a run is, after others over this feed that settled these: of each object it took and left exactly what is due; its inner
-- channel took of that what isn't settled; and its journal tells all of that but for one letter at most.
pub record IsRun (c : Config) (zone : Zone) (from l : ℕ) (feed : List Event) (settled : List Notice) (r : Run) : Type 0 where
  pub whole : (o : ℕ) → o < length c.objects
      → of_object o r.taken ++ of_object o r.left ≡ due c zone o l (reverse (feed ++ r.more))
  pub past : Past
  pub from_is : past.from ≡ from
  pub settled_are : IsPermutation settled past.settled
  pub handed : new_of past r.taken ≡ r.told ++ r.doubt
  pub one : length r.doubt ≤ 1

-- runs one after another: each knows what the journals of those before it tell
abbrev pub AreRuns : Config → Zone → (from l : ℕ) → (feed : List Event) → (settled : List Notice) → List Run → Type 0
AreRuns c zone from l feed settled [] = Unit {0}
AreRuns c zone from l feed settled (r ∷ runs) =
    IsRun c zone from l feed settled r × AreRuns c zone from l (feed ++ r.more) (settled ++ r.told) runs

abbrev pub feed_after : List Event → List Run → List Event
feed_after feed [] = feed
feed_after feed (r ∷ runs) = feed_after (feed ++ r.more) runs

abbrev pub settled_after : List Notice → List Run → List Notice
settled_after settled [] = settled
settled_after settled (r ∷ runs) = settled_after (settled ++ r.told) runs

-- After any number of runs, and then one: what the journals of those before it tell, what its inner channel was handed, and what is new
-- of what it left undelivered, is what is due: each once and in order.
abbrev pub NoneIsLostOrDoubled : Type 0
NoneIsLostOrDoubled =
    (c : Config) (zone : Zone) (from o l : ℕ) (runs : List Run) (last : Run) → o < length c.objects
    → AreRuns c zone from l [] [] runs
    → (run : IsRun c zone from l (feed_after [] runs) (settled_after [] runs) last)
    → of_object o (settled_after [] runs) ++ of_object o (last.told ++ last.doubt) ++ of_object o (new_of run.past last.left)
    ≡ due_since c zone from o l (feed_after [] runs ++ last.more)

-- And what the journals of any number of runs tell is a first part of what is due, so that the next can go on.
abbrev pub ItGoesOn : Type 0
ItGoesOn =
    (c : Config) (zone : Zone) (from o l : ℕ) (runs : List Run) → o < length c.objects
    → AreRuns c zone from l [] [] runs
    → IsPrefix (of_object o (settled_after [] runs)) (due_since c zone from o l (feed_after [] runs))
