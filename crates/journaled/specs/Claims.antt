-- What earlier runs settled, and what of a lane's letters is new.
use Rattle.std.specs.Prelude.{ℕ, ◌<◌, ◌==◌, ◌⊎◌, Bool, ◌&&◌, ◌||◌, not, nat_le, nat_lt, List, filter, Contains}
use Rattle.std.specs.List.{list_any}
use Rattle.due_model.specs.declared.notice.Notice.{Notice}

-- What earlier runs left of a lane: from which event on letters are handed over, what was taken or given up of them, and what was about
-- to be handed over.
pub record Past : Type 0 where
  pub from : ℕ
  pub settled : List Notice
  pub begun : List Notice

-- the other message is of the notice's object, and is the same or is due after it: those of an object are due in the order of their
-- events, and those of one event in the order of their contacts
abbrev pub settles : (n other : Notice) → Bool
settles n other =
    (other.object.0 == n.object.0)
    && (nat_lt n.event other.event || (other.event == n.event && nat_le n.contact.0 other.contact.0))

-- an earlier run settled it, or one that is due after it; or it is of an event before the first
abbrev pub is_settled : Past → Notice → Bool
is_settled past n = nat_lt n.event past.from || list_any (settles n) past.settled

-- it is of an event before the first, or is among what was settled, just as it is
abbrev pub IsHeld : Past → Notice → Type 0
IsHeld past n = (n.event < past.from) ⊎ Contains past.settled n

-- it isn't settled
abbrev pub is_new : Past → Notice → Bool
is_new past n = not (is_settled past n)

-- of some notices those that are new
abbrev pub new_of : Past → List Notice → List Notice
new_of past notices = filter (is_new past) notices

-- and those that are settled
abbrev pub settled_of : Past → List Notice → List Notice
settled_of past notices = filter (is_settled past) notices
