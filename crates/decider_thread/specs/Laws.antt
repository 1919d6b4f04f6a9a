-- The laws of what a decider's events make of the objects of its share.
use Rattle.std.specs.Prelude.{◌≡◌, ℕ, ◌%◌, ◌<◌, true, false, List, [], All, length}
use Rattle.due_model.specs.declared.config.Config.{Config}
use Rattle.due_model.specs.declared.event.Event.{Event}
use Rattle.due_model.specs.declared.notice.Notice.{Notice}
use Rattle.due_model.specs.declared.zone.Zone.{Zone}
use Rattle.due_model.specs.claims.Accepted.{IsAccepted}
use Rattle.due_model.specs.claims.Due.{due, sup}
use Rattle.decider.specs.declared.share.Share.{Share}
use Rattle.decider.specs.claims.Share.{is_owned}
use Rattle.decider_thread.specs.claims.Order.{IsInOrder}
use Rattle.steps.specs.claims.Lanes.{about}
use Rattle.decider_thread.specs.Made.{made_due, suppressed}
use Rattle.decider_thread.specs.claims.Laws.{of_object}

-- Of an object of the share, what is made due on a lane is what is due of it there.
abbrev pub MadeIsDue : Type 0
MadeIsDue = (c : Config) (zone : Zone) (share : Share) (l o : ℕ) (past : List Event)
    → is_owned share o ≡ true → o < length c.objects
    → about o (made_due c zone share l past) ≡ due c zone o l past

-- a notice of an object of the share, on lane l
pub record IsMade (c : Config) (share : Share) (l : ℕ) (n : Notice) : Type 0 where
  pub owner : n.object.0 % share.deciders ≡ share.decider
  pub object : n.object.0 < length c.objects
  pub lane : n.lane.0 ≡ l

-- What is made due on a lane is of objects of the share, and of that lane.
abbrev pub MadeIsOwn : Type 0
MadeIsOwn = (c : Config) (zone : Zone) (share : Share) (l : ℕ) (past : List Event)
    → All (IsMade c share l) (made_due c zone share l past)

-- Of an object of the share, what is suppressed is what the definitions say; of another nothing is.
abbrev pub SuppressedIsSup : Type 0
SuppressedIsSup = (c : Config) (zone : Zone) (share : Share) (o : ℕ) (past : List Event)
    → is_owned share o ≡ true → o < length c.objects
    → of_object o (suppressed c zone share past) ≡ sup c zone o past

abbrev pub SuppressedIsOwn : Type 0
SuppressedIsOwn = (c : Config) (zone : Zone) (share : Share) (o : ℕ) (past : List Event)
    → is_owned share o ≡ false → of_object o (suppressed c zone share past) ≡ []

-- What is suppressed is of objects of the configuration.
abbrev pub SuppressedIsNamed : Type 0
SuppressedIsNamed = (c : Config) (zone : Zone) (share : Share) (past : List Event)
    → All (λ s. s.object.0 < length c.objects) (suppressed c zone share past)

-- What is suppressed stands by event, then object.
abbrev pub SuppressedIsInOrder : Type 0
SuppressedIsInOrder = (c : Config) (zone : Zone) (share : Share) (past : List Event)
    → IsAccepted c → IsInOrder (suppressed c zone share past)
