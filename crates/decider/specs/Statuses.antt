-- What is kept of the status of each object.
use Rattle.std.specs.Prelude.{ℕ, Bool, false, replicate, slice_set, Option, Some, None}
use Rattle.due_model.specs.declared.config.ObjectId.{ObjectId}
use Rattle.due_model.specs.declared.event.EventKind.{EventKind}
use Rattle.due_model.specs.declared.event.EventKind.TheVariants.{Clock, Program, Hard, Downtime, Flapping, Ack, AckRemoved, OwnSwitch}
use Rattle.due_model.specs.declared.rules.ObjectStatus.{ObjectStatus}
use Rattle.due_model.specs.declared.state.State.{State}
use Rattle.due_model.specs.declared.state.State.TheVariants.{Pending}
use Rattle.due_model.specs.Acknowledgements.{ack_after}
use Rattle.due_model.specs.claims.Readings.{depth_after, flapping_after, hard_after, switched_after}
use Rattle.decider.specs.claims.Statuses.{StatusLists, status_at}

-- of so many objects of which nothing is known yet
abbrev pub no_statuses : (objects : ℕ) → StatusLists
no_statuses objects = record {
  states = replicate objects Pending;
  depths = replicate objects 0;
  flaps = replicate objects false;
  acks = replicate objects None;
  switches = replicate objects None;
}

-- with this status of object o
abbrev pub with_status : StatusLists → (o : ℕ) → ObjectStatus → StatusLists
with_status s o status = record {
  states = slice_set s.states o status.state;
  depths = slice_set s.depths o status.depth;
  flaps = slice_set s.flaps o status.flapping;
  acks = slice_set s.acks o status.acknowledged;
  switches = slice_set s.switches o status.switched;
}

-- with this hard state of object o
abbrev pub with_state : StatusLists → (o : ℕ) → State → StatusLists
with_state s o state = record s { states = slice_set s.states o state }

-- with so many downtimes of object o that run
abbrev pub with_depth : StatusLists → (o depth : ℕ) → StatusLists
with_depth s o depth = record s { depths = slice_set s.depths o depth }

-- with object o flapping, or not
abbrev pub with_flapping : StatusLists → (o : ℕ) → Bool → StatusLists
with_flapping s o flapping = record s { flaps = slice_set s.flaps o flapping }

-- with the problem of object o acknowledged so, or not
abbrev pub with_ack : StatusLists → (o : ℕ) → Option Bool → StatusLists
with_ack s o acknowledged = record s { acks = slice_set s.acks o acknowledged }

-- with the own switch of object o so
abbrev pub with_switch : StatusLists → (o : ℕ) → Option Bool → StatusLists
with_switch s o switched = record s { switches = slice_set s.switches o switched }

-- the status of object o after an event that says this, which was so before it
abbrev pub status_by : (o : ℕ) → EventKind → ObjectStatus → ObjectStatus
status_by o k old = record {
  state = hard_after o k old.state;
  depth = depth_after o k old.depth;
  flapping = flapping_after o k old.flapping;
  acknowledged = ack_after o k old.state old.acknowledged;
  switched = switched_after o k old.switched;
}

-- the object that an event names
abbrev pub named_by : EventKind → Option ObjectId
named_by Clock = None
named_by (Program on) = None
named_by (Hard o state) = Some o
named_by (Downtime o change) = Some o
named_by (Flapping o starts) = Some o
named_by (Ack o ack) = Some o
named_by (AckRemoved o) = Some o
named_by (OwnSwitch o on) = Some o

-- the object to which it gives a hard state, and that state
abbrev pub hard_by : EventKind → Option (ObjectId × State)
hard_by Clock = None
hard_by (Program on) = None
hard_by (Hard o state) = Some (o, state)
hard_by (Downtime o change) = None
hard_by (Flapping o starts) = None
hard_by (Ack o ack) = None
hard_by (AckRemoved o) = None
hard_by (OwnSwitch o on) = None

-- the statuses after an event that says this
abbrev pub statuses_after : EventKind → StatusLists → StatusLists
statuses_after k s = elim (named_by k) as (λ _. StatusLists) [
  | None ↦ s
  | Some o ↦ with_status s o.0 (status_by o.0 k (status_at s o.0))
]
