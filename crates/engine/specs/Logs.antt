-- The logs that a run is given.
use Rattle.std.specs.Prelude.{List, [], Result, Ok, Err}
use Rattle.std.specs.declared.alloc.AllocError.{AllocError}
use Rattle.std.specs.Global.{Vec}

-- the logs, if there was memory for them
abbrev pub given_logs : {L : Type 0} → Result (Vec L) AllocError → List L
given_logs (Ok logs) = logs.items
given_logs (Err e) = []
