-- The order of a log: by event, then object.
use Rattle.std.specs.Prelude.{Bool, nat_lt}
use Rattle.due_model.specs.declared.notice.Suppression.{Suppression}
use Rattle.decider_thread.specs.claims.Order.{place}

abbrev pub stands_before : Suppression → Suppression → Bool
stands_before a b = nat_lt (place a) (place b)
