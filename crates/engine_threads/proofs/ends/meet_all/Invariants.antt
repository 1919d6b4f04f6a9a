use Rattle.std.proofs.Common.{◌≡◌, ◌<◌, ◌≤◌, ◌++◌, ℕ, List, length, slice_get, Some}
use Rattle.std.specs.Vec.Iter.{into_iter_items}
use Rattle.due_model.specs.declared.config.Config.{Config}
use Rattle.due_model.specs.declared.event.Event.{Event}
use Rattle.due_model.specs.declared.notice.Suppression.{Suppression}
use Rattle.due_model.specs.declared.zone.Zone.{Zone}
use Rattle.decider_thread.specs.declared.ring.DeciderEnd.{DeciderEnd}
use Rattle.engine_threads.specs.Joins.{AreEnds, AreKept, AreWorkers, IsMet}
use Rattle.engine_threads.proofs.ends.meet_all.Given as goal

abbrev pub invariant-loop-end : goal.invariant-loop-end
invariant-loop-end l =
    (l.place ≡ length l.yielded)
    × (l.yielded ++ into_iter_items l.end-iterator ≡ l.fn.ends.items)
    × AreWorkers l.queues l.served.items
    × AreKept l.fn.served.items l.served.items
    × (length l.served.items ≡ length l.fn.served.items)
    × ((d : ℕ) (p : _) → l.place ≤ d → slice_get l.senders.items d ≡ Some p → slice_get l.fn.senders.items d ≡ Some p)
    × (length l.senders.items ≡ length l.fn.senders.items)
    × ((c : Config) (zone : Zone) (events : List Event) (told : ℕ → List Suppression) → AreEnds c zone l.queues events told l.fn.ends.items l.fn.senders.items
    → (d : ℕ) (e : DeciderEnd) → d < l.place → slice_get l.fn.ends.items d ≡ Some e → IsMet c zone (length l.fn.ends.items) d l.queues events l.memory l.fn.served.items (told d) e.log.items)
