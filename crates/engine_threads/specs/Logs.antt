-- The logs of the deciders, and the one that they make.
use Rattle.std.specs.Prelude.{◌≡◌, ℕ, Bool, List, [], filter, slice_get, Some}
use Rattle.due_model.specs.declared.notice.Suppression.{Suppression}
use Rattle.decider_thread.specs.declared.ring.DeciderEnd.{DeciderEnd}
use Rattle.decider_thread.specs.claims.Order.{IsInOrder}

-- each stands by event, then object
abbrev pub AreInOrder : List DeciderEnd → Type 0
AreInOrder ends = (d : ℕ) (e : DeciderEnd) → slice_get ends d ≡ Some e → IsInOrder e.log.items

-- Where a test keeps nothing of the others' logs, it keeps of this one what it keeps of decider d's.
abbrev pub HasEach : List DeciderEnd → (log : List Suppression) → Type 0
HasEach ends log =
    (keeps : Suppression → Bool) (d : ℕ) (e : DeciderEnd) → slice_get ends d ≡ Some e
    → ((k : ℕ) (f : DeciderEnd) → ¬ (k ≡ d) → slice_get ends k ≡ Some f → filter keeps f.log.items ≡ [])
    → filter keeps log ≡ filter keeps e.log.items
