-- What the intake has sent.
use Rattle.std.specs.Prelude.{◌≡◌, ℕ, List, slice_get, Some}
use Rattle.std.specs.declared.alloc.Global.{Global}
use Rattle.rtrb.specs.declared.AnyItems.{AnyItems}
use Rattle.rtrb.specs.declared.producer.Producer.{Producer}
use Rattle.rtrb.specs.Ring.{SameProducer, sent}
use Rattle.decider_thread.specs.declared.Signal.{Signal}

-- each ring has been sent these
abbrev pub HaveSent : List Signal → List (Producer Signal Global AnyItems) → Type 0
HaveSent signals rings = (d : ℕ) (p : Producer Signal Global AnyItems) → slice_get rings d ≡ Some p → sent p ≡ signals

-- each is the end of the same ring as before
abbrev pub AreSame : (old new : List (Producer Signal Global AnyItems)) → Type 0
AreSame old new =
    (d : ℕ) (o p : Producer Signal Global AnyItems) → slice_get old d ≡ Some o → slice_get new d ≡ Some p → SameProducer o p
