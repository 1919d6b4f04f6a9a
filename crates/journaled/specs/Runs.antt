-- What several runs over a feed that grows hand over together.
use Rattle.std.specs.Prelude.{◌≡◌, ℕ, ◌==◌, Bool, false, not, nat_lt, List, [], ◌∷◌, ◌++◌, filter}
use Rattle.std.specs.List.{AllByRecursion}
use mathlib.Core.List.{IsPrefix}
use Rattle.due_model.specs.declared.notice.Notice.{Notice}
use Rattle.journaled.specs.Claims.{Past, new_of, settles}

-- the notices of an object
abbrev pub of_object : ℕ → List Notice → List Notice
of_object o notices = filter (λ n. n.object.0 == o) notices

-- those of the events from this one on
abbrev pub since : (from : ℕ) → List Notice → List Notice
since from notices = filter (λ n. not (nat_lt n.event from)) notices

-- what is due of one object: each after those of earlier events, and of the same one to contacts of lesser numbers
abbrev pub IsInOrder : List Notice → Type 0
IsInOrder [] = Unit {0}
IsInOrder (n ∷ ns) = AllByRecursion (λ later. settles later n ≡ false) ns × IsInOrder ns

-- Where earlier runs settled a first part of what is due of an object from an event on, then what they settled, what of the taken is new,
-- and what is new of what is left is what is due of it from that event on: each once, in order.
abbrev pub IsOnceOfEach : Type 0
IsOnceOfEach =
    (o : ℕ) (past : Past) (taken left due : List Notice) → IsInOrder (of_object o due)
    → IsPrefix (of_object o past.settled) (since past.from (of_object o due))
    → of_object o taken ++ of_object o left ≡ of_object o due
    → of_object o past.settled ++ of_object o (new_of past taken) ++ of_object o (new_of past left)
    ≡ since past.from (of_object o due)
