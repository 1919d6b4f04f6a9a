-- What follows from what a clause says of an answer that is nothing.
use Rattle.std.proofs.Common.{IfNone, None, Option, Some}

pub IfNone_then : {X : Type 0} (r : Option X) {P Q : Type 0} → IfNone r P → (P → Q) → IfNone r Q
IfNone_then None h f = f h
IfNone_then (Some x) h f = tt
