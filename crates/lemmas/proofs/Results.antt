-- What a result leaves.
use Rattle.std.proofs.Common.{Err, IsErrOf, Ok, OnErr, Result}

-- what holds in any case holds where a call failed
pub on_err_always : {T E P : Type 0} (r : Result T E) → P → OnErr r P
on_err_always (Ok x) p = tt
on_err_always (Err e) p = p

pub ok_is_no_fault : {T E : Type 0} (x : T) (fault : E) → IsErrOf (Ok x) fault → ⊥
ok_is_no_fault x fault h = cc
