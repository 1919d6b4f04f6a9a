-- What asks lanes to close.
use Rattle.std.specs.Prelude.{ℕ, vec_len}
use Rattle.delivery_worker.specs.declared.closers.Closers.{Closers}

-- how many lanes they were made for
abbrev pub lanes_of : Closers → ℕ
lanes_of closers = vec_len closers.asked
