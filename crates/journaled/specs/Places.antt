-- How what was settled is kept: by objects, and then as it was due.
use Rattle.std.specs.Prelude.{ℕ, ◌+◌, ◌*◌, ◌<◌, ◌^◌}
use Rattle.due_model.specs.declared.notice.Notice.{Notice}

-- where a notice stands among those of its object
abbrev pub turn : Notice → ℕ
turn n = n.event * 65536 + n.contact.0

-- where it stands among all
abbrev pub place : Notice → ℕ
place n = n.object.0 * 2 ^ 80 + turn n

-- its numbers are those of their types
pub record IsWithin (n : Notice) : Type 0 where
  pub event : n.event < 2 ^ 64
  pub contact : n.contact.0 < 65536
