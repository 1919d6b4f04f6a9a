-- A world as its state and its setup.
use Rattle.std.specs.Prelude.{List, ◌++◌}
use Rattle.due_model.specs.declared.notice.Notice.{Notice}
use Rattle.steps.specs.declared.line.LineParts.{LineParts}

-- the parts of a line, joined
abbrev pub joined : LineParts → List Notice
joined parts =
    parts.taken.items ++ parts.hand.items ++ parts.undelivered.items ++ parts.queue.items
    ++ parts.outbox.items
