use Rattle.std.proofs.Common.{◌≡◌, ◌++◌, take}
use Rattle.changed_notices.specs.Changed.{changed_lines}
use Rattle.changed_notices.proofs.changed.push_lines.Given as goal

abbrev pub invariant-loop-notice : goal.invariant-loop-notice
invariant-loop-notice l = l.text.items ≡ l.fn.text.items ++ changed_lines l.form.form l.sign l.config l.clock (take l.notice-index l.notices)
