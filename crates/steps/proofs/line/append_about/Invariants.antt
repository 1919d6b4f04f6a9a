use Rattle.std.proofs.Common.{◌≡◌, ◌++◌, drop}
use Rattle.steps.specs.claims.Lanes.{about}
use Rattle.steps.proofs.line.append_about.Given as goal

abbrev pub invariant-loop-notice : goal.invariant-loop-notice
invariant-loop-notice l =
    l.found.items ++ about l.object.0 (drop l.notice-index l.notices) ≡ l.fn.found.items ++ about l.object.0 l.notices
