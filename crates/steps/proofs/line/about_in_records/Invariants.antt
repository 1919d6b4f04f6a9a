use Rattle.std.proofs.Common.{◌≡◌, ◌++◌, drop}
use Rattle.steps.specs.claims.Lanes.{about, join_records, lists_of}
use Rattle.steps.proofs.line.about_in_records.Given as goal

abbrev pub invariant-loop-taken : goal.invariant-loop-taken
invariant-loop-taken l =
    l.found.items ++ about l.object.0 (join_records (lists_of (drop l.taken-index l.ended)))
    ≡ about l.object.0 (join_records (lists_of l.ended))
