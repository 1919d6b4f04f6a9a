use Rattle.std.proofs.Common.{◌≡◌, ◌+◌, ◌<◌, ◌^◌, true, Ok, length}
use Rattle.std.specs.Str.{is_utf8}
use Rattle.object_reader.specs.Lines.{lines_of}
use Rattle.object_reader.specs.Joined.{onto_first, joined_with, joined_from}
use Rattle.object_reader.proofs.joined.JoinedReader.join.Given as goal

abbrev pub invariant-loop-goes_on : goal.invariant-loop-goes_on
invariant-loop-goes_on l =
    (onto_first l.number l.first (joined_from l.initial.self-inside.line (lines_of l.initial.self-inside.rest.now))
    ≡ joined_with l.number (Ok (record { bytes = l.joined.items; goes_on = l.goes_on })) (joined_from l.self-inside.line (lines_of l.self-inside.rest.now)))
    × ((l.self-inside.line + length l.self-inside.rest.now < 2 ^ 64) × (l.self-inside.known ≡ true → is_utf8 l.self-inside.rest.now ≡ true))

abbrev pub decreases-loop-goes_on : goal.decreases-loop-goes_on
decreases-loop-goes_on l = length l.self-inside.rest.now
