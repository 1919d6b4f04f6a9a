-- The lines of dates that blocks have (chapters "Time Periods" and "Object Inheritance").
use Rattle.std.specs.Prelude.{ℕ, List, map}
use Rattle.object_inheritance.specs.declared.dated_lines.Line.{Line}

-- lines by their names and texts
abbrev pub named : List Line → List (List ℕ × List ℕ)
named lines = map (λ line. (line.name.now, line.text.now)) lines
