-- In which file a line stands, where the text is made of files.
use Rattle.std.specs.Prelude.{ℕ, ◌-◌, List, [], filter, nat_lt, Option, None, Some}
use Rattle.std.specs.List.{last_or}
use Rattle.faults_told.specs.declared.located.Source.{Source}

-- the file: the last before which there are fewer lines
abbrev pub source_of : List Source → (line : ℕ) → Option Source
source_of sources line = last_or None (filter (λ source. nat_lt source.before line) sources)

-- its name; empty where there is none
abbrev pub file_of : Option Source → List ℕ
file_of None = []
file_of (Some source) = source.name.now

-- the line's number in it
abbrev pub number_of : Option Source → (line : ℕ) → ℕ
number_of None line = line
number_of (Some source) line = line - source.before
