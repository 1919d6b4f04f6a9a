-- Columns: names that are filled up with blanks, and colours.
use Rattle.std.specs.Prelude.{ℕ, ◌-◌, Bool, true, false, not, ◌&&◌, max, min, List, [], ◌∷◌, ◌++◌, codes, filter, fold, length, nat_le, nat_lt, replicate}
use Rattle.std.specs.List.{range_with_len}
use Rattle.due_model.specs.declared.config.Config.{Config}
use Rattle.notice_text.specs.claims.Texts.{contact_text, object_text}
use Rattle.pretty_lines.specs.declared.columns.Widths.{Widths}

-- ---- widths, in characters

-- a byte of UTF-8 that begins a character
abbrev pub begins_character : ℕ → Bool
begins_character byte = not (nat_le 128 byte && nat_lt byte 192)

-- how many characters a text has
abbrev pub characters : List ℕ → ℕ
characters text = length (filter begins_character text)

-- a text, and blanks up to a width
unfoldable pub padded : (width : ℕ) → List ℕ → List ℕ
padded width text = text ++ replicate (width - characters text) 32

-- the width of the longest of the texts with these numbers
abbrev pub widest : (ℕ → List ℕ) → (count : ℕ) → ℕ
widest text count = fold (λ width k. max width (characters (text k))) 0 (range_with_len 0 count)

-- no column is filled up to more
abbrev pub most_width : ℕ
most_width = 40

-- the columns of a configuration are as wide as the longest names of objects and contacts, which have no more numbers
unfoldable pub widths_of : Config → Widths
widths_of c = record {
  object = min (widest (object_text c) 65536) most_width;
  contact = min (widest (contact_text c) 65536) most_width;
}

-- ---- colours

-- what begins a colour of a terminal, and what ends it, where there are colours
abbrev pub paint : (coloured : Bool) → (colour : List ℕ) → List ℕ
paint true colour = 27 ∷ codes "[" ++ colour ++ codes "m"
paint false colour = []

abbrev pub unpaint : (coloured : Bool) → List ℕ
unpaint true = 27 ∷ codes "[0m"
unpaint false = []
