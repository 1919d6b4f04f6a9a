-- The shapes of a picture as SVG, and the escapes of XML.
use Rattle.std.specs.Prelude.{◌≡◌, ℕ, Bool, not, ◌||◌, ◌==◌, nat_lt, All, List, [], ◌∷◌, ◌++◌, codes, decimal, false, flat_map, if◌then◌else◌}

-- ---- texts

-- a byte of a text: what XML would read as its own is escaped, and a question mark stands for a control character
unfoldable pub escaped : ℕ → List ℕ
escaped byte =
    if byte == 38 then codes "&amp;"
    else if byte == 60 then codes "&lt;"
    else if byte == 62 then codes "&gt;"
    else if byte == 34 then codes "&quot;"
    else if byte == 39 then codes "&#39;"
    else if nat_lt byte 32 || (byte == 127) then 63 ∷ []
    else byte ∷ []

unfoldable pub escaped_text : List ℕ → List ℕ
escaped_text bytes = flat_map escaped bytes

-- a byte that would begin or end a tag or an attribute's value: < > " '
abbrev pub is_markup : ℕ → Bool
is_markup byte = ((byte == 60) || (byte == 62)) || ((byte == 34) || (byte == 39))

-- No such byte is left of a text. A & is left only where it begins an escape, as the definition says.
abbrev pub LeavesNoMarkup : Type 0
LeavesNoMarkup = (bytes : List ℕ) → All (λ byte. is_markup byte ≡ false) (escaped_text bytes)

-- ---- shapes

-- an attribute whose value is a number: what comes before the number, which ends with a quote, and the quote after it
unfoldable pub attribute : (front : List ℕ) → (value : ℕ) → List ℕ
attribute front value = front ++ decimal value ++ codes "\""

unfoldable pub corner_text : (x y : ℕ) → List ℕ
corner_text x y = attribute (codes " x=\"") x ++ attribute (codes " y=\"") y

unfoldable pub size_text : (width height : ℕ) → List ℕ
size_text width height =
    attribute (codes " width=\"") width ++ attribute (codes " height=\"") height

-- the title of a shape, which its name ends
unfoldable pub titled : (title end : List ℕ) → List ℕ
titled title end = codes "\"><title>" ++ title ++ codes "</title>" ++ end

-- how a bar begins: where it is, how large, and up to its colour
unfoldable pub bar_front : (x y width height : ℕ) → List ℕ
bar_front x y width height =
    codes "<rect" ++ corner_text x y ++ size_text width height ++ codes " fill=\""

-- a bar of a colour, with a title
unfoldable pub bar_text : (x y width height : ℕ) → (colour title : List ℕ) → List ℕ
bar_text x y width height colour title =
    bar_front x y width height ++ colour ++ titled title (codes "</rect>\n")

-- a round mark: how it begins, where it is, its paint, and its title
unfoldable pub round_text : (front : List ℕ) → (x y : ℕ) → (paint title : List ℕ) → List ℕ
round_text front x y paint title =
    attribute front x ++ attribute (codes " cy=\"") y ++ paint ++ titled title (codes "</circle>\n")

-- a text: how it begins, where it is, and the text with what ends it
unfoldable pub words_front : (front : List ℕ) → (x y : ℕ) → List ℕ
words_front front x y = front ++ corner_text x y ++ codes ">"

unfoldable pub words_text : (front : List ℕ) → (x y : ℕ) → (words : List ℕ) → List ℕ
words_text front x y words = words_front front x y ++ words ++ codes "</text>\n"

-- a text that is cut off at a width, and has itself as its title
unfoldable pub cut_front : (x y width height : ℕ) → List ℕ
cut_front x y width height =
    codes "<svg" ++ corner_text x y ++ size_text width height ++ codes "><title>"

unfoldable pub cut_end : (words : List ℕ) → List ℕ
cut_end words = codes "</title><text x=\"4\" y=\"15\">" ++ words ++ codes "</text></svg>\n"

unfoldable pub cut_text : (x y width height : ℕ) → (words : List ℕ) → List ℕ
cut_text x y width height words = cut_front x y width height ++ words ++ cut_end words
