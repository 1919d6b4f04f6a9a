-- The fields of a line.
use Rattle.std.specs.Prelude.{ℕ, List, [], ◌∷◌, ◌++◌, codes, decimal, flat_map}
use Rattle.due_model.specs.declared.config.Config.{Config}
use Rattle.due_model.specs.declared.notice.Notice.{Notice}
use Rattle.notice_text.specs.claims.Texts.{contact_text}

-- a field, after the mark that separates it from the one before
abbrev pub field : List ℕ → List ℕ
field text = 59 ∷ text

-- a notice of a list: event:contact
abbrev pub notice_mark : Config → Notice → List ℕ
notice_mark c n = decimal n.event ++ 58 ∷ contact_text c n.contact.0

-- one that isn't the first of its list
abbrev pub after_comma : Config → Notice → List ℕ
after_comma c n = 44 ∷ notice_mark c n

-- a list of notices, separated by commas; a dash where there is none
abbrev pub notices_text : Config → List Notice → List ℕ
notices_text c [] = codes "-"
notices_text c (n ∷ notices) = notice_mark c n ++ flat_map (after_comma c) notices
