-- The lines of a run beside those of a report, as bytes.
use Rattle.std.specs.Prelude.{ℕ, List, [], ◌∷◌, ◌++◌, codes, decimal}
use Rattle.due_model.specs.declared.config.Config.{Config}
use Rattle.due_model.specs.declared.notice.Notice.{Notice}
use Rattle.undelivered.specs.declared.Why.{Why}
use Rattle.undelivered.specs.declared.Why.TheVariants as why
use Rattle.notice_text.specs.claims.Texts.{contact_text, lane_text, object_text}
use Rattle.command_output.specs.claims.Fields.{field}

-- a notice of lane l: LETTER;lane;event;object;contact
abbrev pub letter_line : (letter : ℕ) → Config → (l : ℕ) → Notice → List ℕ
letter_line letter c l n =
    letter ∷ field (lane_text c l) ++ field (decimal n.event) ++ field (object_text c n.object.0)
    ++ field (contact_text c n.contact.0) ++ 10 ∷ []

-- one that the lane's channel has taken: T;lane;event;object;contact
abbrev pub taken_line : Config → (l : ℕ) → Notice → List ℕ
taken_line c l n = letter_line 84 c l n

-- one that was given up: U;lane;event;object;contact
abbrev pub undelivered_line : Config → (l : ℕ) → Notice → List ℕ
undelivered_line c l n = letter_line 85 c l n

-- how many a channel of lane l has taken, by its number among the lane's: G;lane;number;count
abbrev pub channel_line : Config → (l number count : ℕ) → List ℕ
channel_line c l number count =
    codes "G" ++ field (lane_text c l) ++ field (decimal number) ++ field (decimal count) ++ 10 ∷ []

abbrev pub why_name : Why → List ℕ
why_name why.FeedOver = codes "FeedOver"
why_name why.Asked = codes "Asked"
why_name why.Failed = codes "Failed"
why_name why.NoMemory = codes "NoMemory"
why_name why.NoChannel = codes "NoChannel"

-- why lane l is closed: Z;lane;why
abbrev pub closed_line : Config → (l : ℕ) → Why → List ℕ
closed_line c l reason = codes "Z" ++ field (lane_text c l) ++ field (why_name reason) ++ 10 ∷ []
