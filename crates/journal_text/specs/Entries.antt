-- The lines of a journal. The first says of which lane it is, and from which event on: J;1;lane;event;
-- Each other is an entry: B, T or U, and a notice's fields, each with a `;` behind it: letter;event;moment;host;service;kind;state;number;contact;
use Rattle.std.specs.Prelude.{ℕ, ◌==◌, ◌&&◌, Bool, List, [], ◌∷◌, ◌++◌, length, nat_lt, decimal, codes, Option, None, Some, if◌then◌else◌}
use Rattle.std.specs.List.{position_or_len, before_first, after_first}
use Rattle.std.specs.Option.{option_and_then, option_map}
use Rattle.std.specs.Str.{bytes_eq}
use Rattle.due_model.specs.declared.config.Config.{Config}
use Rattle.due_model.specs.declared.config.ContactId.{ContactId}
use Rattle.due_model.specs.declared.config.LaneId.{LaneId}
use Rattle.due_model.specs.declared.config.ObjectId.{ObjectId}
use Rattle.due_model.specs.declared.notice.Kind.{Kind}
use Rattle.due_model.specs.declared.notice.Notice.{Notice}
use Rattle.due_model.specs.declared.state.State.{State}
use Rattle.due_model.specs.claims.Objects.{object_named}
use Rattle.notice_text.specs.claims.Names.{kind_name, state_name}
use Rattle.notice_text.specs.claims.Texts.{contact_text, lane_text}
use Rattle.journal_text.specs.declared.entry.Entry.{Entry}
use Rattle.journal_text.specs.declared.entry.Entry.TheVariants.{Begun, GivenUp, Taken}
use Rattle.journal_text.specs.declared.reading.News.{News}
use Rattle.journal_text.specs.declared.reading.Subject.{Subject}
use Rattle.journal_text.specs.Names.{kind_said, state_said, number_said, contact_said, service_said, host_word, service_word}

-- ---- as it is written

abbrev pub field : List ℕ → List ℕ
field word = word ++ 59 ∷ []

-- which event, and of which object
unfoldable pub subject_fields : Config → Notice → List ℕ
subject_fields c n =
    field (decimal n.event) ++ field (decimal n.moment) ++ field (host_word c n.object.0) ++ field (service_word c n.object.0)

-- what, and for whom
unfoldable pub news_fields : Config → Notice → List ℕ
news_fields c n =
    field (kind_name n.kind) ++ field (state_name n.state) ++ field (decimal n.number) ++ field (contact_text c n.contact.0)

abbrev pub notice_fields : Config → Notice → List ℕ
notice_fields c n = subject_fields c n ++ news_fields c n

abbrev pub letter_of : Entry → ℕ
letter_of (Begun n) = 66
letter_of (Taken n) = 84
letter_of (GivenUp n) = 85

abbrev pub notice_of : Entry → Notice
notice_of (Begun n) = n
notice_of (Taken n) = n
notice_of (GivenUp n) = n

-- the line of an entry, without its newline
abbrev pub body : Config → Entry → List ℕ
body c e = field (letter_of e ∷ []) ++ notice_fields c (notice_of e)

-- the first line: of which lane, and from which event on
unfoldable pub first_line : Config → LaneId → (from : ℕ) → List ℕ
first_line c lane from =
    field (codes "J") ++ field (codes "1") ++ field (lane_text c lane.0) ++ field (decimal from)

-- ---- as it is read

infixl 10 ◌>>=◌
abbrev pub ◌>>=◌ : {A B : Type 0} → Option A → (A → Option B) → Option B
None >>= f = None
(Some x) >>= f = f x

abbrev pub is_mark : ℕ → Bool
is_mark byte = byte == 59

-- a field's word, and the bytes after its mark
abbrev pub word_at : List ℕ → Option (List ℕ × List ℕ)
word_at bytes =
    if nat_lt (position_or_len is_mark bytes) (length bytes) then Some (before_first is_mark bytes, after_first is_mark bytes)
    else None

unfoldable pub number_at : List ℕ → Option (ℕ × List ℕ)
number_at bytes = do
  w ← word_at bytes
  n ← number_said w.0
  Some (n, w.1)

unfoldable pub object_at : Config → List ℕ → Option (ObjectId × List ℕ)
object_at c bytes = do
  host ← word_at bytes
  service ← word_at host.1
  object ← object_named c.objects host.0 (service_said service.0)
  Some (object, service.1)

unfoldable pub subject_at : Config → List ℕ → Option (Subject × List ℕ)
subject_at c bytes = do
  event ← number_at bytes
  moment ← number_at event.1
  object ← object_at c moment.1
  Some (record { event = event.0; moment = moment.0; object = object.0 }, object.1)

unfoldable pub kind_at : List ℕ → Option (Kind × State × List ℕ)
kind_at bytes = do
  k ← word_at bytes
  s ← word_at k.1
  kind ← kind_said k.0
  state ← state_said s.0
  Some (kind, state, s.1)

unfoldable pub news_at : Config → List ℕ → Option (News × List ℕ)
news_at c bytes = do
  k ← kind_at bytes
  number ← number_at k.2
  name ← word_at number.1
  contact ← contact_said c name.0
  Some (record { kind = k.0; state = k.1; number = number.0; contact = contact }, name.1)

-- nothing comes after it
abbrev pub at_end : {A : Type 0} → A → List ℕ → Option A
at_end x [] = Some x
at_end x (b ∷ bs) = None

unfoldable pub notice_said : Config → LaneId → List ℕ → Option Notice
notice_said c lane bytes = do
  subject ← subject_at c bytes
  news ← news_at c subject.1
  at_end (record {
    event = subject.0.event;
    moment = subject.0.moment;
    object = subject.0.object;
    kind = news.0.kind;
    state = news.0.state;
    number = news.0.number;
    contact = news.0.contact;
    lane = lane;
  }) news.1

abbrev pub entry_said : Config → LaneId → List ℕ → Option Entry
entry_said c lane (letter ∷ mark ∷ bytes) =
    if mark == 59 then
    (if letter == 66 then option_map Begun (notice_said c lane bytes)
    else if letter == 84 then option_map Taken (notice_said c lane bytes)
    else if letter == 85 then option_map GivenUp (notice_said c lane bytes)
    else None)
    else None
entry_said c lane bytes = None

-- from which event on, where the line is the first of that lane's journal
abbrev pub from_of : Config → LaneId → (mark format lane : List ℕ) → (from : ℕ) → Option ℕ
from_of c lane mark format name from =
    if bytes_eq mark (codes "J") && bytes_eq format (codes "1") && bytes_eq name (lane_text c lane.0) then Some from else None

unfoldable pub first_said : Config → LaneId → List ℕ → Option ℕ
first_said c lane bytes = do
  mark ← word_at bytes
  format ← word_at mark.1
  name ← word_at format.1
  from ← number_at name.1
  number ← from_of c lane mark.0 format.0 name.0 from.0
  at_end number from.1
