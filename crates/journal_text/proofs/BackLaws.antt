-- The line of an entry is read as the entry.
use Rattle.std.proofs.Common.{◌≡◌, ℕ, zero, suc, ◌<◌, ◌≤◌, ◌+◌, ◌*◌, ◌-◌, ◌^◌, List, [], ◌∷◌, ◌++◌, Bool, true, false, ◌==◌, ◌&&◌, not, nat_le, nat_lt, cond, length, take, drop, decimal, codes, refl, sym, ap, ◌∙◌, subst, arith, rules, Option, Some, None, append_assoc, eq-eqb, length-append}
use Rattle.std.specs.Prelude.{All}
use Rattle.std.specs.Char.{is_ascii_digit}
use Rattle.std.specs.List.{position_or_len, before_first, after_first}
use Rattle.std.specs.Option.{option_map}
use Rattle.std.specs.Str.{all_ascii_digits, bytes_eq}
use Rattle.std.proofs.lemmas.Bool.{and_parts, and_from, cond-true, false≢true, lt-ltb, le-leb, ne_eqb, not-true}
use Rattle.std.proofs.lemmas.List.{append-nil, take_at, drop_at}
use Rattle.std.proofs.lemmas.List.Elements.{All-append, All-nil, All-cons, All-head, All-tail}
use Rattle.std.proofs.lemmas.List.Sums.{position_or_len_is}
use Rattle.std.proofs.lemmas.Str.Parse.{numerals_by_fold, IsNumeralModel}
use Rattle.std.proofs.lemmas.Fmt.{digits_decimal, digits_value-decimal, decimal_nonempty}
use Rattle.due_model.specs.declared.config.Config.{Config}
use Rattle.due_model.specs.declared.config.LaneId.{LaneId}
use Rattle.due_model.specs.declared.notice.Kind.{Kind}
use Rattle.due_model.specs.declared.notice.Kind.TheVariants as kind
use Rattle.due_model.specs.declared.notice.Notice.{Notice}
use Rattle.due_model.specs.declared.state.State.{State}
use Rattle.due_model.specs.declared.state.State.TheVariants as state
use Rattle.notice_text.specs.claims.Names.{kind_name, state_name}
use Rattle.notice_text.specs.claims.Texts.{contact_text, lane_text}
use Rattle.due_model.specs.declared.config.ObjectId.{ObjectId}
use Rattle.due_model.specs.declared.config.ContactId.{ContactId}
use Rattle.due_model.specs.claims.Objects.{object_named}
use Rattle.journal_text.specs.declared.entry.Entry.{Entry}
use Rattle.journal_text.specs.declared.entry.Entry.TheVariants.{Begun, GivenUp, Taken}
use Rattle.journal_text.specs.declared.reading.News.{News}
use Rattle.journal_text.specs.declared.reading.Subject.{Subject}
use Rattle.due_model.specs.claims.Limits.{line_limit}
use Rattle.text_lines.specs.Lines.{IsUnbroken}
use Rattle.journal_text.specs.Lines.{within}
use Rattle.journal_text.specs.Cuts.{EachIsReadBack, FirstIsReadBack, IsReadBack, IsSpoken, IsWord}
use Rattle.journal_text.specs.Entries.{field, is_mark, word_at, number_at, object_at, subject_at, kind_at, news_at, notice_said, entry_said, subject_fields, news_fields, notice_fields, at_end, body, first_line, first_said, from_of, letter_of, notice_of, ◌>>=◌}
use Rattle.journal_text.specs.Names.{kind_said, state_said, number_from, number_said, host_word, service_word, service_said, contact_said}

-- ---- numbers

abbrev read_on : ℕ → List ℕ → ℕ
read_on n [] = n
read_on n (c ∷ cs) = read_on (10 * n + (c - 48)) cs

own : IsNumeralModel (λ ds. all_ascii_digits ds ≡ true) (read_on 0)
own = numerals_by_fold _ (search rules) read_on (search rules)

grows : (n : ℕ) (ds : List ℕ) → n ≤ read_on n ds
grows n [] = omega arith
grows n (d ∷ ds) = let more : 10 * n + (d - 48) ≤ read_on (10 * n + (d - 48)) ds = grows (10 * n + (d - 48)) ds in omega arith

on_digits : (n : ℕ) (ds : List ℕ) → all_ascii_digits ds ≡ true → read_on n ds < 2 ^ 64 → number_from n ds ≡ Some (read_on n ds)
on_digits n [] digits less = refl
on_digits n (d ∷ ds) digits less =
    let parts = and_parts (is_ascii_digit d) (all_ascii_digits ds) digits in
    let next = 10 * n + (d - 48) in
    let below : next ≤ read_on next ds = grows next ds in
    cond-true (is_ascii_digit d && nat_le next (2 ^ 64 - 1)) (number_from next ds) None
    (and_from (is_ascii_digit d) (nat_le next (2 ^ 64 - 1)) parts.0 (le-leb next (2 ^ 64 - 1) (omega arith)))
    ∙ on_digits next ds parts.1 less

said_from : (ds : List ℕ) → 0 < length ds → number_said ds ≡ number_from 0 ds
said_from [] h = absurd (omega arith)
said_from (d ∷ ds) h = refl

number_back : (n : ℕ) → n < 2 ^ 64 → number_said (decimal n) ≡ Some n
number_back n less =
    let is : read_on 0 (decimal n) ≡ n = digits_value-decimal own n less in
    said_from (decimal n) (decimal_nonempty n less)
    ∙ on_digits 0 (decimal n) (digits_decimal own n less) (subst (λ (x : ℕ). x < 2 ^ 64) (sym is) less)
    ∙ ap Some is

-- ---- words

position_back : (w rest : List ℕ) → All (λ byte. (byte == 59) ≡ false) w → position_or_len is_mark (w ++ 59 ∷ rest) ≡ length w
position_back [] rest h = refl
position_back (x ∷ w) rest h =
    let P : ℕ → Type 0 = λ byte. (byte == 59) ≡ false in
    let further : position_or_len is_mark (w ++ 59 ∷ rest) ≡ length w = position_back w rest (All-tail P x w h) in
    cond-true (not (x == 59)) (1 + position_or_len is_mark (w ++ 59 ∷ rest)) 0 (ap not (All-head P x w h))
    ∙ (omega arith)

word_back : (w rest : List ℕ) → All (λ byte. (byte == 59) ≡ false) w → word_at (field w ++ rest) ≡ Some (w, rest)
word_back w rest h =
    let bytes = field w ++ rest in
    let place : position_or_len is_mark bytes ≡ length w =
    ap (position_or_len is_mark) (append_assoc w (59 ∷ []) rest) ∙ position_back w rest h in
    let long : length bytes ≡ length w + 1 + length rest = length-append (field w) rest ∙ ap (λ (x : ℕ). x + length rest) (length-append w (59 ∷ [])) in
    let more : length (field w) ≡ length w + 1 = length-append w (59 ∷ []) in
    cond-true (nat_lt (position_or_len is_mark bytes) (length bytes)) (Some (before_first is_mark bytes, after_first is_mark bytes)) None
    (lt-ltb (position_or_len is_mark bytes) (length bytes) (omega arith))
    ∙ ap (λ (p : ℕ). Some (take p bytes, drop (p + 1) bytes)) place
    ∙ ap (λ (x : List ℕ). Some (x, drop (length w + 1) bytes))
    (ap (take (length w)) (append_assoc w (59 ∷ []) rest) ∙ take_at w (59 ∷ rest) (length w) refl)
    ∙ ap (λ (x : List ℕ). Some (w, x)) (drop_at (field w) rest (length w + 1) more)

-- digits are neither marks nor newlines
digits_only : (k : ℕ) → is_ascii_digit k ≡ false → (ds : List ℕ) → all_ascii_digits ds ≡ true → All (λ byte. (byte == k) ≡ false) ds
digits_only k other [] digits = All-nil (λ byte. (byte == k) ≡ false)
digits_only k other (d ∷ ds) digits =
    let parts = and_parts (is_ascii_digit d) (all_ascii_digits ds) digits in
    All-cons (λ byte. (byte == k) ≡ false) d ds
    (ne_eqb d k (λ e. false≢true (sym other ∙ ap is_ascii_digit (sym e) ∙ parts.0)))
    (digits_only k other ds parts.1)

decimal_word : (n : ℕ) → n < 2 ^ 64 → IsWord (decimal n)
decimal_word n less = (digits_only 59 refl (decimal n) (digits_decimal own n less), digits_only 10 refl (decimal n) (digits_decimal own n less))

number_at_back : (n : ℕ) (rest : List ℕ) → n < 2 ^ 64 → number_at (field (decimal n) ++ rest) ≡ Some (n, rest)
unfolding number_at
number_at_back n rest less =
    ap (λ (o : Option (List ℕ × List ℕ)). o >>= λ w. (number_said w.0 >>= λ m. Some (m, w.1))) (word_back (decimal n) rest (decimal_word n less).0)
    ∙ ap (λ (o : Option ℕ). o >>= λ m. Some (m, rest)) (number_back n less)

-- ---- names

without : ℕ → List ℕ → Bool
without k [] = true
without k (x ∷ xs) = not (x == k) && without k xs

without_all : (k : ℕ) (xs : List ℕ) → without k xs ≡ true → All (λ byte. (byte == k) ≡ false) xs
unfolding without
without_all k [] h = All-nil (λ byte. (byte == k) ≡ false)
without_all k (x ∷ xs) h =
    let parts = and_parts (not (x == k)) (without k xs) h in
    All-cons (λ byte. (byte == k) ≡ false) x xs (not-true (x == k) parts.0) (without_all k xs parts.1)

is_word : (w : List ℕ) → without 59 w ≡ true → without 10 w ≡ true → IsWord w
is_word w h k = (without_all 59 w h, without_all 10 w k)

kind_word : (k : Kind) → IsWord (kind_name k)
unfolding without
kind_word kind.Problem = is_word (kind_name kind.Problem) refl refl
kind_word kind.Recovery = is_word (kind_name kind.Recovery) refl refl
kind_word kind.FlappingStart = is_word (kind_name kind.FlappingStart) refl refl
kind_word kind.FlappingStop = is_word (kind_name kind.FlappingStop) refl refl
kind_word kind.DowntimeStart = is_word (kind_name kind.DowntimeStart) refl refl
kind_word kind.DowntimeEnd = is_word (kind_name kind.DowntimeEnd) refl refl
kind_word kind.DowntimeCancelled = is_word (kind_name kind.DowntimeCancelled) refl refl
kind_word kind.Acknowledgement = is_word (kind_name kind.Acknowledgement) refl refl

state_word : (s : State) → IsWord (state_name s)
unfolding without
state_word state.Pending = is_word (state_name state.Pending) refl refl
state_word state.Up = is_word (state_name state.Up) refl refl
state_word state.Down = is_word (state_name state.Down) refl refl
state_word state.Unreachable = is_word (state_name state.Unreachable) refl refl
state_word state.Fine = is_word (state_name state.Fine) refl refl
state_word state.Warning = is_word (state_name state.Warning) refl refl
state_word state.Unknown = is_word (state_name state.Unknown) refl refl
state_word state.Critical = is_word (state_name state.Critical) refl refl

kind_back : (k : Kind) → kind_said (kind_name k) ≡ Some k
kind_back kind.Problem = refl
kind_back kind.Recovery = refl
kind_back kind.FlappingStart = refl
kind_back kind.FlappingStop = refl
kind_back kind.DowntimeStart = refl
kind_back kind.DowntimeEnd = refl
kind_back kind.DowntimeCancelled = refl
kind_back kind.Acknowledgement = refl

state_back : (s : State) → state_said (state_name s) ≡ Some s
state_back state.Pending = refl
state_back state.Up = refl
state_back state.Down = refl
state_back state.Unreachable = refl
state_back state.Fine = refl
state_back state.Warning = refl
state_back state.Unknown = refl
state_back state.Critical = refl

-- ---- fields in a row

object_back : (c : Config) (n : Notice) (rest : List ℕ) → IsSpoken c n
    → object_at c (field (host_word c n.object.0) ++ (field (service_word c n.object.0) ++ rest)) ≡ Some (n.object, rest)
unfolding object_at
object_back c n rest h =
    ap (λ (o : Option (List ℕ × List ℕ)). o >>= λ host. (word_at host.1 >>= λ service. (object_named c.objects host.0 (service_said service.0) >>= λ object. Some (object, service.1))))
    (word_back (host_word c n.object.0) (field (service_word c n.object.0) ++ rest) h.host.0)
    ∙ ap (λ (o : Option (List ℕ × List ℕ)). o >>= λ service. (object_named c.objects (host_word c n.object.0) (service_said service.0) >>= λ object. Some (object, service.1)))
    (word_back (service_word c n.object.0) rest h.service.0)
    ∙ ap (λ (o : Option ObjectId). o >>= λ object. Some (object, rest)) h.object_again

four : (a b x y rest : List ℕ) → (((a ++ b) ++ x) ++ y) ++ rest ≡ a ++ (b ++ (x ++ (y ++ rest)))
four a b x y rest =
    append_assoc ((a ++ b) ++ x) y rest ∙ append_assoc (a ++ b) x (y ++ rest) ∙ append_assoc a b (x ++ (y ++ rest))

subject_of : Notice → Subject
subject_of n = record { event = n.event; moment = n.moment; object = n.object }

news_of : Notice → News
news_of n = record { kind = n.kind; state = n.state; number = n.number; contact = n.contact }

subject_back : (c : Config) (n : Notice) (rest : List ℕ) → IsSpoken c n
    → subject_at c (subject_fields c n ++ rest) ≡ Some (subject_of n, rest)
unfolding subject_at subject_fields subject_of
subject_back c n rest h =
    let objects = field (host_word c n.object.0) ++ (field (service_word c n.object.0) ++ rest) in
    let event = field (decimal n.event) in
    let moment = field (decimal n.moment) in
    ap (subject_at c) (four event moment (field (host_word c n.object.0)) (field (service_word c n.object.0)) rest)
    ∙ ap (λ (o : Option (ℕ × List ℕ)). o >>= λ e. (number_at e.1 >>= λ m. (object_at c m.1 >>= λ object. Some (record { event = e.0; moment = m.0; object = object.0 }, object.1))))
    (number_at_back n.event (moment ++ objects) h.event)
    ∙ ap (λ (o : Option (ℕ × List ℕ)). o >>= λ m. (object_at c m.1 >>= λ object. Some (record { event = n.event; moment = m.0; object = object.0 }, object.1)))
    (number_at_back n.moment objects h.moment)
    ∙ ap (λ (o : Option (ObjectId × List ℕ)). o >>= λ object. Some (record { event = n.event; moment = n.moment; object = object.0 }, object.1))
    (object_back c n rest h)

kind_at_back : (k : Kind) (s : State) (rest : List ℕ) → kind_at (field (kind_name k) ++ (field (state_name s) ++ rest)) ≡ Some (k, s, rest)
unfolding kind_at
kind_at_back k s rest =
    ap (λ (o : Option (List ℕ × List ℕ)). o >>= λ w. (word_at w.1 >>= λ v. (kind_said w.0 >>= λ kind. (state_said v.0 >>= λ state. Some (kind, state, v.1)))))
    (word_back (kind_name k) (field (state_name s) ++ rest) (kind_word k).0)
    ∙ ap (λ (o : Option (List ℕ × List ℕ)). o >>= λ v. (kind_said (kind_name k) >>= λ kind. (state_said v.0 >>= λ state. Some (kind, state, v.1))))
    (word_back (state_name s) rest (state_word s).0)
    ∙ ap (λ (o : Option Kind). o >>= λ kind. (state_said (state_name s) >>= λ state. Some (kind, state, rest))) (kind_back k)
    ∙ ap (λ (o : Option State). o >>= λ state. Some (k, state, rest)) (state_back s)

news_back : (c : Config) (n : Notice) (rest : List ℕ) → IsSpoken c n → news_at c (news_fields c n ++ rest) ≡ Some (news_of n, rest)
unfolding news_at news_fields news_of
news_back c n rest h =
    let contact = field (contact_text c n.contact.0) ++ rest in
    let number = field (decimal n.number) in
    ap (news_at c) (four (field (kind_name n.kind)) (field (state_name n.state)) number (field (contact_text c n.contact.0)) rest)
    ∙ ap (λ (o : Option (Kind × State × List ℕ)). o >>= λ k. (number_at k.2 >>= λ m. (word_at m.1 >>= λ name. (contact_said c name.0 >>= λ contact. Some (record { kind = k.0; state = k.1; number = m.0; contact = contact }, name.1)))))
    (kind_at_back n.kind n.state (number ++ contact))
    ∙ ap (λ (o : Option (ℕ × List ℕ)). o >>= λ m. (word_at m.1 >>= λ name. (contact_said c name.0 >>= λ contact. Some (record { kind = n.kind; state = n.state; number = m.0; contact = contact }, name.1))))
    (number_at_back n.number contact h.number)
    ∙ ap (λ (o : Option (List ℕ × List ℕ)). o >>= λ name. (contact_said c name.0 >>= λ contact. Some (record { kind = n.kind; state = n.state; number = n.number; contact = contact }, name.1)))
    (word_back (contact_text c n.contact.0) rest h.contact.0)
    ∙ ap (λ (o : Option ContactId). o >>= λ contact. Some (record { kind = n.kind; state = n.state; number = n.number; contact = contact }, rest)) h.contact_again

notice_back : (c : Config) (n : Notice) → IsSpoken c n → notice_said c n.lane (notice_fields c n) ≡ Some n
unfolding notice_said subject_of news_of
notice_back c n h =
    let make : Subject → News → Notice = λ s m. record {
      event = s.event;
      moment = s.moment;
      object = s.object;
      kind = m.kind;
      state = m.state;
      number = m.number;
      contact = m.contact;
      lane = n.lane;
    } in
    ap (λ (o : Option (Subject × List ℕ)). o >>= λ s. (news_at c s.1 >>= λ m. at_end (make s.0 m.0) m.1)) (subject_back c n (news_fields c n) h)
    ∙ ap (λ (r : List ℕ). news_at c r >>= λ m. at_end (make (subject_of n) m.0) m.1) (sym (append-nil (news_fields c n)))
    ∙ ap (λ (o : Option (News × List ℕ)). o >>= λ m. at_end (make (subject_of n) m.0) m.1) (news_back c n [] h)

entry_back : (c : Config) (e : Entry) → IsSpoken c (notice_of e) → entry_said c (notice_of e).lane (body c e) ≡ Some e
entry_back c (Begun n) h = ap (option_map Begun) (notice_back c n h)
entry_back c (Taken n) h = ap (option_map Taken) (notice_back c n h)
entry_back c (GivenUp n) h = ap (option_map GivenUp) (notice_back c n h)

-- ---- no newline

field_unbroken : (w : List ℕ) → IsWord w → IsUnbroken (field w)
field_unbroken w h =
    let P : ℕ → Type 0 = λ byte. (byte == 10) ≡ false in
    All-append P w (59 ∷ []) h.1 (All-cons P 59 [] refl (All-nil P))

four_unbroken : (a b x y : List ℕ) → IsUnbroken a → IsUnbroken b → IsUnbroken x → IsUnbroken y → IsUnbroken (((a ++ b) ++ x) ++ y)
four_unbroken a b x y ha hb hx hy =
    let P : ℕ → Type 0 = λ byte. (byte == 10) ≡ false in
    All-append P ((a ++ b) ++ x) y (All-append P (a ++ b) x (All-append P a b ha hb) hx) hy

subject_unbroken : (c : Config) (n : Notice) → IsSpoken c n → IsUnbroken (subject_fields c n)
unfolding subject_fields
subject_unbroken c n h =
    four_unbroken (field (decimal n.event)) (field (decimal n.moment)) (field (host_word c n.object.0)) (field (service_word c n.object.0))
    (field_unbroken (decimal n.event) (decimal_word n.event h.event)) (field_unbroken (decimal n.moment) (decimal_word n.moment h.moment))
    (field_unbroken (host_word c n.object.0) h.host) (field_unbroken (service_word c n.object.0) h.service)

news_unbroken : (c : Config) (n : Notice) → IsSpoken c n → IsUnbroken (news_fields c n)
unfolding news_fields
news_unbroken c n h =
    four_unbroken (field (kind_name n.kind)) (field (state_name n.state)) (field (decimal n.number)) (field (contact_text c n.contact.0))
    (field_unbroken (kind_name n.kind) (kind_word n.kind)) (field_unbroken (state_name n.state) (state_word n.state))
    (field_unbroken (decimal n.number) (decimal_word n.number h.number)) (field_unbroken (contact_text c n.contact.0) h.contact)

letter_unbroken : (e : Entry) → IsUnbroken (field (letter_of e ∷ []))
letter_unbroken (Begun n) = field_unbroken (66 ∷ []) (is_word (66 ∷ []) (unfold without in refl) (unfold without in refl))
letter_unbroken (Taken n) = field_unbroken (84 ∷ []) (is_word (84 ∷ []) (unfold without in refl) (unfold without in refl))
letter_unbroken (GivenUp n) = field_unbroken (85 ∷ []) (is_word (85 ∷ []) (unfold without in refl) (unfold without in refl))

body_unbroken : (c : Config) (e : Entry) → IsSpoken c (notice_of e) → IsUnbroken (body c e)
body_unbroken c e h =
    let P : ℕ → Type 0 = λ byte. (byte == 10) ≡ false in
    let n = notice_of e in
    All-append P (field (letter_of e ∷ [])) (notice_fields c n) (letter_unbroken e)
    (All-append P (subject_fields c n) (news_fields c n) (subject_unbroken c n h) (news_unbroken c n h))

-- a line that isn't too long
within_is : {X : Type 0} (said : List ℕ → Option X) (line : List ℕ) → length line ≤ line_limit → within said line ≡ said line
within_is said line short = cond-true (nat_le (length line) line_limit) (said line) None (le-leb (length line) line_limit short)

pub each_back : EachIsReadBack
each_back c lane e h is short = record {
  unbroken = body_unbroken c e h;
  again = within_is (entry_said c lane) (body c e) short
      ∙ subst (λ (l : LaneId). entry_said c l (body c e) ≡ Some e) is (entry_back c e h);
}

-- ---- the first line

bytes_same : (w : List ℕ) → bytes_eq w w ≡ true
bytes_same w = search rules

from_back : (c : Config) (lane : LaneId) (from : ℕ) → from_of c lane (codes "J") (codes "1") (lane_text c lane.0) from ≡ Some from
from_back c lane from = cond-true (bytes_eq (lane_text c lane.0) (lane_text c lane.0)) (Some from) None (bytes_same (lane_text c lane.0))

word_j : IsWord (codes "J")
unfolding without
word_j = is_word (codes "J") refl refl

word_one : IsWord (codes "1")
unfolding without
word_one = is_word (codes "1") refl refl

four_end : (a b x y : List ℕ) → ((a ++ b) ++ x) ++ y ≡ a ++ (b ++ (x ++ (y ++ [])))
four_end a b x y = sym (append-nil (((a ++ b) ++ x) ++ y)) ∙ four a b x y []

first_back : (c : Config) (lane : LaneId) (from : ℕ) → from < 2 ^ 64 → IsWord (lane_text c lane.0)
    → first_said c lane (first_line c lane from) ≡ Some from
unfolding first_said first_line
first_back c lane from less word =
    let name = lane_text c lane.0 in
    let number = field (decimal from) ++ [] in
    ap (first_said c lane) (four_end (field (codes "J")) (field (codes "1")) (field name) (field (decimal from)))
    ∙ ap (λ (o : Option (List ℕ × List ℕ)). o >>= λ mark. (word_at mark.1 >>= λ format. (word_at format.1 >>= λ w. (number_at w.1 >>= λ f. (from_of c lane mark.0 format.0 w.0 f.0 >>= λ is. at_end is f.1)))))
    (word_back (codes "J") (field (codes "1") ++ (field name ++ number)) word_j.0)
    ∙ ap (λ (o : Option (List ℕ × List ℕ)). o >>= λ format. (word_at format.1 >>= λ w. (number_at w.1 >>= λ f. (from_of c lane (codes "J") format.0 w.0 f.0 >>= λ is. at_end is f.1))))
    (word_back (codes "1") (field name ++ number) word_one.0)
    ∙ ap (λ (o : Option (List ℕ × List ℕ)). o >>= λ w. (number_at w.1 >>= λ f. (from_of c lane (codes "J") (codes "1") w.0 f.0 >>= λ is. at_end is f.1)))
    (word_back name number word.0)
    ∙ ap (λ (o : Option (ℕ × List ℕ)). o >>= λ f. (from_of c lane (codes "J") (codes "1") name f.0 >>= λ is. at_end is f.1))
    (number_at_back from [] less)
    ∙ ap (λ (o : Option ℕ). o >>= λ is. at_end is []) (from_back c lane from)

first_unbroken : (c : Config) (lane : LaneId) (from : ℕ) → from < 2 ^ 64 → IsWord (lane_text c lane.0) → IsUnbroken (first_line c lane from)
unfolding first_line
first_unbroken c lane from less word =
    four_unbroken (field (codes "J")) (field (codes "1")) (field (lane_text c lane.0)) (field (decimal from))
    (field_unbroken (codes "J") word_j) (field_unbroken (codes "1") word_one)
    (field_unbroken (lane_text c lane.0) word) (field_unbroken (decimal from) (decimal_word from less))

pub first_line_back : FirstIsReadBack
first_line_back c lane from less word short = record {
  unbroken = first_unbroken c lane from less word;
  again = within_is (first_said c lane) (first_line c lane from) short ∙ first_back c lane from less word;
}
