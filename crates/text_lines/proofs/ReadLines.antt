-- What the reading of a line leaves of the bytes to come, step by step.
use Rattle.std.proofs.Common.{◌≡◌, ℕ, ◌+◌, ◌<◌, ◌≤◌, true, false, List, [], ◌∷◌, ◌++◌, length, take, drop, get_or, Option, Some, None, refl, sym, ap, subst, ◌∙◌, arith, add-one, append_assoc, drop-cons, ltb, ⊎_elim}
use Rattle.std.specs.Io.KnownBytes.{Consumes, IsAtEnd, Keeps, prepend_known}
use Rattle.std.proofs.lemmas.Bool.{cases_lt, lt-ltb, le-ltb}
use Rattle.std.proofs.lemmas.List.{append-nil, length-append, length-take, take-append-drop, nil_from_length}
use Rattle.std.proofs.lemmas.Option.{none-some, same_Some}
use Rattle.std.proofs.lemmas.List.Elements.{All-append, All-nil}
use Rattle.text_lines.specs.claims.CountedReader.{calls_after}
use Rattle.text_lines.specs.claims.Lines.{is_newline, Known}
use Rattle.text_lines.specs.Lines.{BeginsWithLine, IsUnbroken}
use Rattle.text_lines.specs.claims.LineReader.{byte_limit, cut_text}
use Rattle.text_lines.specs.LineReader.{Reading, to_come, line_limit, BeginsUnbroken, ReadsFrom, ReadsLine, TextFits, ending, Fills, MakesRoom}
use Rattle.text_lines.specs.declared.line_reader.NextLine.{NextLine}
use Rattle.text_lines.specs.declared.line_reader.NextLine.TheVariants.{Line, Long, Over}
use Rattle.text_lines.specs.declared.line_reader.Stop.TheVariants.{InputEnded, CutLine, ReaderFailed}
use Rattle.text_lines.specs.declared.line_reader.Filled.TheVariants.{More, Empty, Failed}

-- ---- known bytes, and those that are taken off their front

pub Known-from : (a b : Option (List ℕ)) (front : List ℕ) (P : List ℕ → List ℕ → Type 0) → Consumes a b front
    → ((xs ys : List ℕ) → a ≡ Some xs → b ≡ Some ys → xs ≡ front ++ ys → P xs ys) → Known a b P
Known-from None b front P taken each = tt
Known-from (Some xs) None front P taken each = absurd taken
Known-from (Some xs) (Some ys) front P taken each = each xs ys refl refl taken

pub Consumes-chain : (a b c : Option (List ℕ)) (front after : List ℕ) → Consumes a b front → Consumes b c after → Consumes a c (front ++ after)
Consumes-chain None b c front after first second = tt
Consumes-chain (Some xs) None c front after first second = absurd first
Consumes-chain (Some xs) (Some ys) None front after first second = absurd second
Consumes-chain (Some xs) (Some ys) (Some zs) front after first second =
    first ∙ ap (λ (more : List ℕ). front ++ more) second ∙ sym (append_assoc front after zs)

-- nothing is taken where nothing changes
Consumes-same : (unread : Option (List ℕ)) (held : List ℕ) → Consumes (prepend_known held unread) (prepend_known held unread) []
Consumes-same None held = tt
Consumes-same (Some xs) held = refl

-- what is held loses its front
Consumes-held : (unread : Option (List ℕ)) (held front rest : List ℕ) → held ≡ front ++ rest → Consumes (prepend_known held unread) (prepend_known rest unread) front
Consumes-held None held front rest split = tt
Consumes-held (Some xs) held front rest split = ap (λ (h : List ℕ). h ++ xs) split ∙ append_assoc front rest xs

-- a read moves bytes from the reader to what is held
Consumes-read : (before after : Option (List ℕ)) (held piece : List ℕ) → Consumes before after piece
    → Consumes (prepend_known held before) (prepend_known (held ++ piece) after) []
Consumes-read None after held piece taken = tt
Consumes-read (Some xs) None held piece taken = absurd taken
Consumes-read (Some xs) (Some ys) held piece taken = ap (λ (more : List ℕ). held ++ more) taken ∙ sym (append_assoc held piece ys)

Consumes-kept : (before after : Option (List ℕ)) (held : List ℕ) → Keeps before after → Consumes (prepend_known held before) (prepend_known held after) []
Consumes-kept None after held kept = tt
Consumes-kept (Some xs) None held kept = absurd kept
Consumes-kept (Some xs) (Some ys) held kept = ap (λ (more : List ℕ). held ++ more) (sym kept)

-- ---- a line on the way

-- so many bytes of the line were skipped, and what is held belongs to it too
pub record OnTheWay (old : Reading) (skipped : ℕ) (now : Reading) : Type 0 where
  pub front : List ℕ
  pub long : length front ≡ skipped
  pub unbroken : IsUnbroken front
  pub follows : Consumes (to_come old) (to_come now) front

pub OnTheWay-none : (old : Reading) → OnTheWay old 0 old
OnTheWay-none old = record { front = []; long = refl; unbroken = All-nil _; follows = Consumes-same old.unread old.held }

pub OnTheWay-skip : (old now new : Reading) (skipped : ℕ) → OnTheWay old skipped now → IsUnbroken now.held → new.held ≡ [] → new.unread ≡ now.unread
    → OnTheWay old (skipped + length now.held) new
OnTheWay-skip old now new skipped way held none same =
    record {
      front = way.front ++ now.held;
      long = length-append way.front now.held ∙ ap (λ n. n + length now.held) way.long;
      unbroken = All-append (λ byte. is_newline byte ≡ false) way.front now.held way.unbroken held;
      follows = rw (none, same) (Consumes-chain (to_come old) (to_come now) (prepend_known [] now.unread) way.front now.held way.follows
          (Consumes-held now.unread now.held now.held [] (sym (append-nil now.held))));
    }

pub record HasRoom (old new : Reading) (skipped skipped' before : ℕ) : Type 0 where
  pub way : OnTheWay old skipped' new
  pub held : IsUnbroken new.held
  pub short : length new.held ≤ line_limit
  pub same : skipped' + length new.held ≡ before
  pub many : (0 < skipped → line_limit < skipped) → 0 < skipped' → line_limit < skipped'

pub OnTheWay-room : (old now new : Reading) (skipped skipped' : ℕ) → OnTheWay old skipped now → IsUnbroken now.held → MakesRoom now new skipped skipped'
    → HasRoom old new skipped skipped' (skipped + length now.held)
OnTheWay-room old now new skipped skipped' way held room =
    ⊎_elim
    (λ (over : line_limit < length now.held).
    let yes : ltb line_limit (length now.held) ≡ true = lt-ltb line_limit (length now.held) over in
    let none : new.held ≡ [] = rw yes at room.held in
    let count : skipped' ≡ skipped + length now.held = rw yes at room.counted in
    let on : HasRoom old new skipped skipped' (skipped + length now.held) = record {
      way = rw count (OnTheWay-skip old now new skipped way held none room.unread);
      held = rw none (All-nil (λ byte. is_newline byte ≡ false));
      short = rw none (omega arith);
      same = rw (none, count) (omega arith);
      many = λ _ _. rw count (omega arith);
    } in on)
    (λ (few : length now.held ≤ line_limit).
    let no : ltb line_limit (length now.held) ≡ false = le-ltb line_limit (length now.held) few in
    let same : new.held ≡ now.held = rw no at room.held in
    let count : skipped' ≡ skipped = rw no at room.counted in
    let on : HasRoom old new skipped skipped' (skipped + length now.held) = record {
      way = rw count (record {
        front = way.front;
        long = way.long;
        unbroken = way.unbroken;
        follows = rw (same, room.unread) way.follows;
      });
      held = rw same held;
      short = rw same few;
      same = rw (same, count) refl;
      many = rw count (λ many. many);
    } in on)
    (cases_lt line_limit (length now.held))

pub OnTheWay-more : (old now new : Reading) (skipped : ℕ) → OnTheWay old skipped now → Fills now More new → OnTheWay old skipped new
OnTheWay-more old now new skipped way filled =
    record {
      front = way.front;
      long = way.long;
      unbroken = way.unbroken;
      follows = subst (λ (front : List ℕ). Consumes (to_come old) (to_come new) front) (append-nil way.front)
          (Consumes-chain (to_come old) (to_come now) (to_come new) way.front [] way.follows
          (rw filled.2 (Consumes-read now.unread new.unread now.held filled.0 filled.3)));
    }

pub length-more : (now new : Reading) → Fills now More new → length now.held < length new.held
length-more now new filled = rw (filled.2, length-append) (omega (arith, filled.1))

-- one call more
pub calls-more : (old now room new call : ℕ) → (call ≡ 0 → now ≡ old) → (0 < call → now ≡ calls_after old call) → room ≡ now → new ≡ calls_after room 1
    → new ≡ calls_after old (call + 1)
calls-more old now room new call none some same one =
    ⊎_elim
    (λ (more : 0 < call). let is : now ≡ calls_after old call = some more in omega (arith, is, same, one))
    (λ (zero : call ≤ 0). let is : now ≡ old = none (omega arith) in omega (arith, is, same, one))
    (cases_lt 0 call)

-- none is taken back
pub least-more : (old now room new : ℕ) → calls_after old 0 ≤ now → room ≡ now → new ≡ calls_after room 1 → calls_after old 0 ≤ new
least-more old now room new least same one = omega (arith, least, same, one)

-- ---- the ends of a line

-- by how long it is
ended : (bytes text line rest : List ℕ) (count : ℕ) → BeginsWithLine bytes text rest → length text ≡ count → (count ≤ line_limit → line ≡ text)
    → ReadsFrom bytes (ending count) line rest
ended bytes text line rest count begins long same =
    ⊎_elim
    (λ (many : byte_limit < count). let yes : ltb byte_limit count ≡ true = lt-ltb byte_limit count many in
    rw yes (text, 10 ∷ rest, begins.unbroken, begins.whole, omega arith))
    (λ (few : count ≤ byte_limit). let no : ltb byte_limit count ≡ false = le-ltb byte_limit count few in
    rw no (⊎_elim
    (λ (over : line_limit < count). let yes : ltb line_limit count ≡ true = lt-ltb line_limit count over in
    rw yes (text, begins, omega arith, omega arith))
    (λ (within : count ≤ line_limit). let no' : ltb line_limit count ≡ false = le-ltb line_limit count within in
    rw (no', same within) (begins, omega arith))
    (cases_lt line_limit count)))
    (cases_lt byte_limit count)

-- the newline is among what is held
pub Reads-line : (old now new : Reading) (skipped place : ℕ) → OnTheWay old skipped now → (0 < skipped → line_limit < skipped) → IsUnbroken (take place now.held)
    → place < length now.held → get_or now.held place 0 ≡ 10
    → new.line ≡ take place now.held → new.held ≡ drop (place + 1) now.held → new.unread ≡ now.unread
    → (how : NextLine) → how ≡ ending (skipped + place) → ReadsLine old how new
Reads-line old now new skipped place way many unbroken within newline line held unread how is =
    let text = way.front ++ take place now.held in
    let long : length text ≡ skipped + place = rw (length-append, length-take) (omega (arith, way.long)) in
    let split : now.held ≡ (take place now.held ++ 10 ∷ []) ++ drop (place + 1) now.held =
    sym (take-append-drop place now.held)
    ∙ ap (λ (rest : List ℕ). take place now.held ++ rest) (drop-cons now.held place 0 within ∙ rw (newline, add-one) refl)
    ∙ sym (append_assoc (take place now.held) (10 ∷ []) (drop (place + 1) now.held)) in
    let taken_off : Consumes (to_come old) (to_come new) (way.front ++ (take place now.held ++ 10 ∷ [])) =
    Consumes-chain (to_come old) (to_come now) (to_come new) way.front (take place now.held ++ 10 ∷ []) way.follows
    (rw (held, unread) (Consumes-held now.unread now.held (take place now.held ++ 10 ∷ []) (drop (place + 1) now.held) split)) in
    Known-from (to_come old) (to_come new) _ (λ bytes rest. ReadsFrom bytes how new.line rest) taken_off (λ bytes rest _ _ whole.
    rw is (ended bytes text new.line rest (skipped + place)
    (record {
      unbroken = All-append (λ byte. is_newline byte ≡ false) way.front (take place now.held) way.unbroken unbroken;
      whole = whole ∙ simp append_assoc;
    })
    long
    (λ few. let none : length way.front ≡ 0 = ⊎_elim (λ (some : 0 < skipped). absurd (omega (arith, many some, few))) (λ (no : skipped ≤ 0). omega (arith, way.long)) (cases_lt 0 skipped) in
    rw (line, nil_from_length way.front none) refl)))

-- nothing but bytes of the line so far
pub Reads-too_many : (old now : Reading) (skipped count : ℕ) → OnTheWay old skipped now → IsUnbroken now.held → count ≤ skipped + length now.held
    → Known (to_come old) (to_come now) (λ bytes rest. BeginsUnbroken bytes count)
Reads-too_many old now skipped count way held many =
    Known-from (to_come old) (to_come now) way.front (λ bytes rest. BeginsUnbroken bytes count) way.follows (λ bytes rest _ known whole.
    elim now.unread as (λ u. prepend_known now.held u ≡ Some rest → BeginsUnbroken bytes count) [
      | None ↦ λ same. absurd (none-some rest same)
      | Some unread ↦ λ same.
          let held_first : now.held ++ unread ≡ rest = same_Some (now.held ++ unread) rest same in (
            way.front ++ now.held,
            unread,
            All-append (λ byte. is_newline byte ≡ false) way.front now.held way.unbroken held,
            whole ∙ ap (λ (more : List ℕ). way.front ++ more) (sym held_first) ∙ sym (append_assoc way.front now.held unread),
            rw length-append (omega (arith, way.long)),
          )
    ] known)

-- the end of the input: what is held is the last of it
Known-end : (a before after : Option (List ℕ)) (held front : List ℕ) (P : List ℕ → List ℕ → Type 0) → Consumes a (prepend_known held before) front
    → Keeps before after → IsAtEnd before → ((xs : List ℕ) → xs ≡ front ++ held → P xs held) → Known a (prepend_known held after) P
Known-end None before after held front P taken kept end each = tt
Known-end (Some xs) None after held front P taken kept end each = absurd taken
Known-end (Some xs) (Some ys) None held front P taken kept end each = absurd kept
Known-end (Some xs) (Some ys) (Some zs) held front P taken kept end each =
    let last : held ++ zs ≡ held = rw (kept, end, append-nil) refl in
    let all : xs ≡ front ++ held = taken ∙ rw (end, append-nil) refl in
    rw last (each xs all)

-- what was skipped made the line too long
cut_text-front : (front held : List ℕ) (skipped : ℕ) → length front ≡ skipped → (0 < skipped → line_limit < skipped)
    → cut_text (skipped + length held) held ≡ cut_text (length (front ++ held)) (front ++ held)
cut_text-front front held skipped long many =
    let count : length (front ++ held) ≡ skipped + length held = length-append front held ∙ ap (λ n. n + length held) long in
    ⊎_elim
    (λ (over : line_limit < skipped + length held). let yes : ltb line_limit (skipped + length held) ≡ true = lt-ltb line_limit (skipped + length held) over in
    rw (count, yes) refl)
    (λ (few : skipped + length held ≤ line_limit).
    let no : ltb line_limit (skipped + length held) ≡ false = le-ltb line_limit (skipped + length held) few in
    let none : length front ≡ 0 = ⊎_elim (λ (some : 0 < skipped). absurd (omega (arith, many some))) (λ (no_more : skipped ≤ 0). omega arith) (cases_lt 0 skipped) in
    let empty : front ≡ [] = nil_from_length front none in
    rw (count, no, empty) refl)
    (cases_lt line_limit (skipped + length held))

pub Reads-cut : (old now filled new : Reading) (skipped : ℕ) → OnTheWay old skipped now → IsUnbroken now.held → (0 < skipped → line_limit < skipped) → Fills now Empty filled
    → new.held ≡ filled.held → new.unread ≡ filled.unread → new.line ≡ cut_text (skipped + length filled.held) filled.held
    → 0 < skipped + length now.held → skipped + length now.held ≤ byte_limit → ReadsLine old (Over CutLine) new
Reads-cut old now filled new skipped way held many fills same_held same_unread line some few =
    let text : new.line ≡ cut_text (length (way.front ++ now.held)) (way.front ++ now.held) =
    line ∙ ap (λ (h : List ℕ). cut_text (skipped + length h) h) fills.0 ∙ cut_text-front way.front now.held skipped way.long many in
    rw (same_held, same_unread, fills.0) (Known-end (to_come old) now.unread filled.unread now.held way.front (λ bytes rest. ReadsFrom bytes (Over CutLine) new.line rest) way.follows fills.1 fills.2 (λ bytes all.
    rw all (
      All-append (λ byte. is_newline byte ≡ false) way.front now.held way.unbroken held,
      rw length-append (omega (arith, way.long)),
      rw length-append (omega (arith, way.long)),
      text,
    )))

pub Reads-end : (old now new : Reading) (skipped : ℕ) → OnTheWay old skipped now → Fills now Empty new → skipped + length now.held ≡ 0 → ReadsLine old (Over InputEnded) new
Reads-end old now new skipped way filled none =
    let no_front : way.front ≡ [] = nil_from_length way.front (omega (arith, way.long)) in
    let no_held : now.held ≡ [] = nil_from_length now.held (omega arith) in
    rw filled.0 (Known-end (to_come old) now.unread new.unread now.held way.front (λ bytes rest. ReadsFrom bytes (Over InputEnded) new.line rest) way.follows filled.1 filled.2 (λ bytes all.
    (all ∙ rw (no_front, no_held) refl, no_held)))

pub Reads-failed : (old now new : Reading) (skipped : ℕ) → OnTheWay old skipped now → Fills now Failed new → ReadsLine old (Over ReaderFailed) new
Reads-failed old now new skipped way filled =
    Known-from (to_come old) (to_come new) (way.front ++ []) (λ bytes rest. ReadsFrom bytes (Over ReaderFailed) new.line rest)
    (Consumes-chain (to_come old) (to_come now) (to_come new) way.front [] way.follows (rw filled.0 (Consumes-kept now.unread new.unread now.held filled.1)))
    (λ _ _ _ _ whole. (way.front, way.unbroken, whole ∙ rw append-nil refl))

-- ---- a line that is held

pub held-line : (held rest : List ℕ) (place : ℕ) → IsUnbroken (take place held) → place < length held → get_or held place 0 ≡ 10 → rest ≡ drop (place + 1) held
    → BeginsWithLine held (take place held) rest
held-line held rest place unbroken within newline same =
    record {
      unbroken = unbroken;
      whole = sym (take-append-drop place held)
          ∙ ap (λ (more : List ℕ). take place held ++ more) (drop-cons held place 0 within ∙ rw (newline, same, add-one) refl);
    }

pub fits-text : (how : NextLine) (line text : List ℕ) → line ≡ text → TextFits how line text
fits-text Line line text same = same
fits-text Long line text same = tt
fits-text (Over stop) line text same = tt
