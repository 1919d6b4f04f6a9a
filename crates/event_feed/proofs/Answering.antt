-- What the reading of lines makes of the answers to come.
use Rattle.std.proofs.Common.{◌≡◌, ◌≢◌, inl, inr, Bool, IfSome, OnSome, ℕ, suc, ◌+◌, ◌-◌, ◌*◌, ◌<◌, ◌≤◌, max, true, false, cond, ltb, leb, eqb, List, [], ◌∷◌, ◌++◌, append_assoc, length, take, drop, replicate, Option, Some, None, Result, Ok, Err, refl, sym, ap, subst, ◌∙◌, arith, one-add}
use Rattle.std.specs.Prelude.{is_some, IfNone, IsTrue, take_while}
use Rattle.std.specs.List.{list_any}
use Rattle.std.proofs.lemmas.List.Folds.{list_any-append}
use Rattle.std.proofs.lemmas.List.{take-append-drop}
use Rattle.std.proofs.lemmas.Bool.{lt-ltb, le-ltb, lt-leb, le-leb, or_right, or_left, ne_eqb, eq-eqb, cond_both, true≢false}
use Rattle.std.proofs.lemmas.List.{length-append, length-replicate, nil_from_length, replicate-append-replicate}
use Rattle.std.proofs.lemmas.List.Elements.{All-nil}
use Rattle.event_feed.specs.claims.Fault.{is_ahead, is_line_fault, stop_fault}
use Rattle.std.proofs.lemmas.List.Splits.{slice_split_at, slice_split_none}
use Rattle.due_model.specs.claims.Proper.{IsProper}
use Rattle.due_model.specs.claims.Limits.{last_moment}
use Rattle.due_model.specs.declared.config.Config.{Config}
use Rattle.due_model.specs.declared.config.Object.{Object}
use Rattle.due_model.specs.declared.event.Event.{Event}
use Rattle.event_feed.specs.declared.fault.FeedFault.{FeedFault}
use Rattle.event_feed.specs.declared.fault.FeedFault.TheVariants.{Ahead, LineTooLong, Cut, Read}
use Rattle.text_lines.specs.declared.line_reader.Stop.{Stop}
use Rattle.text_lines.specs.declared.line_reader.Stop.TheVariants.{InputEnded, CutLine, ReaderFailed, TooManyCalls, TooManyBytes, TooManyLines}
use Rattle.text_lines.specs.declared.line_reader.NextLine.{NextLine}
use Rattle.text_lines.specs.declared.line_reader.NextLine.TheVariants.{Line, Long, Over}
use Rattle.event_feed.specs.claims.Line.{line_reading}
use Rattle.text_lines.specs.claims.Lines.{is_newline, pieces, Known, has_newline, has_line}
use Rattle.text_lines.specs.Lines.{IsUnbroken, BeginsWithLine}
use Rattle.text_lines.specs.claims.CountedReader.{calls_after}
use Rattle.text_lines.specs.claims.LineReader.{byte_limit, call_limit}
use Rattle.text_lines.specs.LineReader.{Reading, to_come, line_limit, CallsFit, ReadsFrom, ReadsLine, ReadsHeld}
use Rattle.event_feed.specs.claims.Feed.{Answer, AreGiven, AreGivenByWithin, HasLong, ends_feed, least_at_read, refusal, answers_within, feed_limit, held_back, is_stopped, text_reading_within, moment_after, AreFromLine, ComesNext, ComesLong, ComesWithin, ComesTo, GivesEventWithin, GivesFaultWithin, lines_asked, raised}
use Rattle.event_feed.specs.Feed.{feed_of}
use Rattle.event_feed.specs.Feeder.{LineAnswers, GoesToLine, CountsLine, begun_lines}
use Rattle.lemmas.proofs.Lists.{HasFirst, slice_split-first}
use Rattle.event_feed.proofs.ProperLines.{line_reading-fault}
use Rattle.event_feed.specs.FeedLaws.{known_same}

-- ---- pieces

pub pieces-line : (bytes text rest : List ℕ) → BeginsWithLine bytes text rest → pieces bytes ≡ text ∷ pieces rest
pieces-line bytes text rest begins = ap pieces begins.whole ∙ slice_split_at is_newline text 10 rest begins.unbroken refl

-- bytes with no newline among them go onto the first piece
pub record Fronted (text : List ℕ) (texts left : List (List ℕ)) : Type 0 where
  pub first : List ℕ
  pub others : List (List ℕ)
  pub are : texts ≡ (text ++ first) ∷ others
  pub left_are : left ≡ first ∷ others

pub pieces-unbroken : (text more : List ℕ) → IsUnbroken text → Fronted text (pieces (text ++ more)) (pieces more)
pieces-unbroken [] more unbroken = let split = slice_split-first is_newline more in record { first = split.first; others = split.others; are = split.are; left_are = split.are }
pieces-unbroken (byte ∷ text) more unbroken =
    let rest = pieces-unbroken text more (λ k d within. unbroken (suc k) d (omega arith)) in
    let here : is_newline byte ≡ false = unbroken 0 0 (omega arith) in
    record { first = rest.first; others = rest.others; are = rw (here, rest.are) refl; left_are = rest.left_are }

-- ---- the answers at the first piece

not_stopped : (from : ℕ) (text : List ℕ) → from < feed_limit → length text ≤ byte_limit → is_stopped from text ≡ false
not_stopped from text few short = let early : leb feed_limit from ≡ false = lt-leb feed_limit from few in rw early (le-ltb byte_limit (length text) short)

answers-stopped : (far : ℕ → Bool) (objects : List Object) (from last : ℕ) (text : List ℕ) (others : List (List ℕ)) → is_stopped from text ≡ true
    → answers_within far objects from last (text ∷ others) ≡ record { line = from + 1; given = Err Read } ∷ []
answers-stopped far objects from last text [] stopped = rw stopped refl
answers-stopped far objects from last text (next ∷ more) stopped = rw stopped refl

answers-empty : (far : ℕ → Bool) (objects : List Object) (from last : ℕ) (text : List ℕ) (others : List (List ℕ)) → HasFirst others → is_stopped from text ≡ false → length text ≡ 0
    → answers_within far objects from last (text ∷ others) ≡ answers_within far objects (from + 1) last others
answers-empty far objects from last text others first on none = let nothing : eqb (length text) 0 ≡ true = eq-eqb (length text) 0 none in rw first.are (rw (on, nothing) refl)

answers-text : (far : ℕ → Bool) (objects : List Object) (from last : ℕ) (text : List ℕ) (others : List (List ℕ)) → HasFirst others → is_stopped from text ≡ false → 0 < length text
    → answers_within far objects from last (text ∷ others)
    ≡ record { line = from + 1; given = text_reading_within (far (from + 1)) objects last text }
    ∷ answers_within far objects (from + 1) (moment_after last (text_reading_within (far (from + 1)) objects last text)) others
answers-text far objects from last text others first on some =
    let something : eqb (length text) 0 ≡ false = ne_eqb (length text) 0 (λ none. absurd (omega (arith, none))) in rw first.are (rw (on, something) refl)

from_head : (line : ℕ) (answer : Answer) (others : List Answer) → line ≤ answer.line → AreFromLine line (answer ∷ others)
from_head line answer others late = let no : ltb answer.line line ≡ false = le-ltb answer.line line late in rw no refl

-- no answer is of a line that was read
pub answers-from : (far : ℕ → Bool) (objects : List Object) (from last : ℕ) (texts : List (List ℕ)) (line : ℕ) → line ≤ from + 1 → AreFromLine line (answers_within far objects from last texts)
answers-from far objects from last [] line early = refl
answers-from far objects from last (text ∷ []) line early =
    cond_both (is_stopped from text) (record { line = from + 1; given = Err Read } ∷ []) (cond (eqb (length text) 0) [] (record { line = from + 1; given = Err Cut } ∷ [])) (AreFromLine line)
    (λ _. from_head line (record { line = from + 1; given = Err Read }) [] early)
    (λ _. cond_both (eqb (length text) 0) [] (record { line = from + 1; given = Err Cut } ∷ []) (AreFromLine line) (λ _. refl)
    (λ _. from_head line (record { line = from + 1; given = Err Cut }) [] early))
answers-from far objects from last (text ∷ next ∷ more) line early =
    let skipped : List Answer = answers_within far objects (from + 1) last (next ∷ more) in
    let said : List Answer = record { line = from + 1; given = text_reading_within (far (from + 1)) objects last text }
    ∷ answers_within far objects (from + 1) (moment_after last (text_reading_within (far (from + 1)) objects last text)) (next ∷ more) in
    cond_both (is_stopped from text) (record { line = from + 1; given = Err Read } ∷ []) (cond (eqb (length text) 0) skipped said) (AreFromLine line)
    (λ _. from_head line (record { line = from + 1; given = Err Read }) [] early)
    (λ _. cond_both (eqb (length text) 0) skipped said (AreFromLine line)
    (λ _. answers-from far objects (from + 1) last (next ∷ more) line (omega arith))
    (λ _. from_head line (record { line = from + 1; given = text_reading_within (far (from + 1)) objects last text })
    (answers_within far objects (from + 1) (moment_after last (text_reading_within (far (from + 1)) objects last text)) (next ∷ more)) early))

-- ---- a line that is too far ahead

-- a line that says no event is refused by what it says
held-err : (far : Bool) (read : Result Event FeedFault) (fault : FeedFault) → read ≡ Err fault → held_back far read ≡ Err fault
held-err false read fault is = is
held-err true (Ok event) fault is = cc
held-err true (Err found) fault is = is

held-fits : (far : Bool) (read : Result Event FeedFault) (fault : FeedFault) → ((found : FeedFault) → read ≡ Err found → is_line_fault found ≡ true) → held_back far read ≡ Err fault → is_line_fault fault ≡ true
held-fits false read fault fits is = fits fault is
held-fits true (Ok event) fault fits is = let same : Ahead ≡ fault = cc in ap is_line_fault (sym same)
held-fits true (Err found) fault fits is = fits fault is

-- ---- one line read

pub LineAnswers-read : (far : ℕ → Bool) (objects : List Object) (last from : ℕ) (bytes : List ℕ) (how : NextLine) (text rest : List ℕ) → from < feed_limit
    → ReadsFrom bytes how text rest → (how ≡ Line → 0 < length text)
    → LineAnswers far objects last how text (from + 1) rest (answers_within far objects from last (pieces bytes))
LineAnswers-read far objects last from bytes Line text rest few reads full =
    ap (λ (texts : List (List ℕ)). answers_within far objects from last texts) (pieces-line bytes text rest reads.0)
    ∙ answers-text far objects from last text (pieces rest) (slice_split-first is_newline rest) (not_stopped from text few (omega (arith, reads.1))) (full refl)
LineAnswers-read far objects last from bytes Long text rest few reads full =
    let over : ltb line_limit (length reads.0) ≡ true = lt-ltb line_limit (length reads.0) reads.2 in
    let said : line_reading objects reads.0 ≡ Err LineTooLong = rw over refl in
    let reading : text_reading_within (far (from + 1)) objects last reads.0 ≡ Err LineTooLong =
    ap (λ (r : Result Event FeedFault). raised last r) (held-err (far (from + 1)) (line_reading objects reads.0) LineTooLong said) in
    ap (λ (texts : List (List ℕ)). answers_within far objects from last texts) (pieces-line bytes reads.0 rest reads.1)
    ∙ answers-text far objects from last reads.0 (pieces rest) (slice_split-first is_newline rest) (not_stopped from reads.0 few reads.3) (omega (arith, reads.2))
    ∙ rw reading refl
LineAnswers-read far objects last from bytes (Over InputEnded) text rest few reads full =
    let on : is_stopped from [] ≡ false = not_stopped from [] few (omega arith) in
    ap (λ (all : List ℕ). answers_within far objects from last (pieces all)) reads.0 ∙ rw on refl
LineAnswers-read far objects last from bytes (Over CutLine) text rest few reads full =
    let on : is_stopped from bytes ≡ false = not_stopped from bytes few reads.2 in
    let some : eqb (length bytes) 0 ≡ false = ne_eqb (length bytes) 0 (λ none. absurd (omega (arith, none, reads.1))) in
    ap (λ (texts : List (List ℕ)). answers_within far objects from last texts) (slice_split_none is_newline bytes reads.0) ∙ rw (on, some) refl
LineAnswers-read far objects last from bytes (Over ReaderFailed) text rest few reads full = answers-from far objects from last (pieces bytes) (from + 1) (omega arith)
LineAnswers-read far objects last from bytes (Over TooManyCalls) text rest few reads full = answers-from far objects from last (pieces bytes) (from + 1) (omega arith)
LineAnswers-read far objects last from bytes (Over TooManyBytes) text rest few reads full =
    let fronted = pieces-unbroken reads.0 reads.1 reads.2 in
    let long : ltb byte_limit (length (reads.0 ++ fronted.first)) ≡ true = lt-ltb byte_limit _ (rw length-append (omega (arith, reads.4))) in
    ap (λ (all : List ℕ). answers_within far objects from last (pieces all)) reads.3
    ∙ ap (λ (texts : List (List ℕ)). answers_within far objects from last texts) fronted.are
    ∙ answers-stopped far objects from last (reads.0 ++ fronted.first) fronted.others (or_right _ _ long)
LineAnswers-read far objects last from bytes (Over TooManyLines) text rest few reads full = absurd reads

-- an empty line answers nothing
pub answers-skipped : (far : ℕ → Bool) (objects : List Object) (last from : ℕ) (bytes text rest : List ℕ) → from < feed_limit → ReadsFrom bytes Line text rest → length text ≡ 0
    → answers_within far objects from last (pieces bytes) ≡ answers_within far objects (from + 1) last (pieces rest)
answers-skipped far objects last from bytes text rest few reads none =
    ap (λ (texts : List (List ℕ)). answers_within far objects from last texts) (pieces-line bytes text rest reads.0)
    ∙ answers-empty far objects from last text (pieces rest) (slice_split-first is_newline rest) (not_stopped from text few (omega (arith, reads.1))) none

-- ---- where a line stands

-- the pieces begin with so many empty lines, and then come these
pub record Goes (from to : ℕ) (texts others : List (List ℕ)) : Type 0 where
  pub empty : ℕ
  pub number : to ≡ from + empty
  pub are : texts ≡ replicate empty [] ++ others

goes-none : (from : ℕ) (texts : List (List ℕ)) → Goes from from texts texts
goes-none from texts = record { empty = 0; number = omega arith; are = refl }

-- one more empty line
goes-more : (from to : ℕ) (texts : List (List ℕ)) (others : List (List ℕ)) → Goes from to texts ([] ∷ others) → Goes from (to + 1) texts others
goes-more from to texts others goes =
    record {
      empty = goes.empty + 1;
      number = omega (arith, goes.number);
      are = goes.are ∙ sym (append_assoc (replicate goes.empty []) ([] ∷ []) others)
          ∙ ap (λ (front : List (List ℕ)). front ++ others) (replicate-append-replicate goes.empty 1 []);
    }

comes : (from to : ℕ) (texts : List (List ℕ)) (text : List ℕ) (others : List (List ℕ)) → Goes from to texts (text ∷ others) → ComesNext from texts (to + 1) text others
comes from to texts text others goes = record { empty = goes.empty; number = omega (arith, goes.number); are = goes.are }

comes-long : (from to count : ℕ) (texts : List (List ℕ)) (now front more : List ℕ) → Goes from to texts (pieces now) → IsUnbroken front → now ≡ front ++ more → count ≤ length front
    → ComesLong from texts (to + 1) count
comes-long from to count texts now front more goes unbroken whole many =
    let fronted = pieces-unbroken front more unbroken in (
      front ++ fronted.first,
      fronted.others,
      comes from to texts (front ++ fronted.first) fronted.others (subst (λ (others : List (List ℕ)). Goes from to texts others) (ap pieces whole ∙ fronted.are) goes),
      rw length-append (omega (arith, many)),
    )

comes-within : (from to : ℕ) (texts : List (List ℕ)) (now front rest : List ℕ) → Goes from to texts (pieces now) → IsUnbroken front → now ≡ front ++ rest
    → ComesWithin from texts (to + 1) (pieces rest)
comes-within from to texts now front rest goes unbroken whole =
    let fronted = pieces-unbroken front rest unbroken in (
      front,
      fronted.first,
      fronted.others,
      comes from to texts (front ++ fronted.first) fronted.others (subst (λ (others : List (List ℕ)). Goes from to texts others) (ap pieces whole ∙ fronted.are) goes),
      fronted.left_are,
    )

comes-to : (from to : ℕ) (bytes now : List ℕ) (how : NextLine) (text rest : List ℕ) → Goes from to (pieces bytes) (pieces now) → ReadsFrom now how text rest → (how ≡ Line → 0 < length text)
    → (how ≡ Over InputEnded → ⊥) → ComesTo how from bytes (to + 1) text rest
comes-to from to bytes now Line text rest goes reads full other = (
  comes from to (pieces bytes) text (pieces rest) (subst (λ (others : List (List ℕ)). Goes from to (pieces bytes) others) (pieces-line now text rest reads.0) goes),
  full refl,
)
comes-to from to bytes now Long text rest goes reads full other = (
  reads.0,
  comes from to (pieces bytes) reads.0 (pieces rest) (subst (λ (others : List (List ℕ)). Goes from to (pieces bytes) others) (pieces-line now reads.0 rest reads.1) goes),
  reads.2,
)
comes-to from to bytes now (Over InputEnded) text rest goes reads full other = absurd (other refl)
comes-to from to bytes now (Over CutLine) text rest goes reads full other = (
  now,
  comes from to (pieces bytes) now [] (subst (λ (others : List (List ℕ)). Goes from to (pieces bytes) others) (slice_split_none is_newline now reads.0) goes),
  reads.1,
  reads.3,
)
comes-to from to bytes now (Over ReaderFailed) text rest goes reads full other = comes-within from to (pieces bytes) now reads.0 rest goes reads.1 reads.2
comes-to from to bytes now (Over TooManyCalls) text rest goes reads full other = comes-long from to call_limit (pieces bytes) now reads.0 reads.1 goes reads.2 reads.3 reads.4
comes-to from to bytes now (Over TooManyBytes) text rest goes reads full other = comes-long from to (byte_limit + 1) (pieces bytes) now reads.0 reads.1 goes reads.2 reads.3 reads.4
comes-to from to bytes now (Over TooManyLines) text rest goes reads full other = absurd reads

-- ---- several

-- empty lines were read
pub record Skips (old : Reading) (from : ℕ) (now : Reading) (read : ℕ) : Type 0 where
  pub answering : Known (to_come old) (to_come now) (λ bytes rest.
      ((far : ℕ → Bool) (objects : List Object) (last : ℕ) → answers_within far objects from last (pieces bytes) ≡ answers_within far objects read last (pieces rest))
      × Goes from read (pieces bytes) (pieces rest))

pub Skips-none : (old : Reading) (from : ℕ) → Skips old from old from
Skips-none old from = record { answering = known_same (to_come old) _ (λ bytes. (λ far objects last. refl, goes-none from (pieces bytes))) }

pub Known-then : (a b c : Option (List ℕ)) (P Q S : List ℕ → List ℕ → Type 0) → Known a b P → Known b c Q
    → ((x y z : List ℕ) → P x y → Q y z → S x z) → Known a c S
Known-then None b c P Q S first second both = tt
Known-then (Some x) None c P Q S first second both = absurd first
Known-then (Some x) (Some y) None P Q S first second both = absurd second
Known-then (Some x) (Some y) (Some z) P Q S first second both = both x y z first second

pub Skips-more : (old now new : Reading) (from read : ℕ) → Skips old from now read → read < feed_limit → ReadsLine now Line new → length new.line ≡ 0
    → Skips old from new (read + 1)
Skips-more old now new from read skips few reads none =
    record {
      answering = Known-then (to_come old) (to_come now) (to_come new) _ _ _ skips.answering reads (λ bytes between rest first line. (
        λ far objects last. first.0 far objects last ∙ answers-skipped far objects last read between new.line rest few line none,
        goes-more from read (pieces bytes) (pieces rest)
            (subst (λ (others : List (List ℕ)). Goes from read (pieces bytes) others) (pieces-line between new.line rest line.0 ∙ ap (λ (text : List ℕ). text ∷ pieces rest) (nil_from_length new.line none)) first.1),
      ));
    }

pub GoesToLine-from : (old now new : Reading) (from read : ℕ) (how : NextLine) → Skips old from now read → read < feed_limit → ReadsLine now how new
    → (how ≡ Line → 0 < length new.line) → (how ≡ Over InputEnded → ⊥) → GoesToLine old from how new (read + 1)
GoesToLine-from old now new from read how skips few reads full other =
    Known-then (to_come old) (to_come now) (to_come new) _ _ _ skips.answering reads (λ bytes between rest first line. (
      λ far objects last. subst (λ (all : List Answer). LineAnswers far objects last how new.line (read + 1) rest all) (sym (first.0 far objects last))
          (LineAnswers-read far objects last read between how new.line rest few line full),
      comes-to from read bytes between how new.line rest first.1 line full other,
    ))

pub GoesToLine-end : (old now new : Reading) (from read : ℕ) → Skips old from now read → read < feed_limit → ReadsLine now (Over InputEnded) new
    → GoesToLine old from (Over InputEnded) new read
GoesToLine-end old now new from read skips few reads =
    Known-then (to_come old) (to_come now) (to_come new) _ _ _ skips.answering reads (λ bytes between rest first line. (
      λ far objects last. first.0 far objects last ∙ LineAnswers-read far objects last read between (Over InputEnded) new.line rest few line (λ is. absurd (cc)),
      (
        comes from read (pieces bytes) [] [] (subst (λ (now : List ℕ). Goes from read (pieces bytes) (pieces now)) line.0 first.1),
        line.1,
      ),
    ))

pub GoesToLine-many : (old now : Reading) (from : ℕ) (read : ℕ) → Skips old from now read → read ≡ feed_limit → GoesToLine old from (Over TooManyLines) now (read + 1)
GoesToLine-many old now from read skips all =
    Known-then (to_come old) (to_come now) (to_come now) _ (λ _ _. Unit {0}) _ skips.answering (known_same (to_come now) (λ _ _. Unit {0}) (λ _. tt)) (λ bytes between rest first _.
    let split = slice_split-first is_newline between in (
      λ far objects last.
          first.0 far objects last
          ∙ ap (λ (texts : List (List ℕ)). answers_within far objects read last texts) split.are
          ∙ answers-stopped far objects read last split.first split.others (or_left _ _ (le-leb feed_limit read (omega (arith, all)))),
      (
        (split.first, split.others, comes from read (pieces bytes) split.first split.others (subst (λ (others : List (List ℕ)). Goes from read (pieces bytes) others) split.are first.1), omega arith),
        omega (arith, all),
      ),
    ))

pub GoesToLine-long : (old now new : Reading) (from read : ℕ) → Skips old from now read → read < feed_limit → ReadsLine now Long new → GoesToLine old from Long new (read + 1)
GoesToLine-long old now new from read skips few reads = GoesToLine-from old now new from read Long skips few reads (λ is. absurd (cc)) (λ is. absurd (cc))

pub GoesToLine-over : (old now new : Reading) (from read : ℕ) (stop : Stop) → Skips old from now read → read < feed_limit → ReadsLine now (Over stop) new
    → GoesToLine old from (Over stop) new (read + begun_lines stop)
GoesToLine-over old now new from read InputEnded skips few reads =
    let none : read + 0 ≡ read = omega arith in rw none (GoesToLine-end old now new from read skips few reads)
GoesToLine-over old now new from read CutLine skips few reads = GoesToLine-from old now new from read (Over CutLine) skips few reads (λ is. absurd (cc)) (λ is. absurd (cc))
GoesToLine-over old now new from read ReaderFailed skips few reads = GoesToLine-from old now new from read (Over ReaderFailed) skips few reads (λ is. absurd (cc)) (λ is. absurd (cc))
GoesToLine-over old now new from read TooManyCalls skips few reads = GoesToLine-from old now new from read (Over TooManyCalls) skips few reads (λ is. absurd (cc)) (λ is. absurd (cc))
GoesToLine-over old now new from read TooManyBytes skips few reads = GoesToLine-from old now new from read (Over TooManyBytes) skips few reads (λ is. absurd (cc)) (λ is. absurd (cc))
GoesToLine-over old now new from read TooManyLines skips few reads = GoesToLine-from old now new from read (Over TooManyLines) skips few reads (λ is. absurd (cc)) (λ is. absurd (cc))

pub CountsLine-over : (from read : ℕ) (stop : Stop) → from ≤ read → read < feed_limit → CountsLine from (Over stop) (read + begun_lines stop)
CountsLine-over from read InputEnded more few = (omega arith, omega arith)
CountsLine-over from read CutLine more few = (omega arith, omega arith)
CountsLine-over from read ReaderFailed more few = (omega arith, omega arith)
CountsLine-over from read TooManyCalls more few = (omega arith, omega arith)
CountsLine-over from read TooManyBytes more few = (omega arith, omega arith)
CountsLine-over from read TooManyLines more few = (omega arith, omega arith)

-- ---- what a call of `next` gives

Known-map : (a b : Option (List ℕ)) (P Q : List ℕ → List ℕ → Type 0) → Known a b P → ((x y : List ℕ) → P x y → Q x y) → Known a b Q
Known-map None b P Q known each = tt
Known-map (Some x) None P Q known each = known
Known-map (Some x) (Some y) P Q known each = each x y known

pub GivesEvent-line : (far : ℕ → Bool) (c : Config) (before after : Reading) (line last line' : ℕ) (stop : Option Stop) (event given : Event) → is_some stop ≡ false
    → GoesToLine before line Line after line' → CountsLine line Line line' → line_reading c.objects after.line ≡ Ok event → IsProper c event
    → Ok given ≡ raised last (Ok event) → last ≤ last_moment → far line' ≡ false
    → GivesEventWithin far c (feed_of before line last stop) given (feed_of after line' given.moment stop)
GivesEvent-line far c before after line last line' (Some stop) event given goes_on goes counts reading proper raise early near = absurd (true≢false goes_on)
GivesEvent-line far c before after line last line' None event given goes_on goes counts reading proper raise early near =
    let said : raised last (line_reading c.objects after.line) ≡ Ok given = ap (λ (r : Result Event FeedFault). raised last r) reading ∙ sym raise in
    let text : raised last (held_back (far line') (line_reading c.objects after.line)) ≡ Ok given = ap (λ (b : Bool). raised last (held_back b (line_reading c.objects after.line))) near ∙ said in
    let same : given ≡ record event { moment = max last event.moment } = cc in
    record {
      answers = Known-map (to_come before) (to_come after) _ _ goes (λ bytes rest answers.
          answers.0 far c.objects last ∙ rw text refl);
      place = Known-map (to_come before) (to_come after) _ _ goes (λ bytes rest answers. answers.1);
      said = said;
      proper = subst (IsProper c) (sym same) (record { stamp = omega (arith, proper.stamp); kind = proper.kind });
      later = rw same (omega arith);
      last = refl;
      line = counts.0;
      goes_on = refl;
    }

pub GivesFault-line : (far : ℕ → Bool) (c : Config) (before after : Reading) (line last line' : ℕ) (stop : Option Stop) (fault : FeedFault) → is_some stop ≡ false
    → GoesToLine before line Line after line' → CountsLine line Line line' → held_back (is_ahead fault) (line_reading c.objects after.line) ≡ Err fault → far line' ≡ is_ahead fault
    → GivesFaultWithin far c.objects (feed_of before line last stop) (record { line = line'; fault = fault }) (feed_of after line' last stop)
GivesFault-line far c before after line last line' (Some stop) fault goes_on goes counts reading same = absurd (true≢false goes_on)
GivesFault-line far c before after line last line' None fault goes_on goes counts reading same =
    let said : held_back (far line') (line_reading c.objects after.line) ≡ Err fault = ap (λ (b : Bool). held_back b (line_reading c.objects after.line)) same ∙ reading in
    let text : raised last (held_back (far line') (line_reading c.objects after.line)) ≡ Err fault = ap (λ (r : Result Event FeedFault). raised last r) said in
    record {
      answers = Known-map (to_come before) (to_come after) _ _ goes (λ bytes rest answers. answers.0 far c.objects last ∙ rw text refl);
      place = Known-map (to_come before) (to_come after) _ _ goes (λ bytes rest answers. record {
        text = after.line;
        next = answers.1.0;
        some = answers.1.1;
        reading = said;
        stays = λ _. refl;
      });
      fits = held-fits (is_ahead fault) (line_reading c.objects after.line) fault (λ found is. line_reading-fault c after.line found is) reading;
      said = λ _ _. said;
      number = refl;
      last = refl;
      line = counts.0;
    }

pub GivesFault-long : (far : ℕ → Bool) (objects : List Object) (before after : Reading) (line last line' : ℕ) (stop : Option Stop) → is_some stop ≡ false
    → GoesToLine before line Long after line' → CountsLine line Long line'
    → GivesFaultWithin far objects (feed_of before line last stop) (record { line = line'; fault = LineTooLong }) (feed_of after line' last stop)
GivesFault-long far objects before after line last line' (Some stop) goes_on goes counts = absurd (true≢false goes_on)
GivesFault-long far objects before after line last line' None goes_on goes counts =
    record {
      answers = Known-map (to_come before) (to_come after) _ _ goes (λ bytes rest answers. answers.0 far objects last);
      place = Known-map (to_come before) (to_come after) _ _ goes (λ bytes rest answers.
          let over : ltb line_limit (length answers.1.0) ≡ true = lt-ltb line_limit (length answers.1.0) answers.1.2 in
          let said : line_reading objects answers.1.0 ≡ Err LineTooLong = rw over refl in
          record {
            text = answers.1.0;
            next = answers.1.1;
            some = omega (arith, answers.1.2);
            reading = held-err (far line') (line_reading objects answers.1.0) LineTooLong said;
            stays = λ short. absurd (short refl);
          });
      fits = refl;
      said = λ _ short. absurd (short refl);
      number = refl;
      last = refl;
      line = counts.0;
    }

-- ---- where a feed is over

pub on_some : {A : Type 0} (found : Option A) (P : Type 0) → P → OnSome found P
on_some None P h = tt
on_some (Some x) P h = h

-- the line that comes is one of the feed
has_long : (from : ℕ) (texts : List (List ℕ)) (line count least : ℕ) → least ≤ count → ComesLong from texts line count → HasLong from texts line least
has_long from texts line count least few comes = record {
  before = replicate comes.2.empty [];
  text = comes.0;
  others = comes.1;
  are = comes.2.are;
  number = omega (arith, comes.2.number, length-replicate {A = List ℕ} comes.2.empty []);
  long = omega (arith, few, comes.3);
}

-- of a line that the reading broke off in nothing is said of its length
within-long : (from : ℕ) (texts : List (List ℕ)) (line : ℕ) (left : List (List ℕ)) → ComesWithin from texts line left → ComesLong from texts line 0
within-long from texts line left comes = (comes.0 ++ comes.1, comes.2, comes.3, omega arith)

-- the answer at which the feed ends is its last
ends_with : (can_fail : Bool) (all given : List Answer) (from : ℕ) (texts : List (List ℕ)) (line : ℕ) (fault f : FeedFault) → Some f ≡ Some fault
    → all ≡ record { line = line; given = Err f } ∷ [] → AreGiven can_fail (record { line = line; given = Err fault } ∷ []) all from texts
ends_with can_fail all given from texts line fault f is same = inl (let e : f ≡ fault = cc in ap (λ (x : FeedFault). record { line = line; given = Err x } ∷ []) (sym e) ∙ sym same)

-- the reading broke off before it
breaks_off : (can_fail : Bool) (all : List Answer) (from : ℕ) (texts : List (List ℕ)) (line : ℕ) (fault : FeedFault) → Some Read ≡ Some fault
    → HasLong from texts line (least_at_read can_fail) → AreFromLine line all → AreGiven can_fail (record { line = line; given = Err fault } ∷ []) all from texts
breaks_off can_fail all from texts line fault is place later = inr (record {
  front = [];
  line = line;
  others = all;
  begins = refl;
  place = place;
  earlier = All-nil (λ (answer : Answer). answer.line < line);
  read_on = All-nil (λ (answer : Answer). ends_feed answer.given ≡ false);
  later = later;
  whole = let e : Read ≡ fault = cc in ap (λ (x : FeedFault). record { line = line; given = Err x } ∷ []) (sym e);
})

least_failed : (can_fail : Bool) → (can_fail ≡ false → Over ReaderFailed ≢ Over ReaderFailed) → least_at_read can_fail ≤ 0
least_failed true sure = omega arith
least_failed false sure = absurd (sure refl refl)

least_called : (can_fail : Bool) → least_at_read can_fail ≤ call_limit
least_called true = omega arith
least_called false = omega arith

given_at : (far : ℕ → Bool) (can_fail : Bool) (objects : List Object) (last from : ℕ) (how : Stop) (text : List ℕ) (line : ℕ) (bytes rest : List ℕ) (fault : FeedFault)
    → LineAnswers far objects last (Over how) text line rest (answers_within far objects from last (pieces bytes)) → ComesTo (Over how) from bytes line text rest
    → (can_fail ≡ false → Over how ≢ Over ReaderFailed) → stop_fault how ≡ Some fault
    → AreGiven can_fail (record { line = line; given = Err fault } ∷ []) (answers_within far objects from last (pieces bytes)) from (pieces bytes)
given_at far can_fail objects last from InputEnded text line bytes rest fault answer comes sure is = absurd (cc)
given_at far can_fail objects last from CutLine text line bytes rest fault answer comes sure is = ends_with can_fail _ [] from (pieces bytes) line fault Cut is answer
given_at far can_fail objects last from ReaderFailed text line bytes rest fault answer comes sure is =
    breaks_off can_fail _ from (pieces bytes) line fault is (has_long from (pieces bytes) line 0 (least_at_read can_fail) (least_failed can_fail sure) (within-long from (pieces bytes) line (pieces rest) comes)) answer
given_at far can_fail objects last from TooManyCalls text line bytes rest fault answer comes sure is =
    breaks_off can_fail _ from (pieces bytes) line fault is (has_long from (pieces bytes) line call_limit (least_at_read can_fail) (least_called can_fail) comes) answer
given_at far can_fail objects last from TooManyBytes text line bytes rest fault answer comes sure is = ends_with can_fail _ [] from (pieces bytes) line fault Read is answer
given_at far can_fail objects last from TooManyLines text line bytes rest fault answer comes sure is = ends_with can_fail _ [] from (pieces bytes) line fault Read is answer

given_known : (a b : Option (List ℕ)) (P : List ℕ → List ℕ → Type 0) (Q : List ℕ → Type 0) → Known a b P → ((x y : List ℕ) → P x y → Q x) → IfSome a Q
given_known None b P Q known each = tt
given_known (Some x) None P Q known each = absurd known
given_known (Some x) (Some y) P Q known each = each x y known

pub AreGiven-stop : (far : ℕ → Bool) (can_fail : Bool) (objects : List Object) (before after : Reading) (line last line' : ℕ) (stop : Option Stop) (how : Stop) (fault : FeedFault) → is_some stop ≡ false
    → GoesToLine before line (Over how) after line' → (can_fail ≡ false → Over how ≢ Over ReaderFailed) → stop_fault how ≡ Some fault
    → AreGivenByWithin far can_fail objects (feed_of before line last stop) (refusal (record { line = line'; fault = fault }) ∷ [])
AreGiven-stop far can_fail objects before after line last line' (Some stop) how fault goes_on goes sure is = absurd (true≢false goes_on)
AreGiven-stop far can_fail objects before after line last line' None how fault goes_on goes sure is =
    given_known (to_come before) (to_come after) _ _ goes
    (λ bytes rest both. given_at far can_fail objects last line how after.line line' bytes rest fault (both.0 far objects last) both.1 sure is)

-- ---- a line that is held

has_line-next : (rest : List ℕ) → has_line (10 ∷ rest) ≡ has_line rest
has_line-next rest = rw one-add refl

has_line-newline : (held : List ℕ) → IsTrue (has_line held) → IsTrue (has_newline held)
has_line-newline held is =
    let empty = length (take_while is_newline held) in
    ap (λ (bytes : List ℕ). list_any is_newline bytes) (sym (take-append-drop empty held))
    ∙ list_any-append is_newline (take empty held) (drop empty held)
    ∙ or_right (list_any is_newline (take empty held)) (list_any is_newline (drop empty held)) is

-- where a line was held, it still is, and the reader wasn't called
abbrev pub StaysHeld : Reading → Reading → Type 0
StaysHeld old now = IsTrue (has_line old.held) → (now.calls ≡ old.calls) × IsTrue (has_line now.held)

pub held-none : (old : Reading) → StaysHeld old old
held-none old = λ is. (refl, is)

pub held-calls : (old now new : Reading) (how : NextLine) → StaysHeld old now → (IsTrue (has_newline now.held) → ReadsHeld now how new)
    → IsTrue (has_line old.held) → new.calls ≡ old.calls
held-calls old now new how stays reads is =
    let held = stays is in (reads (has_line-newline now.held held.1)).calls ∙ held.0

pub held-more : (old now new : Reading) → StaysHeld old now → (IsTrue (has_newline now.held) → ReadsHeld now Line new) → length new.line ≡ 0 → StaysHeld old new
held-more old now new stays reads none = λ is.
    let held = stays is in
    let line = reads (has_line-newline now.held held.1) in
    let empty : line.text ≡ [] = sym line.fits ∙ nil_from_length new.line none in
    let whole : now.held ≡ 10 ∷ new.held = line.begins.whole ∙ ap (λ (text : List ℕ). text ++ 10 ∷ new.held) empty in (
      line.calls ∙ held.0,
      sym (ap has_line whole ∙ has_line-next new.held) ∙ held.1,
    )

-- ---- the calls of the reader

-- one line more
pub few-line : (old now new from read : ℕ) → from ≤ read → now ≤ old + call_limit * (read - from) → new ≤ now + call_limit
    → new ≤ old + call_limit * (read + 1 - from)
few-line old now new from read later few one = omega arith

pub few-over : (old now new from read : ℕ) (stop : Stop) → from ≤ read → now ≤ old + call_limit * (read - from) → new ≤ now + call_limit
    → new ≤ old + call_limit * lines_asked (Some stop) (read + begun_lines stop - from)
few-over old now new from read InputEnded later few one = omega arith
few-over old now new from read CutLine later few one = omega arith
few-over old now new from read ReaderFailed later few one = omega arith
few-over old now new from read TooManyCalls later few one = omega arith
few-over old now new from read TooManyBytes later few one = omega arith
few-over old now new from read TooManyLines later few one = omega arith

-- a line that isn't read
pub few-last : (old now from read : ℕ) → now ≤ old + call_limit * (read - from) → now ≤ old + call_limit * (read + 1 - from)
few-last old now from read few = omega arith

-- no call is taken back
pub least-line : (old now new : ℕ) → calls_after old 0 ≤ now → calls_after now 0 ≤ new → calls_after old 0 ≤ new
least-line old now new least one = omega arith

pub many-over : (old now new : ℕ) (stop : Stop) → calls_after old 0 ≤ now → CallsFit now (Over stop) new → Over stop ≡ Over TooManyCalls → calls_after old call_limit ≤ new
many-over old now new InputEnded least fits is = absurd (cc)
many-over old now new CutLine least fits is = absurd (cc)
many-over old now new ReaderFailed least fits is = absurd (cc)
many-over old now new TooManyCalls least fits is = let same : new ≡ calls_after now call_limit = fits in omega (arith, least, same)
many-over old now new TooManyBytes least fits is = absurd (cc)
many-over old now new TooManyLines least fits is = absurd (cc)

-- a feed that goes on was asked for the lines that it passed, and isn't over
pub few-going : (old new passed : ℕ) (stop : Option Stop) → is_some stop ≡ false → new ≤ old + call_limit * passed → new ≤ old + call_limit * lines_asked stop passed
few-going old new passed None on few = few
few-going old new passed (Some stop) on few = absurd (true≢false on)

pub not_over : (stop : Option Stop) (how : Stop) (P : Type 0) → is_some stop ≡ false → IfNone stop (stop ≡ Some how → P)
not_over None how P on = λ is. absurd (cc)
not_over (Some stop) how P on = absurd (true≢false on)

-- a feed is over as its reading is
pub over_so : (old : Option Stop) (stop how : Stop) (P : Type 0) → (Over stop ≡ Over how → P) → IfNone old (Some stop ≡ Some how → P)
over_so None stop how P each = λ is. each (let e : stop ≡ how = cc in ap (λ (s : Stop). Over s) e)
over_so (Some before) stop how P each = tt
