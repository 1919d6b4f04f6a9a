-- The lines of a feed, one after another: what they give, and what is kept of it.
use Rattle.std.proofs.Common.{codes, slice_index, ◌≡◌, ◌≢◌, ◌<◌, ◌≤◌, inl, inr, IfSome, IsSome, ℕ, ◌+◌, zero, suc, Bool, true, false, List, [], ◌∷◌, ◌++◌, length, replicate, Option, None, Some, Result, Ok, Err, refl, sym, ap, subst, ◌∙◌, append_assoc, arith}
use Rattle.std.proofs.lemmas.List.{append-nil, length-append, length-replicate}
use Rattle.std.proofs.lemmas.Str.{is_utf8-from_IsUtf8, IsUtf8-from_ascii}
use Rattle.std.specs.Str.{IsAscii}
use Rattle.std.proofs.lemmas.List.Elements.{All-nil, All-cons, All-append, All-push, All-replicate, All-weaker}
use Rattle.due_model.specs.declared.config.Config.{Config}
use Rattle.due_model.specs.declared.config.Object.{Object}
use Rattle.due_model.specs.declared.event.Event.{Event}
use Rattle.event_feed.specs.declared.fault.FeedFault.{FeedFault}
use Rattle.event_feed.specs.declared.fault.FeedFault.TheVariants.{BadStamp}
use Rattle.event_feed.specs.declared.fault.FeedFault.TheVariants as faults
use Rattle.event_feed.specs.declared.fault.RefusedLine.{RefusedLine}
use Rattle.event_feed.specs.claims.Fault.{stop_fault}
use Rattle.text_lines.specs.declared.line_reader.NextLine.TheVariants.{Over}
use Rattle.text_lines.specs.declared.line_reader.Stop.{Stop}
use Rattle.text_lines.specs.declared.line_reader.Stop.TheVariants.{InputEnded, CutLine, ReaderFailed, TooManyLines}
use Rattle.std.proofs.lemmas.Option.{same_Some}
use Rattle.event_feed.specs.FeedLaws.{earlier_more, fault_next, known_weaker, then_by}
use Rattle.event_feed.specs.claims.Feed.{Answer, AreGivenBy, Feed, FeedComesTo, ComesNext, ComesTo, FaultFits, GivesEvent, GivesFault, ends_feed, raised, refusal as answer_of, text_reading}
use Rattle.event_feed.specs.Feed.{AnswersNone, FaultAnswers, FaultComesTo, answers_from}
use Rattle.event_feed.specs.claims.Line.{line_reading}
use Rattle.text_lines.specs.claims.Lines.{Known, pieces}
use Rattle.written.specs.claims.Written.{Leaves, WritesFront}
use Rattle.written.specs.WrittenLaws.{front_on, leaves_on, leaves_all}
use Rattle.trace.specs.declared.feed.AfterFeed.{AfterFeed}
use Rattle.trace.specs.declared.feed.AfterFeed.TheVariants.{Steps, Nothing, Cut, Unread}
use Rattle.trace.specs.declared.run.Run.{Run}
use Rattle.trace.specs.Feed.{ComesAfter, FeedBegins, FeedEnds, FeedGoesOn, FeedSoFar, FeedState, IsMark, added, after_answer, after_answers, after_stop, events_after, is_over_after, mark}
use Rattle.trace.specs.FeedRun.{EndsFeed, GoesOn, Has, ReadsFeed, ReadsFront, ReadsSome, Unmoved, feed_state}
use Rattle.trace.proofs.StepLinesLaws.{known_first}

-- ---- the mark

ascii_cons : (x : ℕ) (xs : List ℕ) → x < 128 → IsAscii xs → (i : ℕ) → slice_index (x ∷ xs) i < 128
ascii_cons x xs h k zero = h
ascii_cons x xs h k (suc i) = k i

mark_is_ascii : IsAscii mark
mark_is_ascii =
    ascii_cons 37 (codes "steps") (omega arith) (ascii_cons 115 (codes "teps") (omega arith) (ascii_cons 116 (codes "eps") (omega arith)
    (ascii_cons 101 (codes "ps") (omega arith) (ascii_cons 112 (codes "s") (omega arith) (ascii_cons 115 [] (omega arith) (λ i. omega arith))))))

pub mark_reading : (objects : List Object) → line_reading objects mark ≡ Err BadStamp
mark_reading objects = rw (is_utf8-from_IsUtf8 mark (IsUtf8-from_ascii mark mark_is_ascii)) refl

no_event : (fault : FeedFault) (event : Event) → Err fault ≡ Ok event → ⊥
no_event fault event e = absurd (cc)

pub event_unmarked : (objects : List Object) (last : ℕ) (text : List ℕ) (event : Event) → text_reading objects last text ≡ Ok event → text ≢ mark
event_unmarked objects last text event said is =
    no_event BadStamp event (sym (ap (raised last) (ap (line_reading objects) is ∙ mark_reading objects)) ∙ said)

-- ---- lines of the feed

pub comes_more : (bytes mid : List ℕ) (first next others : List (List ℕ)) → ComesAfter bytes first (pieces mid) → ComesAfter mid next others → ComesAfter bytes (first ++ next) others
comes_more bytes mid first next others h k = record {
  lines = h.lines ∙ ap (λ (ls : List (List ℕ)). first ++ ls) k.lines ∙ sym (append_assoc first next others);
  unmarked = All-append (λ (line : List ℕ). line ≢ mark) first next h.unmarked k.unmarked;
}

-- ---- what is kept

pub after_more : (f : FeedState) (given more : List Answer) → after_answers f (given ++ more) ≡ after_answers (after_answers f given) more
after_more f [] more = refl
after_more f (answer ∷ given) more = after_more (after_answer f answer) given more

after_text : (events : List Event) (over : Bool) (t u : List ℕ) (given : List Answer)
    → after_answers (record { events = events; over = over; text = t ++ u }) given
    ≡ record (after_answers (record { events = events; over = over; text = u }) given) { text = t ++ (after_answers (record { events = events; over = over; text = u }) given).text }
after_text events over t u [] = refl
after_text events over t u (answer ∷ given) =
    ap (λ (text : List ℕ). after_answers (record { events = events_after events over answer.given; over = is_over_after events over answer.given; text = text }) given)
    (append_assoc t u (added events over answer.line answer.given))
    ∙ after_text (events_after events over answer.given) (is_over_after events over answer.given) t (u ++ added events over answer.line answer.given) given

-- what answers add to a run whose text is all written
abbrev alone : Run → List Answer → FeedState
alone run given = after_answers (record { events = run.events.items; over = run.is_over; text = [] }) given

after_held : (run : Run) (held : List ℕ) (given : List Answer) → after_answers (feed_state run held) given ≡ record (alone run given) { text = held ++ (alone run given).text }
after_held run held given =
    ap (λ (t : List ℕ). after_answers (record { events = run.events.items; over = run.is_over; text = t }) given) (sym (append-nil held)) ∙ after_text run.events.items run.is_over held [] given

after_kept : (f : FeedState) (run : Run) → run.events.items ≡ f.events → run.is_over ≡ f.over → (given : List Answer)
    → after_answers f given ≡ record (alone run given) { text = f.text ++ (alone run given).text }
after_kept f run events over given =
    ap (λ (es : List Event). after_answers (record { events = es; over = f.over; text = f.text }) given) (sym events)
    ∙ ap (λ (b : Bool). after_answers (record { events = run.events.items; over = b; text = f.text }) given) (sym over)
    ∙ ap (λ (t : List ℕ). after_answers (record { events = run.events.items; over = run.is_over; text = t }) given) (sym (append-nil f.text)) ∙ after_text run.events.items run.is_over f.text [] given

-- what is kept of no answer
has_none : (run : Run) (known : Option (List ℕ)) (held : List ℕ) → Has (feed_state run held) run known known held
has_none run known held = record { events = refl; over = refl; text = leaves_all known held }

-- what is kept of further answers, with the text before it
pub has_more : (f : FeedState) (old new : Run) (before mid after : Option (List ℕ)) (held held' : List ℕ) (given : List Answer) → Has f old before mid held
    → Has (after_answers (feed_state old held) given) new mid after held' → Has (after_answers f given) new before after held'
has_more f old new before mid after held held' given h k =
    let here = after_held old held given in
    let there = after_kept f old h.events h.over given in
    record {
      events = k.events ∙ ap (λ (s : FeedState). s.events) here ∙ sym (ap (λ (s : FeedState). s.events) there);
      over = k.over ∙ ap (λ (s : FeedState). s.over) here ∙ sym (ap (λ (s : FeedState). s.over) there);
      text = subst (λ (text : List ℕ). Leaves before after text held') (sym (ap (λ (s : FeedState). s.text) there))
          (leaves_on before mid after f.text held (alone old given).text held' h.text
          (subst (λ (text : List ℕ). Leaves mid after text held') (ap (λ (s : FeedState). s.text) here) k.text));
    }

-- a front of what further answers add
front_more : (f : FeedState) (old : Run) (before mid after : Option (List ℕ)) (held : List ℕ) (given : List Answer) → Has f old before mid held
    → WritesFront mid after (after_answers (feed_state old held) given).text → WritesFront before after (after_answers f given).text
front_more f old before mid after held given h k =
    subst (λ (text : List ℕ). WritesFront before after text) (sym (ap (λ (s : FeedState). s.text) (after_kept f old h.events h.over given)))
    (front_on before mid after f.text held (alone old given).text h.text
    (subst (λ (text : List ℕ). WritesFront mid after text) (ap (λ (s : FeedState). s.text) (after_held old held given)) k))

-- ---- the loop

pub some_none : (run : Run) (feed : Feed) (bytes : List ℕ) (known : Option (List ℕ)) (held : List ℕ) → ReadsSome run feed bytes run feed bytes known known held held
some_none run feed bytes known held = (
  [],
  record {
    before = [];
    lines = record { lines = refl; unmarked = All-nil (λ (line : List ℕ). line ≢ mark) };
    number = omega arith;
    answers = refl;
    earlier = All-nil (λ (answer : Answer). answer.line ≤ feed.line);
    read_on = All-nil (λ (answer : Answer). ends_feed answer.given ≡ false);
  },
  has_none run known held,
)

pub some_more : (start old new : Run) (feed feed' feed'' : Feed) (bytes mid rest : List ℕ) (before between after : Option (List ℕ)) (held held' held'' : List ℕ)
    → old.config ≡ start.config → ReadsSome start feed bytes old feed' mid before between held held' → GoesOn old feed' mid new feed'' rest between after held' held''
    → ReadsSome start feed bytes new feed'' rest before after held held''
some_more start old new feed feed' feed'' bytes mid rest before between after held held' held'' same h k =
    let on = subst (λ x. FeedGoesOn x.now.objects feed' mid feed'' rest k.0) same k.1 in (
      h.0 ++ k.0 ∷ [],
      record {
        before = h.1.before ++ on.before;
        lines = comes_more bytes mid h.1.before on.before (pieces rest) h.1.lines on.lines;
        number = omega (arith, h.1.number, on.number, length-append h.1.before on.before);
        answers = h.1.answers ∙ ap (λ (all : List Answer). h.0 ++ all) on.answers ∙ sym (append_assoc h.0 (k.0 ∷ []) (answers_from start.config.now.objects feed'' rest));
        earlier = earlier_more h.0 k.0 feed'.line feed''.line (omega (arith, on.number)) (omega (arith, on.line)) h.1.earlier;
        read_on = All-push (λ (answer : Answer). ends_feed answer.given ≡ false) h.0 k.0 h.1.read_on on.read_on;
      },
      subst (λ (f : FeedState). Has f new before after held'') (sym (after_more (feed_state start held) h.0 (k.0 ∷ [])))
          (has_more (after_answers (feed_state start held) h.0) old new before between after held' held'' (k.0 ∷ []) h.2 k.2),
    )

-- how it ends after some of its lines
ends_more : (can_fail : Bool) (c : Config) (feed feed' : Feed) (bytes mid rest : List ℕ) (end : AfterFeed) (given more : List Answer) → FeedSoFar c.objects feed bytes feed' mid given
    → FeedEnds can_fail (answers_from c.objects feed' mid) feed'.line mid end more rest → FeedEnds can_fail (answers_from c.objects feed bytes) feed.line bytes end (given ++ more) rest
ends_more can_fail c feed feed' bytes mid rest Steps given more h k = (
  h.before ++ k.0,
  k.1,
  k.2,
  comes_more bytes mid h.before k.0 (mark ∷ pieces rest) h.lines k.3,
  omega (arith, h.number, k.4, length-append h.before k.0),
  h.answers ∙ ap (λ (all : List Answer). given ++ all) k.5 ∙ sym (append_assoc given more (record { line = k.1; given = Err BadStamp } ∷ k.2)),
)
ends_more can_fail c feed feed' bytes mid rest Nothing given more h k = (
  h.before ++ k.0,
  comes_more bytes mid h.before k.0 ([] ∷ []) h.lines k.1,
  h.answers ∙ ap (λ (all : List Answer). given ++ all) k.2,
  All-append (λ (answer : Answer). ends_feed answer.given ≡ false) given more h.read_on k.3,
)
ends_more can_fail c feed feed' bytes mid rest Cut given more h k = (
  h.before ++ k.0,
  k.1,
  given ++ k.2,
  k.3,
  comes_more bytes mid h.before k.0 (k.1 ∷ []) h.lines k.4,
  h.answers ∙ ap (λ (all : List Answer). given ++ all) k.5,
  ap (λ (all : List Answer). given ++ all) k.6 ∙ sym (append_assoc given k.2 _),
)
ends_more can_fail c feed feed' bytes mid rest Unread given more h k = (
  h.before ++ k.0,
  k.1,
  k.2,
  given ++ k.3,
  k.4,
  comes_more bytes mid h.before k.0 (k.1 ∷ k.2) h.lines k.5,
  omega (arith, h.number, k.6, length-append h.before k.0),
  then_by can_fail c feed feed' given more (Some bytes) (Some mid) (omega (arith, h.number)) h.earlier h.read_on h.answers (h.before, h.lines.lines, h.number) k.7,
  ap (λ (all : List Answer). given ++ all) k.8 ∙ sym (append_assoc given k.3 _),
)

pub some_last : (can_fail : Bool) (start old new : Run) (feed feed' : Feed) (bytes mid rest : List ℕ) (end : AfterFeed) (before between after : Option (List ℕ)) (held held' held'' : List ℕ)
    → old.config ≡ start.config → ReadsSome start feed bytes old feed' mid before between held held' → EndsFeed can_fail old feed' mid end new rest between after held' held''
    → ReadsFeed can_fail start feed bytes end new rest before after held held''
some_last can_fail start old new feed feed' bytes mid rest end before between after held held' held'' same h k =
    let ends = subst (λ x. FeedEnds can_fail (answers_from x.now.objects feed' mid) feed'.line mid end k.0 rest) same k.1 in (
      h.0 ++ k.0,
      ends_more can_fail start.config.now feed feed' bytes mid rest end h.0 k.0 h.1 ends,
      subst (λ (f : FeedState). Has f new before after held'') (sym (after_more (feed_state start held) h.0 k.0))
          (has_more (after_answers (feed_state start held) h.0) old new before between after held' held'' k.0 h.2 k.2),
    )

-- ---- a front of what the feed gives

begins_more : (can_fail : Bool) (c : Config) (feed feed' : Feed) (bytes mid : List ℕ) (given more : List Answer) → FeedSoFar c.objects feed bytes feed' mid given
    → FeedBegins can_fail (answers_from c.objects feed' mid) feed'.line mid more → FeedBegins can_fail (answers_from c.objects feed bytes) feed.line bytes (given ++ more)
begins_more can_fail c feed feed' bytes mid given more h (inl first) = inl (record {
  before = h.before ++ first.before;
  others = first.others;
  more = first.more;
  lines = comes_more bytes mid h.before first.before first.others h.lines first.lines;
  answers = h.answers ∙ ap (λ (all : List Answer). given ++ all) first.answers ∙ sym (append_assoc given more first.more);
  earlier = All-append (λ (a : Answer). a.line ≤ feed.line + length (h.before ++ first.before)) given more
      (All-weaker (λ (a : Answer). a.line ≤ feed'.line) (λ (a : Answer). a.line ≤ feed.line + length (h.before ++ first.before))
      (λ a le. omega (arith, le, h.number, length-append h.before first.before)) given h.earlier)
      (All-weaker (λ (a : Answer). a.line ≤ feed'.line + length first.before) (λ (a : Answer). a.line ≤ feed.line + length (h.before ++ first.before))
      (λ a le. omega (arith, le, h.number, length-append h.before first.before)) more first.earlier);
})
begins_more can_fail c feed feed' bytes mid given more h (inr ends) =
    inr (ends.0, ends.1, ends_more can_fail c feed feed' bytes mid ends.1 ends.0 given more h ends.2)

pub some_front : (can_fail : Bool) (start old : Run) (feed feed' : Feed) (bytes mid : List ℕ) (before between after : Option (List ℕ)) (held held' : List ℕ)
    → old.config ≡ start.config → ReadsSome start feed bytes old feed' mid before between held held' → ReadsFront can_fail old feed' mid between after held'
    → ReadsFront can_fail start feed bytes before after held
some_front can_fail start old feed feed' bytes mid before between after held held' same h k =
    let begins = subst (λ x. FeedBegins can_fail (answers_from x.now.objects feed' mid) feed'.line mid k.0) same k.1 in (
      h.0 ++ k.0,
      begins_more can_fail start.config.now feed feed' bytes mid h.0 k.0 h.1 begins,
      subst (λ (f : FeedState). WritesFront before after f.text) (sym (after_more (feed_state start held) h.0 k.0))
          (front_more (after_answers (feed_state start held) h.0) old before between after held' k.0 h.2 k.2),
    )

-- the front of a line after which the feed goes on, and of its last
line_front : (can_fail : Bool) (run : Run) (feed feed' : Feed) (bytes rest : List ℕ) (answer : Answer) (before after : Option (List ℕ)) (held : List ℕ)
    → FeedGoesOn run.config.now.objects feed bytes feed' rest answer → WritesFront before after (after_answer (feed_state run held) answer).text
    → ReadsFront can_fail run feed bytes before after held
line_front can_fail run feed feed' bytes rest answer before after held on front = (
  answer ∷ [],
  inl (record {
    before = on.before;
    others = pieces rest;
    more = answers_from run.config.now.objects feed' rest;
    lines = on.lines;
    answers = on.answers;
    earlier = All-cons (λ (a : Answer). a.line ≤ feed.line + length on.before) answer [] (omega (arith, on.line, on.number)) (All-nil (λ (a : Answer). a.line ≤ feed.line + length on.before));
  }),
  front,
)

-- ---- one line

-- the line that comes next, after empty ones
comes_up_to : (from : ℕ) (bytes : List ℕ) (line : ℕ) (text : List ℕ) (others : List (List ℕ)) → ComesNext from (pieces bytes) line text others
    → (before : List (List ℕ)) × ComesAfter bytes before (text ∷ others) × (line ≡ from + length before + 1)
comes_up_to from bytes line text others next = (
  replicate next.empty [],
  record { lines = next.are; unmarked = All-replicate (λ (l : List ℕ). l ≢ mark) next.empty [] (λ e. absurd (cc)) },
  omega (arith, next.number, length-replicate {A = List ℕ} next.empty []),
)

-- a line after empty ones
comes_next : (from : ℕ) (bytes rest : List ℕ) (line : ℕ) (text : List ℕ) → ComesNext from (pieces bytes) line text (pieces rest) → text ≢ mark
    → (before : List (List ℕ)) × ComesAfter bytes before (pieces rest) × (line ≡ from + length before)
comes_next from bytes rest line text next unmarked =
    let up = comes_up_to from bytes line text (pieces rest) next in (
      up.0 ++ text ∷ [],
      record {
        lines = up.1.lines ∙ sym (append_assoc up.0 (text ∷ []) (pieces rest));
        unmarked = All-push (λ (l : List ℕ). l ≢ mark) up.0 text up.1.unmarked unmarked;
      },
      omega (arith, up.2, length-append up.0 (text ∷ [])),
    )

comes_marked : (from : ℕ) (bytes rest : List ℕ) (line : ℕ) (text : List ℕ) → ComesNext from (pieces bytes) line text (pieces rest) → text ≡ mark
    → (before : List (List ℕ)) × ComesAfter bytes before (mark ∷ pieces rest) × (line ≡ from + length before + 1)
comes_marked from bytes rest line text next marked =
    let comes = comes_up_to from bytes line text (pieces rest) next in
    (comes.0, subst (λ (l : List ℕ). ComesAfter bytes comes.0 (l ∷ pieces rest)) marked comes.1, comes.2)

-- the line at which the reading of a feed stopped
stopped_at : (stop : Stop) (fault : FeedFault) (from : ℕ) (bytes : List ℕ) (line : ℕ) (kept rest : List ℕ) → stop_fault stop ≡ Some fault → ComesTo (Over stop) from bytes line kept rest
    → (before : List (List ℕ)) × (text : List ℕ) × (others : List (List ℕ)) × ComesAfter bytes before (text ∷ others) × (line ≡ from + length before + 1)
stopped_at InputEnded fault from bytes line kept rest e h = absurd (cc)
stopped_at CutLine fault from bytes line kept rest e h = let comes = comes_up_to from bytes line h.0 [] h.1 in (comes.0, h.0, [], comes.1, comes.2)
stopped_at ReaderFailed fault from bytes line kept rest e h =
    let comes = comes_up_to from bytes line (h.0 ++ h.1) h.2 h.3 in (comes.0, h.0 ++ h.1, h.2, comes.1, comes.2)
stopped_at TooManyLines fault from bytes line kept rest e h = let comes = comes_up_to from bytes line h.0.0 h.0.1 h.0.2 in (comes.0, h.0.0, h.0.1, comes.1, comes.2)
stopped_at stop fault from bytes line kept rest e h = let comes = comes_up_to from bytes line h.0 h.1 h.2 in (comes.0, h.0, h.1, comes.1, comes.2)

-- what follows of the same bytes from two facts of them
known_with : (a b : Option (List ℕ)) (P Q R : List ℕ → List ℕ → Type 0) → Known a b P → Known a b Q → ((x y : List ℕ) → P x y → Q x y → R x y) → Known a b R
known_with None b P Q R h k each = tt
known_with (Some x) None P Q R h k each = h
known_with (Some x) (Some y) P Q R h k each = each x y h k

-- and from one of both and one of the first
known_some : (a b : Option (List ℕ)) (P : List ℕ → List ℕ → Type 0) (Q : List ℕ → Type 0) (R : List ℕ → List ℕ → Type 0) → Known a b P → IfSome a Q → ((x y : List ℕ) → P x y → Q x → R x y)
    → Known a b R
known_some None b P Q R h k each = tt
known_some (Some x) None P Q R h k each = h
known_some (Some x) (Some y) P Q R h k each = each x y h k

-- a refusal keeps the events
refusal_events : (events : List Event) (over : Bool) (fault : FeedFault) → events ≡ events_after events over (Err fault)
refusal_events events true fault = refl
refusal_events events false fault = refl

refusal_over : (events : List Event) (over : Bool) (fault : FeedFault) → over ≡ is_over_after events over (Err fault)
refusal_over events true fault = refl
refusal_over events false fault = refl

-- only the faults of a line come without a stop
mark_goes_on : (stop : Option Stop) (fault : FeedFault) → fault ≡ BadStamp → FaultFits fault stop → stop ≡ None
mark_goes_on None fault is fits = refl
mark_goes_on (Some InputEnded) fault is fits = absurd (cc)
mark_goes_on (Some CutLine) fault is fits = let e : faults.Cut ≡ fault = same_Some faults.Cut fault fits in absurd (cc)
mark_goes_on (Some stop) fault is fits = let e : faults.Read ≡ fault = same_Some faults.Read fault fits in absurd (cc)

fault_same : (a b : FeedFault) → ◌≡◌ {A = Result Event FeedFault} (Err a) (Err b) → a ≡ b
fault_same a b e = cc

module _ (can_fail : Bool) (run : Run) (feed0 feed1 : Feed) (w0 w1 : Option (List ℕ)) (held0 held1 : List ℕ) where
  abbrev objects : List Object
  objects = run.config.now.objects

  -- ---- of an event

  event_goes_on : (event : Event) → GivesEvent run.config.now feed0 event feed1
      → Known feed0.bytes feed1.bytes (λ bytes rest. FeedGoesOn objects feed0 bytes feed1 rest (record { line = feed1.line; given = Ok event }))
  event_goes_on event gives =
      known_with feed0.bytes feed1.bytes _ _ (λ bytes rest. FeedGoesOn objects feed0 bytes feed1 rest (record { line = feed1.line; given = Ok event })) gives.answers gives.place
      (λ bytes rest answers place.
      let comes = comes_next feed0.line bytes rest feed1.line feed1.text place.0 (event_unmarked objects feed0.last feed1.text event gives.said) in
      record { before = comes.0; lines = comes.1; number = comes.2; answers = answers; line = refl; read_on = refl })

  pub line_event : (event : Event) (new : Run) → GivesEvent run.config.now feed0 event feed1 → new.events.items ≡ events_after run.events.items run.is_over (Ok event)
      → new.is_over ≡ is_over_after run.events.items run.is_over (Ok event) → Leaves w0 w1 (held0 ++ added run.events.items run.is_over feed1.line (Ok event)) held1
      → Known feed0.bytes feed1.bytes (λ bytes rest. GoesOn run feed0 bytes new feed1 rest w0 w1 held0 held1)
  line_event event new gives events over text =
      known_weaker feed0.bytes feed1.bytes
      (λ bytes rest. FeedGoesOn objects feed0 bytes feed1 rest (record { line = feed1.line; given = Ok event }))
      (λ bytes rest. GoesOn run feed0 bytes new feed1 rest w0 w1 held0 held1)
      (event_goes_on event gives)
      (λ bytes rest on. (record { line = feed1.line; given = Ok event }, on, record { events = events; over = over; text = text }))

  pub event_front : (event : Event) → GivesEvent run.config.now feed0 event feed1
      → WritesFront w0 w1 (held0 ++ added run.events.items run.is_over feed1.line (Ok event)) → IfSome feed0.bytes (λ bytes. ReadsFront can_fail run feed0 bytes w0 w1 held0)
  event_front event gives front =
      known_first feed0.bytes feed1.bytes (λ bytes rest. FeedGoesOn objects feed0 bytes feed1 rest (record { line = feed1.line; given = Ok event }))
      (λ bytes. ReadsFront can_fail run feed0 bytes w0 w1 held0)
      (λ bytes rest on. line_front can_fail run feed0 feed1 bytes rest (record { line = feed1.line; given = Ok event }) w0 w1 held0 on front)
      (event_goes_on event gives)

  -- ---- of the end

  -- no line is left, but empty ones
  pub line_none : AnswersNone objects feed0 feed1 → FeedComesTo (Over InputEnded) feed0 feed1
      → Known feed0.bytes feed1.bytes (λ bytes rest. EndsFeed can_fail run feed0 bytes Nothing run rest w0 w0 held0 held0)
  line_none none place =
      known_with feed0.bytes feed1.bytes _ _ (λ bytes rest. EndsFeed can_fail run feed0 bytes Nothing run rest w0 w0 held0 held0) none place
      (λ bytes rest answers end.
      let comes = comes_up_to feed0.line bytes (feed1.line + 1) [] [] end.0 in
      ([], (comes.0, comes.1, answers, All-nil (λ (answer : Answer). ends_feed answer.given ≡ false)), has_none run w0 held0))

  -- ---- of a refusal

  module _ (refusal : RefusedLine) (gives : GivesFault objects feed0 refusal feed1) where
    -- what it says of the bytes, by whether the feed goes on after it
    at_stop : (stop : Option Stop) → feed1.stop ≡ stop → FaultAnswers objects feed0 refusal stop feed1 × FaultComesTo objects feed0 refusal stop feed1 × FaultFits refusal.fault stop
    at_stop stop is =
        subst (λ (s : Option Stop). FaultAnswers objects feed0 refusal s feed1 × FaultComesTo objects feed0 refusal s feed1 × FaultFits refusal.fault s) is (gives.answers, gives.place, gives.fits)

    has_refusal : Leaves w0 w1 (held0 ++ added run.events.items run.is_over refusal.line (Err refusal.fault)) held1
        → Has (after_answer (feed_state run held0) (answer_of refusal)) run w0 w1 held1
    has_refusal text = record {
      events = refusal_events run.events.items run.is_over refusal.fault;
      over = refusal_over run.events.items run.is_over refusal.fault;
      text = text;
    }

    pub line_refused : feed1.stop ≡ None → ¬ IsMark refusal.fault feed1.text → Leaves w0 w1 (held0 ++ added run.events.items run.is_over refusal.line (Err refusal.fault)) held1
        → Known feed0.bytes feed1.bytes (λ bytes rest. GoesOn run feed0 bytes run feed1 rest w0 w1 held0 held1)
    line_refused going unmarked text =
        let at = at_stop None going in
        known_with feed0.bytes feed1.bytes _ _ (λ bytes rest. GoesOn run feed0 bytes run feed1 rest w0 w1 held0 held1) at.0 at.1
        (λ bytes rest answers line.
        let comes = comes_next feed0.line bytes rest refusal.line line.text line.next (λ marked.
        let bad : refusal.fault ≡ BadStamp = fault_same refusal.fault BadStamp (sym line.reading ∙ ap (line_reading objects) marked ∙ mark_reading objects) in
        unmarked (record { refused = bad; says = line.stays (λ long. absurd (cc)) ∙ marked })) in (
          answer_of refusal,
          record { before = comes.0; lines = comes.1; number = sym gives.number ∙ comes.2; answers = answers; line = gives.number; read_on = (fault_next objects feed0 feed1 refusal going gives).1 },
          has_refusal text,
        ))

    pub line_marked : IsMark refusal.fault feed1.text → Known feed0.bytes feed1.bytes (λ bytes rest. EndsFeed can_fail run feed0 bytes Steps run rest w0 w0 held0 held0)
    line_marked marked =
        let at = at_stop None (mark_goes_on feed1.stop refusal.fault marked.refused gives.fits) in
        known_with feed0.bytes feed1.bytes _ _ (λ bytes rest. EndsFeed can_fail run feed0 bytes Steps run rest w0 w0 held0 held0) at.0 at.1
        (λ bytes rest answers line.
        let is : line.text ≡ mark = sym (line.stays (λ long. let bad = marked.refused in absurd (cc))) ∙ marked.says in
        let comes = comes_marked feed0.line bytes rest refusal.line line.text line.next is in (
          [],
          (
            comes.0,
            refusal.line,
            answers_from objects feed1 rest,
            comes.1,
            comes.2,
            answers ∙ ap (λ (f : FeedFault). record { line = refusal.line; given = Err f } ∷ answers_from objects feed1 rest) marked.refused,
          ),
          has_none run w0 held0,
        ))

    line_cut : feed1.stop ≡ Some CutLine → Leaves w0 w1 (held0 ++ added run.events.items run.is_over refusal.line (Err refusal.fault)) held1
        → Known feed0.bytes feed1.bytes (λ bytes rest. EndsFeed can_fail run feed0 bytes Cut run rest w0 w1 held0 held1)
    line_cut cut text =
        let at = at_stop (Some CutLine) cut in
        let is : refusal.fault ≡ faults.Cut = sym (same_Some faults.Cut refusal.fault at.2) in
        known_with feed0.bytes feed1.bytes _ _ (λ bytes rest. EndsFeed can_fail run feed0 bytes Cut run rest w0 w1 held0 held1) at.0 at.1
        (λ bytes rest answers place.
        let comes = comes_up_to feed0.line bytes feed1.line place.0 [] place.1 in (
          answer_of refusal ∷ [],
          (
            comes.0,
            place.0,
            [],
            refusal.line,
            comes.1,
            answers ∙ ap (λ (stop : Option Stop). answer_of refusal ∷ answers_from objects (record feed1 { stop = stop }) rest) cut,
            ap (λ (f : FeedFault). record { line = refusal.line; given = Err f } ∷ []) is,
          ),
          has_refusal text,
        ))

    line_unread : (stop : Stop) → feed1.stop ≡ Some stop → refusal.fault ≡ faults.Read → Leaves w0 w1 (held0 ++ added run.events.items run.is_over refusal.line (Err refusal.fault)) held1
        → AreGivenBy can_fail objects feed0 (answer_of refusal ∷ []) → Known feed0.bytes feed1.bytes (λ bytes rest. EndsFeed can_fail run feed0 bytes Unread run rest w0 w1 held0 held1)
    line_unread stop stopped is text last =
        let at = at_stop (Some stop) stopped in
        known_some feed0.bytes feed1.bytes _ _ (λ bytes rest. EndsFeed can_fail run feed0 bytes Unread run rest w0 w1 held0 held1) at.1 last
        (λ bytes rest place given.
        let comes = stopped_at stop refusal.fault feed0.line bytes feed1.line feed1.text rest at.2 place in (
          answer_of refusal ∷ [],
          (
            comes.0,
            comes.1,
            comes.2,
            [],
            refusal.line,
            comes.3,
            gives.number ∙ comes.4,
            given,
            ap (λ (f : FeedFault). record { line = refusal.line; given = Err f } ∷ []) is,
          ),
          has_refusal text,
        ))

    pub line_stopped : (stop : Stop) → feed1.stop ≡ Some stop → Leaves w0 w1 (held0 ++ added run.events.items run.is_over refusal.line (Err refusal.fault)) held1
        → AreGivenBy can_fail objects feed0 (answer_of refusal ∷ []) → Known feed0.bytes feed1.bytes (λ bytes rest. EndsFeed can_fail run feed0 bytes (after_stop stop) run rest w0 w1 held0 held1)
    line_stopped InputEnded stopped text last = let fits : stop_fault InputEnded ≡ Some refusal.fault = (at_stop (Some InputEnded) stopped).2 in absurd (cc)
    line_stopped CutLine stopped text last = line_cut stopped text
    line_stopped stop stopped text last = line_unread stop stopped (sym (same_Some faults.Read refusal.fault (at_stop (Some stop) stopped).2)) text last

-- a front of what a refused line gives
pub refusal_front : (can_fail : Bool) (run : Run) (feed0 feed1 : Feed) (w0 w1 : Option (List ℕ)) (held : List ℕ) (refusal : RefusedLine) → GivesFault run.config.now.objects feed0 refusal feed1
    → ¬ IsMark refusal.fault feed1.text → (IsSome feed1.stop → AreGivenBy can_fail run.config.now.objects feed0 (answer_of refusal ∷ []))
    → WritesFront w0 w1 (held ++ added run.events.items run.is_over refusal.line (Err refusal.fault)) → IfSome feed0.bytes (λ bytes. ReadsFront can_fail run feed0 bytes w0 w1 held)
refusal_front can_fail run feed0 feed1 w0 w1 held refusal gives unmarked last front = by_stop feed1.stop refl
  where
    by_stop : (stop : Option Stop) → feed1.stop ≡ stop → IfSome feed0.bytes (λ bytes. ReadsFront can_fail run feed0 bytes w0 w1 held)
    by_stop None going =
        known_first feed0.bytes feed1.bytes (λ bytes rest. GoesOn run feed0 bytes run feed1 rest w0 w1 held front.0) (λ bytes. ReadsFront can_fail run feed0 bytes w0 w1 held)
        (λ bytes rest h. line_front can_fail run feed0 feed1 bytes rest h.0 w0 w1 held h.1 (front.0, h.2.text))
        (line_refused can_fail run feed0 feed1 w0 w1 held front.0 refusal gives going unmarked front.1)
    by_stop (Some stop) stopped =
        known_first feed0.bytes feed1.bytes (λ bytes rest. EndsFeed can_fail run feed0 bytes (after_stop stop) run rest w0 w1 held front.0) (λ bytes. ReadsFront can_fail run feed0 bytes w0 w1 held)
        (λ bytes rest h. (h.0, inr (after_stop stop, rest, h.1), (front.0, h.2.text)))
        (line_stopped can_fail run feed0 feed1 w0 w1 held front.0 refusal gives stop stopped front.1 (last (rw stopped refl)))

pub unmoved_join : (a b c : Run) → Unmoved a b → Unmoved b c → Unmoved a c
unmoved_join a b c h k = record {
  config = k.config ∙ h.config;
  deciders = k.deciders ∙ h.deciders;
  world = k.world ∙ h.world;
  setup = k.setup ∙ h.setup;
  posted = k.posted ∙ h.posted;
}
