-- A search through a feed, from line to line.
use Rattle.std.proofs.Common.{◌≡◌, ℕ, ◌≤◌, true, false, cond, List, [], ◌∷◌, ◌++◌, length, None, Bool, Ok, Err, Result, IsErrAnd, IsErrOf, IfNone, Option, Some, get_or, take, drop, suc, zero, ◌<◌, refl, sym, ap, subst, ◌∙◌, arith, append_assoc}
use Rattle.std.proofs.lemmas.List.{append-nil}
use Rattle.std.proofs.lemmas.List.Elements.{All-nil, All-push}
use Rattle.due_model.specs.declared.config.Config.{Config}
use Rattle.due_model.specs.declared.config.Object.{Object}
use Rattle.due_model.specs.declared.event.Event.{Event}
use Rattle.due_model.specs.declared.notice.Notice.{Notice}
use Rattle.due_model.specs.declared.zone.Zone.{Zone}
use Rattle.event_feed.specs.declared.fault.FeedFault.{FeedFault}
use Rattle.event_feed.specs.declared.fault.RefusedLine.{RefusedLine}
use Rattle.event_feed.specs.claims.Feed.{Answer, AreGivenBy, Feed, GivesEvent, GivesFault, ends_feed, refusal}
use Rattle.event_feed.specs.Feed.{answers_from}
use Rattle.event_feed.specs.FeedLaws.{Passed, earlier_more, event_answers, event_passes, fault_next, fault_passes, known_same, known_then, passed_more, then_by}
use Rattle.text_lines.specs.claims.Lines.{pieces}
use Rattle.decider.specs.claims.Fits.{Fits, Kept}
use Rattle.messages.specs.declared.entries.Entry.{Entry}
use Rattle.messages.specs.declared.entries.Entry.TheVariants.{Sent}
use Rattle.messages.specs.Entries.{notice_in, notices_in}
use Rattle.due_feed.specs.declared.looker.LookFault.{LookFault}
use Rattle.due_feed.specs.declared.looker.LookFault.TheVariants.{NoMemory, Stopped}
use Rattle.due_feed.specs.Search.{Ends, Follows, GoesOn, Stops, TakesAnswer, given_notices}
use Rattle.due_feed.specs.Seen.{IsSeen, IsStopped, due_of, is_ended, past_after, past_from, past_of}

-- ---- what is taken of a feed

-- a line that is read over
pub fault_taken : (objects : List Object) (past : List Event) (old new : Feed) (fault : RefusedLine) → new.stop ≡ None → GivesFault objects old fault new
    → TakesAnswer objects past old (refusal fault) new
fault_taken objects past old new fault e h = record {
  next = (fault_next objects old new fault e h).0;
  line = h.line;
  number = h.number;
  lines = fault_passes objects old fault new e h;
  numbered = refl;
  read_on = (fault_next objects old new fault e h).1;
  goes_on = e;
}

-- an event
pub event_taken : (c : Config) (past : List Event) (old new : Feed) (event : Event) → is_ended past (Ok event) ≡ false → GivesEvent c old event new
    → TakesAnswer c.objects past old (record { line = new.line; given = Ok event }) new
event_taken c past old new event numbered gives = record {
  next = event_answers c old new event new.line refl gives;
  line = gives.line;
  number = refl;
  lines = event_passes c old event new gives;
  numbered = numbered;
  read_on = refl;
  goes_on = gives.goes_on;
}

-- the same of an equal feed
pub taken_same : (objects : List Object) (past : List Event) (old : Feed) (answer : Answer) (new new' : Feed) → new' ≡ new → TakesAnswer objects past old answer new
    → TakesAnswer objects past old answer new'
taken_same objects past old answer new new' e h = subst (λ (f : Feed). TakesAnswer objects past old answer f) (sym e) h

-- the past after an event that can't be numbered, whatever comes after it
pub past_at_end : (past : List Event) (answer : Answer) (others : List Answer) → is_ended past answer.given ≡ true
    → past_from past (answer ∷ others) ≡ past
past_at_end past answer others h = ap (λ (b : Bool). cond b past (past_from (past_after past answer.given) others)) h

past_on : (past : List Event) (answer : Answer) (others : List Answer) → is_ended past answer.given ≡ false
    → past_from past (answer ∷ others) ≡ past_from (past_after past answer.given) others
past_on past answer others h = ap (λ (b : Bool). cond b past (past_from (past_after past answer.given) others)) h

-- a fact of an answer that has nothing, from another
pub if_none : {A : Type 0} (P Q : Type 0) (found : Option A) → (P → Q) → IfNone found P → IfNone found Q
if_none P Q None f h = f h
if_none P Q (Some a) f h = tt

-- where memory ran out who looks didn't stop
pub no_memory : {T : Type 0} (r : Result T LookFault) → IsErrAnd r (λ (fault : LookFault). fault ≡ NoMemory) → IsErrOf r Stopped → ⊥
no_memory (Ok x) h is = h
no_memory (Err y) h is = cc

-- the same fault of a call of another type
abbrev fault_in : {T E : Type 0} → E → Result T E → E
fault_in d (Ok x) = d
fault_in d (Err y) = y

pub same_fault : {T U E : Type 0} (y z : E) → ◌≡◌ {A = Result T E} (Err y) (Err z) → IsErrOf {T = U} (Err y) z
same_fault y z e = ap Err (ap (fault_in y) e)

-- three equal parts
pub same_all : (c c' : Config) (zone zone' : Zone) (feed feed' : Feed) → c' ≡ c → zone' ≡ zone → feed' ≡ feed
    → ◌≡◌ {A = Config × Zone × Feed} (c', zone', feed') (c, zone, feed)
same_all c c' zone zone' feed feed' e f h =
    ap (λ (x : Config). (x, zone', feed')) e ∙ ap (λ (x : Zone). (c, x, feed')) f ∙ ap (λ (x : Feed). (c, zone, x)) h

-- ---- what is due

-- the notices among entries before one, its notice, and those after it
pub notices_split : (entries : List Entry) (k : ℕ) (d : Entry) (n : Notice) → get_or entries k d ≡ Sent n → k < length entries
    → notices_in entries ≡ notices_in (take k entries) ++ n ∷ notices_in (drop (suc k) entries)
notices_split [] k d n is within = absurd (omega (arith, within))
notices_split (e ∷ es) zero d n is within = ap (λ (x : Entry). notice_in x ++ notices_in es) is
notices_split (e ∷ es) (suc k) d n is within =
    ap (λ (ns : List Notice). notice_in e ++ ns) (notices_split es k d n is (omega (arith, within)))
    ∙ sym (append_assoc (notice_in e) (notices_in (take k es)) (n ∷ notices_in (drop (suc k) es)))

-- after one answer more
due_step : (c : Config) (zone : Zone) (past : List Event) (given : Result Event FeedFault)
    → due_of c zone (past_after past given) ≡ due_of c zone past ++ given_notices c zone past given
due_step c zone past (Ok event) = refl
due_step c zone past (Err fault) = sym (append-nil (due_of c zone past))

abbrev Grows : Config → Zone → (past : List Event) → List Answer → Type 0
Grows c zone past given = (more : List Notice) × (due_of c zone (past_from past given) ≡ due_of c zone past ++ more)

grows_by : (c : Config) (zone : Zone) (past : List Event) (answer : Answer) (others : List Answer) → Grows c zone (past_after past answer.given) others
    → (b : Bool) → is_ended past answer.given ≡ b → Grows c zone past (answer ∷ others)
grows_by c zone past answer others rest true e =
    ([], ap (λ (es : List Event). due_of c zone es) (past_at_end past answer others e) ∙ sym (append-nil (due_of c zone past)))
grows_by c zone past answer others rest false e = (
  given_notices c zone past answer.given ++ rest.0,
  ap (λ (es : List Event). due_of c zone es) (past_on past answer others e) ∙ rest.1
      ∙ ap (λ (ns : List Notice). ns ++ rest.0) (due_step c zone past answer.given)
      ∙ append_assoc (due_of c zone past) (given_notices c zone past answer.given) rest.0,
)

-- after more answers
grows : (c : Config) (zone : Zone) (past : List Event) (given : List Answer) → Grows c zone past given
grows c zone past [] = ([], sym (append-nil (due_of c zone past)))
grows c zone past (answer ∷ others) =
    grows_by c zone past answer others (grows c zone (past_after past answer.given) others) (is_ended past answer.given) refl

-- ---- from line to line

follows_start : (c : Config) (start : Feed) → start.stop ≡ None → Follows c start [] [] start
follows_start c start runs = record {
  answers = known_same start.bytes (λ bytes rest. answers_from c.objects start bytes ≡ [] ++ answers_from c.objects start rest) (λ bytes. refl);
  line = omega arith;
  earlier = All-nil (λ answer. answer.line ≤ start.line);
  read_on = All-nil (λ (answer : Answer). ends_feed answer.given ≡ false);
  lines = known_same start.bytes _ (λ bytes. ([], refl, omega arith));
  past_is = λ others. refl;
  goes_on = runs;
}

follows_more : (c : Config) (start : Feed) (given : List Answer) (past : List Event) (now : Feed) (answer : Answer) (new : Feed)
    → Follows c start given past now → TakesAnswer c.objects past now answer new
    → Follows c start (given ++ answer ∷ []) (past_after past answer.given) new
follows_more c start given past now answer new f takes = record {
  answers = known_then start.bytes now.bytes new.bytes
      (λ bytes rest. answers_from c.objects start bytes ≡ given ++ answers_from c.objects now rest)
      (λ bytes rest. answers_from c.objects now bytes ≡ answer ∷ answers_from c.objects new rest)
      (λ bytes rest. answers_from c.objects start bytes ≡ (given ++ answer ∷ []) ++ answers_from c.objects new rest)
      f.answers takes.next
      (λ xs ys zs p q. p ∙ ap (λ more. given ++ more) q ∙ sym (append_assoc given (answer ∷ []) (answers_from c.objects new zs)));
  line = omega (arith, f.line, takes.line);
  earlier = earlier_more given answer now.line new.line (omega (arith, takes.line)) (omega (arith, takes.number)) f.earlier;
  read_on = All-push (λ (a : Answer). ends_feed a.given ≡ false) given answer f.read_on takes.read_on;
  lines = known_then start.bytes now.bytes new.bytes
      (λ bytes rest. Passed start.line (pieces bytes) now.line (pieces rest))
      (λ bytes rest. Passed now.line (pieces bytes) new.line (pieces rest))
      (λ bytes rest. Passed start.line (pieces bytes) new.line (pieces rest))
      f.lines takes.lines (λ xs ys zs p q. passed_more start.line now.line new.line (pieces xs) (pieces ys) (pieces zs) p q);
  past_is = λ others.
      ap (λ (all : List Answer). past_of all) (append_assoc given (answer ∷ []) others) ∙ f.past_is (answer ∷ others)
      ∙ past_on past answer others takes.numbered;
  goes_on = takes.goes_on;
}

-- what was given, and what is given of the feed after it
given_then : (can_fail : Bool) (c : Config) (start : Feed) (given : List Answer) (past : List Event) (now : Feed) (others : List Answer)
    → Follows c start given past now → AreGivenBy can_fail c.objects now others → AreGivenBy can_fail c.objects start (given ++ others)
given_then can_fail c start given past now others f h =
    then_by can_fail c start now given others start.bytes now.bytes f.line f.earlier f.read_on f.answers f.lines h

-- ---- how far a search has come

-- after these answers, which are those of the decider's past, all that they make due was seen
pub record HasSeen {L : Type 0} (c : Config) (zone : Zone) (start : Feed) (kept : Kept) (now : Feed) (count : ℕ) (saw : L → List Notice → L → Type 0) (before after : L) : Type 0 where
  pub given : List Answer
  pub past : List Event
  pub follows : Follows c start given past now
  pub fits : Fits kept past
  pub count_is : count ≡ length past
  pub seen : saw before (due_of c zone past) after

module _ {L : Type 0} (saw : L → List Notice → L → Type 0) (stays : (s : L) → saw s [] s)
    (follows : (a b c : L) (one two : List Notice) → saw a one b → saw b two c → saw a (one ++ two) c) (c : Config) (zone : Zone) (start : Feed) (before : L) where
  pub seen_start : (kept : Kept) (count : ℕ) → start.stop ≡ None → Fits kept [] → count ≡ 0 → HasSeen c zone start kept start count saw before before
  seen_start kept count runs fits none = record {
    given = [];
    past = [];
    follows = follows_start c start runs;
    fits = fits;
    count_is = none;
    seen = stays before;
  }

  pub seen_more : (kept kept' : Kept) (now new : Feed) (count count' : ℕ) (mid after : L)
      → HasSeen c zone start kept now count saw before mid → GoesOn c zone kept now count kept' new count' saw mid after
      → HasSeen c zone start kept' new count' saw before after
  seen_more kept kept' now new count count' mid after h on =
      let next = on.each h.past h.fits h.count_is in record {
        given = h.given ++ next.0 ∷ [];
        past = past_after h.past next.0.given;
        follows = follows_more c start h.given h.past now next.0 new h.follows next.1;
        fits = next.2;
        count_is = next.3;
        seen = subst (λ (ns : List Notice). saw before ns after) (sym (due_step c zone h.past next.0.given))
            (follows before mid after (due_of c zone h.past) (given_notices c zone h.past next.0.given) h.seen next.4);
      }

  pub seen_all : (can_fail : Bool) (kept : Kept) (now : Feed) (count count' : ℕ) (mid after : L)
      → HasSeen c zone start kept now count saw before mid → Ends can_fail c kept now count count' saw mid after
      → IsSeen can_fail c zone start saw count' before after
  seen_all can_fail kept now count count' mid after h ends =
      let more = ends.each h.past h.fits in
      let past : past_of (h.given ++ more.0) ≡ h.past = h.follows.past_is more.0 ∙ more.2 in record {
        given = h.given ++ more.0;
        are = given_then can_fail c start h.given h.past now more.0 h.follows more.1;
        saw_all = subst (λ (es : List Event). saw before (due_of c zone es) after) (sym past)
            (subst (λ (ns : List Notice). saw before ns after) (append-nil (due_of c zone h.past))
            (follows before mid after (due_of c zone h.past) [] h.seen ends.seen));
        count_is = ends.same ∙ h.count_is ∙ ap (λ (es : List Event). length es) (sym past);
      }

  pub seen_stopped : (can_fail : Bool) (kept : Kept) (now : Feed) (count : ℕ) (stops : L → Notice → L → Type 0) (mid after : L)
      → HasSeen c zone start kept now count saw before mid → Stops can_fail c zone kept now saw stops mid after
      → IsStopped can_fail c zone start saw stops before after
  seen_stopped can_fail kept now count stops mid after h stopped =
      let next = stopped.each h.past h.fits in
      let answer = next.0 in
      let among = next.4 in
      let past = h.past in
      let more = grows c zone (past_after past answer.given) next.1 in
      let all : due_of c zone (past_of (h.given ++ answer ∷ next.1)) ≡ (due_of c zone past ++ among.first) ++ among.at ∷ (among.others ++ more.0) =
      ap (λ (es : List Event). due_of c zone es) (h.follows.past_is (answer ∷ next.1) ∙ past_on past answer next.1 next.3) ∙ more.1
      ∙ ap (λ (ns : List Notice). ns ++ more.0) (due_step c zone past answer.given ∙ ap (λ (ns : List Notice). due_of c zone past ++ ns) among.are)
      ∙ append_assoc (due_of c zone past) (among.first ++ among.at ∷ among.others) more.0
      ∙ ap (λ (ns : List Notice). due_of c zone past ++ ns) (append_assoc among.first (among.at ∷ among.others) more.0)
      ∙ sym (append_assoc (due_of c zone past) among.first (among.at ∷ (among.others ++ more.0))) in
      record {
        given = h.given ++ answer ∷ next.1;
        are = given_then can_fail c start h.given past now (answer ∷ next.1) h.follows next.2;
        among = record {
          first = due_of c zone past ++ among.first;
          at = among.at;
          others = among.others ++ more.0;
          are = all;
          middle = among.middle;
          saw_first = follows before mid among.middle (due_of c zone past) among.first h.seen among.saw_first;
          stopped = among.stopped;
        };
      }
