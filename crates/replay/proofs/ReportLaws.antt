-- What the answers of a feeder say of the lines of its feed.
use Rattle.std.proofs.Common.{◌≡◌, ℕ, ◌≤◌, true, false, cond, ◌||◌, List, [], ◌∷◌, ◌++◌, Option, None, Some, Bool, IfNone, IfSome, Ok, Err, refl, sym, ap, subst, ◌∙◌, inl, arith, append_assoc}
use Rattle.std.proofs.lemmas.List.{append-nil}
use Rattle.std.proofs.lemmas.List.Elements.{All-nil, All-push}
use Rattle.due_model.specs.declared.config.Config.{Config}
use Rattle.due_model.specs.declared.config.Object.{Object}
use Rattle.due_model.specs.declared.event.Event.{Event}
use Rattle.due_model.specs.declared.zone.Zone.{Zone}
use Rattle.event_feed.specs.declared.fault.FeedFault.TheVariants.{Ended}
use Rattle.event_feed.specs.declared.fault.RefusedLine.{RefusedLine}
use Rattle.event_feed.specs.claims.Feed.{Answer, AreGiven, AreGivenBy, refusal, Feed, GivesEvent, GivesFault, ends_feed}
use Rattle.event_feed.specs.Feed.{answers_from}
use Rattle.text_lines.specs.claims.Lines.{pieces}
use Rattle.command_output.specs.declared.outcome.Ending.TheVariants.{Short, Whole}
use Rattle.command_output.specs.claims.ReportLine.{refused_line}
use Rattle.replay.specs.claims.Report.{answer_text, ending_after, ends_short, given_text, is_ended, past_after, report_from, report_text}
use Rattle.replay.specs.Report.{WritesPart, Ends, Follows, GoesOn, TakesAnswer, WritesReport, WritesReportFront}
use Rattle.messages.specs.declared.entries.Entry.{Entry}
use Rattle.messages.specs.claims.Entries.{event_entries}
use Rattle.decider.specs.claims.Fits.{Fits, Kept}
use Rattle.command_output.specs.declared.outcome.Ending.{Ending}
use Rattle.written.specs.claims.Written.{Leaves, Writes, WritesFront}
use Rattle.command_output.specs.claims.OutputLine.{entries_text}
use Rattle.written.specs.WrittenLaws.{front_less, front_longer, front_on, leaves_all, leaves_less, leaves_on}
use Rattle.event_feed.specs.FeedLaws.{known_same, known_then, Passed, passed_more, event_passes, fault_passes, fault_next, event_answers, earlier_more, then_by}

-- ---- an answer

-- a fact of an answer that has nothing, from another
pub if_none : {A : Type 0} (P Q : Type 0) (found : Option A) → (P → Q) → IfNone found P
    → IfNone found Q
if_none P Q None f h = f h
if_none P Q (Some a) f h = tt

-- ---- what is given of a feed

-- a line of the feed whose refusal is an answer, and the feed goes on
pub fault_taken : (objects : List Object) (past : List Event) (old new : Feed) (fault : RefusedLine) → new.stop ≡ None → GivesFault objects old fault new
    → TakesAnswer objects past old (refusal fault) new
fault_taken objects past old new fault e h = record {
  next = (fault_next objects old new fault e h).0;
  line = h.line;
  number = h.number;
  lines = fault_passes objects old fault new e h;
  numbered = refl;
  read_on = (fault_next objects old new fault e h).1;
  goes_on = e;
}

-- and the feed goes on
pub event_taken : (c : Config) (past : List Event) (old new : Feed) (event : Event) (line : ℕ) → line ≡ new.line → is_ended past (Ok event) ≡ false → GivesEvent c old event new
    → TakesAnswer c.objects past old (record { line = line; given = Ok event }) new
event_taken c past old new event line e numbered gives = record {
  next = event_answers c old new event line e gives;
  line = gives.line;
  number = e;
  lines = event_passes c old event new gives;
  numbered = numbered;
  read_on = refl;
  goes_on = gives.goes_on;
}

-- the report of an event that can't be numbered ends with it
pub report_of_end : (c : Config) (zone : Zone) (past : List Event) (answer : Answer) (more : List Answer) → is_ended past answer.given ≡ true
    → refused_line answer.line Ended ≡ report_from c zone past (answer ∷ more)
report_of_end c zone past answer more h =
    sym (ap (λ b. cond b (refused_line answer.line Ended) (given_text c zone past answer.line answer.given)
    ++ cond b [] (report_from c zone (past_after past answer.given) more)) h ∙ append-nil (refused_line answer.line Ended))

pub short_at_end : (past : List Event) (answer : Answer) (more : List Answer) → is_ended past answer.given ≡ true → Short ≡ ending_after past (answer ∷ more)
short_at_end past answer more h =
    sym (ap (λ b. cond (b || ends_feed answer.given || ends_short (past_after past answer.given) more) Short Whole) h)

pub short_at_refusal : (past : List Event) (fault : RefusedLine) → ends_feed (Err fault.fault) ≡ true → Short ≡ ending_after past (refusal fault ∷ [])
short_at_refusal past fault h = sym (ap (λ b. cond (false || b || false) Short Whole) h)

pub report_of_refusal : (c : Config) (zone : Zone) (past : List Event) (fault : RefusedLine) → refused_line fault.line fault.fault ≡ report_from c zone past (refusal fault ∷ [])
report_of_refusal c zone past fault = sym (append-nil (refused_line fault.line fault.fault))

-- ---- from line to line

-- at first nothing was given
pub follows_start : (c : Config) (zone : Zone) (start : Feed) → start.stop ≡ None → Follows c zone start [] [] [] start
follows_start c zone start runs = record {
  answers = known_same start.bytes (λ bytes rest. answers_from c.objects start bytes ≡ [] ++ answers_from c.objects start rest) (λ bytes. refl);
  line = omega arith;
  earlier = All-nil (λ answer. answer.line ≤ start.line);
  read_on = All-nil (λ (answer : Answer). ends_feed answer.given ≡ false);
  lines = known_same start.bytes _ (λ bytes. ([], refl, omega arith));
  report = λ others. refl;
  ending = λ others. refl;
  goes_on = runs;
}

-- one answer more
pub follows_more : (c : Config) (zone : Zone) (start : Feed) (given : List Answer) (text : List ℕ) (past : List Event) (now : Feed) (answer : Answer) (new : Feed)
    → Follows c zone start given text past now → TakesAnswer c.objects past now answer new
    → Follows c zone start (given ++ answer ∷ []) (text ++ answer_text c zone past answer) (past_after past answer.given) new
follows_more c zone start given text past now answer new f takes = record {
  answers = known_then start.bytes now.bytes new.bytes
      (λ bytes rest. answers_from c.objects start bytes ≡ given ++ answers_from c.objects now rest)
      (λ bytes rest. answers_from c.objects now bytes ≡ answer ∷ answers_from c.objects new rest)
      (λ bytes rest. answers_from c.objects start bytes ≡ (given ++ answer ∷ []) ++ answers_from c.objects new rest)
      f.answers takes.next
      (λ xs ys zs p q. p ∙ ap (λ more. given ++ more) q ∙ sym (append_assoc given (answer ∷ []) (answers_from c.objects new zs)));
  line = omega (arith, f.line, takes.line);
  earlier = earlier_more given answer now.line new.line (omega (arith, takes.line)) (omega (arith, takes.number)) f.earlier;
  read_on = All-push (λ (a : Answer). ends_feed a.given ≡ false) given answer f.read_on takes.read_on;
  lines = known_then start.bytes now.bytes new.bytes
      (λ bytes rest. Passed start.line (pieces bytes) now.line (pieces rest))
      (λ bytes rest. Passed now.line (pieces bytes) new.line (pieces rest))
      (λ bytes rest. Passed start.line (pieces bytes) new.line (pieces rest))
      f.lines takes.lines (λ xs ys zs p q. passed_more start.line now.line new.line (pieces xs) (pieces ys) (pieces zs) p q);
  report = λ others.
      ap (λ all. report_text c zone all) (append_assoc given (answer ∷ []) others) ∙ f.report (answer ∷ others)
      ∙ ap (λ b. text ++ (answer_text c zone past answer ++ cond b [] (report_from c zone (past_after past answer.given) others))) takes.numbered
      ∙ sym (append_assoc text (answer_text c zone past answer) (report_from c zone (past_after past answer.given) others));
  ending = λ others.
      ap (λ all. ending_after [] all) (append_assoc given (answer ∷ []) others) ∙ f.ending (answer ∷ others)
      ∙ ap (λ b. cond (b || ends_feed answer.given || ends_short (past_after past answer.given) others) Short Whole) takes.numbered
      ∙ ap (λ b. cond (false || b || ends_short (past_after past answer.given) others) Short Whole) takes.read_on;
  goes_on = takes.goes_on;
}

-- what was given, and what is given of the feed after it
pub given_then : (can_fail : Bool) (c : Config) (zone : Zone) (start : Feed) (given : List Answer) (text : List ℕ) (past : List Event) (now : Feed) (others : List Answer)
    → Follows c zone start given text past now → AreGivenBy can_fail c.objects now others → AreGivenBy can_fail c.objects start (given ++ others)
given_then can_fail c zone start given text past now others f h = then_by can_fail c start now given others start.bytes now.bytes f.line f.earlier f.read_on f.answers f.lines h

-- some answers are given of a feed
some_by : (can_fail : Bool) (objects : List Object) (feed : Feed) (bytes : Option (List ℕ)) → (given : List Answer) × IfSome bytes (λ before. AreGiven can_fail given (answers_from objects feed before) feed.line (pieces before))
some_by can_fail objects feed None = ([], tt)
some_by can_fail objects feed (Some bytes) = (answers_from objects feed bytes, inl refl)

pub some_given : (can_fail : Bool) (objects : List Object) (feed : Feed) → (given : List Answer) × AreGivenBy can_fail objects feed given
some_given can_fail objects feed = some_by can_fail objects feed feed.bytes

-- ---- the text of an event

-- that is decided, and that can't be numbered
pub text_of_event : (c : Config) (zone : Zone) (past : List Event) (line : ℕ) (e : Event) → is_ended past (Ok e) ≡ false
    → entries_text c (event_entries c zone e past) ≡ answer_text c zone past (record { line = line; given = Ok e })
text_of_event c zone past line e h = sym (ap (λ b. cond b (refused_line line Ended) (entries_text c (event_entries c zone e past))) h)

pub text_of_end : (c : Config) (zone : Zone) (past : List Event) (line : ℕ) (e : Event) → is_ended past (Ok e) ≡ true
    → refused_line line Ended ≡ answer_text c zone past (record { line = line; given = Ok e })
text_of_end c zone past line e h = sym (ap (λ b. cond b (refused_line line Ended) (entries_text c (event_entries c zone e past))) h)

pub event_text : (c : Config) (zone : Zone) (past : List Event) (line : ℕ) (e : Event) (entries : List Entry) → entries ≡ event_entries c zone e past → is_ended past (Ok e) ≡ false
    → entries_text c entries ≡ answer_text c zone past (record { line = line; given = Ok e })
event_text c zone past line e entries are h = ap (entries_text c) are ∙ text_of_event c zone past line e h

-- ---- how far a report has come

-- after these answers, which are those of the decider's past, their lines were made
pub record HasWritten (c : Config) (zone : Zone) (start : Feed) (before : Option (List ℕ)) (kept : Kept) (now : Feed) (after : Option (List ℕ)) (held : List ℕ) : Type 0 where
  pub given : List Answer
  pub text : List ℕ
  pub past : List Event
  pub follows : Follows c zone start given text past now
  pub fits : Fits kept past
  pub leaves : Leaves before after text held

pub written_start : (c : Config) (zone : Zone) (start : Feed) (before : Option (List ℕ)) (kept : Kept) (held : List ℕ) → start.stop ≡ None → Fits kept [] → held ≡ []
    → HasWritten c zone start before kept start before held
written_start c zone start before kept held runs fits none = record {
  given = [];
  text = [];
  past = [];
  follows = follows_start c zone start runs;
  fits = fits;
  leaves = subst (λ held. Leaves before before [] held) (sym none) (leaves_all before []);
}

-- what was held back was written
pub written_held : (c : Config) (zone : Zone) (start : Feed) (before : Option (List ℕ)) (kept : Kept) (now : Feed) (mid after : Option (List ℕ)) (held held' : List ℕ)
    → HasWritten c zone start before kept now mid held → Leaves mid after held held' → HasWritten c zone start before kept now after held'
written_held c zone start before kept now mid after held held' h k = record {
  given = h.given;
  text = h.text;
  past = h.past;
  follows = h.follows;
  fits = h.fits;
  leaves = leaves_less before mid after h.text held held' h.leaves k;
}

pub written_more : (c : Config) (zone : Zone) (start : Feed) (before : Option (List ℕ)) (kept kept' : Kept) (now new : Feed) (mid after : Option (List ℕ)) (held held' : List ℕ)
    → HasWritten c zone start before kept now mid held → GoesOn c zone kept now mid held kept' new after held' → HasWritten c zone start before kept' new after held'
written_more c zone start before kept kept' now new mid after held held' h on =
    let next = on.each h.past h.fits in record {
      given = h.given ++ next.0 ∷ [];
      text = h.text ++ answer_text c zone h.past next.0;
      past = past_after h.past next.0.given;
      follows = follows_more c zone start h.given h.text h.past now next.0 new h.follows next.1;
      fits = next.2;
      leaves = leaves_on before mid after h.text held (answer_text c zone h.past next.0) held' h.leaves next.3;
    }

-- the feed ended, and all was written
pub written_whole : (can_fail : Bool) (c : Config) (zone : Zone) (start : Feed) (before : Option (List ℕ)) (kept : Kept) (now : Feed) (mid after end : Option (List ℕ)) (held held' : List ℕ) (ending : Ending)
    → HasWritten c zone start before kept now mid held → Ends can_fail c zone kept now mid held ending after held' → Leaves after end held' []
    → WritesReport can_fail c zone start ending before end
written_whole can_fail c zone start before kept now mid after end held held' ending h ends last =
    let more = ends.each h.past h.fits in
    let text : Leaves before after (h.text ++ report_from c zone h.past more.0) held' = leaves_on before mid after h.text held (report_from c zone h.past more.0) held' h.leaves more.3 in
    let all : Leaves before end (h.text ++ report_from c zone h.past more.0) [] = leaves_less before after end (h.text ++ report_from c zone h.past more.0) held' [] text last in (
      h.given ++ more.0,
      given_then can_fail c zone start h.given h.text h.past now more.0 h.follows more.1,
      more.2 ∙ sym (h.follows.ending more.0),
      subst (λ bytes. Writes before end bytes) (sym (append-nil all.0) ∙ all.2 ∙ sym (h.follows.report more.0)) all.1,
    )

-- the feed ended, and a front was written
pub written_cut : (can_fail : Bool) (c : Config) (zone : Zone) (start : Feed) (before : Option (List ℕ)) (kept : Kept) (now : Feed) (mid after end : Option (List ℕ)) (held held' : List ℕ) (ending : Ending)
    → HasWritten c zone start before kept now mid held → Ends can_fail c zone kept now mid held ending after held' → WritesFront after end held'
    → WritesReportFront can_fail c zone start before end
written_cut can_fail c zone start before kept now mid after end held held' ending h ends last =
    let more = ends.each h.past h.fits in
    let text : Leaves before after (h.text ++ report_from c zone h.past more.0) held' = leaves_on before mid after h.text held (report_from c zone h.past more.0) held' h.leaves more.3 in (
      h.given ++ more.0,
      given_then can_fail c zone start h.given h.text h.past now more.0 h.follows more.1,
      subst (λ all. WritesFront before end all) (sym (h.follows.report more.0)) (front_less before after end (h.text ++ report_from c zone h.past more.0) held' text last),
    )

-- a line broke off
pub written_front : (can_fail : Bool) (c : Config) (zone : Zone) (start : Feed) (before : Option (List ℕ)) (kept : Kept) (now : Feed) (mid after : Option (List ℕ)) (held : List ℕ)
    → HasWritten c zone start before kept now mid held → WritesPart can_fail c zone kept now mid held after → WritesReportFront can_fail c zone start before after
written_front can_fail c zone start before kept now mid after held h breaks =
    let more = breaks.each h.past h.fits in (
      h.given ++ more.0,
      given_then can_fail c zone start h.given h.text h.past now more.0 h.follows more.1,
      subst (λ all. WritesFront before after all) (sym (h.follows.report more.0)) (front_on before mid after h.text held (report_from c zone h.past more.0) h.leaves more.2),
    )

-- what was held back broke off
pub written_less : (can_fail : Bool) (c : Config) (zone : Zone) (start : Feed) (before : Option (List ℕ)) (kept : Kept) (now : Feed) (mid after : Option (List ℕ)) (held : List ℕ)
    → HasWritten c zone start before kept now mid held → WritesFront mid after held → WritesReportFront can_fail c zone start before after
written_less can_fail c zone start before kept now mid after held h front =
    let more = some_given can_fail c.objects now in (
      h.given ++ more.0,
      given_then can_fail c zone start h.given h.text h.past now more.0 h.follows more.1,
      subst (λ all. WritesFront before after all) (sym (h.follows.report more.0))
          (front_longer before after h.text (report_from c zone h.past more.0) (front_less before mid after h.text held h.leaves front)),
    )

-- the same of an equal feed
pub taken_same : (objects : List Object) (past : List Event) (old : Feed) (answer : Answer) (new new' : Feed) → new' ≡ new → TakesAnswer objects past old answer new → TakesAnswer objects past old answer new'
taken_same objects past old answer new new' e h = subst (λ (f : Feed). TakesAnswer objects past old answer f) (sym e) h
