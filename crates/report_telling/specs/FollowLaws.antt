-- What the answers of a feeder say of the lines of its feed.
use Rattle.std.proofs.Common.{◌≡◌, ℕ, ◌≤◌, true, false, cond, ◌||◌, List, [], ◌∷◌, ◌++◌, Option, None, Some, Bool, IfNone, IfSome, Ok, Err, refl, sym, ap, subst, ◌∙◌, inl, arith, append_assoc}
use Rattle.std.proofs.lemmas.List.{append-nil}
use Rattle.std.proofs.lemmas.List.Elements.{All-nil, All-push}
use Rattle.due_model.specs.declared.config.Config.{Config}
use Rattle.due_model.specs.declared.config.Object.{Object}
use Rattle.due_model.specs.declared.event.Event.{Event}
use Rattle.due_model.specs.declared.zone.Zone.{Zone}
use Rattle.event_feed.specs.declared.fault.FeedFault.TheVariants.{Ended}
use Rattle.event_feed.specs.declared.fault.RefusedLine.{RefusedLine}
use Rattle.event_feed.specs.claims.Feed.{Answer, AreGiven, AreGivenBy, refusal, Feed, GivesEvent, GivesFault, ends_feed}
use Rattle.event_feed.specs.Feed.{answers_from}
use Rattle.text_lines.specs.claims.Lines.{pieces}
use Rattle.command_output.specs.declared.outcome.Ending.TheVariants.{Short, Whole}
use Rattle.replay.specs.claims.Report.{ending_after, ends_short, is_ended, past_after}
use Rattle.replay.specs.Report.{TakesAnswer}
use Rattle.event_feed.specs.FeedLaws.{known_same, known_then, Passed, passed_more, event_passes, fault_passes, fault_next, event_answers, earlier_more, then_by}
use Rattle.line_forms.specs.declared.report_line.ReportLine.{ReportLine}
use Rattle.report_telling.specs.Lines.{answer_lines, given_lines, lines_from, refusal_line, report_lines}
use Rattle.report_telling.specs.Telling.{Follows}

-- ---- an answer

-- a fact of an answer that has nothing, from another
pub if_none : {A : Type 0} (P Q : Type 0) (found : Option A) → (P → Q) → IfNone found P
    → IfNone found Q
if_none P Q None f h = f h
if_none P Q (Some a) f h = tt

-- ---- what is given of a feed

-- a line of the feed whose refusal is an answer, and the feed goes on
pub fault_taken : (objects : List Object) (past : List Event) (old new : Feed) (fault : RefusedLine) → new.stop ≡ None → GivesFault objects old fault new
    → TakesAnswer objects past old (refusal fault) new
fault_taken objects past old new fault e h = record {
  next = (fault_next objects old new fault e h).0;
  line = h.line;
  number = h.number;
  lines = fault_passes objects old fault new e h;
  numbered = refl;
  read_on = (fault_next objects old new fault e h).1;
  goes_on = e;
}

-- and the feed goes on
pub event_taken : (c : Config) (past : List Event) (old new : Feed) (event : Event) (line : ℕ) → line ≡ new.line → is_ended past (Ok event) ≡ false → GivesEvent c old event new
    → TakesAnswer c.objects past old (record { line = line; given = Ok event }) new
event_taken c past old new event line e numbered gives = record {
  next = event_answers c old new event line e gives;
  line = gives.line;
  number = e;
  lines = event_passes c old event new gives;
  numbered = numbered;
  read_on = refl;
  goes_on = gives.goes_on;
}

-- the same of an equal feed
pub taken_same : (objects : List Object) (past : List Event) (old : Feed) (answer : Answer) (new new' : Feed) → new' ≡ new → TakesAnswer objects past old answer new → TakesAnswer objects past old answer new'
taken_same objects past old answer new new' e h = subst (λ (f : Feed). TakesAnswer objects past old answer f) (sym e) h

-- ---- the lines of an answer

-- the lines of an event that is decided
pub lines_of_event : (c : Config) (zone : Zone) (past : List Event) (line : ℕ) (e : Event) → is_ended past (Ok e) ≡ false
    → given_lines c zone past line (Ok e) ≡ answer_lines c zone past (record { line = line; given = Ok e })
lines_of_event c zone past line e h = sym (ap (λ b. cond b (refusal_line line Ended ∷ []) (given_lines c zone past line (Ok e))) h)

-- of one that can't be numbered
pub lines_of_end : (c : Config) (zone : Zone) (past : List Event) (line : ℕ) (e : Event) → is_ended past (Ok e) ≡ true
    → refusal_line line Ended ∷ [] ≡ answer_lines c zone past (record { line = line; given = Ok e })
lines_of_end c zone past line e h = sym (ap (λ b. cond b (refusal_line line Ended ∷ []) (given_lines c zone past line (Ok e))) h)

-- the report of an event that can't be numbered ends with it
pub report_of_end : (c : Config) (zone : Zone) (past : List Event) (answer : Answer) (more : List Answer) → is_ended past answer.given ≡ true
    → refusal_line answer.line Ended ∷ [] ≡ lines_from c zone past (answer ∷ more)
report_of_end c zone past answer more h =
    sym (ap (λ b. cond b (refusal_line answer.line Ended ∷ []) (given_lines c zone past answer.line answer.given)
    ++ cond b [] (lines_from c zone (past_after past answer.given) more)) h ∙ append-nil (refusal_line answer.line Ended ∷ []))

pub short_at_end : (past : List Event) (answer : Answer) (more : List Answer) → is_ended past answer.given ≡ true → Short ≡ ending_after past (answer ∷ more)
short_at_end past answer more h =
    sym (ap (λ b. cond (b || ends_feed answer.given || ends_short (past_after past answer.given) more) Short Whole) h)

pub short_at_refusal : (past : List Event) (fault : RefusedLine) → ends_feed (Err fault.fault) ≡ true → Short ≡ ending_after past (refusal fault ∷ [])
short_at_refusal past fault h = sym (ap (λ b. cond (false || b || false) Short Whole) h)

-- ---- from line to line

-- at first nothing was given
pub follows_start : (c : Config) (zone : Zone) (start : Feed) → start.stop ≡ None → Follows c zone start [] [] [] start
follows_start c zone start runs = record {
  answers = known_same start.bytes (λ bytes rest. answers_from c.objects start bytes ≡ [] ++ answers_from c.objects start rest) (λ bytes. refl);
  line = omega arith;
  earlier = All-nil (λ answer. answer.line ≤ start.line);
  read_on = All-nil (λ (answer : Answer). ends_feed answer.given ≡ false);
  lines_passed = known_same start.bytes _ (λ bytes. ([], refl, omega arith));
  report = λ others. refl;
  ending = λ others. refl;
  goes_on = runs;
}

-- one answer more
pub follows_more : (c : Config) (zone : Zone) (start : Feed) (given : List Answer) (lines : List ReportLine) (past : List Event) (now : Feed) (answer : Answer) (new : Feed)
    → Follows c zone start given lines past now → TakesAnswer c.objects past now answer new
    → Follows c zone start (given ++ answer ∷ []) (lines ++ answer_lines c zone past answer) (past_after past answer.given) new
follows_more c zone start given lines past now answer new f takes = record {
  answers = known_then start.bytes now.bytes new.bytes
      (λ bytes rest. answers_from c.objects start bytes ≡ given ++ answers_from c.objects now rest)
      (λ bytes rest. answers_from c.objects now bytes ≡ answer ∷ answers_from c.objects new rest)
      (λ bytes rest. answers_from c.objects start bytes ≡ (given ++ answer ∷ []) ++ answers_from c.objects new rest)
      f.answers takes.next
      (λ xs ys zs p q. p ∙ ap (λ more. given ++ more) q ∙ sym (append_assoc given (answer ∷ []) (answers_from c.objects new zs)));
  line = omega (arith, f.line, takes.line);
  earlier = earlier_more given answer now.line new.line (omega (arith, takes.line)) (omega (arith, takes.number)) f.earlier;
  read_on = All-push (λ (a : Answer). ends_feed a.given ≡ false) given answer f.read_on takes.read_on;
  lines_passed = known_then start.bytes now.bytes new.bytes
      (λ bytes rest. Passed start.line (pieces bytes) now.line (pieces rest))
      (λ bytes rest. Passed now.line (pieces bytes) new.line (pieces rest))
      (λ bytes rest. Passed start.line (pieces bytes) new.line (pieces rest))
      f.lines_passed takes.lines (λ xs ys zs p q. passed_more start.line now.line new.line (pieces xs) (pieces ys) (pieces zs) p q);
  report = λ others.
      ap (λ all. report_lines c zone all) (append_assoc given (answer ∷ []) others) ∙ f.report (answer ∷ others)
      ∙ ap (λ b. lines ++ (answer_lines c zone past answer ++ cond b [] (lines_from c zone (past_after past answer.given) others))) takes.numbered
      ∙ sym (append_assoc lines (answer_lines c zone past answer) (lines_from c zone (past_after past answer.given) others));
  ending = λ others.
      ap (λ all. ending_after [] all) (append_assoc given (answer ∷ []) others) ∙ f.ending (answer ∷ others)
      ∙ ap (λ b. cond (b || ends_feed answer.given || ends_short (past_after past answer.given) others) Short Whole) takes.numbered
      ∙ ap (λ b. cond (false || b || ends_short (past_after past answer.given) others) Short Whole) takes.read_on;
  goes_on = takes.goes_on;
}

-- what was given, and what is given of the feed after it
pub given_then : (can_fail : Bool) (c : Config) (zone : Zone) (start : Feed) (given : List Answer) (lines : List ReportLine) (past : List Event) (now : Feed) (others : List Answer)
    → Follows c zone start given lines past now → AreGivenBy can_fail c.objects now others → AreGivenBy can_fail c.objects start (given ++ others)
given_then can_fail c zone start given lines past now others f h = then_by can_fail c start now given others start.bytes now.bytes f.line f.earlier f.read_on f.answers f.lines_passed h

-- some answers are given of a feed
some_by : (can_fail : Bool) (objects : List Object) (feed : Feed) (bytes : Option (List ℕ)) → (given : List Answer) × IfSome bytes (λ before. AreGiven can_fail given (answers_from objects feed before) feed.line (pieces before))
some_by can_fail objects feed None = ([], tt)
some_by can_fail objects feed (Some bytes) = (answers_from objects feed bytes, inl refl)

pub some_given : (can_fail : Bool) (objects : List Object) (feed : Feed) → (given : List Answer) × AreGivenBy can_fail objects feed given
some_given can_fail objects feed = some_by can_fail objects feed feed.bytes
