-- What a configuration gives of the lines of a feed, line after line.
use Rattle.std.proofs.Common.{◌≡◌, ℕ, ◌≤◌, Bool, true, false, cond, ◌||◌, List, [], ◌∷◌, ◌++◌, None, refl, sym, ap, ◌∙◌, arith, append_assoc}
use Rattle.std.proofs.lemmas.List.Elements.{All-nil, All-push}
use Rattle.due_model.specs.declared.config.Config.{Config}
use Rattle.due_model.specs.declared.event.Event.{Event}
use Rattle.due_model.specs.declared.notice.Notice.{Notice}
use Rattle.due_model.specs.declared.zone.Zone.{Zone}
use Rattle.event_feed.specs.claims.Feed.{Answer, AreGivenBy, Feed, ends_feed}
use Rattle.event_feed.specs.Feed.{AnswersNext, PassesLines, answers_from}
use Rattle.event_feed.specs.FeedLaws.{Passed, earlier_more, known_same, known_then, passed_more, then_by}
use Rattle.text_lines.specs.claims.Lines.{pieces}
use Rattle.notices_compared.specs.Past.{ends_short, is_ended, past_after}
use Rattle.notices_compared.specs.Sides.{Follows, given_notices, line_notices, past_on}

pub or_none : (b : Bool) → b ≡ (b || false)
or_none true = refl
or_none false = refl

pub or_all : (b : Bool) → true ≡ (b || true)
or_all true = refl
or_all false = refl

-- at first nothing was given
pub follows_start : (c : Config) (zone : Zone) (start : Feed) → start.stop ≡ None → Follows c zone start [] [] false [] start
follows_start c zone start runs = record {
  answers = known_same start.bytes (λ bytes rest. answers_from c.objects start bytes ≡ [] ++ answers_from c.objects start rest) (λ bytes. refl);
  line = omega arith;
  earlier = All-nil (λ answer. answer.line ≤ start.line);
  read_on = All-nil (λ (answer : Answer). ends_feed answer.given ≡ false);
  lines_passed = known_same start.bytes _ (λ bytes. ([], refl, omega arith));
  notices = λ others. refl;
  short = λ others. refl;
  goes_on = runs;
}

-- whether some event can't be numbered
or_on : (ended b : Bool) (past past' : List Event) (others : List Answer)
    → (ended || ((b || false) || ends_short past' others)) ≡ ((ended || b) || ends_short (cond b past past') others)
or_on true b past past' others = refl
or_on false true past past' others = refl
or_on false false past past' others = refl

-- one answer more
pub follows_more : (c : Config) (zone : Zone) (start : Feed) (given : List Answer) (noticed : List (List Notice)) (ended ended' : Bool) (past : List Event) (now : Feed) (answer : Answer) (new : Feed)
    → Follows c zone start given noticed ended past now → AnswersNext c.objects now answer new → now.line ≤ new.line → answer.line ≡ new.line → PassesLines now new
    → ends_feed answer.given ≡ false → new.stop ≡ None → ended' ≡ (ended || is_ended past answer.given)
    → Follows c zone start (given ++ answer ∷ []) (noticed ++ given_notices c zone past answer.given ∷ []) ended' (past_on past answer.given) new
follows_more c zone start given noticed ended ended' past now answer new f next later number lines on goes_on is = record {
  answers = known_then start.bytes now.bytes new.bytes
      (λ bytes rest. answers_from c.objects start bytes ≡ given ++ answers_from c.objects now rest)
      (λ bytes rest. answers_from c.objects now bytes ≡ answer ∷ answers_from c.objects new rest)
      (λ bytes rest. answers_from c.objects start bytes ≡ (given ++ answer ∷ []) ++ answers_from c.objects new rest)
      f.answers next
      (λ xs ys zs p q. p ∙ ap (λ (more : List Answer). given ++ more) q ∙ sym (append_assoc given (answer ∷ []) (answers_from c.objects new zs)));
  line = omega (arith, f.line, later);
  earlier = earlier_more given answer now.line new.line later (omega (arith, number)) f.earlier;
  read_on = All-push (λ (a : Answer). ends_feed a.given ≡ false) given answer f.read_on on;
  lines_passed = known_then start.bytes now.bytes new.bytes
      (λ bytes rest. Passed start.line (pieces bytes) now.line (pieces rest))
      (λ bytes rest. Passed now.line (pieces bytes) new.line (pieces rest))
      (λ bytes rest. Passed start.line (pieces bytes) new.line (pieces rest))
      f.lines_passed lines (λ xs ys zs p q. passed_more start.line now.line new.line (pieces xs) (pieces ys) (pieces zs) p q);
  notices = λ others.
      ap (λ (all : List Answer). line_notices c zone [] all) (append_assoc given (answer ∷ []) others) ∙ f.notices (answer ∷ others)
      ∙ sym (append_assoc noticed (given_notices c zone past answer.given ∷ []) (line_notices c zone (past_on past answer.given) others));
  short = λ others.
      ap (λ (all : List Answer). ends_short [] all) (append_assoc given (answer ∷ []) others) ∙ f.short (answer ∷ others)
      ∙ ap (λ (x : Bool). ended || ((is_ended past answer.given || x) || ends_short (past_after past answer.given) others)) on
      ∙ or_on ended (is_ended past answer.given) past (past_after past answer.given) others
      ∙ ap (λ (x : Bool). x || ends_short (past_on past answer.given) others) (sym is);
  goes_on = goes_on;
}

-- what was given, and what is given of the feed after it
pub given_then : (can_fail : Bool) (c : Config) (zone : Zone) (start : Feed) (given : List Answer) (noticed : List (List Notice)) (ended : Bool) (past : List Event) (now : Feed) (others : List Answer)
    → Follows c zone start given noticed ended past now → AreGivenBy can_fail c.objects now others → AreGivenBy can_fail c.objects start (given ++ others)
given_then can_fail c zone start given noticed ended past now others f h = then_by can_fail c start now given others start.bytes now.bytes f.line f.earlier f.read_on f.answers f.lines_passed h
