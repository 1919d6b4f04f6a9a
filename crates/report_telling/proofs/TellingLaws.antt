-- What is told of the lines of a feed.
use Rattle.std.proofs.Common.{◌≡◌, ℕ, List, [], ◌∷◌, ◌++◌, Option, None, Bool, refl, sym, ap, subst, ◌∙◌}
use Rattle.std.proofs.lemmas.List.{append-nil}
use Rattle.due_model.specs.declared.config.Config.{Config}
use Rattle.due_model.specs.declared.event.Event.{Event}
use Rattle.due_model.specs.declared.zone.Zone.{Zone}
use Rattle.event_feed.specs.claims.Feed.{Answer, AreGivenBy, Feed}
use Rattle.command_output.specs.declared.outcome.Ending.{Ending}
use Rattle.decider.specs.claims.Fits.{Fits, Kept}
use Rattle.replay.specs.claims.Report.{ending_after, past_after}
use Rattle.written.specs.claims.Written.{Leaves, Writes, WritesFront}
use Rattle.written.specs.WrittenLaws.{front_less, front_longer, front_on, leaves_all, leaves_less, leaves_on}
use Rattle.line_forms.specs.declared.report_line.ReportLine.{ReportLine}
use Rattle.report_telling.specs.Lines.{answer_lines, lines_from, report_lines}
use Rattle.report_telling.specs.Told.{Form, after_all, told_all, told_report}
use Rattle.report_telling.specs.Telling.{Ends, Follows, GoesOn, TellsFeed, TellsFeedFront, TellsPart}
use Rattle.report_telling.specs.ToldLaws.{after-append, told-append}
use Rattle.report_telling.specs.FollowLaws.{follows_start, follows_more, given_then, some_given}

-- ---- how far the telling has come

-- after these answers, which are those of the decider's past, their lines were told
pub record HasTold {T : Type 0} (form : Config → Zone → Form T) (c : Config) (zone : Zone) (start : Feed) (first : T) (before : Option (List ℕ)) (kept : Kept) (now : Feed) (teller : T) (after : Option (List ℕ)) (held : List ℕ) : Type 0 where
  pub given : List Answer
  pub lines : List ReportLine
  pub past : List Event
  pub follows : Follows c zone start given lines past now
  pub fits : Fits kept past
  pub is : teller ≡ after_all (form c zone) first lines
  pub leaves : Leaves before after (told_all (form c zone) first lines) held

pub told_start : {T : Type 0} (form : Config → Zone → Form T) (c : Config) (zone : Zone) (start : Feed) (first : T) (before : Option (List ℕ)) (kept : Kept) (held : List ℕ) → start.stop ≡ None → Fits kept [] → held ≡ []
    → HasTold form c zone start first before kept start first before held
told_start form c zone start first before kept held runs fits none = record {
  given = [];
  lines = [];
  past = [];
  follows = follows_start c zone start runs;
  fits = fits;
  is = refl;
  leaves = subst (λ held. Leaves before before [] held) (sym none) (leaves_all before []);
}

-- what was held back was written
pub told_held : {T : Type 0} (form : Config → Zone → Form T) (c : Config) (zone : Zone) (start : Feed) (first : T) (before : Option (List ℕ)) (kept : Kept) (now : Feed) (teller teller' : T) (mid after : Option (List ℕ)) (held held' : List ℕ)
    → HasTold form c zone start first before kept now teller mid held → Leaves mid after held held' → teller' ≡ teller → HasTold form c zone start first before kept now teller' after held'
told_held form c zone start first before kept now teller teller' mid after held held' h k e = record {
  given = h.given;
  lines = h.lines;
  past = h.past;
  follows = h.follows;
  fits = h.fits;
  is = e ∙ h.is;
  leaves = leaves_less before mid after (told_all (form c zone) first h.lines) held held' h.leaves k;
}

-- lines more were told
more_told : {T : Type 0} (form : Form T) (first teller : T) (before mid after : Option (List ℕ)) (lines more : List ReportLine) (held held' : List ℕ)
    → teller ≡ after_all form first lines → Leaves before mid (told_all form first lines) held → Leaves mid after (held ++ told_all form teller more) held'
    → Leaves before after (told_all form first (lines ++ more)) held'
more_told form first teller before mid after lines more held held' is leaves step =
    let step' : Leaves mid after (held ++ told_all form (after_all form first lines) more) held' = subst (λ t. Leaves mid after (held ++ told_all form t more) held') is step in
    subst (λ all. Leaves before after all held') (sym (told-append form first lines more))
    (leaves_on before mid after (told_all form first lines) held (told_all form (after_all form first lines) more) held' leaves step')

after_more : {T : Type 0} (form : Form T) (first teller teller' : T) (lines more : List ReportLine)
    → teller ≡ after_all form first lines → teller' ≡ after_all form teller more → teller' ≡ after_all form first (lines ++ more)
after_more form first teller teller' lines more is e = e ∙ ap (λ t. after_all form t more) is ∙ sym (after-append form first lines more)

pub told_on : {T : Type 0} (form : Config → Zone → Form T) (c : Config) (zone : Zone) (start : Feed) (first : T) (before : Option (List ℕ)) (kept kept' : Kept) (now new : Feed) (teller teller' : T) (mid after : Option (List ℕ)) (held held' : List ℕ)
    → HasTold form c zone start first before kept now teller mid held → GoesOn form c zone kept now teller mid held kept' new teller' after held' → HasTold form c zone start first before kept' new teller' after held'
told_on form c zone start first before kept kept' now new teller teller' mid after held held' h on =
    let next = on.each h.past h.fits in record {
      given = h.given ++ next.0 ∷ [];
      lines = h.lines ++ answer_lines c zone h.past next.0;
      past = past_after h.past next.0.given;
      follows = follows_more c zone start h.given h.lines h.past now next.0 new h.follows next.1;
      fits = next.2;
      is = after_more (form c zone) first teller teller' h.lines (answer_lines c zone h.past next.0) h.is next.4;
      leaves = more_told (form c zone) first teller before mid after h.lines (answer_lines c zone h.past next.0) held held' h.is h.leaves next.3;
    }

-- the feed ended, and the lines of all its answers were told
record HasEnded {T : Type 0} (form : Config → Zone → Form T) (can_fail : Bool) (c : Config) (zone : Zone) (start : Feed) (first : T) (before : Option (List ℕ)) (ending : Ending) (teller : T) (after : Option (List ℕ)) (held : List ℕ) : Type 0 where
  pub given : List Answer
  pub are : AreGivenBy can_fail c.objects start given
  pub ends : ending ≡ ending_after [] given
  pub is : teller ≡ after_all (form c zone) first (report_lines c zone given)
  pub leaves : Leaves before after (told_all (form c zone) first (report_lines c zone given)) held

has_ended : {T : Type 0} (form : Config → Zone → Form T) (can_fail : Bool) (c : Config) (zone : Zone) (start : Feed) (first : T) (before : Option (List ℕ)) (kept : Kept) (now : Feed) (teller teller' : T) (mid after : Option (List ℕ)) (held held' : List ℕ) (ending : Ending)
    → HasTold form c zone start first before kept now teller mid held → Ends form can_fail c zone kept now teller mid held ending teller' after held'
    → HasEnded form can_fail c zone start first before ending teller' after held'
has_ended form can_fail c zone start first before kept now teller teller' mid after held held' ending h ends =
    let more = ends.each h.past h.fits in
    let all : report_lines c zone (h.given ++ more.0) ≡ h.lines ++ lines_from c zone h.past more.0 = h.follows.report more.0 in record {
      given = h.given ++ more.0;
      are = given_then can_fail c zone start h.given h.lines h.past now more.0 h.follows more.1;
      ends = more.2 ∙ sym (h.follows.ending more.0);
      is = after_more (form c zone) first teller teller' h.lines (lines_from c zone h.past more.0) h.is more.4 ∙ ap (λ (xs : List ReportLine). after_all (form c zone) first xs) (sym all);
      leaves = subst (λ (xs : List ReportLine). Leaves before after (told_all (form c zone) first xs) held') (sym all)
          (more_told (form c zone) first teller before mid after h.lines (lines_from c zone h.past more.0) held held' h.is h.leaves more.3);
    }

-- and then the end, and all was written
pub told_whole : {T : Type 0} (form : Config → Zone → Form T) (can_fail : Bool) (c : Config) (zone : Zone) (start : Feed) (first : T) (before : Option (List ℕ)) (kept : Kept) (now : Feed) (teller teller' : T) (mid after end : Option (List ℕ)) (held held' : List ℕ) (ending : Ending)
    → HasTold form c zone start first before kept now teller mid held → Ends form can_fail c zone kept now teller mid held ending teller' after held'
    → Leaves after end (held' ++ (form c zone).ended teller') []
    → TellsFeed form can_fail c zone start first ending before end
told_whole form can_fail c zone start first before kept now teller teller' mid after end held held' ending h ends last =
    let e = has_ended form can_fail c zone start first before kept now teller teller' mid after held held' ending h ends in
    let lines = report_lines c zone e.given in
    let last' : Leaves after end (held' ++ (form c zone).ended (after_all (form c zone) first lines)) [] = subst (λ t. Leaves after end (held' ++ (form c zone).ended t) []) e.is last in
    let all : Leaves before end (told_report (form c zone) first lines) [] =
    leaves_on before after end (told_all (form c zone) first lines) held' ((form c zone).ended (after_all (form c zone) first lines)) [] e.leaves last' in (
      e.given,
      e.are,
      e.ends,
      subst (λ bytes. Writes before end bytes) (sym (append-nil all.0) ∙ all.2) all.1,
    )

-- a front of that was written
pub told_cut : {T : Type 0} (form : Config → Zone → Form T) (can_fail : Bool) (c : Config) (zone : Zone) (start : Feed) (first : T) (before : Option (List ℕ)) (kept : Kept) (now : Feed) (teller teller' : T) (mid after end : Option (List ℕ)) (held held' : List ℕ) (ending : Ending)
    → HasTold form c zone start first before kept now teller mid held → Ends form can_fail c zone kept now teller mid held ending teller' after held'
    → WritesFront after end (held' ++ (form c zone).ended teller')
    → TellsFeedFront form can_fail c zone start first before end
told_cut form can_fail c zone start first before kept now teller teller' mid after end held held' ending h ends last =
    let e = has_ended form can_fail c zone start first before kept now teller teller' mid after held held' ending h ends in
    let lines = report_lines c zone e.given in
    let last' : WritesFront after end (held' ++ (form c zone).ended (after_all (form c zone) first lines)) = subst (λ t. WritesFront after end (held' ++ (form c zone).ended t)) e.is last in (
      e.given,
      e.are,
      front_on before after end (told_all (form c zone) first lines) held' ((form c zone).ended (after_all (form c zone) first lines)) e.leaves last',
    )

-- what is told of some lines comes before what is told of a whole report
longer : {T : Type 0} (form : Form T) (first : T) (lines all : List ReportLine) (before after : Option (List ℕ)) → all ≡ lines → WritesFront before after (told_all form first lines) → WritesFront before after (told_report form first all)
longer form first lines all before after e front =
    front_longer before after (told_all form first all) (form.ended (after_all form first all)) (subst (λ (xs : List ReportLine). WritesFront before after (told_all form first xs)) (sym e) front)

-- a line broke off
pub told_front : {T : Type 0} (form : Config → Zone → Form T) (can_fail : Bool) (c : Config) (zone : Zone) (start : Feed) (first : T) (before : Option (List ℕ)) (kept : Kept) (now : Feed) (teller : T) (mid after : Option (List ℕ)) (held : List ℕ)
    → HasTold form c zone start first before kept now teller mid held → TellsPart form can_fail c zone kept now teller mid held after → TellsFeedFront form can_fail c zone start first before after
told_front form can_fail c zone start first before kept now teller mid after held h breaks =
    let more = breaks.each h.past h.fits in
    let step : WritesFront mid after (held ++ told_all (form c zone) (after_all (form c zone) first h.lines) (lines_from c zone h.past more.0)) =
    subst (λ t. WritesFront mid after (held ++ told_all (form c zone) t (lines_from c zone h.past more.0))) h.is more.2 in
    let front : WritesFront before after (told_all (form c zone) first (h.lines ++ lines_from c zone h.past more.0)) =
    subst (λ text. WritesFront before after text) (sym (told-append (form c zone) first h.lines (lines_from c zone h.past more.0)))
    (front_on before mid after (told_all (form c zone) first h.lines) held (told_all (form c zone) (after_all (form c zone) first h.lines) (lines_from c zone h.past more.0)) h.leaves step) in (
      h.given ++ more.0,
      given_then can_fail c zone start h.given h.lines h.past now more.0 h.follows more.1,
      longer (form c zone) first (h.lines ++ lines_from c zone h.past more.0) (report_lines c zone (h.given ++ more.0)) before after (h.follows.report more.0) front,
    )

-- what was held back broke off
pub told_less : {T : Type 0} (form : Config → Zone → Form T) (can_fail : Bool) (c : Config) (zone : Zone) (start : Feed) (first : T) (before : Option (List ℕ)) (kept : Kept) (now : Feed) (teller : T) (mid after : Option (List ℕ)) (held : List ℕ)
    → HasTold form c zone start first before kept now teller mid held → WritesFront mid after held → TellsFeedFront form can_fail c zone start first before after
told_less form can_fail c zone start first before kept now teller mid after held h front =
    let more = some_given can_fail c.objects now in
    let some : WritesFront before after (told_all (form c zone) first h.lines ++ told_all (form c zone) (after_all (form c zone) first h.lines) (lines_from c zone h.past more.0)) =
    front_longer before after (told_all (form c zone) first h.lines) (told_all (form c zone) (after_all (form c zone) first h.lines) (lines_from c zone h.past more.0))
    (front_less before mid after (told_all (form c zone) first h.lines) held h.leaves front) in
    let all : WritesFront before after (told_all (form c zone) first (h.lines ++ lines_from c zone h.past more.0)) =
    subst (λ text. WritesFront before after text) (sym (told-append (form c zone) first h.lines (lines_from c zone h.past more.0))) some in (
      h.given ++ more.0,
      given_then can_fail c zone start h.given h.lines h.past now more.0 h.follows more.1,
      longer (form c zone) first (h.lines ++ lines_from c zone h.past more.0) (report_lines c zone (h.given ++ more.0)) before after (h.follows.report more.0) all,
    )
