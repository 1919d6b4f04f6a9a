-- How far the drawing of a picture beside a report has come.
use Rattle.std.proofs.Common.{◌≡◌, ℕ, cond, List, [], ◌∷◌, ◌++◌, Option, None, Bool, refl, sym, ap, subst, ◌∙◌, append_assoc}
use Rattle.std.proofs.lemmas.List.{append-nil}
use Rattle.due_model.specs.declared.config.Config.{Config}
use Rattle.due_model.specs.declared.event.Event.{Event}
use Rattle.due_model.specs.declared.zone.Zone.{Zone}
use Rattle.event_feed.specs.claims.Feed.{Answer, AreGivenBy, Feed}
use Rattle.command_output.specs.declared.outcome.Ending.{Ending}
use Rattle.decider.specs.claims.Fits.{Fits, Kept}
use Rattle.replay.specs.claims.Report.{ending_after, past_after}
use Rattle.written.specs.claims.Written.{Leaves, Writes, WritesFront}
use Rattle.written.specs.WrittenLaws.{front_less, front_longer, leaves_all, leaves_less, leaves_longer}
use Rattle.line_forms.specs.declared.report_line.ReportLine.{ReportLine}
use Rattle.night_marks.specs.declared.night.Night.{Night}
use Rattle.night_marks.specs.Night.{nothing_heard}
use Rattle.report_telling.specs.Lines.{answer_lines, lines_from, report_lines}
use Rattle.report_telling.specs.Told.{Form, after_all, told_all, told_report}
use Rattle.report_telling.specs.Telling.{Follows, TellsFeedFront}
use Rattle.report_telling.specs.FollowLaws.{follows_more, follows_start, given_then, some_given}
use Rattle.report_telling.specs.ToldLaws.{after-append, told-append}
use Rattle.report_picture.specs.declared.drawing.Picture.{Picture}
use Rattle.report_picture.specs.Drawing.{DrawsFeed, Ends, GoesOn, IsDrawn}
use Rattle.report_picture.specs.Nights.{night_given, night_of, night_on}

-- after these answers, which are those of the decider's past, their lines were told, and they are kept
pub record HasDrawn {T : Type 0} (form : Config → Zone → Form T) (c : Config) (zone : Zone) (start : Feed) (first : T) (before : Option (List ℕ)) (kept : Kept) (now : Feed) (teller : T) (night : Night) (after : Option (List ℕ)) (text : List ℕ) : Type 0 where
  pub given : List Answer
  pub lines : List ReportLine
  pub past : List Event
  pub follows : Follows c zone start given lines past now
  pub fits : Fits kept past
  pub is : teller ≡ after_all (form c zone) first lines
  pub leaves : Leaves before after (told_all (form c zone) first lines) text
  pub nights : (others : List Answer) → night_of c zone (given ++ others) ≡ night_on c zone past night others

pub drawn_start : {T : Type 0} (form : Config → Zone → Form T) (c : Config) (zone : Zone) (start : Feed) (first : T) (before : Option (List ℕ)) (kept : Kept) (night : Night) (text : List ℕ) → start.stop ≡ None → Fits kept [] → night ≡ nothing_heard → text ≡ []
    → HasDrawn form c zone start first before kept start first night before text
drawn_start form c zone start first before kept night text runs fits new none = record {
  given = [];
  lines = [];
  past = [];
  follows = follows_start c zone start runs;
  fits = fits;
  is = refl;
  leaves = subst (λ (held : List ℕ). Leaves before before [] held) (sym none) (leaves_all before []);
  nights = λ others. ap (λ (n : Night). night_on c zone [] n others) (sym new);
}

-- what was held back was written
pub drawn_held : {T : Type 0} (form : Config → Zone → Form T) (c : Config) (zone : Zone) (start : Feed) (first : T) (before : Option (List ℕ)) (kept : Kept) (now : Feed) (teller : T) (night : Night) (mid after : Option (List ℕ)) (text text' : List ℕ)
    → HasDrawn form c zone start first before kept now teller night mid text → Leaves mid after text text' → HasDrawn form c zone start first before kept now teller night after text'
drawn_held form c zone start first before kept now teller night mid after text text' h k = record {
  given = h.given;
  lines = h.lines;
  past = h.past;
  follows = h.follows;
  fits = h.fits;
  is = h.is;
  leaves = leaves_less before mid after (told_all (form c zone) first h.lines) text text' h.leaves k;
  nights = h.nights;
}

-- lines more were told
more_text : {T : Type 0} (form : Form T) (first teller : T) (before after : Option (List ℕ)) (lines more : List ReportLine) (text text' : List ℕ)
    → teller ≡ after_all form first lines → Leaves before after (told_all form first lines) text → text' ≡ text ++ told_all form teller more
    → Leaves before after (told_all form first (lines ++ more)) text'
more_text form first teller before after lines more text text' is leaves e =
    let all : told_all form first lines ++ told_all form teller more ≡ told_all form first (lines ++ more) =
    ap (λ t. told_all form first lines ++ told_all form t more) is ∙ sym (told-append form first lines more) in
    let longer : Leaves before after (told_all form first lines ++ told_all form teller more) (text ++ told_all form teller more) =
    leaves_longer before after (told_all form first lines) text (told_all form teller more) leaves in
    let here : Leaves before after (told_all form first lines ++ told_all form teller more) text' = subst (λ (x : List ℕ). Leaves before after (told_all form first lines ++ told_all form teller more) x) (sym e) longer in
    subst (λ (x : List ℕ). Leaves before after x text') all here

more_teller : {T : Type 0} (form : Form T) (first teller teller' : T) (lines more : List ReportLine)
    → teller ≡ after_all form first lines → teller' ≡ after_all form teller more → teller' ≡ after_all form first (lines ++ more)
more_teller form first teller teller' lines more is e = e ∙ ap (λ t. after_all form t more) is ∙ sym (after-append form first lines more)

pub drawn_on : {T : Type 0} (form : Config → Zone → Form T) (c : Config) (zone : Zone) (start : Feed) (first : T) (before : Option (List ℕ)) (kept kept' : Kept) (now new : Feed) (teller teller' : T) (night night' : Night) (after : Option (List ℕ)) (text text' : List ℕ)
    → HasDrawn form c zone start first before kept now teller night after text → GoesOn form c zone kept now teller night text kept' new teller' night' text'
    → HasDrawn form c zone start first before kept' new teller' night' after text'
drawn_on form c zone start first before kept kept' now new teller teller' night night' after text text' h on =
    let next = on.each h.past h.fits in
    let answer = next.0 in record {
      given = h.given ++ answer ∷ [];
      lines = h.lines ++ answer_lines c zone h.past answer;
      past = past_after h.past answer.given;
      follows = follows_more c zone start h.given h.lines h.past now answer new h.follows next.1;
      fits = next.2;
      is = more_teller (form c zone) first teller teller' h.lines (answer_lines c zone h.past answer) h.is next.4;
      leaves = more_text (form c zone) first teller before after h.lines (answer_lines c zone h.past answer) text text' h.is h.leaves next.3;
      nights = λ others.
          ap (λ all. night_of c zone all) (append_assoc h.given (answer ∷ []) others) ∙ h.nights (answer ∷ others)
          ∙ ap (λ b. cond b night (night_on c zone (past_after h.past answer.given) (night_given c zone h.past night answer.given) others)) next.1.numbered
          ∙ ap (λ n. night_on c zone (past_after h.past answer.given) n others) (sym next.5);
    }

-- the feed ended, the lines of all its answers were told, and all is kept
record HasEnded {T : Type 0} (form : Config → Zone → Form T) (can_fail : Bool) (c : Config) (zone : Zone) (start : Feed) (first : T) (before : Option (List ℕ)) (ending : Ending) (teller : T) (night : Night) (after : Option (List ℕ)) (text : List ℕ) : Type 0 where
  pub given : List Answer
  pub are : AreGivenBy can_fail c.objects start given
  pub ends : ending ≡ ending_after [] given
  pub is : teller ≡ after_all (form c zone) first (report_lines c zone given)
  pub leaves : Leaves before after (told_all (form c zone) first (report_lines c zone given)) text
  pub kept : night ≡ night_of c zone given

has_ended : {T : Type 0} (form : Config → Zone → Form T) (can_fail : Bool) (c : Config) (zone : Zone) (start : Feed) (first : T) (before : Option (List ℕ)) (kept : Kept) (now : Feed) (teller teller' : T) (night night' : Night) (after : Option (List ℕ)) (text text' : List ℕ) (ending : Ending)
    → HasDrawn form c zone start first before kept now teller night after text → Ends form can_fail c zone kept now teller night text ending teller' night' text'
    → HasEnded form can_fail c zone start first before ending teller' night' after text'
has_ended form can_fail c zone start first before kept now teller teller' night night' after text text' ending h ends =
    let more = ends.each h.past h.fits in
    let all : report_lines c zone (h.given ++ more.0) ≡ h.lines ++ lines_from c zone h.past more.0 = h.follows.report more.0 in record {
      given = h.given ++ more.0;
      are = given_then can_fail c zone start h.given h.lines h.past now more.0 h.follows more.1;
      ends = more.2 ∙ sym (h.follows.ending more.0);
      is = more_teller (form c zone) first teller teller' h.lines (lines_from c zone h.past more.0) h.is more.4 ∙ ap (λ (xs : List ReportLine). after_all (form c zone) first xs) (sym all);
      leaves = subst (λ (xs : List ReportLine). Leaves before after (told_all (form c zone) first xs) text') (sym all)
          (more_text (form c zone) first teller before after h.lines (lines_from c zone h.past more.0) text text' h.is h.leaves more.3);
      kept = more.5 ∙ sym (h.nights more.0);
    }

-- and then the end, all was written, and the picture was drawn
pub drawn_whole : {T : Type 0} (form : Config → Zone → Form T) (can_fail : Bool) (c : Config) (zone : Zone) (start : Feed) (first : T) (before : Option (List ℕ)) (kept : Kept) (now : Feed) (teller teller' : T) (night night' : Night) (after end : Option (List ℕ)) (text text' : List ℕ) (ending : Ending) (old new : Picture)
    → HasDrawn form c zone start first before kept now teller night after text → Ends form can_fail c zone kept now teller night text ending teller' night' text'
    → Leaves after end (text' ++ (form c zone).ended teller') [] → IsDrawn c zone night' old new
    → DrawsFeed form can_fail c zone start first ending before end old new
drawn_whole form can_fail c zone start first before kept now teller teller' night night' after end text text' ending old new h ends last drawn =
    let e = has_ended form can_fail c zone start first before kept now teller teller' night night' after text text' ending h ends in
    let lines = report_lines c zone e.given in
    let last' : Leaves after end (text' ++ (form c zone).ended (after_all (form c zone) first lines)) [] = subst (λ t. Leaves after end (text' ++ (form c zone).ended t) []) e.is last in
    let longer = leaves_longer before after (told_all (form c zone) first lines) text' ((form c zone).ended (after_all (form c zone) first lines)) e.leaves in
    let all : Leaves before end (told_report (form c zone) first lines) [] = leaves_less before after end (told_report (form c zone) first lines) (text' ++ (form c zone).ended (after_all (form c zone) first lines)) [] longer last' in (
      e.given,
      e.are,
      e.ends,
      subst (λ bytes. Writes before end bytes) (sym (append-nil all.0) ∙ all.2) all.1,
      subst (λ (n : Night). IsDrawn c zone n old new) e.kept drawn,
    )

-- a front of that was written
pub drawn_last : {T : Type 0} (form : Config → Zone → Form T) (can_fail : Bool) (c : Config) (zone : Zone) (start : Feed) (first : T) (before : Option (List ℕ)) (kept : Kept) (now : Feed) (teller teller' : T) (night night' : Night) (after end : Option (List ℕ)) (text text' : List ℕ) (ending : Ending)
    → HasDrawn form c zone start first before kept now teller night after text → Ends form can_fail c zone kept now teller night text ending teller' night' text'
    → WritesFront after end (text' ++ (form c zone).ended teller')
    → TellsFeedFront form can_fail c zone start first before end
drawn_last form can_fail c zone start first before kept now teller teller' night night' after end text text' ending h ends last =
    let e = has_ended form can_fail c zone start first before kept now teller teller' night night' after text text' ending h ends in
    let lines = report_lines c zone e.given in
    let last' : WritesFront after end (text' ++ (form c zone).ended (after_all (form c zone) first lines)) = subst (λ t. WritesFront after end (text' ++ (form c zone).ended t)) e.is last in
    let longer = leaves_longer before after (told_all (form c zone) first lines) text' ((form c zone).ended (after_all (form c zone) first lines)) e.leaves in (
      e.given,
      e.are,
      front_less before after end (told_report (form c zone) first lines) (text' ++ (form c zone).ended (after_all (form c zone) first lines)) longer last',
    )

-- a front of what is held back was written, and nothing more will be
pub drawn_cut : {T : Type 0} (form : Config → Zone → Form T) (can_fail : Bool) (c : Config) (zone : Zone) (start : Feed) (first : T) (before : Option (List ℕ)) (kept : Kept) (now : Feed) (teller : T) (night : Night) (mid after : Option (List ℕ)) (text : List ℕ)
    → HasDrawn form c zone start first before kept now teller night mid text → WritesFront mid after text → TellsFeedFront form can_fail c zone start first before after
drawn_cut form can_fail c zone start first before kept now teller night mid after text h front =
    let more = some_given can_fail c.objects now in
    let rest : List ℕ = told_all (form c zone) (after_all (form c zone) first h.lines) (lines_from c zone h.past more.0) in
    let some : WritesFront before after (told_all (form c zone) first h.lines ++ rest) =
    front_longer before after (told_all (form c zone) first h.lines) rest (front_less before mid after (told_all (form c zone) first h.lines) text h.leaves front) in
    let all : WritesFront before after (told_all (form c zone) first (h.lines ++ lines_from c zone h.past more.0)) =
    subst (λ bytes. WritesFront before after bytes) (sym (told-append (form c zone) first h.lines (lines_from c zone h.past more.0))) some in
    let lines = report_lines c zone (h.given ++ more.0) in
    let whole : WritesFront before after (told_all (form c zone) first lines) = subst (λ (xs : List ReportLine). WritesFront before after (told_all (form c zone) first xs)) (sym (h.follows.report more.0)) all in (
      h.given ++ more.0,
      given_then can_fail c zone start h.given h.lines h.past now more.0 h.follows more.1,
      front_longer before after (told_all (form c zone) first lines) ((form c zone).ended (after_all (form c zone) first lines)) whole,
    )
