-- What is written of a comparison, line after line of its feed.
use Rattle.std.proofs.Common.{◌≡◌, ℕ, Bool, true, false, cond, ◌||◌, List, [], ◌∷◌, ◌++◌, length, map, Option, None, Some, IfSome, Ok, Err, refl, sym, ap, ap₂, subst, ◌∙◌, arith, append_assoc, length-append}
use Rattle.std.specs.Prelude.{is_some}
use Rattle.std.proofs.lemmas.List.{append-nil, map-append}
use Rattle.due_model.specs.declared.config.Config.{Config}
use Rattle.due_model.specs.declared.event.Event.{Event}
use Rattle.due_model.specs.declared.notice.Notice.{Notice}
use Rattle.due_model.specs.declared.zone.Zone.{Zone}
use Rattle.decider.specs.claims.Fits.{Fits, Kept}
use Rattle.event_feed.specs.declared.fault.RefusedLine.{RefusedLine}
use Rattle.event_feed.specs.claims.Feed.{Answer, AreGivenBy, Feed, ends_feed, refusal}
use Rattle.text_lines.specs.declared.line_reader.Stop.{Stop}
use Rattle.command_output.specs.declared.outcome.Ending.{Ending}
use Rattle.command_output.specs.declared.outcome.Ending.TheVariants.{Short, Whole}
use Rattle.written.specs.claims.Written.{Leaves, Writes, WritesFront}
use Rattle.written.specs.WrittenLaws.{front_less, front_longer, leaves_all, leaves_less, leaves_longer}
use Rattle.notices_compared.specs.Past.{ends_short, is_ended}
use Rattle.paired_feed.specs.declared.paired.PairedLine.{PairedLine}
use Rattle.paired_feed.specs.Paired.{EndsPair, GivesPair, first_answer, is_cut, last_answers, second_answer, since}
use Rattle.paired_feed.specs.PairedLaws.{lines_of, some_pair}
use Rattle.changed_notices.specs.declared.changed.ChangeForm.{ChangeForm}
use Rattle.changed_notices.specs.Changed.{changes_of, changes_text}
use Rattle.notices_compared.specs.Compares.{AreSameLines, changes_between, ending_of}
use Rattle.notices_compared.specs.Told.{Marked, line_marks, marks_on_line, table_between, table_of}
use Rattle.contact_tallies.specs.declared.tallies.Tallies.{Tallies}
use Rattle.contact_tallies.specs.Marks.{Mark}
use Rattle.contact_tallies.specs.Tallies.{AreTallies}
use Rattle.notices_compared.specs.Sides.{Follows, given_notices, line_notices, past_on}
use Rattle.notices_compared.specs.Stream.{WritesChanges, WritesChangesFront}
use Rattle.notices_compared.proofs.SideLaws.{follows_more, follows_start, given_then}

-- ---- the text, line by line

pub changes-append : (form : ChangeForm) (a b : Config) (zone : Zone) (nss more mss others : List (List Notice)) → length nss ≡ length mss
    → changes_text form a b zone (nss ++ more) (mss ++ others) ≡ changes_text form a b zone nss mss ++ changes_text form a b zone more others
changes-append form a b zone [] more [] others e = refl
changes-append form a b zone [] more (ms ∷ mss) others e = absurd (omega (arith, e))
changes-append form a b zone (ns ∷ nss) more [] others e = absurd (omega (arith, e))
changes-append form a b zone (ns ∷ nss) more (ms ∷ mss) others e =
    ap (λ (text : List ℕ). changes_of form a b zone ns ms ++ text) (changes-append form a b zone nss more mss others (omega (arith, e)))
    ∙ sym (append_assoc (changes_of form a b zone ns ms) (changes_text form a b zone nss mss) (changes_text form a b zone more others))

-- the line at which a feed ends changes nothing
last-text : (form : ChangeForm) (a b : Config) (zone : Zone) (past past' : List Event) (refused : Option RefusedLine)
    → changes_text form a b zone (line_notices a zone past (last_answers refused)) (line_notices b zone past' (last_answers refused)) ≡ []
last-text form a b zone past past' None = refl
last-text form a b zone past past' (Some refused) = refl

-- ---- how far it has come

-- after these answers by each configuration, the changes of their lines were made
pub record HasCompared (form : ChangeForm) (a b : Config) (zone : Zone) (start : Feed) (first : ℕ) (before : Option (List ℕ)) (kept kept' : Kept) (ended ended' : Bool) (told told' : Tallies) (now : Feed) (last : ℕ)
    (after : Option (List ℕ)) (text : List ℕ) : Type 0 where
  pub given : List Answer
  pub others : List Answer
  pub noticed : List (List Notice)
  pub noticed' : List (List Notice)
  pub past : List Event
  pub past' : List Event
  pub marks : List Mark
  pub marks' : List Mark
  pub one : Follows a zone start given noticed ended past now
  pub two : Follows b zone (since start first) others noticed' ended' past' (since now last)
  pub fits : Fits kept past
  pub fits' : Fits kept' past'
  pub marked : Marked a zone given past marks
  pub marked' : Marked b zone others past' marks'
  pub tallied : AreTallies zone (length a.contacts) marks told
  pub tallied' : AreTallies zone (length b.contacts) marks' told'
  pub same : AreSameLines given others
  pub even : length noticed ≡ length noticed'
  pub leaves : Leaves before after (changes_text form a b zone noticed noticed') text

pub compared_start : (form : ChangeForm) (a b : Config) (zone : Zone) (start : Feed) (first : ℕ) (before : Option (List ℕ)) (kept kept' : Kept) (ended ended' : Bool) (told told' : Tallies) (text : List ℕ) → start.stop ≡ None → Fits kept [] → Fits kept' []
    → ended ≡ false → ended' ≡ false → AreTallies zone (length a.contacts) [] told → AreTallies zone (length b.contacts) [] told' → text ≡ [] → HasCompared form a b zone start first before kept kept' ended ended' told told' start first before text
compared_start form a b zone start first before kept kept' ended ended' told told' text runs fits fits' e f tallied tallied' g = record {
  given = [];
  others = [];
  noticed = [];
  noticed' = [];
  past = [];
  past' = [];
  marks = [];
  marks' = [];
  one = subst (λ (x : Bool). Follows a zone start [] [] x [] start) (sym e) (follows_start a zone start runs);
  two = subst (λ (x : Bool). Follows b zone (since start first) [] [] x [] (since start first)) (sym f) (follows_start b zone (since start first) runs);
  fits = fits;
  fits' = fits';
  marked = record { marks_are = λ more. refl };
  marked' = record { marks_are = λ more. refl };
  tallied = tallied;
  tallied' = tallied';
  same = refl;
  even = refl;
  leaves = subst (λ (t : List ℕ). Leaves before before [] t) (sym g) (leaves_all before []);
}

-- what was held back was written
pub compared_held : (form : ChangeForm) (a b : Config) (zone : Zone) (start : Feed) (first : ℕ) (before : Option (List ℕ)) (kept kept' : Kept) (ended ended' : Bool) (told told' : Tallies) (now : Feed) (last : ℕ) (mid after : Option (List ℕ)) (text text' : List ℕ)
    → HasCompared form a b zone start first before kept kept' ended ended' told told' now last mid text → Leaves mid after text text' → HasCompared form a b zone start first before kept kept' ended ended' told told' now last after text'
compared_held form a b zone start first before kept kept' ended ended' told told' now last mid after text text' h k = record {
  given = h.given;
  others = h.others;
  noticed = h.noticed;
  noticed' = h.noticed';
  past = h.past;
  past' = h.past';
  marks = h.marks;
  marks' = h.marks';
  one = h.one;
  two = h.two;
  fits = h.fits;
  fits' = h.fits';
  marked = h.marked;
  marked' = h.marked';
  tallied = h.tallied;
  tallied' = h.tallied';
  same = h.same;
  even = h.even;
  leaves = leaves_less before mid after (changes_text form a b zone h.noticed h.noticed') text text' h.leaves k;
}

-- what a line of the feed does to a side
pub record Takes (c : Config) (zone : Zone) (kept : Kept) (ended : Bool) (told : Tallies) (answer : Answer) (kept' : Kept) (ended' : Bool) (told' : Tallies) : Type 0 where
  pub fits : (past : List Event) → Fits kept past → Fits kept' (past_on past answer.given)
  pub ended_is : (past : List Event) → Fits kept past → ended' ≡ (ended || is_ended past answer.given)
  pub tallied : (past : List Event) (marks : List Mark) → Fits kept past → AreTallies zone (length c.contacts) marks told → AreTallies zone (length c.contacts) (marks_on_line c zone past marks answer.given) told'

-- what counts, of one answer more
marked_more : (c : Config) (zone : Zone) (given : List Answer) (past : List Event) (marks : List Mark) (answer : Answer) → Marked c zone given past marks
    → Marked c zone (given ++ answer ∷ []) (past_on past answer.given) (marks_on_line c zone past marks answer.given)
marked_more c zone given past marks answer m =
    record { marks_are = λ others. ap (λ (all : List Answer). line_marks c zone [] [] all) (append_assoc given (answer ∷ []) others) ∙ m.marks_are (answer ∷ others) }

same_more : (given others : List Answer) (x y : Answer) → lines_of given ≡ lines_of others → x.line ≡ y.line → lines_of (given ++ x ∷ []) ≡ lines_of (others ++ y ∷ [])
same_more given others x y e f =
    map-append (λ (answer : Answer). answer.line) given (x ∷ []) ∙ ap₂ (λ (ls : List ℕ) (n : ℕ). ls ++ n ∷ []) e f ∙ sym (map-append (λ (answer : Answer). answer.line) others (y ∷ []))

same_both : (given others more more' : List Answer) → lines_of given ≡ lines_of others → lines_of more ≡ lines_of more' → lines_of (given ++ more) ≡ lines_of (others ++ more')
same_both given others more more' e f =
    map-append (λ (answer : Answer). answer.line) given more ∙ ap₂ (λ (ls ms : List ℕ). ls ++ ms) e f ∙ sym (map-append (λ (answer : Answer). answer.line) others more')

even_more : (nss mss : List (List Notice)) (ns ms : List Notice) → length nss ≡ length mss → length (nss ++ ns ∷ []) ≡ length (mss ++ ms ∷ [])
even_more nss mss ns ms e = omega (arith, e, length-append nss (ns ∷ []), length-append mss (ms ∷ []))

step-text : (form : ChangeForm) (a b : Config) (zone : Zone) (nss mss : List (List Notice)) (ns ms : List Notice) → length nss ≡ length mss
    → changes_text form a b zone (nss ++ ns ∷ []) (mss ++ ms ∷ []) ≡ changes_text form a b zone nss mss ++ changes_of form a b zone ns ms
step-text form a b zone nss mss ns ms e =
    changes-append form a b zone nss (ns ∷ []) mss (ms ∷ []) e
    ∙ ap (λ (text : List ℕ). changes_text form a b zone nss mss ++ text) (append-nil (changes_of form a b zone ns ms))

pub compared_on : (form : ChangeForm) (a b : Config) (zone : Zone) (start : Feed) (first : ℕ) (before : Option (List ℕ)) (kept kept' : Kept) (ended ended' : Bool) (told told' : Tallies) (now : Feed) (last : ℕ) (after : Option (List ℕ)) (text : List ℕ)
    (pair : PairedLine) (new : Feed) (last' : ℕ) (more more' : Kept) (ends ends' : Bool) (tells tells' : Tallies) (text' : List ℕ)
    → HasCompared form a b zone start first before kept kept' ended ended' told told' now last after text → GivesPair a b now last pair new last'
    → Takes a zone kept ended told (first_answer pair) more ends tells → Takes b zone kept' ended' told' (second_answer pair) more' ends' tells'
    → ((past past' : List Event) → Fits kept past → Fits kept' past' → text' ≡ text ++ changes_of form a b zone (given_notices a zone past pair.first) (given_notices b zone past' pair.second))
    → HasCompared form a b zone start first before more more' ends ends' tells tells' new last' after text'
compared_on form a b zone start first before kept kept' ended ended' told told' now last after text pair new last' more more' ends ends' tells tells' text' h gives takes takes' writes =
    let ns : List Notice = given_notices a zone h.past pair.first in
    let ms : List Notice = given_notices b zone h.past' pair.second in
    let step : List ℕ = changes_of form a b zone ns ms in
    let all : Leaves before after (changes_text form a b zone h.noticed h.noticed' ++ step) (text ++ step) = leaves_longer before after (changes_text form a b zone h.noticed h.noticed') text step h.leaves in
    record {
      given = h.given ++ first_answer pair ∷ [];
      others = h.others ++ second_answer pair ∷ [];
      noticed = h.noticed ++ ns ∷ [];
      noticed' = h.noticed' ++ ms ∷ [];
      past = past_on h.past pair.first;
      past' = past_on h.past' pair.second;
      marks = marks_on_line a zone h.past h.marks pair.first;
      marks' = marks_on_line b zone h.past' h.marks' pair.second;
      one = follows_more a zone start h.given h.noticed ended ends h.past now (first_answer pair) new h.one gives.first (omega (arith, gives.later)) gives.number gives.lines gives.read_on_first gives.goes_on (takes.ended_is h.past h.fits);
      two = follows_more b zone (since start first) h.others h.noticed' ended' ends' h.past' (since now last) (second_answer pair) (since new last') h.two gives.second (omega (arith, gives.later)) gives.number gives.lines gives.read_on_second gives.goes_on (takes'.ended_is h.past' h.fits');
      fits = takes.fits h.past h.fits;
      fits' = takes'.fits h.past' h.fits';
      marked = marked_more a zone h.given h.past h.marks (first_answer pair) h.marked;
      marked' = marked_more b zone h.others h.past' h.marks' (second_answer pair) h.marked';
      tallied = takes.tallied h.past h.marks h.fits h.tallied;
      tallied' = takes'.tallied h.past' h.marks' h.fits' h.tallied';
      same = same_more h.given h.others (first_answer pair) (second_answer pair) h.same refl;
      even = even_more h.noticed h.noticed' ns ms h.even;
      leaves = subst (λ (t : List ℕ). Leaves before after (changes_text form a b zone (h.noticed ++ ns ∷ []) (h.noticed' ++ ms ∷ [])) t) (sym (writes h.past h.past' h.fits h.fits'))
          (subst (λ (t : List ℕ). Leaves before after t (text ++ step)) (sym (step-text form a b zone h.noticed h.noticed' ns ms h.even)) all);
    }

-- ---- where it ends

-- the changes after these
between-more : (form : ChangeForm) (a b : Config) (zone : Zone) (start start' now now' : Feed) (given others more more' : List Answer) (noticed noticed' : List (List Notice)) (ended ended' : Bool) (past past' : List Event)
    → Follows a zone start given noticed ended past now → Follows b zone start' others noticed' ended' past' now' → length noticed ≡ length noticed'
    → changes_between form a b zone (given ++ more) (others ++ more')
    ≡ changes_text form a b zone noticed noticed' ++ changes_text form a b zone (line_notices a zone past more) (line_notices b zone past' more')
between-more form a b zone start start' now now' given others more more' noticed noticed' ended ended' past past' one two even =
    ap₂ (λ (x y : List (List Notice)). changes_text form a b zone x y) (one.notices more) (two.notices more')
    ∙ changes-append form a b zone noticed (line_notices a zone past more) noticed' (line_notices b zone past' more') even

-- a front of what is held back was written, and nothing more will be
pub compared_cut : (form : ChangeForm) (can_fail : Bool) (a b : Config) (zone : Zone) (start : Feed) (first : ℕ) (before : Option (List ℕ)) (kept kept' : Kept) (ended ended' : Bool) (told told' : Tallies) (now : Feed) (last : ℕ) (mid after : Option (List ℕ)) (text : List ℕ)
    → HasCompared form a b zone start first before kept kept' ended ended' told told' now last mid text → WritesFront mid after text → WritesChangesFront form can_fail a b zone start first before after
compared_cut form can_fail a b zone start first before kept kept' ended ended' told told' now last mid after text h front =
    let more = some_pair can_fail a.objects b.objects now last in
    let all = between-more form a b zone start (since start first) now (since now last) h.given h.others more.given more.others h.noticed h.noticed' ended ended' h.past h.past' h.one h.two h.even in
    let rest : List ℕ = changes_text form a b zone (line_notices a zone h.past more.given) (line_notices b zone h.past' more.others) in
    let table : List ℕ = table_between form a b zone (h.given ++ more.given) (h.others ++ more.others) in
    let changes : List ℕ = changes_text form a b zone h.noticed h.noticed' in
    record {
      given = h.given ++ more.given;
      others = h.others ++ more.others;
      first = given_then can_fail a zone start h.given h.noticed ended h.past now more.given h.one more.first;
      second = given_then can_fail b zone (since start first) h.others h.noticed' ended' h.past' (since now last) more.others h.two more.second;
      same = same_both h.given h.others more.given more.others h.same more.same;
      front = subst (λ (t : List ℕ). WritesFront before after (t ++ table)) (sym all)
          (subst (λ (t : List ℕ). WritesFront before after t) (sym (append_assoc changes rest table))
          (front_longer before after changes (rest ++ table) (front_less before mid after changes text h.leaves front)));
    }

-- the changes of all lines
whole-text : (form : ChangeForm) (a b : Config) (zone : Zone) (start start' now now' : Feed) (given others : List Answer) (refused : Option RefusedLine) (noticed noticed' : List (List Notice)) (ended ended' : Bool) (past past' : List Event)
    → Follows a zone start given noticed ended past now → Follows b zone start' others noticed' ended' past' now' → length noticed ≡ length noticed'
    → changes_between form a b zone (given ++ last_answers refused) (others ++ last_answers refused) ≡ changes_text form a b zone noticed noticed'
whole-text form a b zone start start' now now' given others refused noticed noticed' ended ended' past past' one two even =
    between-more form a b zone start start' now now' given others (last_answers refused) (last_answers refused) noticed noticed' ended ended' past past' one two even
    ∙ ap (λ (t : List ℕ). changes_text form a b zone noticed noticed' ++ t) (last-text form a b zone past past' refused) ∙ append-nil (changes_text form a b zone noticed noticed')

-- the line at which a feed ends counts for nothing
last-marks : (c : Config) (zone : Zone) (past : List Event) (marks : List Mark) (refused : Option RefusedLine) → line_marks c zone past marks (last_answers refused) ≡ marks
last-marks c zone past marks None = refl
last-marks c zone past marks (Some refused) = refl

-- the table is added to a text, by what the contacts were told
abbrev AddsTable : ChangeForm → (a b : Config) → Zone → (told told' : Tallies) → (text full : List ℕ) → Type 0
AddsTable form a b zone told told' text full =
    (marks others : List Mark) → AreTallies zone (length a.contacts) marks told → AreTallies zone (length b.contacts) others told' → full ≡ text ++ table_of form a b zone marks others

whole-table : (form : ChangeForm) (a b : Config) (zone : Zone) (given others : List Answer) (refused : Option RefusedLine) (past past' : List Event) (marks marks' : List Mark) (told told' : Tallies) (text full : List ℕ)
    → Marked a zone given past marks → Marked b zone others past' marks' → AreTallies zone (length a.contacts) marks told → AreTallies zone (length b.contacts) marks' told' → AddsTable form a b zone told told' text full
    → full ≡ text ++ table_between form a b zone (given ++ last_answers refused) (others ++ last_answers refused)
whole-table form a b zone given others refused past past' marks marks' told told' text full m m' t t' adds =
    adds marks marks' t t'
    ∙ ap₂ (λ (xs ys : List Mark). text ++ table_of form a b zone xs ys)
    (sym (m.marks_are (last_answers refused) ∙ last-marks a zone past marks refused))
    (sym (m'.marks_are (last_answers refused) ∙ last-marks b zone past' marks' refused))

-- the feed is over, and a front of what is held back and the table was written
pub compared_last : (form : ChangeForm) (can_fail : Bool) (a b : Config) (zone : Zone) (start : Feed) (first : ℕ) (before : Option (List ℕ)) (kept kept' : Kept) (ended ended' : Bool) (told told' : Tallies) (now : Feed) (last : ℕ) (mid after : Option (List ℕ)) (text full : List ℕ) (stop : Option Stop)
    → HasCompared form a b zone start first before kept kept' ended ended' told told' now last mid text → EndsPair can_fail a.objects b.objects now last stop → AddsTable form a b zone told told' text full → WritesFront mid after full → WritesChangesFront form can_fail a b zone start first before after
compared_last form can_fail a b zone start first before kept kept' ended ended' told told' now last mid after text full stop h ends adds front =
    let changes : List ℕ = changes_text form a b zone h.noticed h.noticed' in
    let all = whole-text form a b zone start (since start first) now (since now last) h.given h.others ends.refused h.noticed h.noticed' ended ended' h.past h.past' h.one h.two h.even in
    let table : List ℕ = table_between form a b zone (h.given ++ last_answers ends.refused) (h.others ++ last_answers ends.refused) in
    let full-is = whole-table form a b zone h.given h.others ends.refused h.past h.past' h.marks h.marks' told told' text full h.marked h.marked' h.tallied h.tallied' adds in
    record {
      given = h.given ++ last_answers ends.refused;
      others = h.others ++ last_answers ends.refused;
      first = given_then can_fail a zone start h.given h.noticed ended h.past now (last_answers ends.refused) h.one ends.first;
      second = given_then can_fail b zone (since start first) h.others h.noticed' ended' h.past' (since now last) (last_answers ends.refused) h.two ends.second;
      same = same_both h.given h.others (last_answers ends.refused) (last_answers ends.refused) h.same refl;
      front = subst (λ (t : List ℕ). WritesFront before after (t ++ table)) (sym all) (front_less before mid after (changes ++ table) (text ++ table) (leaves_longer before mid changes text table h.leaves) (subst (λ (t : List ℕ). WritesFront mid after t) full-is front));
    }

-- how it ended
ends_so : (ended : Bool) (past : List Event) (refused : Option RefusedLine) → IfSome refused (λ r. ends_feed (Err r.fault) ≡ true) → (ended || ends_short past (last_answers refused)) ≡ (ended || is_some refused)
ends_so ended past None h = refl
ends_so ended past (Some refused) h = ap (λ (x : Bool). ended || ((false || x) || false)) h

either : (x y z : Bool) → cond ((x || z) || (y || z)) Short Whole ≡ cond ((x || y) || z) Short Whole
either true y z = refl
either false true true = refl
either false true false = refl
either false false true = refl
either false false false = refl

pub compared_whole : (form : ChangeForm) (can_fail : Bool) (a b : Config) (zone : Zone) (start : Feed) (first : ℕ) (before : Option (List ℕ)) (kept kept' : Kept) (ended ended' : Bool) (told told' : Tallies) (now : Feed) (last : ℕ) (mid after : Option (List ℕ)) (text full : List ℕ) (stop : Option Stop) (ending : Ending)
    → HasCompared form a b zone start first before kept kept' ended ended' told told' now last mid text → EndsPair can_fail a.objects b.objects now last stop → AddsTable form a b zone told told' text full → Leaves mid after full []
    → ending ≡ cond ((ended || ended') || is_cut stop) Short Whole → WritesChanges form can_fail a b zone start first ending before after
compared_whole form can_fail a b zone start first before kept kept' ended ended' told told' now last mid after text full stop ending h ends adds leaves is =
    let changes : List ℕ = changes_text form a b zone h.noticed h.noticed' in
    let all = whole-text form a b zone start (since start first) now (since now last) h.given h.others ends.refused h.noticed h.noticed' ended ended' h.past h.past' h.one h.two h.even in
    let table : List ℕ = table_between form a b zone (h.given ++ last_answers ends.refused) (h.others ++ last_answers ends.refused) in
    let full-is = whole-table form a b zone h.given h.others ends.refused h.past h.past' h.marks h.marks' told told' text full h.marked h.marked' h.tallied h.tallied' adds in
    let wrote = leaves_less before mid after (changes ++ table) (text ++ table) [] (leaves_longer before mid changes text table h.leaves) (subst (λ (t : List ℕ). Leaves mid after t []) full-is leaves) in
    let short : ends_short [] (h.given ++ last_answers ends.refused) ≡ (ended || is_cut stop) =
    h.one.short (last_answers ends.refused) ∙ ends_so ended h.past ends.refused ends.ends ∙ ap (λ (x : Bool). ended || x) ends.cut in
    let short' : ends_short [] (h.others ++ last_answers ends.refused) ≡ (ended' || is_cut stop) =
    h.two.short (last_answers ends.refused) ∙ ends_so ended' h.past' ends.refused ends.ends ∙ ap (λ (x : Bool). ended' || x) ends.cut in
    record {
      given = h.given ++ last_answers ends.refused;
      others = h.others ++ last_answers ends.refused;
      first = given_then can_fail a zone start h.given h.noticed ended h.past now (last_answers ends.refused) h.one ends.first;
      second = given_then can_fail b zone (since start first) h.others h.noticed' ended' h.past' (since now last) (last_answers ends.refused) h.two ends.second;
      same = same_both h.given h.others (last_answers ends.refused) (last_answers ends.refused) h.same refl;
      ending_is = is ∙ sym (either ended ended' (is_cut stop)) ∙ sym (ap₂ (λ (x y : Bool). cond (x || y) Short Whole) short short');
      writes = subst (λ (t : List ℕ). Writes before after (t ++ table)) (sym all) (subst (λ (t : List ℕ). Writes before after t) (sym (append-nil wrote.0) ∙ wrote.2) wrote.1);
    }
