-- What the answers of a feeder say of the lines of its feed, and what was taken of them.
use Rattle.std.proofs.Common.{◌≡◌, ◌≢◌, ℕ, ◌+◌, ◌<◌, ◌≤◌, true, false, cond, eqb, ◌||◌, ◌&&◌, All, List, [], ◌∷◌, ◌++◌, length, Option, None, Some, Bool, IsSome, IfSome, IsTrue, Result, Ok, Err, refl, sym, ap, subst, ◌∙◌, arith, append_assoc, length-append}
use Rattle.std.proofs.lemmas.Bool.{eq-eqb, ne_eqb}
use Rattle.std.proofs.lemmas.Grind.{flat_map-append}
use Rattle.std.proofs.lemmas.List.{append-nil}
use Rattle.std.proofs.lemmas.List.Elements.{All-cons, All-head, All-nil, All-pop, All-push, All-tail, All-weaker}
use Rattle.std.proofs.lemmas.List.Folds.{list_any-append, list_any_none}
use Rattle.std.proofs.lemmas.Option.{IfSome_then}
use Rattle.due_model.specs.declared.config.Config.{Config}
use Rattle.due_model.specs.declared.event.Event.{Event}
use Rattle.due_model.specs.claims.Limits.{max_events}
use Rattle.due_model.specs.claims.Proper.{IsProper}
use Rattle.event_feed.specs.declared.fault.FeedFault.{FeedFault}
use Rattle.event_feed.specs.declared.fault.FeedFault.TheVariants.{Ended, NoMemory}
use Rattle.event_feed.specs.declared.fault.RefusedLine.{RefusedLine}
use Rattle.text_lines.specs.declared.line_reader.Stop.{Stop}
use Rattle.text_lines.specs.declared.line_reader.Stop.TheVariants.{InputEnded, CutLine, ReaderFailed, TooManyCalls, TooManyBytes, TooManyLines}
use Rattle.event_feed.specs.claims.Fault.{is_ahead, is_line_fault, stop_fault}
use Rattle.event_feed.specs.claims.Feed.{Answer, AnswersNextWithin, AreGivenByWithin, refusal, FaultFits, Feed, GivesEventWithin, GivesFaultWithin, GivesNoneWithin, answers_from_within, no_line, ends_feed}
use Rattle.event_feed.specs.Feed.{PassesLines}
use Rattle.text_lines.specs.claims.Lines.{Known, pieces}
use Rattle.engine.specs.claims.Feed.{NoneIsAhead, ahead_in, count_after, event_in, events_in, is_cut, is_unnumbered, refused_in, refusals_in, taken_after}
use Rattle.engine.specs.Feed.{AreFrontOfFeed, AreHeldBack, CameFirst, Goes, HasEnded, HasRead, HasTaken, Intake, IsFrontOfFeed, IsOver, IsStart, Kept, Offers, accepted, ended, is_held_back}
use Rattle.engine.specs.claims.Lists.{IsFrontOf}
use Rattle.event_feed.specs.FeedLaws.{known_same, known_then, Passed, passed_more, event_passes_within, fault_passes_within, next_given_within, none_given_within, fault_last_within, fault_next_within, event_answers_within, earlier_more, then_by_within}

-- ---- what is given of a feed

-- what was given, and what is given of the feed after it
given_then : (far : ℕ → Bool) (can_fail : Bool) (c : Config) (start : Feed) (given : List Answer) (now : Feed) (events : List Event) (refused : List RefusedLine) (others : List Answer)
    → CameFirst c start given now events refused → AreHeldBack far given → AreGivenByWithin far can_fail c.objects now others → AreGivenByWithin far can_fail c.objects start (given ++ others)
given_then far can_fail c start given now events refused others f held h =
    then_by_within far can_fail c start now given others start.bytes now.bytes f.line f.earlier f.read_on (f.answers far held) f.lines h

-- ---- which lines are too far ahead

or_none : (b : Bool) → (b || false) ≡ b
or_none true = refl
or_none false = refl

and_none : (b : Bool) → (b && false) ≡ false
and_none true = refl
and_none false = refl

-- among the refusals of one answer
ahead_of : (line : ℕ) (given : Result Event FeedFault) (n : ℕ) → ahead_in (refused_in line given) n ≡ (eqb line n && is_held_back given)
ahead_of line (Ok e) n = sym (and_none (eqb line n))
ahead_of line (Err fault) n = or_none (eqb line n && is_ahead fault)

ahead_both : (xs ys : List RefusedLine) (n : ℕ) → ahead_in (xs ++ ys) n ≡ (ahead_in xs n || ahead_in ys n)
ahead_both xs ys n = list_any-append (λ (r : RefusedLine). eqb r.line n && is_ahead r.fault) xs ys

-- none after their lines
ahead_before : (given : List Answer) (line n : ℕ) → All (λ (a : Answer). a.line ≤ line) given → line < n → ahead_in (refusals_in given) n ≡ false
ahead_before [] line n early less = refl
ahead_before (a ∷ given) line n early less =
    let first : a.line ≤ line = All-head (λ (x : Answer). x.line ≤ line) a given early in
    let other : eqb a.line n ≡ false = ne_eqb a.line n (λ same. absurd (omega (arith, first, less, same))) in
    ahead_both (refused_in a.line a.given) (refusals_in given) n
    ∙ ap (λ b. b || ahead_in (refusals_in given) n) (ahead_of a.line a.given n ∙ ap (λ b. b && is_held_back a.given) other)
    ∙ ahead_before given line n (All-tail (λ (x : Answer). x.line ≤ line) a given early) less

-- lines that are too far ahead just alike up to the last
held_alike : (given : List Answer) (f h : ℕ → Bool) (line : ℕ) → ((n : ℕ) → n ≤ line → h n ≡ f n) → All (λ (a : Answer). a.line ≤ line) given → AreHeldBack f given → AreHeldBack h given
held_alike [] f h line same early held = All-nil (λ (a : Answer). h a.line ≡ is_held_back a.given)
held_alike (a ∷ given) f h line same early held =
    All-cons (λ (x : Answer). h x.line ≡ is_held_back x.given) a given
    (same a.line (All-head (λ (x : Answer). x.line ≤ line) a given early) ∙ All-head (λ (x : Answer). f x.line ≡ is_held_back x.given) a given held)
    (held_alike given f h line same (All-tail (λ (x : Answer). x.line ≤ line) a given early) (All-tail (λ (x : Answer). f x.line ≡ is_held_back x.given) a given held))

pub held_same : (given : List Answer) (f h : ℕ → Bool) → ((n : ℕ) → h n ≡ f n) → AreHeldBack f given → AreHeldBack h given
held_same given f h same held = All-weaker (λ (x : Answer). f x.line ≡ is_held_back x.given) (λ (x : Answer). h x.line ≡ is_held_back x.given) (λ x is. same x.line ∙ is) given held

-- of answers and one more, the answers and the one
held_parts : (far : ℕ → Bool) (given : List Answer) (answer : Answer) → AreHeldBack far (given ++ answer ∷ []) → AreHeldBack far given × (far answer.line ≡ is_held_back answer.given)
held_parts far given answer held = All-pop (λ (x : Answer). far x.line ≡ is_held_back x.given) (given ++ answer ∷ []) given (Some answer) refl held

refusals_push : (given : List Answer) (answer : Answer) → refusals_in (given ++ answer ∷ []) ≡ refusals_in given ++ refused_in answer.line answer.given
refusals_push given answer =
    flat_map-append (λ (a : Answer). refused_in a.line a.given) given (answer ∷ []) ∙ ap (λ more. refusals_in given ++ more) (append-nil (refused_in answer.line answer.given))

ahead_push : (given : List Answer) (answer : Answer) (n : ℕ) → ahead_in (refusals_in (given ++ answer ∷ [])) n ≡ (ahead_in (refusals_in given) n || (eqb answer.line n && is_held_back answer.given))
ahead_push given answer n =
    ap (λ (rs : List RefusedLine). ahead_in rs n) (refusals_push given answer) ∙ ahead_both (refusals_in given) (refused_in answer.line answer.given) n
    ∙ ap (λ b. ahead_in (refusals_in given) n || b) (ahead_of answer.line answer.given n)

held_more : (given : List Answer) (answer : Answer) (line : ℕ) → All (λ (a : Answer). a.line ≤ line) given → line < answer.line → AreHeldBack (ahead_in (refusals_in given)) given
    → AreHeldBack (ahead_in (refusals_in (given ++ answer ∷ []))) (given ++ answer ∷ [])
held_more given answer line early less held =
    let all : ℕ → Bool = ahead_in (refusals_in (given ++ answer ∷ [])) in
    All-push (λ (a : Answer). all a.line ≡ is_held_back a.given) given answer
    (held_alike given (ahead_in (refusals_in given)) all line
    (λ n within.
    let other : eqb answer.line n ≡ false = ne_eqb answer.line n (λ same. absurd (omega (arith, within, less, same))) in
    ahead_push given answer n ∙ ap (λ b. ahead_in (refusals_in given) n || (b && is_held_back answer.given)) other ∙ or_none (ahead_in (refusals_in given) n))
    early held)
    (ahead_push given answer answer.line
    ∙ ap (λ b. b || (eqb answer.line answer.line && is_held_back answer.given)) (ahead_before given line answer.line early less)
    ∙ ap (λ b. b && is_held_back answer.given) (eq-eqb answer.line answer.line refl))

-- where none was refused as Ahead, no line is
pub none_ahead : (refused : List RefusedLine) → NoneIsAhead refused → (n : ℕ) → no_line n ≡ ahead_in refused n
none_ahead refused none n =
    sym (list_any_none (λ (r : RefusedLine). eqb r.line n && is_ahead r.fault) refused
    (All-weaker (λ (r : RefusedLine). is_ahead r.fault ≡ false) (λ (r : RefusedLine). (eqb r.line n && is_ahead r.fault) ≡ false)
    (λ r is. ap (λ b. eqb r.line n && b) is ∙ and_none (eqb r.line n)) refused none))

-- one more that isn't so refused
pub none_more : (refused refused' : List RefusedLine) (fault : RefusedLine) → refused' ≡ refused ++ fault ∷ [] → is_ahead fault.fault ≡ false → NoneIsAhead refused → NoneIsAhead refused'
none_more refused refused' fault is near none = subst NoneIsAhead (sym is) (All-push (λ (r : RefusedLine). is_ahead r.fault ≡ false) refused fault none near)

-- ---- from answer to answer

-- answers of which none ends the feed, and then some
cut_after : (given more : List Answer) → All (λ (a : Answer). ends_feed a.given ≡ false) given → is_cut (given ++ more) ≡ is_cut more
cut_after given more on =
    let ends : Answer → Bool = λ a. ends_feed a.given in
    list_any-append ends given more ∙ ap (λ b. b || is_cut more) (list_any_none ends given on)

-- an answer more, of this number of events
taken_one : (given : List Answer) (answer : Answer) (n n' : ℕ) → is_unnumbered n answer.given ≡ false → n' ≡ count_after n answer.given
    → ((others : List Answer) → taken_after 0 (given ++ others) ≡ given ++ taken_after n others)
    → (others : List Answer) → taken_after 0 ((given ++ answer ∷ []) ++ others) ≡ (given ++ answer ∷ []) ++ taken_after n' others
taken_one given answer n n' numbered count h others =
    ap (λ all. taken_after 0 all) (append_assoc given (answer ∷ []) others) ∙ h (answer ∷ others)
    ∙ ap (λ b. given ++ cond b (record { line = answer.line; given = Err Ended } ∷ []) (answer ∷ taken_after (count_after n answer.given) others)) numbered
    ∙ ap (λ (k : ℕ). given ++ answer ∷ taken_after k others) (sym count)
    ∙ sym (append_assoc given (answer ∷ []) (taken_after n' others))

events_push : (given : List Answer) (answer : Answer) → events_in (given ++ answer ∷ []) ≡ events_in given ++ event_in answer.given
events_push given answer =
    flat_map-append (λ (a : Answer). event_in a.given) given (answer ∷ []) ∙ ap (λ more. events_in given ++ more) (append-nil (event_in answer.given))

came_more : (c : Config) (start : Feed) (given : List Answer) (now : Feed) (events : List Event) (refused : List RefusedLine) (answer : Answer) (new : Feed) (events' : List Event) (refused' : List RefusedLine)
    → CameFirst c start given now events refused → ((far : ℕ → Bool) → far answer.line ≡ is_held_back answer.given → AnswersNextWithin far c.objects now answer new)
    → now.line < new.line → answer.line ≡ new.line → PassesLines now new
    → is_unnumbered (length events) answer.given ≡ false → ends_feed answer.given ≡ false
    → events' ≡ events ++ event_in answer.given → refused' ≡ refused ++ refused_in answer.line answer.given → length events' ≡ count_after (length events) answer.given
    → CameFirst c start (given ++ answer ∷ []) new events' refused'
came_more c start given now events refused answer new events' refused' f next less at passes numbered runs e r count = record {
  answers = λ far held. known_then start.bytes now.bytes new.bytes
      (λ bytes rest. answers_from_within far c.objects start bytes ≡ given ++ answers_from_within far c.objects now rest)
      (λ bytes rest. answers_from_within far c.objects now bytes ≡ answer ∷ answers_from_within far c.objects new rest)
      (λ bytes rest. answers_from_within far c.objects start bytes ≡ (given ++ answer ∷ []) ++ answers_from_within far c.objects new rest)
      (f.answers far (held_parts far given answer held).0) (next far (held_parts far given answer held).1)
      (λ xs ys zs p q. p ∙ ap (λ more. given ++ more) q ∙ sym (append_assoc given (answer ∷ []) (answers_from_within far c.objects new zs)));
  line = omega (arith, f.line, less);
  earlier = earlier_more given answer now.line new.line (omega (arith, less)) (omega (arith, at)) f.earlier;
  held_back = held_more given answer now.line f.earlier (omega (arith, at, less)) f.held_back;
  read_on = All-push (λ (a : Answer). ends_feed a.given ≡ false) given answer f.read_on runs;
  lines = known_then start.bytes now.bytes new.bytes
      (λ bytes rest. Passed start.line (pieces bytes) now.line (pieces rest))
      (λ bytes rest. Passed now.line (pieces bytes) new.line (pieces rest))
      (λ bytes rest. Passed start.line (pieces bytes) new.line (pieces rest))
      f.lines passes (λ xs ys zs p q. passed_more start.line now.line new.line (pieces xs) (pieces ys) (pieces zs) p q);
  events_are = e ∙ ap (λ (xs : List Event). xs ++ event_in answer.given) f.events_are ∙ sym (events_push given answer);
  refused_are = r ∙ ap (λ (xs : List RefusedLine). xs ++ refused_in answer.line answer.given) f.refused_are ∙ sym (refusals_push given answer);
  taken = taken_one given answer (length events) (length events') numbered count f.taken;
}

-- ---- what a line makes of what was read

-- what a feeder says that gives an event, or a fault
abbrev pub Gives : Config → Event → (old new : Feed) → Type 0
Gives c e old new = (far : ℕ → Bool) → far new.line ≡ false → GivesEventWithin far c old e new

abbrev pub Faults : Config → RefusedLine → (old new : Feed) → Type 0
Faults c fault old new = (far : ℕ → Bool) → far fault.line ≡ is_ahead fault.fault → GivesFaultWithin far c.objects old fault new

pub offered : (c : Config) (start : Feed) (said : List Answer) (old new : Intake) (e : Event) → HasRead c start said old → Gives c e old.feed new.feed → new.events ≡ old.events → new.refused ≡ old.refused
    → Offers c start said e new
offered c start said old new e h gives events refused = record {
  before = old.feed;
  read = subst (λ (t : List Event × List RefusedLine). HasRead c start said (record { feed = old.feed; events = t.0; refused = t.1 }))
      (ap (λ (xs : List Event). (xs, old.refused)) (sym events) ∙ ap (λ (xs : List RefusedLine). (new.events, xs)) (sym refused)) h;
  gives = gives;
}

is_line : (fault : RefusedLine) (new : Feed) → new.stop ≡ None → FaultFits fault.fault new.stop → is_line_fault fault.fault ≡ true
is_line fault new e fits = let k : IsTrue (is_line_fault fault.fault) = subst (λ s. FaultFits fault.fault s) e fits in k

not_memory : (fault : FeedFault) → is_line_fault fault ≡ true → fault ≢ NoMemory
not_memory fault is same = let bad : is_line_fault NoMemory ≡ true = ap is_line_fault (sym same) ∙ is in cc

pub refused_more : (c : Config) (start : Feed) (said : List Answer) (old new : Intake) (fault : RefusedLine) → HasRead c start said old → Faults c fault old.feed new.feed → new.feed.stop ≡ None
    → new.events ≡ old.events → new.refused ≡ old.refused ++ fault ∷ [] → HasRead c start (said ++ refusal fault ∷ []) new
refused_more c start said old new fault h faults stop events refused =
    let far : ℕ → Bool = λ _. is_ahead fault.fault in
    let gives = faults far refl in record {
      first = came_more c start said old.feed old.events old.refused (refusal fault) new.feed new.events new.refused h.first
          (λ f same. (fault_next_within f c.objects old.feed new.feed fault stop (faults f same)).0) gives.line gives.number (fault_passes_within far c.objects old.feed fault new.feed stop gives) refl
          (fault_next_within far c.objects old.feed new.feed fault stop gives).1 (events ∙ sym (append-nil old.events)) refused (ap length events);
      goes_on = stop;
      proper = subst (λ (xs : List Event). All (IsProper c) xs) (sym events) h.proper;
      short = omega (arith, h.short, ap length events);
      named = subst (λ (xs : List RefusedLine). All (λ r. r.fault ≢ NoMemory) xs) (sym refused)
          (All-push (λ (r : RefusedLine). r.fault ≢ NoMemory) old.refused fault h.named (not_memory fault.fault (is_line fault new.feed stop gives.fits)));
    }

-- the answer of an event that was read
pub answer_of : Event → Intake → Answer
answer_of e now = record { line = now.feed.line; given = Ok e }

pub event_accepted : (c : Config) (start : Feed) (said : List Answer) (e : Event) (now : Intake) → Offers c start said e now → length now.events ≢ max_events
    → HasRead c start (said ++ answer_of e now ∷ []) (accepted e now)
unfolding answer_of
event_accepted c start said e now h few =
    let gives = h.gives no_line refl in record {
      first = came_more c start said h.before now.events now.refused (answer_of e now) now.feed (now.events ++ e ∷ []) now.refused h.read.first
          (λ far near. event_answers_within far c h.before now.feed e now.feed.line refl (h.gives far near)) gives.line refl (event_passes_within no_line c h.before e now.feed gives)
          (ne_eqb (length now.events) max_events few) refl refl (sym (append-nil now.refused)) (length-append now.events (e ∷ []));
      goes_on = gives.goes_on;
      proper = All-push (IsProper c) now.events e h.read.proper gives.proper;
      short = let more = length-append now.events (e ∷ []) in let below = h.read.short in omega (arith, more, below, few);
      named = h.read.named;
    }

-- ---- the end

whole_ended : (can_fail : Bool) (c : Config) (start : Feed) (said : List Answer) (old new : Intake) → HasRead c start said old → ((far : ℕ → Bool) → GivesNoneWithin far c.objects old.feed new.feed)
    → new.events ≡ old.events → new.refused ≡ old.refused → HasEnded can_fail c start said false new
whole_ended can_fail c start said old new h gives events refused = record {
  given = λ far held. (
    said ++ [],
    given_then far can_fail c start said old.feed old.events old.refused [] h.first held (none_given_within far can_fail c.objects old.feed new.feed (gives far).answers),
    sym (h.first.taken [] ∙ append-nil said),
  );
  held_back = h.first.held_back;
  events_are = events ∙ h.first.events_are;
  refused_are = refused ∙ h.first.refused_are;
  cut_is = sym (list_any_none (λ (a : Answer). ends_feed a.given) said h.first.read_on);
  proper = subst (λ (xs : List Event). All (IsProper c) xs) (sym events) h.proper;
  named = subst (λ (xs : List RefusedLine). All (λ r. r.fault ≢ NoMemory) xs) (sym refused) h.named;
}

-- with one refusal more
cut_by : (can_fail : Bool) (c : Config) (start : Feed) (said : List Answer) (old : Intake) (new : Intake) (fault : RefusedLine) → HasRead c start said old → old.feed.line < fault.line
    → ((far : ℕ → Bool) → far fault.line ≡ is_ahead fault.fault → (last : List Answer) × AreGivenByWithin far can_fail c.objects old.feed last × (taken_after (length old.events) last ≡ refusal fault ∷ []))
    → ends_feed (Err fault.fault) ≡ true → fault.fault ≢ NoMemory → new.events ≡ old.events → new.refused ≡ old.refused ++ fault ∷ []
    → HasEnded can_fail c start (said ++ refusal fault ∷ []) true new
cut_by can_fail c start said old new fault h less last short other events refused = record {
  given = λ far held.
      let parts = held_parts far said (refusal fault) held in
      let l = last far parts.1 in (
        said ++ l.0,
        given_then far can_fail c start said old.feed old.events old.refused l.0 h.first parts.0 l.1,
        sym (h.first.taken l.0 ∙ ap (λ more. said ++ more) l.2),
      );
  held_back = held_more said (refusal fault) old.feed.line h.first.earlier less h.first.held_back;
  events_are = events ∙ sym (append-nil old.events) ∙ ap (λ (xs : List Event). xs ++ []) h.first.events_are ∙ sym (events_push said (refusal fault));
  refused_are = refused ∙ ap (λ (xs : List RefusedLine). xs ++ fault ∷ []) h.first.refused_are ∙ sym (refusals_push said (refusal fault));
  cut_is = sym (cut_after said (refusal fault ∷ []) h.first.read_on ∙ ap (λ b. b || false) short);
  proper = subst (λ (xs : List Event). All (IsProper c) xs) (sym events) h.proper;
  named = subst (λ (xs : List RefusedLine). All (λ r. r.fault ≢ NoMemory) xs) (sym refused) (All-push (λ (r : RefusedLine). r.fault ≢ NoMemory) old.refused fault h.named other);
}

stop_not_memory : (stop : Stop) (fault : FeedFault) → stop_fault stop ≡ Some fault → fault ≢ NoMemory
stop_not_memory stop fault e same = by stop (subst (λ (f : FeedFault). stop_fault stop ≡ Some f) same e)
  where
    by : (stop : Stop) → stop_fault stop ≡ Some NoMemory → ⊥
    by InputEnded k = cc
    by CutLine k = cc
    by ReaderFailed k = cc
    by TooManyCalls k = cc
    by TooManyBytes k = cc
    by TooManyLines k = cc

cut_ended : (can_fail : Bool) (c : Config) (start : Feed) (said : List Answer) (old new : Intake) (fault : RefusedLine) (stop : Stop) → HasRead c start said old → new.feed.stop ≡ Some stop → Faults c fault old.feed new.feed
    → (IsSome new.feed.stop → (far : ℕ → Bool) → AreGivenByWithin far can_fail c.objects old.feed (refusal fault ∷ [])) → new.events ≡ old.events → new.refused ≡ old.refused ++ fault ∷ []
    → HasEnded can_fail c start (said ++ refusal fault ∷ []) true new
cut_ended can_fail c start said old new fault stop h is faults last events refused =
    let far : ℕ → Bool = λ _. is_ahead fault.fault in
    let gives = faults far refl in
    let both = fault_last_within far can_fail c.objects old.feed new.feed fault stop is gives (λ some. last some far) in
    let some : IsSome new.feed.stop = rw is refl in
    cut_by can_fail c start said old new fault h (omega (arith, gives.line, gives.number)) (λ f same. (refusal fault ∷ [], last some f, refl))
    both.1 (stop_not_memory stop fault.fault (subst (λ s. FaultFits fault.fault s) is gives.fits)) events refused

-- the refusal of an event that can't be numbered
abbrev unnumbered : Intake → RefusedLine
unnumbered now = record { line = now.feed.line; fault = Ended }

full_ended : (can_fail : Bool) (c : Config) (start : Feed) (said : List Answer) (e : Event) (now : Intake) → Offers c start said e now → length now.events ≡ max_events
    → HasEnded can_fail c start (said ++ refusal (unnumbered now) ∷ []) true (ended now)
unfolding answer_of
full_ended can_fail c start said e now h full =
    let gives = h.gives no_line refl in
    cut_by can_fail c start said (record now { feed = h.before }) (ended now) (unnumbered now) h.read gives.line
    (λ far near.
    let next = next_given_within far can_fail c.objects h.before now.feed (answer_of e now) (event_answers_within far c h.before now.feed e now.feed.line refl (h.gives far near)) in (
      answer_of e now ∷ next.0,
      next.1,
      ap (λ b. cond b (record { line = now.feed.line; given = Err Ended } ∷ []) (answer_of e now ∷ taken_after (length now.events + 1) next.0)) (eq-eqb (length now.events) max_events full),
    ))
    refl (λ same. cc) refl refl

-- ---- a front

-- the answers that were taken are a front of the feed's
said_by : (far : ℕ → Bool) (c : Config) (start : Feed) (given : List Answer) (now : Feed) (count : ℕ) (bytes rest : Option (List ℕ))
    → Known bytes rest (λ before after. answers_from_within far c.objects start before ≡ given ++ answers_from_within far c.objects now after)
    → ((others : List Answer) → taken_after 0 (given ++ others) ≡ given ++ taken_after count others)
    → IfSome bytes (λ before. IsFrontOf given (taken_after 0 (answers_from_within far c.objects start before)))
said_by far c start given now count None rest known taken = tt
said_by far c start given now count (Some before) None known taken = absurd known
said_by far c start given now count (Some before) (Some after) known taken =
    let others = answers_from_within far c.objects now after in (taken_after count others, ap (λ all. taken_after 0 all) known ∙ taken others)

pub read_said : (c : Config) (start : Feed) (said : List Answer) (now : Intake) → HasRead c start said now → (far : ℕ → Bool) → AreHeldBack far said → AreFrontOfFeed far c start said
read_said c start said now h far held = said_by far c start said now.feed (length now.events) start.bytes now.feed.bytes (h.first.answers far held) h.first.taken

-- and so are their events
pub front_of : (far : ℕ → Bool) (c : Config) (start : Feed) (said : List Answer) (events : List Event) → AreFrontOfFeed far c start said → events ≡ events_in said → IsFrontOfFeed far c start events
front_of far c start said events front is =
    IfSome_then start.bytes front
    (λ bytes f. (
      events_in f.0,
      ap events_in f.1 ∙ flat_map-append (λ (a : Answer). event_in a.given) said f.0 ∙ ap (λ (xs : List Event). xs ++ events_in f.0) (sym is),
    ))

-- ---- the reading is over

pub over_whole : (can_fail : Bool) (c : Config) (start : Feed) (said : List Answer) (old new : Intake) → HasRead c start said old → ((far : ℕ → Bool) → GivesNoneWithin far c.objects old.feed new.feed)
    → new.events ≡ old.events → new.refused ≡ old.refused → IsOver can_fail c start said false new
over_whole can_fail c start said old new h gives events refused = record {
  ended = whole_ended can_fail c start said old new h gives events refused;
  before = said;
  last = [];
  begins = λ far held. held;
  held_back = h.first.held_back;
  front = read_said c start said old h;
  events_are = events ∙ h.first.events_are;
  refused_are = refused ∙ h.first.refused_are ∙ sym (append-nil (refusals_in said));
  one = refl;
}

pub over_cut : (can_fail : Bool) (c : Config) (start : Feed) (said : List Answer) (old new : Intake) (fault : RefusedLine) (stop : Stop) → HasRead c start said old → new.feed.stop ≡ Some stop → Faults c fault old.feed new.feed
    → (IsSome new.feed.stop → (far : ℕ → Bool) → AreGivenByWithin far can_fail c.objects old.feed (refusal fault ∷ [])) → new.events ≡ old.events → new.refused ≡ old.refused ++ fault ∷ []
    → IsOver can_fail c start (said ++ refusal fault ∷ []) true new
over_cut can_fail c start said old new fault stop h is faults last events refused = record {
  ended = cut_ended can_fail c start said old new fault stop h is faults last events refused;
  before = said;
  last = fault ∷ [];
  begins = λ far held. (held_parts far said (refusal fault) held).0;
  held_back = h.first.held_back;
  front = read_said c start said old h;
  events_are = events ∙ h.first.events_are;
  refused_are = refused ∙ ap (λ (rs : List RefusedLine). rs ++ fault ∷ []) h.first.refused_are;
  one = refl;
}

pub event_refused : (can_fail : Bool) (c : Config) (start : Feed) (said : List Answer) (e : Event) (now : Intake) → Offers c start said e now → length now.events ≡ max_events
    → IsOver can_fail c start (said ++ refusal (record { line = now.feed.line; fault = Ended }) ∷ []) true (ended now)
event_refused can_fail c start said e now h full = record {
  ended = full_ended can_fail c start said e now h full;
  before = said;
  last = record { line = now.feed.line; fault = Ended } ∷ [];
  begins = λ far held. (held_parts far said (refusal (record { line = now.feed.line; fault = Ended })) held).0;
  held_back = h.read.first.held_back;
  front = read_said c start said (record now { feed = h.before }) h.read;
  events_are = h.read.first.events_are;
  refused_are = ap (λ (rs : List RefusedLine). rs ++ record { line = now.feed.line; fault = Ended } ∷ []) h.read.first.refused_are;
  one = refl;
}

-- ---- what was taken, while the feed goes on and where it is over

module _ (can_fail : Bool) (c : Config) (start : Feed) (now : Intake) (over : Option Bool) where
  pub has_read : (said : List Answer) → over ≡ None → HasTaken can_fail c start said over now → HasRead c start said now
  has_read said none h = subst (λ (o : Option Bool). HasTaken can_fail c start said o now) none h

  pub read_taken : (said : List Answer) → over ≡ None → HasRead c start said now → HasTaken can_fail c start said over now
  read_taken said none h = subst (λ (o : Option Bool). HasTaken can_fail c start said o now) (sym none) h

  pub over_taken : (said : List Answer) (cut : Bool) → over ≡ Some cut → IsOver can_fail c start said cut now → HasTaken can_fail c start said over now
  over_taken said cut is h = subst (λ (o : Option Bool). HasTaken can_fail c start said o now) (sym is) h

  pub taken_over : (said : List Answer) (cut : Bool) → over ≡ Some cut → HasTaken can_fail c start said over now → IsOver can_fail c start said cut now
  taken_over said cut is h = subst (λ (o : Option Bool). HasTaken can_fail c start said o now) is h

-- what an event that was read makes of it
module _ (can_fail : Bool) (c : Config) (start : Feed) (said : List Answer) (e : Event) (old new : Intake) (over : Option Bool) (offers : Offers c start said e old) where
  pub takes_full : length old.events ≡ max_events → new ≡ ended old → over ≡ Some true → (all : List Answer) × HasTaken can_fail c start all over new
  takes_full full is at = (
    said ++ refusal (record { line = old.feed.line; fault = Ended }) ∷ [],
    over_taken can_fail c start new over (said ++ refusal (record { line = old.feed.line; fault = Ended }) ∷ []) true at
        (subst (λ (x : Intake). IsOver can_fail c start (said ++ refusal (record { line = old.feed.line; fault = Ended }) ∷ []) true x) (sym is) (event_refused can_fail c start said e old offers full)),
  )

  pub takes_event : length old.events ≢ max_events → new ≡ accepted e old → over ≡ None → (all : List Answer) × HasTaken can_fail c start all over new
  takes_event few is none = (
    said ++ answer_of e old ∷ [],
    read_taken can_fail c start new over (said ++ answer_of e old ∷ []) none
        (subst (λ (x : Intake). HasRead c start (said ++ answer_of e old ∷ []) x) (sym is) (event_accepted c start said e old offers few)),
  )

-- ---- the start

nothing_first : (c : Config) (start : Feed) → CameFirst c start [] start [] []
nothing_first c start = record {
  answers = λ far held. known_same start.bytes (λ bytes rest. answers_from_within far c.objects start bytes ≡ [] ++ answers_from_within far c.objects start rest) (λ xs. refl);
  line = omega arith;
  earlier = All-nil (λ (answer : Answer). answer.line ≤ start.line);
  held_back = All-nil (λ (answer : Answer). ahead_in [] answer.line ≡ is_held_back answer.given);
  read_on = All-nil (λ (answer : Answer). ends_feed answer.given ≡ false);
  lines = known_same start.bytes (λ bytes rest. (before : List (List ℕ)) × (pieces bytes ≡ before ++ pieces rest) × (start.line ≡ start.line + length before)) (λ xs. ([], refl, omega arith));
  events_are = refl;
  refused_are = refl;
  taken = λ others. refl;
}

nothing_read : (c : Config) (known : Option (List ℕ)) (now : Kept) → IsStart known now → HasRead c now.read.feed [] now.read
nothing_read c known now s = record {
  first = subst (λ (xs : List Event). CameFirst c now.read.feed [] now.read.feed xs now.read.refused) (sym s.no_events)
      (subst (λ (rs : List RefusedLine). CameFirst c now.read.feed [] now.read.feed [] rs) (sym s.no_refused) (nothing_first c now.read.feed));
  goes_on = s.first.goes_on;
  proper = subst (λ (xs : List Event). All (IsProper c) xs) (sym s.no_events) (All-nil (IsProper c));
  short = omega (arith, ap length s.no_events);
  named = subst (λ (rs : List RefusedLine). All (λ (r : RefusedLine). r.fault ≢ NoMemory) rs) (sym s.no_refused) (All-nil (λ (r : RefusedLine). r.fault ≢ NoMemory));
}

-- what an intake that began there has taken since
pub taken_since : (can_fail : Bool) (c : Config) (known : Option (List ℕ)) (old new : Kept) → IsStart known old → Goes can_fail c old new
    → (said : List Answer) × HasTaken can_fail c old.read.feed said new.over new.read
taken_since can_fail c known old new s goes = goes.0 old.read.feed [] (read_taken can_fail c old.read.feed old.read old.over [] s.not_over (nothing_read c known old s))

-- and none of it was refused as Ahead, where no line is too far ahead for it
pub none_since : (can_fail : Bool) (c : Config) (known : Option (List ℕ)) (old new : Kept) → IsStart known old → Goes can_fail c old new → old.is_open ≡ true → NoneIsAhead new.read.refused
none_since can_fail c known old new s goes is = goes.1.0 is (subst NoneIsAhead (sym s.no_refused) (All-nil (λ (r : RefusedLine). is_ahead r.fault ≡ false)))
