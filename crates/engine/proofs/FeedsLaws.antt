-- What is taken of callers' feeds, event by event.
use Rattle.std.proofs.Common.{◌≡◌, ◌≤◌, ◌++◌, [], Bool, false, true, All, List, length, Option, None, Some, Result, is_some, sym, subst, true≢false, ◌∙◌}
use Rattle.std.specs.List.{AllZip}
use Rattle.std.proofs.lemmas.List.Elements.{All-append, All-same}
use Rattle.due_model.specs.declared.config.Config.{Config}
use Rattle.due_model.specs.declared.event.Event.{Event}
use Rattle.due_model.specs.claims.Limits.{max_events}
use Rattle.due_model.specs.claims.Proper.{IsProper}
use Rattle.caller_feeds.specs.declared.end.FeedEnd.{FeedEnd}
use Rattle.caller_feeds.specs.declared.intake.IntakeStop.{IntakeStop}
use Rattle.caller_feeds.specs.Feeds.{IsSameEnd}
use Rattle.caller_feeds.specs.Taken.{AreOver, GivesNext, IsTaken, given_by}
use Rattle.engine.specs.declared.feeds.Feeds.{Feeds}
use Rattle.engine.specs.Feeds.{AreCut, AreLeft, AreTaken, FeedsGo}

-- feeds that go on are left as they are
pub left_on : (c : Config) (over : Option Bool) (ends : List FeedEnd) (events : List Event) → is_some over ≡ false → AreLeft c over ends events
left_on c None ends events on = tt
left_on c (Some cut) ends events on = absurd (true≢false on)

-- what the intake has done next
pub goes_next : (c : Config) (result : Result (Option Event) IntakeStop) (old new : Feeds) → GivesNext c result old.intake new.intake
    → (length new.intake.events ≤ max_events → new.intake.most ≡ max_events → AreLeft c new.over new.intake.ends new.intake.events) → FeedsGo c old new
goes_next c result old new next left = record {
  intake = next.goes;
  taken = λ t.
      let most : new.intake.most ≡ max_events = next.goes.most ∙ t.most in
      let within : length new.intake.events ≤ max_events = subst (λ n. length new.intake.events ≤ n) most (next.within (subst (λ n. length old.intake.events ≤ n) (sym t.most) t.within)) in record {
        most = most;
        within = within;
        proper = All-same (IsProper c) new.intake.events (old.intake.events ++ given_by result) next.events (All-append (IsProper c) old.intake.events (given_by result) t.proper next.proper);
        left = left within most;
      };
}

-- what a run has taken of the feeds of these ends, of which nothing was received before
pub record FeedsDone (c : Config) (before ends : List FeedEnd) (events : List Event) (memory cut : Bool) : Type 0 where
  pub taken : IsTaken c ends events
  pub proper : All (IsProper c) events
  pub same : AllZip IsSameEnd before ends
  pub over : memory ≡ false → cut ≡ false → AreOver ends
  pub left : cut ≡ true → AreCut c ends events

pub feeds_done : (c : Config) (start now : Feeds) (before ends : List FeedEnd) (events : List Event) (memory cut : Bool) → start.intake.ends ≡ before → start.intake.events ≡ [] → AreTaken c start × IsTaken c before []
    → FeedsGo c start now → events ≡ now.intake.events → ends ≡ now.intake.ends
    → (AreTaken c now → memory ≡ false → cut ≡ false → AreOver now.intake.ends) → (AreTaken c now → cut ≡ true → AreCut c now.intake.ends now.intake.events)
    → FeedsDone c before ends events memory cut
feeds_done c start now before ends events memory cut ends_before none fresh goes events_are ends_are over left =
    let unread : IsTaken c start.intake.ends start.intake.events = subst (λ (es : List Event). IsTaken c start.intake.ends es) (sym none) (subst (λ (es : List FeedEnd). IsTaken c es []) (sym ends_before) fresh.1) in
    let taken : AreTaken c now = goes.taken fresh.0 in record {
      taken = subst (λ (es : List Event). IsTaken c ends es) (sym events_are) (subst (λ (es : List FeedEnd). IsTaken c es now.intake.events) (sym ends_are) (goes.intake.taken unread));
      proper = All-same (IsProper c) events now.intake.events events_are taken.proper;
      same = subst (λ (es : List FeedEnd). AllZip IsSameEnd before es) (sym ends_are) (subst (λ (es : List FeedEnd). AllZip IsSameEnd es now.intake.ends) ends_before goes.intake.ends);
      over = λ m uncut. subst AreOver (sym ends_are) (over taken m uncut);
      left = λ is. subst (λ (es : List Event). AreCut c ends es) (sym events_are) (subst (λ (es : List FeedEnd). AreCut c es now.intake.events) (sym ends_are) (left taken is));
    }
