-- What a decider has received.
use Rattle.std.proofs.Common.{◌≡◌, ℕ, Bool, true, false, not, true≢false, List, [], ◌∷◌, ◌++◌, refl, ap, ◌∙◌, append_assoc, append-nil}
use Rattle.due_model.specs.declared.config.Config.{Config}
use Rattle.due_model.specs.declared.event.Event.{Event}
use Rattle.due_model.specs.declared.notice.Notice.{Notice}
use Rattle.due_model.specs.declared.notice.Suppression.{Suppression}
use Rattle.due_model.specs.declared.zone.Zone.{Zone}
use Rattle.decider.specs.declared.share.Share.{Share}
use Rattle.channel_queue.specs.declared.LaneQueue.{LaneQueue}
use Rattle.decider_thread.specs.declared.Signal.{Signal}
use Rattle.decider_thread.specs.declared.Signal.TheVariants.{Over}
use Rattle.decider_thread.specs.declared.seats.Seat.{Seat}
use Rattle.decider_thread.specs.Decided.{HasHeard, HasStopped, heard}
use Rattle.decider_thread.specs.Made.{made_due}
use Rattle.decider_thread.specs.Puts.{ArePut}

-- it has stopped; then the rest of the ring was passed over, and what waited was put
pub heard_after : (c : Config) (zone : Zone) (share : Share) (queues : List LaneQueue) (over : Bool) (before after : List Signal) (waiting : ℕ → List Notice) (seats later : List Seat) (tells : List Suppression → Type 0) (log : List Suppression)
    → HasStopped c zone share queues over before waiting seats tells log
    → (over ≡ true → after ≡ before) → (over ≡ false → (past : List Event) → before ≡ heard past → (newer : List Event) × (after ≡ heard (newer ++ past) ++ Over ∷ []))
    → ((whole : ℕ → List Notice) → ArePut share.decider queues seats waiting whole → ArePut share.decider queues later (λ _. []) whole)
    → HasHeard c zone share queues (not over) after later tells log
heard_after c zone share queues true before after waiting seats later tells log s same rest puts = record {
  past = s.past;
  all = s.all;
  older = s.older;
  whole = λ _. s.whole refl;
  heard_all = same refl ∙ s.heard_all;
  seats = puts (λ l. made_due c zone share l s.past) s.seats;
  log = s.log;
}
heard_after c zone share queues false before after waiting seats later tells log s same rest puts =
    let more = rest refl s.all (s.heard_all ∙ append-nil (heard s.all)) in record {
      past = s.past;
      all = more.0 ++ s.all;
      older = (more.0 ++ s.older.0, append_assoc more.0 s.older.0 s.past ∙ ap (λ (es : List Event). more.0 ++ es) s.older.1);
      whole = λ e. absurd (true≢false e);
      heard_all = more.1;
      seats = puts (λ l. made_due c zone share l s.past) s.seats;
      log = s.log;
    }
