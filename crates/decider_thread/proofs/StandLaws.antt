-- A decider that decides one event more, puts what waits, and stops.
use Rattle.std.proofs.Common.{◌≡◌, ℕ, ◌<◌, List, [], ◌∷◌, ◌++◌, length, refl, sym, true, false, true≢false, ap, ◌∙◌, append_assoc, append-nil}
use Rattle.due_model.specs.declared.config.Config.{Config}
use Rattle.due_model.specs.declared.event.Event.{Event}
use Rattle.due_model.specs.declared.notice.Notice.{Notice}
use Rattle.due_model.specs.declared.notice.Suppression.{Suppression}
use Rattle.due_model.specs.declared.zone.Zone.{Zone}
use Rattle.decider.specs.declared.share.Share.{Share}
use Rattle.decider.specs.claims.Decider.{gained, suppressed_gained}
use Rattle.decider.specs.claims.Fits.{Fits, Kept, settings}
use Rattle.decider.specs.Fits.{HasDecidedNothing}
use Rattle.channel_queue.specs.declared.LaneQueue.{LaneQueue}
use Rattle.decider_thread.specs.declared.Signal.{Signal}
use Rattle.decider_thread.specs.declared.Signal.TheVariants.{Decides, Over}
use Rattle.decider_thread.specs.declared.seats.Seat.{Seat}
use Rattle.decider_thread.specs.Decided.{HasStopped, Stands, heard}
use Rattle.decider_thread.specs.Made.{made_due, suppressed}
use Rattle.decider_thread.specs.Puts.{ArePut}
use Rattle.decider_thread.specs.Told.{IsNoted}
use Rattle.decider_thread.proofs.PutLaws.{more_waits, same_waits}

-- it begins
pub begins : (c : Config) (zone : Zone) (share : Share) (queues : List LaneQueue) (k : Kept) (tells : List Suppression → Type 0) (waiting : ℕ → List Notice) (seats : List Seat)
    → tells [] → HasDecidedNothing c zone share k → ((l : ℕ) → l < length queues → waiting l ≡ []) → ArePut share.decider queues seats (λ _. []) (λ _. [])
    → Stands c zone share queues [] k tells waiting seats
begins c zone share queues k tells waiting seats nothing new none puts = record {
  fits = new.fits;
  settings = new.settings;
  puts = same_waits share.decider queues seats (λ _. []) waiting (λ _. []) (λ l below. sym (none l below)) puts;
  log = record { told = []; are_told = nothing; both = new.log };
}

module _ (c : Config) (zone : Zone) (share : Share) (queues : List LaneQueue) (past : List Event) (k : Kept) (tells : List Suppression → Type 0) (before : ℕ → List Notice) (seats : List Seat)
    (stands : Stands c zone share queues past k tells before seats) where
  -- what it makes due waits
  waits_more : (e : Event) (after : ℕ → List Notice) → ((l : ℕ) → l < length queues → after l ≡ before l ++ gained k.config k.zone k.share l e past)
      → ArePut share.decider queues seats after (λ l. made_due c zone share l (e ∷ past))
  waits_more e after gains =
      more_waits share.decider queues seats (λ l. gained c zone share l e past) before after (λ l. made_due c zone share l past) (λ l. made_due c zone share l (e ∷ past))
      (λ l below. gains l below ∙ ap (λ (t : Config × Zone × Share). before l ++ gained t.0 t.1 t.2 l e past) stands.settings)
      (λ l. refl) stands.puts

  -- and then it has decided it
  pub stands_more : (e : Event) (next : Kept) (after : ℕ → List Notice) → Fits next (e ∷ past) → settings next ≡ settings k → next.log ≡ k.log ++ suppressed_gained k.config k.zone k.share e past
      → ((l : ℕ) → l < length queues → after l ≡ before l ++ gained k.config k.zone k.share l e past)
      → Stands c zone share queues (e ∷ past) next tells after seats
  stands_more e next after fits same log gains = record {
    fits = fits;
    settings = same ∙ stands.settings;
    puts = waits_more e after gains;
    log = record {
      told = stands.log.told;
      are_told = stands.log.are_told;
      both = ap (λ (lines : List Suppression). stands.log.told ++ lines) log
          ∙ sym (append_assoc stands.log.told k.log (suppressed_gained k.config k.zone k.share e past))
          ∙ ap (λ (lines : List Suppression). lines ++ suppressed_gained k.config k.zone k.share e past) stands.log.both
          ∙ ap (λ (t : Config × Zone × Share). suppressed c zone share past ++ suppressed_gained t.0 t.1 t.2 e past) stands.settings;
    };
  }

  -- what it has noted is told, or kept
  pub stands_noted : (next : Kept) (tells_now : List Suppression → Type 0) → Fits next past → settings next ≡ settings k
      → IsNoted tells_now next.log (suppressed c zone share past)
      → Stands c zone share queues past next tells_now before seats
  stands_noted next tells_now fits same noted = record {
    fits = fits;
    settings = same ∙ stands.settings;
    puts = stands.puts;
    log = noted;
  }

  -- what waits is put
  pub stands_put : (after : ℕ → List Notice) (later : List Seat) → ((whole : ℕ → List Notice) → ArePut share.decider queues seats before whole → ArePut share.decider queues later after whole)
      → Stands c zone share queues past k tells after later
  stands_put after later puts = record {
    fits = stands.fits;
    settings = stands.settings;
    puts = puts (λ l. made_due c zone share l past) stands.puts;
    log = stands.log;
  }

  -- it stops at the end of the ring
  pub stops_over : (signals : List Signal) → signals ≡ heard past ++ Over ∷ [] → HasStopped c zone share queues true signals before seats tells k.log
  stops_over signals got = record {
    past = past;
    all = past;
    older = ([], refl);
    whole = λ _. refl;
    heard_all = got;
    seats = stands.puts;
    log = stands.log;
  }

  -- or before an event that it has received
  pub stops_before : (e : Event) (signals : List Signal) → signals ≡ heard past ++ Decides e ∷ [] → HasStopped c zone share queues false signals before seats tells k.log
  stops_before e signals got = record {
    past = past;
    all = e ∷ past;
    older = (e ∷ [], refl);
    whole = λ is. absurd (true≢false (sym is));
    heard_all = got ∙ sym (append-nil (heard (e ∷ past)));
    seats = stands.puts;
    log = stands.log;
  }
