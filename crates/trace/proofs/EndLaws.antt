-- What is written after a feed, and the whole.
use Rattle.std.proofs.Common.{◌≡◌, ◌≢◌, inl, inr, ℕ, ◌+◌, Bool, true, false, List, [], ◌++◌, length, replicate, Option, None, IfSome, refl, sym, ap, subst, ◌∙◌, append_assoc}
use Rattle.std.proofs.lemmas.Option.{IfSome_then}
use Rattle.std.proofs.lemmas.List.{append-nil}
use Rattle.std.proofs.lemmas.List.Elements.{All-nil}
use Rattle.due_model.specs.declared.config.Config.{Config}
use Rattle.due_model.specs.declared.zone.Zone.{Zone}
use Rattle.due_model.specs.declared.event.Event.{Event}
use Rattle.event_feed.specs.claims.Feed.{Answer, Feed, answers}
use Rattle.event_feed.specs.Feed.{feed_of}
use Rattle.event_feed.specs.FeedLaws.{known_weaker}
use Rattle.text_lines.specs.LineReader.{Reading, to_come}
use Rattle.text_lines.specs.claims.Lines.{Known, pieces}
use Rattle.steps.specs.declared.settings.Settings.{Settings}
use Rattle.world_steps.specs.Runs.{new_world}
use Rattle.world_steps.specs.claims.Views.{world_setup, world_state}
use Rattle.world_steps.specs.claims.Worlds.{Setup, WorldState}
use Rattle.written.specs.claims.Written.{Leaves, Writes, WritesFront}
use Rattle.written.specs.WrittenLaws.{front_less, front_none, front_on, leaves_on, leaves_less}
use Rattle.command_output.specs.declared.outcome.Ending.{Ending}
use Rattle.command_output.specs.declared.outcome.Ending.TheVariants.{Short}
use Rattle.command_input.specs.InputLaws.{some_all}
use Rattle.trace.specs.declared.feed.AfterFeed.{AfterFeed}
use Rattle.trace.specs.declared.feed.AfterFeed.TheVariants.{Steps}
use Rattle.trace.specs.declared.run.Run.{Run}
use Rattle.trace.specs.Feed.{FeedBegins, FeedEnds, FeedState, after_answers, mark}
use Rattle.trace.specs.FeedRun.{Has, ReadsFeed, ReadsFront, feed_state}
use Rattle.trace.specs.LaneLines.{world_text}
use Rattle.trace.specs.Run.{RunState, run_state}
use Rattle.trace.specs.StepLines.{StepsFront, WritesSteps}
use Rattle.trace.specs.Trace.{BeginsEnd, EndFront, EndsTrace, TracesFeed, TracesFront, WritesEnd, ending_of, no_feed, start_with, trace_setup}
use Rattle.trace.proofs.StepLinesLaws.{known_last, same_parts}

pub end_short : (can_fail : Bool) (c : Config) (d : ℕ) (s : Setup) (old new : RunState) (over : Bool) (rest : List ℕ) (before after : Option (List ℕ)) (held held' : List ℕ)
    → WritesSteps can_fail c d s rest false old new before after held held' → WritesEnd can_fail c d s old over Steps rest Short before after held held'
end_short can_fail c d s old new over rest before after held held' h =
    (h.0 ++ [], (false, new, h.0, h.1, refl, refl), subst (λ (t : List ℕ). Leaves before after (held ++ t) held') (sym (append-nil h.0)) h.2)

pub end_whole : (can_fail : Bool) (c : Config) (d : ℕ) (s : Setup) (old new : RunState) (over : Bool) (rest : List ℕ) (before mid after : Option (List ℕ)) (held held' held'' : List ℕ)
    → WritesSteps can_fail c d s rest true old new before mid held held' → Leaves mid after (held' ++ world_text s new.world) held''
    → WritesEnd can_fail c d s old over Steps rest (ending_of over) before after held held''
end_whole can_fail c d s old new over rest before mid after held held' held'' h k = (
  h.0 ++ world_text s new.world,
  (true, new, h.0, h.1, refl, refl),
  subst (λ (t : List ℕ). Leaves before after t held'') (append_assoc held h.0 (world_text s new.world)) (leaves_on before mid after (held ++ h.0) held' (world_text s new.world) held'' h.2 k),
)

-- a front of what becomes of the steps is written, or of that and of the lines of the lanes
pub front_of_steps : (can_fail : Bool) (c : Config) (d : ℕ) (s : Setup) (old : RunState) (over : Bool) (rest : List ℕ) (before after : Option (List ℕ)) (held : List ℕ)
    → StepsFront c d s rest old before after held → EndFront can_fail c d s old over Steps rest before after held
front_of_steps can_fail c d s old over rest before after held h = (h.0, inl (refl, h.1), h.2)

pub front_of_lanes : (can_fail : Bool) (c : Config) (d : ℕ) (s : Setup) (old new : RunState) (over : Bool) (rest : List ℕ) (before mid after : Option (List ℕ)) (held held' : List ℕ)
    → WritesSteps can_fail c d s rest true old new before mid held held' → WritesFront mid after (held' ++ world_text s new.world)
    → EndFront can_fail c d s old over Steps rest before after held
front_of_lanes can_fail c d s old new over rest before mid after held held' h k = (
  h.0 ++ world_text s new.world,
  inr (ending_of over, (true, new, h.0, h.1, refl, refl)),
  subst (λ (t : List ℕ). WritesFront before after t) (append_assoc held h.0 (world_text s new.world)) (front_on before mid after (held ++ h.0) held' (world_text s new.world) h.2 k),
)

-- or, without steps, of the lines of the lanes
pub front_of_rest : (can_fail : Bool) (c : Config) (d : ℕ) (s : Setup) (old : RunState) (over : Bool) (after ends : AfterFeed) (rest : List ℕ) (ending : Ending) (before now : Option (List ℕ)) (held : List ℕ)
    → after ≡ ends → EndsTrace can_fail c d s old over ends rest ending (world_text s old.world) → WritesFront before now (held ++ world_text s old.world) → EndFront can_fail c d s old over after rest before now held
front_of_rest can_fail c d s old over after ends rest ending before now held is end front =
    subst (λ (x : AfterFeed). EndFront can_fail c d s old over x rest before now held) (sym is) (world_text s old.world, inr (ending, end), front)

-- all that was left is written
whole : (old mid last new : Option (List ℕ)) (first held text held' : List ℕ) → Leaves old mid first held → Leaves mid last (held ++ text) held' → Leaves last new held' [] → Writes old new (first ++ text)
whole old mid last new first held text held' h k l =
    let all : Leaves old new (first ++ text) [] = leaves_less old last new (first ++ text) held' [] (leaves_on old mid last first held text held' h k) l in
    subst (λ (t : List ℕ). Writes old new t) (sym (append-nil all.0) ∙ all.2) all.1

-- ---- the feed

-- nothing of the feed was read, and nothing written
pub front_of_none : (can_fail : Bool) (c : Config) (zone : Zone) (settings : Settings) (standbys : ℕ) (source : Reading) (known : Option (List ℕ)) → IfSome (to_come source) (λ bytes. TracesFront can_fail c zone settings standbys bytes known known)
front_of_none can_fail c zone settings standbys source known = some_all (to_come source) (λ bytes. TracesFront can_fail c zone settings standbys bytes known known) (λ bytes. (
  [],
  [],
  inl (
    inl (record {
      before = [];
      others = pieces bytes;
      more = answers c.objects 0 0 (pieces bytes);
      lines = record { lines = refl; unmarked = All-nil (λ (line : List ℕ). line ≢ mark) };
      answers = refl;
      earlier = All-nil _;
    }),
    refl,
  ),
  front_none known [],
))

-- a run of which nothing is read and no text is held yet
pub record IsFresh (c : Config) (run : Run) (held : List ℕ) : Type 0 where
  pub config : run.config.now ≡ c
  pub events : run.events.items ≡ []
  pub over : run.is_over ≡ false
  pub text : held ≡ []

fresh_state : (c : Config) (run : Run) (held : List ℕ) → IsFresh c run held → feed_state run held ≡ no_feed
fresh_state c run held fresh =
    ap (λ (es : List Event). record { events = es; over = run.is_over; text = held }) fresh.events ∙ ap (λ (b : Bool). record { events = []; over = b; text = held }) fresh.over
    ∙ ap (λ (t : List ℕ). record { events = []; over = false; text = t }) fresh.text

-- a front of what the feed gives was written
pub front_of_feed : (can_fail : Bool) (c : Config) (zone : Zone) (settings : Settings) (standbys : ℕ) (run : Run) (feed : Feed) (source : Reading) (before after : Option (List ℕ)) (held : List ℕ)
    → IsFresh c run held → feed ≡ feed_of source 0 0 None
    → IfSome feed.bytes (λ bytes. ReadsFront can_fail run feed bytes before after held) → IfSome (to_come source) (λ bytes. TracesFront can_fail c zone settings standbys bytes before after)
front_of_feed can_fail c zone settings standbys run feed source before after held fresh is h =
    IfSome_then (to_come source) (subst (λ (x : Feed). IfSome x.bytes (λ bytes. ReadsFront can_fail run x bytes before after held)) is h)
    (λ bytes front. (
      front.0,
      [],
      inl (subst (λ (x : Config). FeedBegins can_fail (answers x.objects 0 0 (pieces bytes)) 0 bytes front.0) fresh.config front.1, refl),
      subst (λ (t : List ℕ). WritesFront before after t) (sym (append-nil (after_answers no_feed front.0).text))
          (subst (λ (f : FeedState). WritesFront before after (after_answers f front.0).text) (fresh_state c run held fresh) front.2),
    ))

-- what the whole feed gives: where its bytes are known, these answers were given, and they are kept and written
pub record IsFed (can_fail : Bool) (c : Config) (source : Reading) (known : Option (List ℕ)) (after : AfterFeed) (run : Run) (before now : Option (List ℕ)) (held : List ℕ) : Type 0 where
  pub each : Known (to_come source) known (λ bytes rest. (given : List Answer) × FeedEnds can_fail (answers c.objects 0 0 (pieces bytes)) 0 bytes after given rest
      × Has (after_answers no_feed given) run before now held)

pub fed : (can_fail : Bool) (c : Config) (source : Reading) (feed : Feed) (known rest : Option (List ℕ)) (after : AfterFeed) (run run' : Run) (before now : Option (List ℕ)) (held held' : List ℕ)
    → IsFresh c run held → feed ≡ feed_of source 0 0 None → rest ≡ known → Known feed.bytes rest (λ bytes rest. ReadsFeed can_fail run feed bytes after run' rest before now held held')
    → IsFed can_fail c source known after run' before now held'
fed can_fail c source feed known rest after run run' before now held held' fresh is left h = record {
  each = known_weaker (to_come source) known (λ bytes rest. ReadsFeed can_fail run (feed_of source 0 0 None) bytes after run' rest before now held held') _
      (subst (λ (t : Feed × Option (List ℕ)). Known t.0.bytes t.1 (λ bytes rest. ReadsFeed can_fail run t.0 bytes after run' rest before now held held'))
      (ap (λ (f : Feed). (f, rest)) is ∙ ap (λ (k : Option (List ℕ)). (feed_of source 0 0 None, k)) left) h)
      (λ bytes rest h. (
        h.0,
        subst (λ (x : Config). FeedEnds can_fail (answers x.objects 0 0 (pieces bytes)) 0 bytes after h.0 rest) fresh.config h.1,
        subst (λ (f : FeedState). Has (after_answers f h.0) run' before now held') (fresh_state c run held fresh) h.2,
      ));
}

-- ---- the steps after it

-- but for its events the run is that with which a trace begins
pub record HasBegun (c : Config) (zone : Zone) (settings : Settings) (standbys : ℕ) (run : Run) : Type 0 where
  pub config : run.config.now ≡ c
  pub deciders : run.deciders ≡ settings.deciders
  pub setup : world_setup run.world ≡ trace_setup c zone settings
  pub posted : run.posted ≡ 0
  pub world : world_state run.world ≡ new_world (trace_setup c zone settings) (replicate (length c.lanes) (standbys + 1))

state_of_parts : (run : Run) (events : List Event) (world : WorldState) → run.events.items ≡ events → run.posted ≡ 0 → world_state run.world ≡ world
    → run_state run ≡ record { events = events; posted = 0; world = world }
state_of_parts run events world e p w =
    ap (λ (es : List Event). record { events = es; posted = run.posted; world = world_state run.world }) e
    ∙ ap (λ (n : ℕ). record { events = events; posted = n; world = world_state run.world }) p
    ∙ ap (λ (v : WorldState). record { events = events; posted = 0; world = v }) w

module _ (can_fail : Bool) (c : Config) (zone : Zone) (settings : Settings) (standbys : ℕ) (source : Reading) (known : Option (List ℕ)) (after : AfterFeed) (run : Run) (w0 w1 : Option (List ℕ)) (held : List ℕ)
    (begun : HasBegun c zone settings standbys run) (feed : IsFed can_fail c source known after run w0 w1 held) where
  -- what is said of the run once the feed is read is said of the one in which the steps begin
  in_start : (P : Config → ℕ → Setup → RunState → Bool → Type 0) (f : FeedState) → Has f run w0 w1 held
      → P run.config.now run.deciders (world_setup run.world) (run_state run) run.is_over
      → P c settings.deciders (trace_setup c zone settings) (start_with c zone settings standbys f) f.over
  in_start P f has h =
      same_parts (λ x d s. P x d s (start_with c zone settings standbys f) f.over) c run.config.now settings.deciders run.deciders (trace_setup c zone settings) (world_setup run.world)
      begun.config begun.deciders begun.setup
      (subst (λ (x : RunState). P run.config.now run.deciders (world_setup run.world) x f.over)
      (state_of_parts run f.events (new_world (trace_setup c zone settings) (replicate (length c.lanes) (standbys + 1))) has.events begun.posted begun.world)
      (subst (λ (x : Bool). P run.config.now run.deciders (world_setup run.world) (run_state run) x) has.over h))

  abbrev End : Ending → Option (List ℕ) → List ℕ → List ℕ → Type 0
  End ending w2 held2 rest = WritesEnd can_fail run.config.now run.deciders (world_setup run.world) (run_state run) run.is_over after rest ending w1 w2 held held2

  abbrev Front : Option (List ℕ) → List ℕ → Type 0
  Front w2 rest = EndFront can_fail run.config.now run.deciders (world_setup run.world) (run_state run) run.is_over after rest w1 w2 held

  -- all that was made was written
  pub feed_traced : (ending : Ending) (w2 w3 : Option (List ℕ)) (held2 : List ℕ) → Leaves w2 w3 held2 [] → IfSome known (End ending w2 held2)
      → IfSome (to_come source) (λ bytes. TracesFeed can_fail c zone settings standbys bytes ending w0 w3)
  feed_traced ending w2 w3 held2 flushed end =
      known_last (to_come source) known _ (End ending w2 held2) (λ bytes. TracesFeed can_fail c zone settings standbys bytes ending w0 w3)
      (λ bytes rest h k.
      let f : FeedState = after_answers no_feed h.0 in (
        after,
        h.0,
        rest,
        k.0,
        h.1,
        in_start (λ x d s r over. EndsTrace can_fail x d s r over after rest ending k.0) f h.2 k.1,
        whole w0 w1 w2 w3 f.text held k.0 held2 h.2.text k.2 flushed,
      ))
      feed.each end

  -- a front of it was written
  pub front_of_end : (w2 : Option (List ℕ)) → IfSome known (Front w2) → IfSome (to_come source) (λ bytes. TracesFront can_fail c zone settings standbys bytes w0 w2)
  front_of_end w2 front =
      known_last (to_come source) known _ (Front w2) (λ bytes. TracesFront can_fail c zone settings standbys bytes w0 w2)
      (λ bytes rest h k.
      let f : FeedState = after_answers no_feed h.0 in (
        h.0,
        k.0,
        inr (after, rest, h.1, in_start (λ x d s r over. BeginsEnd can_fail x d s r over after rest k.0) f h.2 k.1),
        front_on w0 w1 w2 f.text held k.0 h.2.text k.2,
      ))
      feed.each front

  -- all was made, and a front of what was held is written
  pub front_of_flush : (ending : Ending) (w2 w3 : Option (List ℕ)) (held2 : List ℕ) → WritesFront w2 w3 held2 → IfSome known (End ending w2 held2)
      → IfSome (to_come source) (λ bytes. TracesFront can_fail c zone settings standbys bytes w0 w3)
  front_of_flush ending w2 w3 held2 front end =
      front_of_end w3 (IfSome_then known end (λ rest k. (k.0, inr (ending, k.1), front_less w1 w2 w3 (held ++ k.0) held2 k.2 front)))
