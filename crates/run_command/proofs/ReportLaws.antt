-- Lines that are made one after another.
use Rattle.std.proofs.Common.{◌≡◌, ℕ, ◌+◌, ◌<◌, ◌≤◌, Bool, cond, false, List, [], ◌∷◌, ◌++◌, flat_map, length, take, drop, get_or, Option, Result, Ok, Err, IfErr, IfOk, IsErrOf, IsOk, OnOk, ◌⊎◌, inl, inr, Some, slice_get, sym, ap, ap₂, subst, ◌∙◌, append_assoc}
use Rattle.std.proofs.lemmas.Bool.{le-ltb, lt-ltb}
use Rattle.std.proofs.lemmas.Grind.{flat_map-append}
use Rattle.std.proofs.lemmas.Option.{same_Some, slice_get-get_or, slice_get_within}
use Rattle.std.proofs.lemmas.List.{append-nil, take-append-drop, take_all, take_more}
use Rattle.due_model.specs.declared.config.Config.{Config}
use Rattle.due_model.specs.declared.config.LaneId.{LaneId}
use Rattle.due_model.specs.declared.notice.Notice.{Notice}
use Rattle.due_model.specs.declared.zone.Zone.{Zone}
use Rattle.undelivered.specs.declared.Why.{Why}
use Rattle.engine.specs.declared.run_end.RunEnd.{RunEnd}
use Rattle.engine.specs.claims.Lanes.{LaneParts}
use Rattle.command_output.specs.declared.outcome.CommandFault.{CommandFault}
use Rattle.command_output.specs.declared.outcome.CommandFault.TheVariants as command
use Rattle.command_output.specs.declared.outcome.Ending.{Ending}
use Rattle.command_output.specs.claims.Outcome.{IsWriteFault}
use Rattle.written.specs.claims.Written.{Leaves, Writes, WritesFront}
use Rattle.written.specs.WrittenLaws.{front_begun, front_less, front_longer, front_on, leaves_less, leaves_on}
use Rattle.command_output.specs.claims.RunLine.{closed_line, undelivered_line}
use Rattle.run_command.specs.claims.Report.{IsRun, WritesReport, channel_lines, channels_text, ending_of, letters_text, report_text}

module _ {X : Type 0} (f : X → List ℕ) (old mid new : Option (List ℕ)) (held now : List ℕ) (xs : List X) (i : ℕ) (d : X) (within : i < length xs)
    (before : Leaves old mid (held ++ flat_map f (take i xs)) now) where
  -- one element more
  more : flat_map f (take (i + 1) xs) ≡ flat_map f (take i xs) ++ f (get_or xs i d)
  more = ap (flat_map f) (take_more xs i d within) ∙ flat_map-append f (take i xs) (get_or xs i d ∷ []) ∙ ap (λ text. flat_map f (take i xs) ++ text) (append-nil (f (get_or xs i d)))

  here : (held ++ flat_map f (take i xs)) ++ f (get_or xs i d) ≡ held ++ flat_map f (take (i + 1) xs)
  here = append_assoc held (flat_map f (take i xs)) (f (get_or xs i d)) ∙ ap (λ text. held ++ text) (sym more)

  -- its lines are made
  pub line_written : (held' : List ℕ) → Leaves mid new (now ++ f (get_or xs i d)) held' → Leaves old new (held ++ flat_map f (take (i + 1) xs)) held'
  line_written held' step = subst (λ all. Leaves old new all held') here (leaves_on old mid new (held ++ flat_map f (take i xs)) now (f (get_or xs i d)) held' before step)

  -- or a front of them
  pub line_cut : WritesFront mid new (now ++ f (get_or xs i d)) → WritesFront old new (held ++ flat_map f xs)
  line_cut step =
      let parts : flat_map f (take (i + 1) xs) ++ flat_map f (drop (i + 1) xs) ≡ flat_map f xs =
      sym (flat_map-append f (take (i + 1) xs) (drop (i + 1) xs)) ∙ ap (flat_map f) (take-append-drop (i + 1) xs) in
      subst (λ all. WritesFront old new all) (ap (λ text. held ++ text) parts)
      (front_begun old new held (flat_map f (take (i + 1) xs)) (flat_map f (drop (i + 1) xs))
      (subst (λ all. WritesFront old new all) here (front_on old mid new (held ++ flat_map f (take i xs)) now (f (get_or xs i d)) before step)))

-- all of them are made
pub lines_all : {X : Type 0} (f : X → List ℕ) (old new : Option (List ℕ)) (held now : List ℕ) (xs : List X) (i : ℕ) → length xs ≤ i
    → Leaves old new (held ++ flat_map f (take i xs)) now → Leaves old new (held ++ flat_map f xs) now
lines_all {X} f old new held now xs i h before = subst (λ (ys : List X). Leaves old new (held ++ flat_map f ys) now) (take_all i xs h) before

-- ---- parts one after another

-- a part more is made, of a text that is its parts one after another
pub part_on : (old mid new : Option (List ℕ)) (held text part now now' : List ℕ) → Leaves old mid (held ++ text) now → Leaves mid new (now ++ part) now' → Leaves old new (held ++ (text ++ part)) now'
part_on old mid new held text part now now' before step =
    subst (λ all. Leaves old new all now') (append_assoc held text part) (leaves_on old mid new (held ++ text) now part now' before step)

-- or a front of it
pub part_cut : (old mid new : Option (List ℕ)) (held text part now : List ℕ) → Leaves old mid (held ++ text) now → WritesFront mid new (now ++ part) → WritesFront old new (held ++ (text ++ part))
part_cut old mid new held text part now before step =
    subst (λ all. WritesFront old new all) (append_assoc held text part) (front_on old mid new (held ++ text) now part before step)

-- the same of a part that is the last, if it was made
pub part_last : {E : Type 0} (done : Result Unit E) (old mid new : Option (List ℕ)) (held text part now now' : List ℕ) → Leaves old mid (held ++ text) now → OnOk done (Leaves mid new (now ++ part) now')
    → OnOk done (Leaves old new (held ++ (text ++ part)) now')
part_last (Ok x) old mid new held text part now now' before step = part_on old mid new held text part now now' before step
part_last (Err e) old mid new held text part now now' before step = tt

-- a front of the beginning is one of the whole
pub part_begun : (old new : Option (List ℕ)) (held text part : List ℕ) → WritesFront old new (held ++ text) → WritesFront old new (held ++ (text ++ part))
part_begun old new held text part front = front_begun old new held text part front

-- ---- a report: three parts, of which the first is made after nothing, and what is held at the end is written

-- of the first a front is made
pub first_cut : (old new : Option (List ℕ)) (a b d held : List ℕ) → held ≡ [] → WritesFront old new (held ++ a) → WritesFront old new ((a ++ b) ++ d)
first_cut old new a b d held empty step =
    front_longer old new (a ++ b) d (front_longer old new a b (subst (λ (hs : List ℕ). WritesFront old new (hs ++ a)) empty step))

module _ (old m1 : Option (List ℕ)) (a b d held h1 : List ℕ) (empty : held ≡ []) (first : Leaves old m1 (held ++ a) h1) where
  one : Leaves old m1 a h1
  one = subst (λ (hs : List ℕ). Leaves old m1 (hs ++ a) h1) empty first

  -- of the second
  pub second_cut : (m2 : Option (List ℕ)) → WritesFront m1 m2 (h1 ++ b) → WritesFront old m2 ((a ++ b) ++ d)
  second_cut m2 step = front_longer old m2 (a ++ b) d (front_on old m1 m2 a h1 b one step)

  module _ (m2 : Option (List ℕ)) (h2 : List ℕ) (second : Leaves m1 m2 (h1 ++ b) h2) where
    two : Leaves old m2 (a ++ b) h2
    two = leaves_on old m1 m2 a h1 b h2 one second

    -- of the third
    pub third_cut : (m3 : Option (List ℕ)) → WritesFront m2 m3 (h2 ++ d) → WritesFront old m3 ((a ++ b) ++ d)
    third_cut m3 step = front_on old m2 m3 (a ++ b) h2 d two step

    module _ (m3 : Option (List ℕ)) (h3 : List ℕ) (third : Leaves m2 m3 (h2 ++ d) h3) where
      three : Leaves old m3 ((a ++ b) ++ d) h3
      three = leaves_on old m2 m3 (a ++ b) h2 d h3 two third

      -- of what is held
      pub last_cut : (new : Option (List ℕ)) → WritesFront m3 new h3 → WritesFront old new ((a ++ b) ++ d)
      last_cut new step = front_less old m3 new ((a ++ b) ++ d) h3 three step

      -- all of it
      pub report_made : {E : Type 0} (new : Option (List ℕ)) (done : Result Unit E) → OnOk done (Leaves m3 new h3 []) → OnOk done (Writes old new ((a ++ b) ++ d))
      report_made new (Ok x) step =
          let all = leaves_less old m3 new ((a ++ b) ++ d) h3 [] three step in
          subst (λ (text : List ℕ). Writes old new text) (sym (append-nil all.0) ∙ all.2) all.1
      report_made new (Err e) step = tt

-- ---- how a run ended

-- where it ended its report was written
pub if_told : {E : Type 0} (can_fail is_open : Bool) (c : Config) (zone : Zone) (given : ℕ → ℕ) (tie : List LaneParts → Type 0) (known before after : Option (List ℕ)) (end : RunEnd) (told : Result Unit E) (result : Result Ending CommandFault)
    → IsRun can_fail is_open c zone given tie known end → OnOk told (Writes before after (report_text c end))
    → IfOk result (λ ending. (end.memory ≡ false) × (ending ≡ ending_of end) × IsOk told)
    → IfOk result (λ ending. WritesReport can_fail is_open c zone given tie known ending before after)
if_told can_fail is_open c zone given tie known before after end told (Err fault) run wrote ended = tt
if_told can_fail is_open c zone given tie known before after end (Ok x) (Ok ending) run wrote ended = (end, run, ended.0, ended.1, wrote)
if_told can_fail is_open c zone given tie known before after end (Err e) (Ok ending) run wrote ended = let never = ended.2 in absurd (cc)

-- a fault is of the writing, or it is want of memory
pub if_faulted : {A : Type 0} (can_fail : Bool) (told : Result Unit CommandFault) (result : Result A CommandFault) → IfErr told (IsWriteFault can_fail)
    → IfErr result (λ found. (found ≡ command.NoMemory) ⊎ IsErrOf told found) → IfErr result (IsWriteFault can_fail)
if_faulted can_fail told (Ok x) wrote found = tt
if_faulted can_fail told (Err fault) wrote (inl is) = subst (IsWriteFault can_fail) (sym is) tt
if_faulted can_fail (Ok x) (Err fault) wrote (inr is) = absurd (cc)
if_faulted can_fail (Err e) (Err fault) wrote (inr is) = subst (λ found. IfErr found (IsWriteFault can_fail)) is wrote

-- ---- a lane

-- four parts of a text, of which each is made after those before
module _ (old m1 : Option (List ℕ)) (held t u g z : List ℕ) where
  -- of the first a front is made
  pub taken_cut : WritesFront old m1 (held ++ t) → WritesFront old m1 (held ++ (((t ++ u) ++ g) ++ z))
  taken_cut h = part_begun old m1 held ((t ++ u) ++ g) z (part_begun old m1 held (t ++ u) g (part_begun old m1 held t u h))

  module _ (h1 : List ℕ) (a : Leaves old m1 (held ++ t) h1) where
    -- of the second
    pub undelivered_cut : (m2 : Option (List ℕ)) → WritesFront m1 m2 (h1 ++ u) → WritesFront old m2 (held ++ (((t ++ u) ++ g) ++ z))
    undelivered_cut m2 h = part_begun old m2 held ((t ++ u) ++ g) z (part_begun old m2 held (t ++ u) g (part_cut old m1 m2 held t u h1 a h))

    module _ (m2 : Option (List ℕ)) (h2 : List ℕ) (b : Leaves m1 m2 (h1 ++ u) h2) where
      both : Leaves old m2 (held ++ (t ++ u)) h2
      both = part_on old m1 m2 held t u h1 h2 a b

      -- of the third
      pub channels_cut : (m3 : Option (List ℕ)) → WritesFront m2 m3 (h2 ++ g) → WritesFront old m3 (held ++ (((t ++ u) ++ g) ++ z))
      channels_cut m3 h = part_begun old m3 held ((t ++ u) ++ g) z (part_cut old m2 m3 held (t ++ u) g h2 both h)

      module _ (m3 : Option (List ℕ)) (h3 : List ℕ) (d : Leaves m2 m3 (h2 ++ g) h3) where
        all_three : Leaves old m3 (held ++ ((t ++ u) ++ g)) h3
        all_three = part_on old m2 m3 held (t ++ u) g h2 h3 both d

        -- of the fourth
        pub closed_cut : (new : Option (List ℕ)) → WritesFront m3 new (h3 ++ z) → WritesFront old new (held ++ (((t ++ u) ++ g) ++ z))
        closed_cut new h = part_cut old m3 new held ((t ++ u) ++ g) z h3 all_three h

        -- all of it
        pub lane_made : (new : Option (List ℕ)) (h4 : List ℕ) → Leaves m3 new (h3 ++ z) h4 → Leaves old new (held ++ (((t ++ u) ++ g) ++ z)) h4
        lane_made new h4 e = part_on old m3 new held ((t ++ u) ++ g) z h3 h4 all_three e

-- the texts of a lane's number, of what was given up, and of why it is closed
pub undelivered_is : (c : Config) (lane : LaneParts) (number : LaneId) (undelivered : List Notice) → number ≡ lane.lane → undelivered ≡ lane.undelivered
    → letters_text (undelivered_line c number.0) undelivered ≡ letters_text (undelivered_line c lane.lane.0) lane.undelivered
undelivered_is c lane number undelivered is gives = ap₂ (λ (n : LaneId) (ns : List Notice). letters_text (undelivered_line c n.0) ns) is gives

pub closed_is : (c : Config) (lane : LaneParts) (number : LaneId) (why : Why) → number ≡ lane.lane → why ≡ lane.why → closed_line c number.0 why ≡ closed_line c lane.lane.0 lane.why
closed_is c lane number why is closes = ap₂ (λ (n : LaneId) (w : Why). closed_line c n.0 w) is closes

-- ---- the channels of a lane

-- a record that is there is the one at its place
pub record_at : {X : Type 0} (xs : List X) (i : ℕ) (x d : X) → slice_get xs i ≡ Some x → x ≡ get_or xs i d
record_at xs i x d at = same_Some x (get_or xs i d) (sym at ∙ slice_get-get_or xs i d (slice_get_within xs i x at))

-- the lines of several channels, or of one
pub channels_several : (c : Config) (lane : LaneParts) → 1 < lane.channels → channels_text c lane ≡ channel_lines c lane
channels_several c lane some = ap (λ (b : Bool). cond b (channel_lines c lane) []) (lt-ltb 1 lane.channels some)

pub channels_single : (c : Config) (lane : LaneParts) → lane.channels ≤ 1 → channels_text c lane ≡ []
channels_single c lane few = ap (λ (b : Bool). cond b (channel_lines c lane) []) (le-ltb 1 lane.channels few)
