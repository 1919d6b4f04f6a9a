-- By each configuration the same lines of a feed answer.
use Rattle.std.proofs.Common.{◌≡◌, ℕ, ◌+◌, cond, eqb, List, [], ◌∷◌, length, map, Option, None, Some, Bool, true, false, IfSome, Err, refl, ap, inl}
use Rattle.std.specs.Prelude.{is_some}
use Rattle.due_model.specs.declared.config.Object.{Object}
use Rattle.event_feed.specs.declared.fault.FeedFault.TheVariants.{Read}
use Rattle.event_feed.specs.claims.Feed.{Answer, AreGiven, AreGivenBy, Feed, answers, is_stopped, moment_after, text_reading}
use Rattle.event_feed.specs.Feed.{answers_from}
use Rattle.text_lines.specs.claims.Lines.{pieces}
use Rattle.paired_feed.specs.Paired.{since}

-- the lines of answers
abbrev pub lines_of : List Answer → List ℕ
lines_of given = map (λ (answer : Answer). answer.line) given

pub same_lines : (a b : List Object) (from before last : ℕ) (texts : List (List ℕ))
    → lines_of (answers a from before texts) ≡ lines_of (answers b from last texts)
same_lines a b from before last [] = refl
same_lines a b from before last (text ∷ []) = refl
same_lines a b from before last (text ∷ next ∷ more) =
    by (is_stopped from text) (eqb (length text) 0)
    (same_lines a b (from + 1) before last (next ∷ more))
    (same_lines a b (from + 1) (moment_after before (text_reading a before text))
    (moment_after last (text_reading b last text)) (next ∷ more))
  where
    by : (s z : Bool)
        → lines_of (answers a (from + 1) before (next ∷ more))
        ≡ lines_of (answers b (from + 1) last (next ∷ more))
        → lines_of (answers a (from + 1) (moment_after before (text_reading a before text))
        (next ∷ more))
        ≡ lines_of (answers b (from + 1) (moment_after last (text_reading b last text))
        (next ∷ more))
        → lines_of (cond s (record { line = from + 1; given = Err Read } ∷ [])
        (cond z (answers a (from + 1) before (next ∷ more))
        (record { line = from + 1; given = text_reading a before text }
        ∷ answers a (from + 1) (moment_after before (text_reading a before text)) (next ∷ more))))
        ≡ lines_of (cond s (record { line = from + 1; given = Err Read } ∷ [])
        (cond z (answers b (from + 1) last (next ∷ more))
        (record { line = from + 1; given = text_reading b last text }
        ∷ answers b (from + 1) (moment_after last (text_reading b last text)) (next ∷ more))))
    by true z skipped said = refl
    by false true skipped said = skipped
    by false false skipped said = ap (λ (lines : List ℕ). (from + 1) ∷ lines) said

-- of a feed that is read
same_from : (a b : List Object) (feed : Feed) (last : ℕ) (known : List ℕ)
    → lines_of (answers_from a feed known) ≡ lines_of (answers_from b (since feed last) known)
same_from a b feed last known = by (is_some feed.stop)
  where
    by : (s : Bool) → lines_of (cond s [] (answers a feed.line feed.last (pieces known)))
        ≡ lines_of (cond s [] (answers b feed.line last (pieces known)))
    by true = refl
    by false = same_lines a b feed.line feed.last last (pieces known)

-- what a feed gives by each configuration
pub record GivenPair (can_fail : Bool) (a b : List Object) (feed : Feed) (last : ℕ)
    : Type 0 where
  pub given : List Answer
  pub others : List Answer
  pub first : AreGivenBy can_fail a feed given
  pub second : AreGivenBy can_fail b (since feed last) others
  pub same : lines_of given ≡ lines_of others

given_by : (can_fail : Bool) (a b : List Object) (feed : Feed) (last : ℕ) (bytes : Option (List ℕ))
    → (given : List Answer) × (others : List Answer)
    × IfSome bytes (λ known.
    AreGiven can_fail given (answers_from a feed known) feed.line (pieces known))
    × IfSome bytes (λ known.
    AreGiven can_fail others (answers_from b (since feed last) known) feed.line (pieces known))
    × (lines_of given ≡ lines_of others)
given_by can_fail a b feed last None = ([], [], tt, tt, refl)
given_by can_fail a b feed last (Some known) = (
  answers_from a feed known,
  answers_from b (since feed last) known,
  inl refl,
  inl refl,
  same_from a b feed last known,
)

pub some_pair : (can_fail : Bool) (a b : List Object) (feed : Feed) (last : ℕ)
    → GivenPair can_fail a b feed last
some_pair can_fail a b feed last =
    let h = given_by can_fail a b feed last feed.bytes in
    record { given = h.0; others = h.1; first = h.2; second = h.3; same = h.4 }
