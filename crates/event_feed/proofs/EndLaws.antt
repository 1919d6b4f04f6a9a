-- An answer that ends a feed is the last.
use Rattle.std.proofs.Common.{◌≡◌, ℕ, ◌+◌, true, false, not, eqb, All, List, [], ◌∷◌, ◌++◌, length, Bool, Result, Ok, Err, refl, sym, ap, subst, ◌∙◌, inl, inr}
use Rattle.std.proofs.lemmas.Bool.{cond_both, true≢false}
use Rattle.std.proofs.lemmas.List.Elements.{All-head, All-tail}
use Rattle.due_model.specs.declared.config.Config.{Config}
use Rattle.due_model.specs.declared.event.Event.{Event}
use Rattle.event_feed.specs.declared.fault.FeedFault.{FeedFault}
use Rattle.event_feed.specs.declared.fault.FeedFault.TheVariants.{Read}
use Rattle.event_feed.specs.claims.Fault.{is_line_fault}
use Rattle.event_feed.specs.claims.Feed.{Answer, AreGiven, answers_within, ends_feed, held_back, is_stopped, moment_after, raised, text_reading_within}
use Rattle.event_feed.specs.Laws.{NothingFollowsTheEnd}
use Rattle.event_feed.specs.claims.Line.{line_reading}
use Rattle.event_feed.proofs.ProperLines.{line_reading-fault}

-- of these answers one that ends the feed is the last
abbrev EndsOnce : List Answer → Type 0
EndsOnce [] = Unit {0}
EndsOnce (answer ∷ more) = (ends_feed answer.given ≡ true → more ≡ []) × EndsOnce more

-- the answer of a whole line ends no feed
reads_on : (far : Bool) (last : ℕ) (read : Result Event FeedFault) → ((fault : FeedFault) → read ≡ Err fault → is_line_fault fault ≡ true) → ends_feed (raised last (held_back far read)) ≡ false
reads_on false last (Ok event) fits = refl
reads_on false last (Err fault) fits = ap not (fits fault refl)
reads_on true last (Ok event) fits = refl
reads_on true last (Err fault) fits = ap not (fits fault refl)

answers-once : (far : ℕ → Bool) (c : Config) (from last : ℕ) (texts : List (List ℕ)) → EndsOnce (answers_within far c.objects from last texts)
answers-once far c from last [] = tt
answers-once far c from last (text ∷ []) =
    cond_both (is_stopped from text) _ _ EndsOnce (λ _. ((λ _. refl), tt))
    (λ _. cond_both (eqb (length text) 0) _ _ EndsOnce (λ _. tt) (λ _. ((λ _. refl), tt)))
answers-once far c from last (text ∷ next ∷ more) =
    cond_both (is_stopped from text) _ _ EndsOnce (λ _. ((λ _. refl), tt))
    (λ _. cond_both (eqb (length text) 0) _ _ EndsOnce (λ _. answers-once far c (from + 1) last (next ∷ more)) (λ _. (
      (λ ends. absurd (true≢false (sym ends ∙ reads_on (far (from + 1)) last (line_reading c.objects text) (line_reading-fault c text)))),
      answers-once far c (from + 1) (moment_after last (text_reading_within (far (from + 1)) c.objects last text)) (next ∷ more),
    )))

-- where those before the last don't
broken-once : (front : List Answer) (answer : Answer) → All (λ a. ends_feed a.given ≡ false) front → EndsOnce (front ++ answer ∷ [])
broken-once [] answer on = ((λ _. refl), tt)
broken-once (first ∷ front) answer on = (
  (λ ends. absurd (true≢false (sym ends ∙ All-head (λ (a : Answer). ends_feed a.given ≡ false) first front on))),
  broken-once front answer (All-tail (λ (a : Answer). ends_feed a.given ≡ false) first front on),
)

is-last : (front others : List Answer) (answer : Answer) → EndsOnce (front ++ answer ∷ others) → ends_feed answer.given ≡ true → others ≡ []
is-last [] others answer once ends = once.0 ends
is-last (first ∷ front) others answer once ends = is-last front others answer once.1 ends

given-once : (far : ℕ → Bool) (can_fail : Bool) (c : Config) (from last : ℕ) (texts : List (List ℕ)) (given : List Answer) → AreGiven can_fail given (answers_within far c.objects from last texts) from texts → EndsOnce given
given-once far can_fail c from last texts given (inl same) = subst EndsOnce (sym same) (answers-once far c from last texts)
given-once far can_fail c from last texts given (inr off) = subst EndsOnce (sym off.whole) (broken-once off.front (record { line = off.line; given = Err Read }) off.read_on)

pub nothing-follows : NothingFollowsTheEnd
nothing-follows far can_fail c from last texts front others answer given ends =
    is-last front others answer (given-once far can_fail c from last texts (front ++ answer ∷ others) given) ends
