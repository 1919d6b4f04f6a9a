-- What is left of a feed, as far as it was read.
use Rattle.std.proofs.Common.{◌≡◌, ◌≢◌, ℕ, ◌-◌, All, Bool, true, false, true≢false, List, [], ◌∷◌, ◌++◌, take, length, if◌then◌else◌, refl, sym, ap, subst, ◌∙◌, arith, length-append}
use Rattle.std.proofs.lemmas.List.{append-nil, nil_from_length}
use Rattle.std.proofs.lemmas.List.Elements.{All-cons, All-head, All-nil, All-tail}
use Rattle.std.proofs.Math.Seq.{take-append_seam}
use Rattle.due_model.specs.declared.config.Config.{Config}
use Rattle.event_feed.specs.declared.fault.FeedFault.TheVariants.{NoMemory}
use Rattle.event_feed.specs.declared.fault.RefusedLine.{RefusedLine}
use Rattle.event_feed.specs.claims.Feed.{Answer, Feed}
use Rattle.engine.specs.claims.Feed.{AreTaken, NoneIsAhead, ahead_in, events_in, is_cut, refusals_in}
use Rattle.engine.specs.Feed.{AreHeldBack, HasRead, Intake, IsLeft, IsOver}
use Rattle.engine.proofs.IntakeLaws.{front_of, held_same, read_said}

-- just those lines are too far ahead that are refused so, by the refused lines
held : (far : ℕ → Bool) (said : List Answer) (refused : List RefusedLine) → refused ≡ refusals_in said → ((n : ℕ) → far n ≡ ahead_in refused n) → AreHeldBack (ahead_in (refusals_in said)) said → AreHeldBack far said
held far said refused is same h = held_same said (ahead_in (refusals_in said)) far (λ n. same n ∙ ap (λ (rs : List RefusedLine). ahead_in rs n) is) h

-- memory ran out while the feed went on
pub left_on : (far : ℕ → Bool) (can_fail : Bool) (c : Config) (start : Feed) (said : List Answer) (now : Intake) (memory : Bool) → HasRead c start said now → (memory ≡ false → ⊥)
    → ((n : ℕ) → far n ≡ ahead_in now.refused n) → IsLeft far can_fail c start memory now.events now.refused false
left_on far can_fail c start said now memory h out same =
    let back = held far said now.refused h.first.refused_are same h.first.held_back in record {
      read = λ none. absurd (out none);
      front = front_of far c start said now.events (read_said c start said now h far back) h.first.events_are;
      read_front = λ m. (said, read_said c start said now h far back, h.first.events_are, h.first.refused_are);
      uncut = λ m. refl;
      proper = h.proper;
      named = h.named;
    }

-- the feed was read to its end, and where memory ran out elsewhere it wasn't cut
pub left_over : (far : ℕ → Bool) (can_fail : Bool) (c : Config) (start : Feed) (said : List Answer) (cut : Bool) (now : Intake) (memory : Bool) → IsOver can_fail c start said cut now → (memory ≡ true → cut ≡ false)
    → ((n : ℕ) → far n ≡ ahead_in now.refused n) → IsLeft far can_fail c start memory now.events now.refused cut
left_over far can_fail c start said cut now memory o uncut same =
    let e = o.ended in
    let back = held far said now.refused e.refused_are same e.held_back in
    let front = o.front far (o.begins far back) in record {
      read = λ none.
          let all = e.given far back in (
            all.0,
            all.1,
            record {
              events_are = e.events_are ∙ ap events_in all.2;
              refused_are = e.refused_are ∙ ap refusals_in all.2;
              cut_is = e.cut_is ∙ ap is_cut all.2;
            },
          );
      front = front_of far c start o.before now.events front o.events_are;
      read_front = λ m. (
        o.before,
        front,
        o.events_are,
        o.refused_are ∙ ap (λ (rs : List RefusedLine). refusals_in o.before ++ rs) (none_last cut o.last o.one (uncut m)) ∙ append-nil (refusals_in o.before),
      );
      uncut = uncut;
      proper = e.proper;
      named = e.named;
    }
  where
    none_last : (b : Bool) (last : List RefusedLine) → length last ≡ (if b then 1 else 0) → b ≡ false → last ≡ []
    none_last true last one whole = absurd (true≢false whole)
    none_last false last one whole = nil_from_length last one

-- memory ran out elsewhere, and the feed was cut: the line at which it was is left out
module _ (can_fail : Bool) (c : Config) (start : Feed) (said : List Answer) (now : Intake) (refused : List RefusedLine) (o : IsOver can_fail c start said true now) (is : refused ≡ take (length now.refused - 1) now.refused) where
  short : (xs last : List RefusedLine) → length last ≡ 1 → take (length (xs ++ last) - 1) (xs ++ last) ≡ xs
  short xs last one =
      ap (λ (n : ℕ). take n (xs ++ last)) (omega (arith, length-append xs last, one)) ∙ take-append_seam xs last

  without : refused ≡ refusals_in o.before
  without = is ∙ ap (λ (rs : List RefusedLine). take (length rs - 1) rs) o.refused_are ∙ short (refusals_in o.before) o.last o.one

  first_all : (P : RefusedLine → Type 0) (xs ys : List RefusedLine) → All P (xs ++ ys) → All P xs
  first_all P [] ys all = All-nil P
  first_all P (x ∷ xs) ys all = All-cons P x xs (All-head P x (xs ++ ys) all) (first_all P xs ys (All-tail P x (xs ++ ys) all))

  -- what holds of the lines that were refused holds of those that are left
  still : (P : RefusedLine → Type 0) → All P now.refused → All P refused
  still P all = subst (All P) (sym without) (first_all P (refusals_in o.before) o.last (subst (All P) o.refused_are all))

  pub left_cut : (far : ℕ → Bool) (memory : Bool) → memory ≡ true → ((n : ℕ) → far n ≡ ahead_in refused n) → IsLeft far can_fail c start memory now.events refused false
  left_cut far memory out same =
      let back = held far o.before refused without same o.held_back in
      let front = o.front far back in record {
        read = λ none. absurd (true≢false (sym out ∙ none));
        front = front_of far c start o.before now.events front o.events_are;
        read_front = λ m. (o.before, front, o.events_are, without);
        uncut = λ m. refl;
        proper = o.ended.proper;
        named = still (λ (r : RefusedLine). r.fault ≢ NoMemory) o.ended.named;
      }
