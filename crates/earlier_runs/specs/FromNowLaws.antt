-- How what is given up follows what was.
use Rattle.std.proofs.Common.{◌≡◌, ℕ, ◌<◌, ◌≤◌, ◌⊎◌, inl, inr, Option, ◌&&◌, ◌==◌, Bool, List, [], ◌++◌, get_or, length, map, not, nat_lt, None, Some, refl, sym, ap, ◌∙◌, subst, arith}
use Rattle.std.specs.Prelude.{slice_get}
use Rattle.std.proofs.lemmas.List.{map-append}
use Rattle.std.proofs.lemmas.List.Elements.{filter-append}
use Rattle.std.proofs.lemmas.Option.{slice_get_cases}
use Rattle.due_model.specs.declared.notice.Notice.{Notice}
use Rattle.journal_text.specs.declared.entry.Entry.{Entry}
use Rattle.journal_text.specs.declared.entry.Entry.TheVariants.{GivenUp}
use Rattle.earlier_runs.specs.declared.left.LaneState.{LaneState}
use Rattle.earlier_runs.specs.FromNow.{HasGivenUp, given_up}

module _ {J : Type 0} (wrote : J → List Entry → J → Type 0) where
  same_some : (found : Option J) (x y : J) → found ≡ Some x → found ≡ Some y → x ≡ y
  same_some found x y e f = cc

  pub given_up_none : (stays : (s : J) → wrote s [] s) (states : List LaneState) (from : ℕ) (journals : List J)
      → HasGivenUp wrote states from journals [] states from journals
  given_up_none stays states from journals = record {
    states_are = refl;
    from_is = refl;
    count = refl;
    each = λ l state before after was_held at first last told.
        subst (λ (x : J). wrote before [] x) (same_some (slice_get journals l) before after first last) (stays before);
  }

  given_up_both : (was_held : Notice → Bool) (l from : ℕ) (one two : List Notice)
      → map GivenUp (given_up was_held l from (one ++ two)) ≡ map GivenUp (given_up was_held l from one) ++ map GivenUp (given_up was_held l from two)
  given_up_both was_held l from one two =
      ap (map GivenUp) (filter-append (λ (n : Notice). (n.lane.0 == l) && (nat_lt n.event from && not (was_held n))) one two)
      ∙ map-append GivenUp (given_up was_held l from one) (given_up was_held l from two)

  -- one within the list
  some_there : {X : Type 0} (xs : List X) (l : ℕ) (x : X) → slice_get xs l ≡ Some x → l < length xs
  some_there {X} xs l x at = by (slice_get_cases xs l).1
    where
      by : ((y : X) × (l < length xs) × (slice_get xs l ≡ Some y) × (get_or xs l y ≡ y)) ⊎ ((length xs ≤ l) × (slice_get xs l ≡ None)) → l < length xs
      by (inl h) = h.1
      by (inr h) = absurd (none_some x (sym h.1 ∙ at))
        where
          none_some : (x : X) → None ≡ Some x → ⊥
          none_some x e = cc

  there : {X : Type 0} (xs : List X) (l : ℕ) → l < length xs → (x : X) × (slice_get xs l ≡ Some x)
  there {X} xs l within = by (slice_get_cases xs l).1
    where
      by : ((y : X) × (l < length xs) × (slice_get xs l ≡ Some y) × (get_or xs l y ≡ y)) ⊎ ((length xs ≤ l) × (slice_get xs l ≡ None)) → (x : X) × (slice_get xs l ≡ Some x)
      by (inl h) = (h.0, h.2)
      by (inr h) = let past : length xs ≤ l = h.0 in absurd (omega (arith, within, past))

  pub given_up_more : (follows : (a b c : J) (one two : List Entry) → wrote a one b → wrote b two c → wrote a (one ++ two) c)
      (states states' states'' : List LaneState) (from from' from'' : ℕ) (journals journals' journals'' : List J) (one two : List Notice)
      → HasGivenUp wrote states from journals one states' from' journals' → HasGivenUp wrote states' from' journals' two states'' from'' journals''
      → HasGivenUp wrote states from journals (one ++ two) states'' from'' journals''
  given_up_more follows states states' states'' from from' from'' journals journals' journals'' one two first next = record {
    states_are = next.states_are ∙ first.states_are;
    from_is = next.from_is ∙ first.from_is;
    count = next.count ∙ first.count;
    each = λ l state before after was_held at began last told.
        let within : l < length journals = some_there journals l before began in
        let same : length journals' ≡ length journals = first.count in
        let middle = there journals' l (omega (arith, within, same)) in
        let here : slice_get states' l ≡ Some state = ap (λ (xs : List LaneState). slice_get xs l) first.states_are ∙ at in
        subst (λ (es : List Entry). wrote before es after) (sym (given_up_both was_held l from one two))
        (follows before middle.0 after (map GivenUp (given_up was_held l from one)) (map GivenUp (given_up was_held l from two))
        (first.each l state before middle.0 was_held at began middle.1 told)
        (subst (λ (f : ℕ). wrote middle.0 (map GivenUp (given_up was_held l f two)) after) first.from_is
        (next.each l state middle.0 after was_held here middle.1 last told)));
  }
