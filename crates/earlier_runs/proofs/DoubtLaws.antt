-- What of a lane is in doubt, each once.
use Rattle.std.proofs.Common.{◌≡◌, ℕ, zero, suc, ◌<◌, ◌||◌, ◌+◌, ◌⊎◌, inl, inr, Bool, true, false, cond, not, nat_lt, List, [], ◌∷◌, ◌++◌, filter, get_or, length, map, take, sym, ap, ◌∙◌, subst, arith}
use Rattle.std.specs.Prelude.{All, Contains}
use Rattle.std.specs.List.{list_any}
use Rattle.std.specs.List.Sorted.{IsPermutation}
use Rattle.std.proofs.lemmas.List.{map-append, take_more}
use Rattle.std.proofs.lemmas.List.Elements.{All-contains, All-contains_itself, All-filter, All-push, Contains-append_left, Contains-push, Contains-push_cases, filter_agree, filter_passes}
use Rattle.std.proofs.lemmas.List.Sorted.{list_any-IsPermutation}
use Rattle.due_model.specs.declared.notice.Notice.{Notice}
use Rattle.journal_folder.specs.declared.lane_past.LanePast.{LanePast}
use Rattle.journal_text.specs.declared.entry.Entry.{Entry}
use Rattle.journal_text.specs.declared.entry.Entry.TheVariants.{GivenUp}
use Rattle.journaled.specs.Claims.{Past, is_new, settles}
use Rattle.earlier_runs.specs.State.{AddsOnce, AreDoubts, AreEachOnce, AreOnce, past_read}

-- ---- each once

once_push : (found : List Notice) (n : Notice) → AreOnce found → (Contains found n → ⊥) → AreOnce (found ++ n ∷ [])
once_push [] n h new = (λ has. let none : has.0 < 0 = has.1 in absurd (omega (arith, none)), tt)
once_push (x ∷ xs) n h new = (
  λ has. by (Contains-push_cases xs n x has),
  once_push xs n h.1 (λ has. let inside : has.0 < length xs = has.1 in new (suc has.0, omega (arith, inside), has.2)),
)
  where
    by : Contains xs x ⊎ (n ≡ x) → ⊥
    by (inl has) = h.0 has
    by (inr is) = new (0, omega arith, sym is)

pub once_none : AreEachOnce [] []
once_none = record {
  each = λ k d within. absurd (omega (arith, within));
  all = λ k d within. absurd (omega (arith, within));
  once = tt;
}

-- one more that was found before
pub once_same : (before found : List Notice) (n : Notice) → AreEachOnce before found → Contains found n → AreEachOnce (before ++ n ∷ []) found
once_same before found n h has = record {
  each = λ k d within. Contains-append_left before (n ∷ []) (get_or found k d) (h.each k d within);
  all = All-push (Contains found) before n h.all has;
  once = h.once;
}

-- one more that wasn't
pub once_new : (before found : List Notice) (n : Notice) → AreEachOnce before found → (Contains found n → ⊥) → AreEachOnce (before ++ n ∷ []) (found ++ n ∷ [])
once_new before found n h new = record {
  each = All-push (Contains (before ++ n ∷ [])) found n (λ k d within. Contains-append_left before (n ∷ []) (get_or found k d) (h.each k d within)) (Contains-push before n);
  all = All-push (Contains (found ++ n ∷ [])) before n (λ k d within. Contains-append_left found (n ∷ []) (get_or before k d) (h.all k d within)) (Contains-push found n);
  once = once_push found n h.once new;
}

pub once_more : (notices found new : List Notice) (i : ℕ) (d n : Notice) → i < length notices → n ≡ get_or notices i d → AreEachOnce (take i notices) found → AddsOnce found n new
    → AreEachOnce (take (i + 1) notices) new
once_more notices found new i d n within is h adds =
    subst (λ (ns : List Notice). AreEachOnce ns new) (ap (λ (x : Notice). take i notices ++ x ∷ []) is ∙ sym (take_more notices i d within)) (by adds)
  where
    by : AddsOnce found n new → AreEachOnce (take i notices ++ n ∷ []) new
    by (inl same) = subst (λ (ns : List Notice). AreEachOnce (take i notices ++ n ∷ []) ns) (sym same.1) (once_same (take i notices) found n h same.0)
    by (inr more) = subst (λ (ns : List Notice). AreEachOnce (take i notices ++ n ∷ []) ns) (sym more.1) (once_new (take i notices) found n h more.0)

-- one more was written as given up
pub written_more : {J : Type 0} (wrote : J → List Entry → J → Type 0) (follows : (a b c : J) (one two : List Entry) → wrote a one b → wrote b two c → wrote a (one ++ two) c)
    (a b c : J) (notices : List Notice) (i : ℕ) (d n : Notice) → i < length notices → n ≡ get_or notices i d → wrote a (map GivenUp (take i notices)) b → wrote b (GivenUp n ∷ []) c
    → wrote a (map GivenUp (take (i + 1) notices)) c
written_more wrote follows a b c notices i d n within is so_far one =
    subst (λ (es : List Entry). wrote a es c)
    (sym (map-append GivenUp (take i notices) (n ∷ []))
    ∙ ap (map GivenUp) (ap (λ (x : Notice). take i notices ++ x ∷ []) is ∙ sym (take_more notices i d within)))
    (follows a b c (map GivenUp (take i notices)) (GivenUp n ∷ []) so_far one)

-- ---- in doubt

same_new : (read : LanePast) (past : Past) (n : Notice) → past.from ≡ read.from → IsPermutation read.settled.items past.settled → is_new past n ≡ is_new (past_read read) n
same_new read past n from moved =
    ap (λ (f : ℕ). not (nat_lt n.event f || list_any (settles n) past.settled)) from
    ∙ ap (λ (b : Bool). not (nat_lt n.event read.from || b)) (sym (list_any-IsPermutation (settles n) read.settled.items past.settled moved))

kept_later : (p : Notice → Bool) (x : Notice) (xs : List Notice) (n : Notice) → Contains (filter p xs) n → (b : Bool) → Contains (cond b (x ∷ filter p xs) (filter p xs)) n
kept_later p x xs n h true = let inside : h.0 < length (filter p xs) = h.1 in (suc h.0, omega (arith, inside), h.2)
kept_later p x xs n h false = h

kept_by : (p : Notice → Bool) (x : Notice) (xs : List Notice) (n : Notice) → p n ≡ true → (Contains xs n → Contains (filter p xs) n)
    → (k : ℕ) → k < length (x ∷ xs) → get_or (x ∷ xs) k n ≡ n → Contains (filter p (x ∷ xs)) n
kept_by p x xs n e rest zero within is =
    let passes : p x ≡ true = ap p is ∙ e in
    subst (λ (b : Bool). Contains (cond b (x ∷ filter p xs) (filter p xs)) n) (sym passes) (0, omega arith, is)
kept_by p x xs n e rest (suc k) within is = kept_later p x xs n (rest (k, omega (arith, within), is)) (p x)

contains_kept : (p : Notice → Bool) (xs : List Notice) (n : Notice) → Contains xs n → p n ≡ true → Contains (filter p xs) n
contains_kept p [] n has e = let none : has.0 < 0 = has.1 in absurd (omega (arith, none))
contains_kept p (x ∷ xs) n has e = kept_by p x xs n e (λ rest. contains_kept p xs n rest e) has.0 has.1 has.2

pub are_doubts : (read : LanePast) (past : Past) (among doubts : List Notice) → past.from ≡ read.from → IsPermutation read.settled.items past.settled
    → among ≡ filter (is_new past) read.begun.items → AreEachOnce among doubts → AreDoubts read doubts
are_doubts read past among doubts from moved are once =
    let begun : List Notice = read.begun.items in
    let test : Notice → Bool = is_new (past_read read) in
    let is : among ≡ filter test begun = are ∙ filter_agree (is_new past) test (λ n. same_new read past n from moved) begun in
    let has : All (Contains begun) (filter test begun) = All-filter test (Contains begun) begun (All-contains_itself begun) in
    let passes : All (λ (n : Notice). test n ≡ true) (filter test begun) = filter_passes test begun in
    record {
      each = λ k d within.
          let there : Contains (filter test begun) (get_or doubts k d) = subst (λ (ns : List Notice). Contains ns (get_or doubts k d)) is (once.each k d within) in (
            All-contains (Contains begun) (filter test begun) (get_or doubts k d) has there,
            All-contains (λ (n : Notice). test n ≡ true) (filter test begun) (get_or doubts k d) passes there,
          );
      all = λ n stands new.
          All-contains (Contains doubts) among n once.all (subst (λ (ns : List Notice). Contains ns n) (sym is) (contains_kept test begun n stands new));
      once = once.once;
    }
