-- What was added to lists, and how it comes to stand list after list.
use Rattle.std.proofs.Common.{◌≡◌, ℕ, zero, suc, ◌+◌, ◌-◌, ◌<◌, ◌≤◌, true, false, cond, eqb, List, Vec, Global, [], ◌∷◌, ◌++◌, length, map, get_or, set, take, drop, replicate, refl, sym, ap, subst, ◌∙◌, ◌⊎◌, inl, inr, ⊎_elim, arith}
use Rattle.std.specs.Prelude.{filter, sum, All, slice_range}
use Rattle.std.specs.List.{range_with_len}
use Rattle.std.specs.Vec.{with_items}
use Rattle.std.proofs.Math.Dec.{ltb}
use Rattle.std.proofs.lemmas.Bool.{cases_eq, cases_order, cond_both, eq-eqb, ne_eqb, lt-ltb, le-ltb}
use Rattle.std.proofs.lemmas.Bool.Decides.{nat_tests}
use Rattle.std.proofs.lemmas.List.{append-nil, get_or_default, get_or-set_same, get_or-set_other, length-append, length-set, map-append, take_all, take_more, take_more_set, take-set-le, drop-set-lt, drop-set-add, length-drop, take-append-drop, with_items_is}
use Rattle.std.proofs.lemmas.List.Elements.{All-push, All-weaker, filter-append}
use Rattle.std.proofs.lemmas.List.FromFn.{fill_by_all, get_or-map-range_with_len, length-map-range_with_len}
use Rattle.std.proofs.lemmas.List.Sums.{count_by-le-length, sum_by-cons, sum_by-le-sum_by, sum_by_more}
use Rattle.graph.specs.declared.lists.Pushed.{Pushed}
use Rattle.graph.specs.Lists.{list_of, lists_of, AreCounts, start_of, AreInPlace, parts, AreStarts}

-- ---- the list of a number

list_of-append : {X : Type 0} (xs ys : List (Pushed X)) (number : ℕ) → list_of (xs ++ ys) number ≡ list_of xs number ++ list_of ys number
list_of-append {X} xs ys number = rw (filter-append (λ (one : Pushed X). eqb one.number number) xs ys, map-append) refl

list_of-same : {X : Type 0} (xs : List (Pushed X)) (one : Pushed X) → list_of (xs ++ one ∷ []) one.number ≡ list_of xs one.number ++ one.value ∷ []
list_of-same xs one = let same : eqb one.number one.number ≡ true = eq-eqb one.number one.number refl in rw (list_of-append xs (one ∷ []) one.number, same) refl

list_of-other : {X : Type 0} (xs : List (Pushed X)) (one : Pushed X) (number : ℕ) → (number ≡ one.number → ⊥) → list_of (xs ++ one ∷ []) number ≡ list_of xs number
list_of-other xs one number other =
    let differs : eqb one.number number ≡ false = ne_eqb one.number number (λ same. other (sym same)) in
    rw (list_of-append xs (one ∷ []) number, differs) (append-nil (list_of xs number))

-- ---- the lists

pub length-lists : {X : Type 0} (counts : ℕ) (pushed : List (Pushed X)) → length (lists_of counts pushed) ≡ counts - 1
length-lists counts pushed = length-map-range_with_len (list_of pushed) 0 (counts - 1)

pub number-low : {X : Type 0} (counts : ℕ) (pushed : List (Pushed X)) (lists : List (List X)) (number : ℕ) → lists_of counts pushed ≡ lists → number < length lists → number + 1 < counts
number-low {X} counts pushed lists number are low = omega (arith, length-lists counts pushed, ap (λ (some : List (List X)). length some) are)

get_or-lists : {X : Type 0} (counts : ℕ) (pushed : List (Pushed X)) (number : ℕ) → number + 1 < counts → get_or (lists_of counts pushed) number [] ≡ list_of pushed number
get_or-lists counts pushed number low = get_or-map-range_with_len (list_of pushed) 0 (counts - 1) number number [] (omega arith) (omega arith)

none : {X : Type 0} (start n : ℕ) → map (list_of {X = X} []) (range_with_len start n) ≡ replicate n []
none start zero = refl
none {X} start (suc n) = ap (λ (lists : List (List X)). [] ∷ lists) (none (start + 1) n)

pub lists-none : {X : Type 0} (count counts : ℕ) → counts ≡ count + 1 → lists_of {X = X} counts [] ≡ replicate count []
lists-none count counts are = let same : counts - 1 ≡ count = omega arith in rw same (none 0 count)

-- one value more
pub lists-push : {X : Type 0} (counts : ℕ) (pushed : List (Pushed X)) (one : Pushed X) → one.number + 1 < counts
    → lists_of counts (pushed ++ one ∷ []) ≡ set (lists_of counts pushed) one.number (get_or (lists_of counts pushed) one.number [] ++ one.value ∷ [])
lists-push {X} counts pushed one low =
    let lists : List (List X) = lists_of counts pushed in
    let grown : List X = get_or lists one.number [] ++ one.value ∷ [] in
    let long : length lists ≡ counts - 1 = length-lists counts pushed in
    sym (fill_by_all (list_of (pushed ++ one ∷ [])) (set lists one.number grown) (counts - 1) [] (length-set lists one.number grown ∙ long) (λ k within. ⊎_elim
    (λ (same : k ≡ one.number).
    rw same (get_or-set_same lists one.number grown [] (omega arith) ∙ ap (λ (front : List X). front ++ one.value ∷ []) (get_or-lists counts pushed one.number low) ∙ sym (list_of-same pushed one)))
    (λ (other : k ≡ one.number → ⊥).
    get_or-set_other lists one.number k grown [] other ∙ get_or-lists counts pushed k (omega arith) ∙ sym (list_of-other pushed one k other))
    (cases_eq k one.number)))

-- ---- counts

-- one value more
pub AreCounts-push : {X : Type 0} (pushed : List (Pushed X)) (counts : List ℕ) (one : Pushed X) (count : ℕ) → one.number + 1 < length counts → count ≡ get_or counts (one.number + 1) count
    → AreCounts pushed counts → AreCounts (pushed ++ one ∷ []) (set counts (one.number + 1) (count + 1))
AreCounts-push {X} pushed counts one count low is are =
    let place : ℕ = one.number + 1 in
    let long : length (set counts place (count + 1)) ≡ length counts = length-set counts place (count + 1) in
    record {
      some = omega (arith, are.some);
      first = get_or-set_other counts place 0 (count + 1) 0 (λ is. omega arith) ∙ are.first;
      each = λ number within. ⊎_elim
          (λ (same : number ≡ one.number).
          rw same (get_or-set_same counts place (count + 1) 0 low ∙ omega (arith, is, get_or_default counts place count 0 low, are.each one.number low, ap (λ (list : List X). length list) (list_of-same pushed one), length-append (list_of pushed one.number) (one.value ∷ []))))
          (λ (other : number ≡ one.number → ⊥).
          get_or-set_other counts place (number + 1) (count + 1) 0 (λ is. other (omega arith)) ∙ are.each number (omega arith) ∙ ap (λ (list : List X). length list) (sym (list_of-other pushed one number other)))
          (cases_eq number one.number);
      within = rw long (All-push (λ (some : Pushed X). some.number + 1 < length counts) pushed one are.within low);
    }

-- ---- where each list starts

start_of-zero : {X : Type 0} (pushed : List (Pushed X)) → start_of pushed 0 ≡ 0
start_of-zero [] = refl
start_of-zero {X} (one ∷ more) = sum_by-cons (λ (some : Pushed X). cond (ltb some.number 0) 1 0) one more ∙ (let none : ltb one.number 0 ≡ false = le-ltb one.number 0 (omega arith) in rw none (omega (arith, start_of-zero more)))

tests : (a b : ℕ) → cond (ltb a (b + 1)) 1 0 ≡ cond (ltb a b) 1 0 + cond (eqb a b) 1 0
tests a b = grind (arith, nat_tests)

length-list_of : {X : Type 0} (one : Pushed X) (more : List (Pushed X)) (number : ℕ) → length (list_of (one ∷ more) number) ≡ cond (eqb one.number number) 1 0 + length (list_of more number)
length-list_of {X} one more number = cond_both (eqb one.number number) (one ∷ filter (λ (some : Pushed X). eqb some.number number) more) (filter (λ (some : Pushed X). eqb some.number number) more)
    (λ some. length (map (λ (x : Pushed X). x.value) some) ≡ cond (eqb one.number number) 1 0 + length (list_of more number)) (λ same. rw same (omega arith)) (λ other. rw other (omega arith))

start_of-suc : {X : Type 0} (pushed : List (Pushed X)) (number : ℕ) → start_of pushed (number + 1) ≡ start_of pushed number + length (list_of pushed number)
start_of-suc [] number = refl
start_of-suc {X} (one ∷ more) number =
    sum_by-cons (λ (some : Pushed X). cond (ltb some.number (number + 1)) 1 0) one more
    ∙ omega (arith, tests one.number number, start_of-suc more number, length-list_of one more number, sum_by-cons (λ (some : Pushed X). cond (ltb some.number number) 1 0) one more)

-- no list has more than was added
pub AreCounts-few : {X : Type 0} (pushed : List (Pushed X)) (counts : List ℕ) (number count : ℕ) → AreCounts pushed counts → number + 1 < length counts → count ≡ get_or counts (number + 1) count
    → count ≤ length pushed
AreCounts-few {X} pushed counts number count are low is =
    omega (arith, is, get_or_default counts (number + 1) count 0 low, are.each number low, start_of-suc pushed number, count_by-le-length (λ (one : Pushed X). ltb one.number (number + 1)) pushed)

start_of-rises : {X : Type 0} (pushed : List (Pushed X)) (number later : ℕ) → number < later → start_of pushed number + length (list_of pushed number) ≤ start_of pushed later
start_of-rises {X} pushed number later before =
    omega (arith, start_of-suc pushed number, sum_by-le-sum_by (λ (some : Pushed X). cond (ltb some.number (number + 1)) 1 0) (λ (some : Pushed X). cond (ltb some.number later) 1 0) pushed (λ some. grind (arith, nat_tests)))

start_of-end : {X : Type 0} (pushed : List (Pushed X)) (number : ℕ) → All (λ one. one.number < number) pushed → start_of pushed number ≡ length pushed
start_of-end [] number within = refl
start_of-end {X} (one ∷ more) number within =
    let here : ltb one.number number ≡ true = lt-ltb one.number number (within 0 one (omega arith)) in
    sum_by-cons (λ (some : Pushed X). cond (ltb some.number number) 1 0) one more
    ∙ rw here (omega (arith, start_of-end more number (λ k d low. within (suc k) d (omega (arith, low)))))

sum-counts : {X : Type 0} (pushed : List (Pushed X)) (counts : List ℕ) (number : ℕ) → AreCounts pushed counts → number < length counts
    → sum (take (number + 1) counts) ≡ start_of pushed number
sum-counts pushed counts zero are low = sum_by_more (λ x. x) counts 0 0 low ∙ omega (arith, are.first, start_of-zero pushed)
sum-counts pushed counts (suc number) are low =
    let next : suc number ≡ number + 1 = omega arith in
    sum_by_more (λ x. x) counts (suc number) 0 low ∙ rw next (omega (arith, sum-counts pushed counts number are (omega arith), are.each number (omega arith), start_of-suc pushed number))

pub sum-all : {X : Type 0} (pushed : List (Pushed X)) (counts : List ℕ) → AreCounts pushed counts → sum counts ≡ length pushed
sum-all {X} pushed counts are =
    let last : ℕ = length counts - 1 in
    let all : take (last + 1) counts ≡ counts = take_all (last + 1) counts (omega arith) in
    ap sum (sym all) ∙ sum-counts pushed counts last are (omega (arith, are.some)) ∙ start_of-end pushed last (All-weaker (λ (some : Pushed X). some.number + 1 < length counts) (λ (some : Pushed X). some.number < last) (λ some low. omega (arith, low)) pushed are.within)

-- ---- in place

pub AreInPlace-none : {X : Type 0} (pushed : List (Pushed X)) (counts places : List ℕ) (values : List X) → AreCounts pushed counts → length places ≡ length counts
    → length values ≡ length pushed → ((k : ℕ) → k < length places → get_or places k 0 ≡ sum (take k counts)) → AreInPlace pushed [] places values
AreInPlace-none pushed counts places values are long room sums = record {
  long = room;
  first = sums 0 (omega (arith, are.some));
  next = λ number low. sums (number + 1) low ∙ omega (arith, sum-counts pushed counts number are (omega arith));
  placed = λ number low. refl;
}

-- how much stands in place fits in its list, the next value too
few : {X : Type 0} (all : List (Pushed X)) (i number : ℕ) → length (list_of (take i all) number) ≤ length (list_of all number)
few {X} all i number =
    omega (
      arith,
      length-append (list_of (take i all) number) (list_of (drop i all) number),
      ap (λ (list : List X). length list) (sym (list_of-append (take i all) (drop i all) number) ∙ ap (λ (some : List (Pushed X)). list_of some number) (take-append-drop i all)),
    )

take-next : {X : Type 0} (all : List (Pushed X)) (i : ℕ) (one : Pushed X) → i < length all → one ≡ get_or all i one → take (i + 1) all ≡ take i all ++ one ∷ []
take-next {X} all i one low is = take_more all i one low ∙ ap (λ (last : Pushed X). take i all ++ last ∷ []) (sym is)

few-next : {X : Type 0} (all : List (Pushed X)) (i : ℕ) (one : Pushed X) → i < length all → one ≡ get_or all i one → length (list_of (take i all) one.number) < length (list_of all one.number)
few-next {X} all i one low is =
    omega (
      arith,
      few all (i + 1) one.number,
      length-append (list_of (take i all) one.number) (one.value ∷ []),
      ap (λ (list : List X). length list) (ap (λ (some : List (Pushed X)). list_of some one.number) (take-next all i one low is) ∙ list_of-same (take i all) one),
    )

pub AreInPlace-room : {X : Type 0} (all : List (Pushed X)) (i : ℕ) (one : Pushed X) (places : List ℕ) (values : List X) → i < length all → one ≡ get_or all i one
    → one.number + 1 < length places → AreInPlace all (take i all) places values → get_or places (one.number + 1) 0 < length values
AreInPlace-room {X} all i one places values low is within are =
    omega (arith, are.long, are.next one.number within, few-next all i one low is, start_of-suc all one.number, count_by-le-length (λ (some : Pushed X). ltb some.number (one.number + 1)) all)

-- a value more at the end of a list
placed-here : {X : Type 0} (values xs ys : List X) (start place : ℕ) (value : X) → ys ≡ xs ++ value ∷ [] → place ≡ start + length xs → place < length values
    → take (length xs) (drop start values) ≡ xs → take (length ys) (drop start (set values place value)) ≡ ys
placed-here {X} values xs ys start place value grown at room placed =
    let long : length (xs ++ value ∷ []) ≡ length xs + 1 = length-append xs (value ∷ []) in
    let left : length xs < length (drop start values) = omega (arith, length-drop start values) in
    rw (grown, at, long, drop-set-add start values (length xs) value) (take_more_set (drop start values) (length xs) value left ∙ ap (λ (front : List X). front ++ value ∷ []) placed)

-- or of another list
placed-there : {X : Type 0} (values xs ys : List X) (start place : ℕ) (value : X) → ys ≡ xs → (place < start) ⊎ (start + length xs ≤ place)
    → take (length xs) (drop start values) ≡ xs → take (length ys) (drop start (set values place value)) ≡ ys
placed-there {X} values xs ys start place value same apart placed =
    rw same (⊎_elim
    (λ (before : place < start). ap (λ (rest : List X). take (length xs) rest) (drop-set-lt start values place value before))
    (λ (after : start + length xs ≤ place).
    let at : place ≡ start + (place - start) = omega arith in
    ap (λ (k : ℕ). take (length xs) (drop start (set values k value))) at
    ∙ ap (λ (rest : List X). take (length xs) rest) (drop-set-add start values (place - start) value)
    ∙ take-set-le (length xs) (drop start values) (place - start) value (omega arith))
    apart ∙ placed)

-- no list reaches into another
apart : {X : Type 0} (all : List (Pushed X)) (number other have place : ℕ) → (number ≡ other → ⊥) → have ≤ length (list_of all number)
    → start_of all other ≤ place → place < start_of all other + length (list_of all other) → (place < start_of all number) ⊎ (start_of all number + have ≤ place)
apart all number other have place differs room from to = ⊎_elim
    (λ (same : number ≡ other). absurd (differs same))
    (⊎_elim
    (λ (before : number < other). inr (omega (arith, start_of-rises all number other before)))
    (λ (after : other < number). inl (omega (arith, start_of-rises all other number after))))
    (cases_order number other)

pub AreInPlace-more : {X : Type 0} (all : List (Pushed X)) (i : ℕ) (one : Pushed X) (places : List ℕ) (values : List X) → i < length all → one ≡ get_or all i one
    → one.number + 1 < length places → AreInPlace all (take i all) places values
    → AreInPlace all (take (i + 1) all) (set places (one.number + 1) (get_or places (one.number + 1) 0 + 1)) (set values (get_or places (one.number + 1) 0) one.value)
AreInPlace-more {X} all i one places values low is within are =
    let place : ℕ = get_or places (one.number + 1) 0 in
    let done : List (Pushed X) = take i all in
    let next : take (i + 1) all ≡ done ++ one ∷ [] = take-next all i one low is in
    let room : place < length values = AreInPlace-room all i one places values low is within are in
    let long : length (set places (one.number + 1) (place + 1)) ≡ length places = length-set places (one.number + 1) (place + 1) in
    let here : list_of (take (i + 1) all) one.number ≡ list_of done one.number ++ one.value ∷ [] = ap (λ (some : List (Pushed X)). list_of some one.number) next ∙ list_of-same done one in
    let there : (number : ℕ) → (number ≡ one.number → ⊥) → list_of (take (i + 1) all) number ≡ list_of done number = λ number other. ap (λ (some : List (Pushed X)). list_of some number) next ∙ list_of-other done one number other in
    record {
      long = length-set values place one.value ∙ are.long;
      first = get_or-set_other places (one.number + 1) 0 (place + 1) 0 (λ is. omega arith) ∙ are.first;
      next = λ number inside. ⊎_elim
          (λ (same : number ≡ one.number).
          rw same (get_or-set_same places (one.number + 1) (place + 1) 0 within ∙ omega (arith, are.next one.number within, ap (λ (list : List X). length list) here, length-append (list_of done one.number) (one.value ∷ []))))
          (λ (other : number ≡ one.number → ⊥).
          get_or-set_other places (one.number + 1) (number + 1) (place + 1) 0 (λ is. other (omega arith)) ∙ are.next number (omega arith)
          ∙ ap (λ (list : List X). start_of all number + length list) (sym (there number other)))
          (cases_eq number one.number);
      placed = λ number inside. ⊎_elim
          (λ (same : number ≡ one.number).
          rw same (placed-here values (list_of done one.number) (list_of (take (i + 1) all) one.number) (start_of all one.number) place one.value here (are.next one.number within) room (are.placed one.number within)))
          (λ (other : number ≡ one.number → ⊥).
          placed-there values (list_of done number) (list_of (take (i + 1) all) number) (start_of all number) place one.value (there number other)
          (apart all number one.number (length (list_of done number)) place other (few all i number) (omega (arith, are.next one.number within)) (omega (arith, are.next one.number within, few-next all i one low is)))
          (are.placed number (omega arith)))
          (cases_eq number one.number);
    }

-- ---- list after list

AreStarts-range : (f : ℕ → ℕ) (from n last len : ℕ) → ((k : ℕ) → f k ≤ f (k + 1)) → ((k : ℕ) → f k ≤ len) → from + n ≡ last → f last ≡ len → AreStarts (map f (range_with_len from (suc n))) len
AreStarts-range f from zero last len rises low at end = let same : from ≡ last = omega arith in ap f same ∙ end
AreStarts-range f from (suc n) last len rises low at end = (rises from, low (from + 1), AreStarts-range f (from + 1) n last len rises low (omega arith) end)

parts-range : {X : Type 0} (f : ℕ → ℕ) (list : ℕ → List X) (values : List X) (from n last : ℕ) → from + n ≡ last
    → ((k : ℕ) → k < last → slice_range values (f k) (f (k + 1)) ≡ list k) → parts (map f (range_with_len from (suc n))) values ≡ map list (range_with_len from n)
parts-range f list values from zero last at each = refl
parts-range {X} f list values from (suc n) last at each =
    rw (each from (omega arith)) (ap (λ (rest : List (List X)). list from ∷ rest) (parts-range f list values (from + 1) n last (omega arith) each))

pub AreInPlace-all : {X : Type 0} (all : List (Pushed X)) (places : List ℕ) (values : List X) → 0 < length places → All (λ one. one.number + 1 < length places) all → AreInPlace all all places values
    → AreStarts places (length values) × (parts places values ≡ lists_of (length places) all)
AreInPlace-all {X} all places values some within are =
    let last : ℕ = length places - 1 in
    let long : length places ≡ suc last = omega arith in
    let is : places ≡ map (start_of all) (range_with_len 0 (suc last)) = fill_by_all (start_of all) places (suc last) 0 long (at (omega arith)) in
    let end : start_of all last ≡ length values = start_of-end all last (All-weaker (λ (one : Pushed X). one.number + 1 < length places) (λ (one : Pushed X). one.number < last) (λ one low. omega (arith, low)) all within) ∙ sym are.long in (
      subst (λ (starts : List ℕ). AreStarts starts (length values)) (sym is) (AreStarts-range (start_of all) 0 last last (length values)
          (λ k. omega (arith, start_of-suc all k)) (λ k. omega (arith, are.long, count_by-le-length (λ (one : Pushed X). ltb one.number k) all)) (omega arith) end),
      ap (λ (starts : List ℕ). parts starts values) is ∙ parts-range (start_of all) (list_of all) values 0 last last (omega arith)
          (λ k low. let count : start_of all (k + 1) - start_of all k ≡ length (list_of all k) = omega (arith, start_of-suc all k) in rw count (are.placed k (omega arith))),
    )
  where
    at : {last : ℕ} → last < length places → (k : ℕ) → k < suc last → get_or places k 0 ≡ start_of all k
    at low zero inside = are.first ∙ sym (start_of-zero all)
    at low (suc k) inside = let next : suc k ≡ k + 1 = omega arith in rw next (are.next k (omega (arith, low, inside)) ∙ sym (start_of-suc all k))

-- the same of the Vecs that they were written into
pub AreInPlace-kept : {X : Type 0} (pushed : List (Pushed X)) (counts : Vec ℕ Global) (kept : Vec X Global) (places : List ℕ) (values : List X) → AreCounts pushed counts.items
    → length places ≡ counts.len → length values ≡ kept.len → AreInPlace pushed pushed places values
    → AreStarts (with_items counts places).items (length (with_items kept values).items) × (parts (with_items counts places).items (with_items kept values).items ≡ lists_of (length counts.items) pushed)
AreInPlace-kept {X} pushed counts kept places values counted long room are =
    let same : length places ≡ length counts.items = long ∙ counts.ok.0 in
    rw (with_items_is counts places long, with_items_is kept values room, ← same) (AreInPlace-all pushed places values (omega (arith, counted.some)) (rw same counted.within) are)
