-- Entries two by two, two more or one pair more.
use Rattle.std.proofs.Common.{◌≡◌, ℕ, ◌+◌, ◌-◌, ◌<◌, ◌≤◌, List, [], ◌∷◌, ◌++◌, append_assoc, length, take, drop, get_or, Option, Some, None, refl, sym, ap, eqb, eqb-true, ◌∙◌, Bor, Global, Vec, arith, false, true}
use Rattle.std.specs.Option.{option_map, option_to_list}
use Rattle.std.specs.List.{filter_map}
use Rattle.std.proofs.lemmas.Bool.{false≢true}
use Rattle.std.proofs.lemmas.List.{append-nil, map-append, take_more, take_rest}
use Rattle.std.proofs.lemmas.List.Elements.{filter_map-append}
use Rattle.lemmas.proofs.Searches.{found-one}
use Rattle.object_pairs.specs.claims.Pairs.{by_two, NamedPair}
use Rattle.object_pairs.specs.Pairs.{pairs_in}
use Rattle.object_values.specs.Values.{texts}

abbrev pub Text : Type 0
Text = Bor (List ℕ)

-- two entries more
two-more : (xs : List Text) (x y : Text) → 1 < length xs → by_two (texts xs)
    ≡ option_map (λ pairs. ((get_or xs 0 x).now, (get_or xs 1 y).now) ∷ pairs) (by_two (texts (drop 2 xs)))
two-more [] x y many = absurd (omega (arith, many))
two-more (z ∷ []) x y many = absurd (omega (arith, many))
two-more (z ∷ w ∷ xs) x y many = refl

after : (first : List NamedPair) (pair : NamedPair) (found : Option (List NamedPair))
    → option_map (λ more. first ++ more) (option_map (λ pairs. pair ∷ pairs) found) ≡ option_map (λ more. (first ++ pair ∷ []) ++ more) found
after first pair None = refl
after first pair (Some pairs) = ap (λ (all : List NamedPair). Some all) (sym (append_assoc first (pair ∷ []) pairs))

pub pairs-none : (entries : List Text) (pairs : List (Text × Text)) → pairs ≡ [] → by_two (texts entries) ≡ option_map (λ more. pairs_in pairs ++ more) (by_two (texts entries))
pairs-none entries pairs none = same (by_two (texts entries)) ∙ ap (λ (ps : List (Text × Text)). option_map (λ more. pairs_in ps ++ more) (by_two (texts entries))) (sym none)
  where
    same : (found : Option (List NamedPair)) → found ≡ option_map (λ more. [] ++ more) found
    same None = refl
    same (Some pairs) = refl

pub pairs-more : (entries rest next : List Text) (old new : List (Text × Text)) (x y : Text) → 1 < length rest
    → by_two (texts entries) ≡ option_map (λ more. pairs_in old ++ more) (by_two (texts rest))
    → new ≡ old ++ (get_or rest 0 x, get_or rest 1 y) ∷ [] → next ≡ take (length rest - 2) (drop 2 rest)
    → by_two (texts entries) ≡ option_map (λ more. pairs_in new ++ more) (by_two (texts next))
pairs-more entries rest next old new x y many before more is =
    before ∙ ap (option_map (λ more. pairs_in old ++ more)) (two-more rest x y many)
    ∙ after (pairs_in old) ((get_or rest 0 x).now, (get_or rest 1 y).now) (by_two (texts (drop 2 rest)))
    ∙ ap (λ (xs : List Text). option_map (λ more. (pairs_in old ++ ((get_or rest 0 x).now, (get_or rest 1 y).now) ∷ []) ++ more) (by_two (texts xs))) (sym (is ∙ take_rest rest 2))
    ∙ ap (λ (ps : List NamedPair). option_map (λ more. ps ++ more) (by_two (texts next)))
    (sym (ap pairs_in more ∙ map-append (λ pair. (pair.0.now, pair.1.now)) old ((get_or rest 0 x, get_or rest 1 y) ∷ [])))

pub shorter : (rest : List Text) → 1 < length rest → length (take (length rest - 2) (drop 2 rest)) < length rest
shorter [] many = absurd (omega (arith, many))
shorter (x ∷ []) many = absurd (omega (arith, many))
shorter (x ∷ y ∷ rest) many = let same = ap (λ (xs : List Text). length xs) (take_rest (x ∷ y ∷ rest) 2) in omega (arith, same)

-- nothing is left over, or one entry is
pub pairs-all : (entries rest : List Text) (pairs : List (Text × Text)) → eqb (length rest) 0 ≡ true
    → by_two (texts entries) ≡ option_map (λ more. pairs_in pairs ++ more) (by_two (texts rest)) → Some (pairs_in pairs) ≡ by_two (texts entries)
pairs-all entries [] pairs none is = sym (is ∙ ap (λ (ps : List NamedPair). Some ps) (append-nil (pairs_in pairs)))
pairs-all entries (x ∷ xs) pairs none is = let same = eqb-true (length (x ∷ xs)) 0 none in absurd (omega (arith, same))

pub pairs-odd : (entries rest : List Text) (pairs : List (Text × Text)) → length rest ≤ 1 → eqb (length rest) 0 ≡ false
    → by_two (texts entries) ≡ option_map (λ more. pairs_in pairs ++ more) (by_two (texts rest)) → None ≡ by_two (texts entries)
pairs-odd entries [] pairs few some is = absurd (false≢true (sym some))
pairs-odd entries (x ∷ []) pairs few some is = sym is
pairs-odd entries (x ∷ y ∷ xs) pairs few some is = absurd (omega (arith, few))

-- ---- one pair more

pub front-more : (pairs : List (Text × Text)) (i : ℕ) (d : Text × Text) → i < length pairs
    → pairs_in (take (i + 1) pairs) ≡ pairs_in (take i pairs) ++ ((get_or pairs i d).0.now, (get_or pairs i d).1.now) ∷ []
front-more pairs i d within = ap pairs_in (take_more pairs i d within) ∙ map-append (λ pair. (pair.0.now, pair.1.now)) (take i pairs) (get_or pairs i d ∷ [])

pub places-more : (f : NamedPair → Option ℕ) (pairs : List (Text × Text)) (i : ℕ) (d : Text × Text) (old new : List ℕ) (found : Option ℕ) → i < length pairs
    → old ≡ filter_map f (pairs_in (take i pairs)) → found ≡ f ((get_or pairs i d).0.now, (get_or pairs i d).1.now) → new ≡ old ++ option_to_list found
    → new ≡ filter_map f (pairs_in (take (i + 1) pairs))
places-more f pairs i d old new found within before is more =
    let pair : NamedPair = ((get_or pairs i d).0.now, (get_or pairs i d).1.now) in
    let all : filter_map f (pairs_in (take (i + 1) pairs)) ≡ filter_map f (pairs_in (take i pairs)) ++ option_to_list found =
    ap (filter_map f) (front-more pairs i d within) ∙ filter_map-append f (pairs_in (take i pairs)) (pair ∷ [])
    ∙ ap (λ one. filter_map f (pairs_in (take i pairs)) ++ one) (found-one (f pair) ∙ ap option_to_list (sym is)) in
    more ∙ ap (λ places. places ++ option_to_list found) before ∙ sym all

-- ---- what is read of the pairs

pub pairs-read : (given : Option (Vec (Text × Text) Global)) (pairs : Vec (Text × Text) Global) (entries : List (List ℕ)) → given ≡ Some pairs
    → option_map (λ ps. pairs_in ps.items) given ≡ by_two entries → Some (pairs_in pairs.items) ≡ by_two entries
pairs-read given pairs entries is has = sym (ap (λ (found : Option (Vec (Text × Text) Global)). option_map (λ ps. pairs_in ps.items) found) is) ∙ has

pub odd-read : (given : Option (Vec (Text × Text) Global)) (entries : List (List ℕ)) → given ≡ None → option_map (λ ps. pairs_in ps.items) given ≡ by_two entries → None ≡ by_two entries
odd-read given entries is has = sym (ap (λ (found : Option (Vec (Text × Text) Global)). option_map (λ ps. pairs_in ps.items) found) is) ∙ has

-- the entries, as they are read of a list
pub list-read : (slice items : List Text) (entries : List (List ℕ)) (found : Option (List NamedPair)) → slice ≡ items → texts items ≡ entries → found ≡ by_two (texts slice) → found ≡ by_two entries
list-read slice items entries found same are is = is ∙ ap (λ (xs : List Text). by_two (texts xs)) same ∙ ap by_two are
