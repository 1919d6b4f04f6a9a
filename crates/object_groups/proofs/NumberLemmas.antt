-- One name, one entry, one place or one node more.
use Rattle.std.proofs.Common.{◌≡◌, ℕ, zero, suc, ◌+◌, ◌<◌, Bool, true, false, cond, ◌||◌, List, [], ◌∷◌, ◌++◌, append_assoc, length, map, filter, take, get_or, Option, Some, None, refl, sym, ap, ◌∙◌, Bor, arith}
use Rattle.std.specs.Prelude.{unwrap_or}
use Rattle.std.specs.List.{range_with_len}
use Rattle.std.specs.Map.{lookup}
use Rattle.std.specs.Option.{option_or, option_to_list}
use Rattle.std.specs.Str.{bytes_eq}
use Rattle.std.specs.HashMap.Eq.{lookup_congr}
use Rattle.std.proofs.lemmas.Bool.{false≢true}
use Rattle.std.proofs.lemmas.Cmp.{nat_list_eq_equiv}
use Rattle.std.proofs.lemmas.List.{map-append}
use Rattle.std.proofs.lemmas.List.Elements.{filter-append, filter_map-append}
use Rattle.lemmas.proofs.Searches.{found-one, or-none, position-snoc, texts-more}
use Rattle.graph.specs.declared.edges.Edge.{Edge}
use Rattle.object_groups.specs.claims.Names.{number_of, numbers_of}
use Rattle.object_groups.specs.Names.{HasNumbers, name_eq}
use Rattle.object_values.specs.Values.{texts}
use Rattle.lemmas.proofs.Numbers.{below_more}

-- ---- one name more

alike : (x y z : Bor (List ℕ)) → name_eq x y ≡ true → name_eq x z ≡ name_eq y z
alike x y z is = nat_list_eq_equiv.congr x.now y.now z.now is

module _ (names : List (List ℕ)) (name : Bor (List ℕ)) (old : List (Bor (List ℕ) × ℕ)) (has : HasNumbers names old) where
  same_name : (other : Bor (List ℕ)) → name_eq name other ≡ true → lookup (name_eq name) old ≡ number_of names other.now
  same_name other same = lookup_congr name_eq alike old name other same ∙ has other

  one_more : (other : Bor (List ℕ)) → number_of (names ++ name.now ∷ []) other.now
      ≡ option_or (number_of names other.now) (cond (name_eq name other) (Some (length names)) None)
  one_more other = position-snoc (bytes_eq other.now) names name.now
      ∙ ap (λ (b : Bool). option_or (number_of names other.now) (cond b (Some (length names)) None)) (nat_list_eq_equiv.symm other.now name.now)

  -- it has its number, if it doesn't stand before
  pub numbers-entered : (new : List (Bor (List ℕ) × ℕ)) (number : ℕ) → length names ≡ number
      → ((other : Bor (List ℕ)) → lookup (name_eq other) new ≡ cond (name_eq name other) (Some (unwrap_or (lookup (name_eq name) old) number)) (lookup (name_eq other) old))
      → HasNumbers (names ++ name.now ∷ []) new
  numbers-entered new number long updates other = updates other ∙ by_name (name_eq name other) refl ∙ sym (one_more other)
    where
      entered : (found : Option ℕ) → Some (unwrap_or found number) ≡ option_or found (Some (length names))
      entered None = ap (λ (n : ℕ). Some n) (sym long)
      entered (Some first) = refl

      by_name : (b : Bool) → name_eq name other ≡ b → cond b (Some (unwrap_or (lookup (name_eq name) old) number)) (lookup (name_eq other) old)
          ≡ option_or (number_of names other.now) (cond b (Some (length names)) None)
      by_name true same = entered (lookup (name_eq name) old) ∙ ap (λ (found : Option ℕ). option_or found (Some (length names))) (same_name other same)
      by_name false differs = has other ∙ sym (or-none (number_of names other.now))

-- ---- one entry more

or-false : (a b : Bool) → a ≡ false → b ≡ false → (a || (b || false)) ≡ false
or-false true b first second = absurd (false≢true (sym first))
or-false false true first second = absurd (false≢true (sym second))
or-false false false first second = refl

pub numbers-more : (names : List (List ℕ)) (xs : List (Bor (List ℕ))) (i : ℕ) (d : Bor (List ℕ)) (old new : List ℕ) (found : Option ℕ) → i < length xs
    → old ≡ numbers_of names (texts (take i xs)) → found ≡ number_of names ((get_or xs i d).now) → new ≡ old ++ option_to_list found
    → new ≡ numbers_of names (texts (take (i + 1) xs))
numbers-more names xs i d old new found within before is more =
    let all : numbers_of names (texts (take (i + 1) xs)) ≡ numbers_of names (texts (take i xs)) ++ option_to_list found =
    ap (numbers_of names) (texts-more xs i d within) ∙ filter_map-append (number_of names) (texts (take i xs)) ((get_or xs i d).now ∷ [])
    ∙ ap (λ one. numbers_of names (texts (take i xs)) ++ one) (found-one (number_of names ((get_or xs i d).now)) ∙ ap option_to_list (sym is)) in
    more ∙ ap (λ numbers. numbers ++ option_to_list found) before ∙ sym all

-- the edges of one entry more
pub edges-more : (f : ℕ → Edge) (first : ℕ) (names : List (List ℕ)) (xs : List (Bor (List ℕ))) (i : ℕ) (d : Bor (List ℕ)) (start old new : List Edge) (found : Option ℕ) → i < length xs
    → old ≡ start ++ map f (map (λ number. first + number) (numbers_of names (texts (take i xs)))) → found ≡ number_of names ((get_or xs i d).now)
    → new ≡ old ++ map f (map (λ number. first + number) (option_to_list found))
    → new ≡ start ++ map f (map (λ number. first + number) (numbers_of names (texts (take (i + 1) xs))))
edges-more f first names xs i d start old new found within before is more =
    let nodes : List ℕ = map (λ number. first + number) (numbers_of names (texts (take i xs))) in
    let last : List ℕ = map (λ number. first + number) (option_to_list found) in
    let all : numbers_of names (texts (take i xs)) ++ option_to_list found ≡ numbers_of names (texts (take (i + 1) xs)) = numbers-more names xs i d _ _ found within refl is refl in
    more ∙ ap (λ (edges : List Edge). edges ++ map f last) before
    ∙ append_assoc start (map f nodes) (map f last)
    ∙ ap (λ (edges : List Edge). start ++ edges) (sym (map-append f nodes last))
    ∙ ap (λ (all : List ℕ). start ++ map f all) (sym (map-append (λ number. first + number) (numbers_of names (texts (take i xs))) (option_to_list found)))
    ∙ ap (λ (numbers : List ℕ). start ++ map f (map (λ number. first + number) numbers)) all

-- ---- one number more

range-more : (a n : ℕ) → range_with_len a (suc n) ≡ range_with_len a n ++ (a + n) ∷ []
range-more a zero = ap (λ (k : ℕ). k ∷ []) (omega arith)
range-more a (suc n) = ap (λ more. a ∷ more) (range-more (a + 1) n ∙ ap (λ (k : ℕ). range_with_len (a + 1) n ++ k ∷ []) (omega arith))

pub filter-range : (p : ℕ → Bool) (n : ℕ) (b : Bool) → p n ≡ b → filter p (range_with_len 0 (n + 1)) ≡ filter p (range_with_len 0 n) ++ cond b (n ∷ []) []
filter-range p n b is = ap (filter p) (below_more n) ∙ filter-append p (range_with_len 0 n) (n ∷ []) ∙ ap (λ (c : Bool). filter p (range_with_len 0 n) ++ cond c (n ∷ []) []) is
