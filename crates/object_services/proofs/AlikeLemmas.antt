-- The numbers of one name, and the first service block that is doubled, name by name.
use Rattle.std.proofs.Common.{◌≡◌, ℕ, ◌+◌, ◌<◌, ◌≤◌, Bool, true, false, cond, List, [], ◌∷◌, ◌++◌, length, map, filter, get_or, Option, Some, None, refl, sym, ap, subst, eqb, eqb-true, eq-eqb, ⊎_elim, ◌∙◌, ◌⊎◌, inl, inr, arith, lt-ltb}
use Rattle.std.specs.Prelude.{All, AllPairs, Contains, ◌^◌, slice_index_or}
use Rattle.std.specs.List.{position_or_len, range_with_len}
use Rattle.std.specs.Option.{IfSome, option_map_or, option_to_list}
use Rattle.std.specs.Str.{bytes_eq}
use Rattle.std.proofs.lemmas.Bool.{cases_lt, false≢true}
use Rattle.std.proofs.lemmas.Cmp.{nat_list_eq_equiv}
use Rattle.std.proofs.lemmas.List.{append-nil, map-append}
use Rattle.std.proofs.lemmas.List.Elements.{All-cons, All-from_get_or, All-nil, Contains-get_or, filter-append}
use Rattle.std.proofs.lemmas.List.Kept.{AllPairs-filter}
use Rattle.std.proofs.lemmas.List.Quantifiers.{position-Some}
use Rattle.std.proofs.lemmas.Slice.Eq.{bytes_eq-Decides}
use Rattle.lemmas.proofs.Lists.{filter_range_more, range_increases}
use Rattle.graph.specs.declared.edges.Edge.{Edge}
use Rattle.graph.specs.Edges.{ends_of, IsWithin}
use Rattle.object_groups.specs.claims.Names.{number_of}
use Rattle.object_groups.specs.claims.Objects.{names_in}
use Rattle.object_reader.specs.declared.block.Block.{Block}
use Rattle.object_reader.specs.declared.block.BlockKind.TheVariants.{Service}
use Rattle.object_services.specs.Alike.{alike, is_alike, IsDoubledBelow, SharesAmong}
use Rattle.object_services.specs.claims.Doubled.{description_of, IsDoubled}
use Rattle.lemmas.proofs.Elements.{Contains-filter, Contains-from_filter, Contains-from_range, Contains-range}
use Rattle.lemmas.proofs.Searches.{place-le}
use Rattle.object_groups.specs.claims.First.{IsFirst}
use Rattle.object_groups.specs.First.{lower}
use Rattle.object_groups.specs.FirstLaws.{first-lower, first-same}

-- ---- the first place of a name

-- each name has a number
pub numbered : (names : List (List ℕ)) (n : ℕ) → n < length names → (first : ℕ) × (first < length names) × (number_of names (slice_index_or names n []) ≡ Some first)
numbered names n within =
    let name = slice_index_or names n [] in
    let place = position_or_len (bytes_eq name) names in
    let early : place ≤ n = place-le (bytes_eq name) names n [] within (nat_list_eq_equiv.refl name) in
    let low : place < length names = omega (arith, early, within) in
    (place, low, ap (λ (b : Bool). cond b (Some place) None) (lt-ltb place (length names) low))

-- names of one number are the same
same-name : (names : List (List ℕ)) (one other : List ℕ) (first : ℕ) → number_of names one ≡ Some first → number_of names other ≡ Some first → one ≡ other
same-name names one other first is also =
    (bytes_eq-Decides one (get_or names first [])).0 (position-Some (bytes_eq one) names first [] is).1
    ∙ sym ((bytes_eq-Decides other (get_or names first [])).0 (position-Some (bytes_eq other) names first [] also).1)

alike-is : (names : List (List ℕ)) (first n : ℕ) → is_alike names first n ≡ true → number_of names (slice_index_or names n []) ≡ Some first
alike-is names first n is = by_number (number_of names (slice_index_or names n [])) is
  where
    by_number : (found : Option ℕ) → option_map_or (λ f. eqb f first) found false ≡ true → found ≡ Some first
    by_number None none = absurd (false≢true none)
    by_number (Some f) same = ap (λ (k : ℕ). Some k) (eqb-true f first same)

is-alike : (names : List (List ℕ)) (first n : ℕ) → number_of names (slice_index_or names n []) ≡ Some first → is_alike names first n ≡ true
is-alike names first n is = ap (λ (found : Option ℕ). option_map_or (λ f. eqb f first) found false) is ∙ eq-eqb first first refl

pub alike-rising : (names : List (List ℕ)) (first : ℕ) → AllPairs (λ m n. m < n) (alike names first)
alike-rising names first = AllPairs-filter (λ m n. m < n) (is_alike names first) (range_with_len 0 (length names)) (range_increases 0 (length names))

pub alike-within : (names : List (List ℕ)) (first n : ℕ) → Contains (alike names first) n → n < length names
alike-within names first n at = Contains-from_range (length names) n (Contains-from_filter (is_alike names first) (range_with_len 0 (length names)) n at).0

-- each of them is a number of the names
pub alike-all : (names : List (List ℕ)) (first : ℕ) (group : List ℕ) (count : ℕ) → group ≡ alike names first → count ≡ length names → All (λ n. n < count) group
alike-all names first group count is long =
    subst (λ (ns : List ℕ). All (λ n. n < count) ns) (sym is)
    (All-from_get_or (λ n. n < count) (alike names first) 0
    (λ i low. let within = alike-within names first (get_or (alike names first) i 0) (Contains-get_or (alike names first) i 0 low) in omega (arith, within, long)))

pub alike-pairs : (names : List (List ℕ)) (first : ℕ) (group : List ℕ) → group ≡ alike names first → AllPairs (λ m n. m < n) group
alike-pairs names first group is = subst (λ (ns : List ℕ). AllPairs (λ m n. m < n) ns) (sym is) (alike-rising names first)

-- ---- one number more

-- the edge to a number is within them
pub edge-within : (count number : ℕ) (found : Option ℕ) → IfSome found (λ first. first < count) → number < count
    → All (IsWithin count) (map (λ first. record { from = first; to = number }) (option_to_list found))
edge-within count number None low within = All-nil (IsWithin count)
edge-within count number (Some first) low within = All-cons (IsWithin count) (record { from = first; to = number }) [] (record { from = low; to = within }) (All-nil (IsWithin count))

pub number-few : (count : ℕ) (found : Option ℕ) → IfSome found (λ first. first < count) → count < 2 ^ 32 → IfSome found (λ first. first < 2 ^ 32)
number-few count None low few = tt
number-few count (Some first) low few = omega (arith, low, few)

ends-more : (edges : List Edge) (number first : ℕ) (found : Option ℕ) → ends_of (edges ++ map (λ f. record { from = f; to = number }) (option_to_list found)) first
    ≡ ends_of edges first ++ cond (option_map_or (λ f. eqb f first) found false) (number ∷ []) []
ends-more edges number first None = ap (λ (es : List Edge). ends_of es first) (append-nil edges) ∙ sym (append-nil (ends_of edges first))
ends-more edges number first (Some f) =
    ap (map (λ edge. edge.to)) (filter-append (λ edge. eqb edge.from first) edges (record { from = f; to = number } ∷ []))
    ∙ map-append (λ edge. edge.to) (filter (λ edge. eqb edge.from first) edges) _
    ∙ elim (eqb f first) as (λ b. ends_of edges first ++ map (λ (edge : Edge). edge.to) (cond b (record { from = f; to = number } ∷ []) []) ≡ ends_of edges first ++ cond b (number ∷ []) []) [
      | true ↦ refl
      | false ↦ refl
    ]

-- the edges so far lead to the numbers so far
pub alike-more : (names : List (List ℕ)) (old new : List Edge) (number first : ℕ) (found : Option ℕ) → ends_of old first ≡ filter (is_alike names first) (range_with_len 0 number)
    → found ≡ number_of names (slice_index_or names number []) → new ≡ old ++ map (λ f. record { from = f; to = number }) (option_to_list found)
    → ends_of new first ≡ filter (is_alike names first) (range_with_len 0 (number + 1))
alike-more names old new number first found before is more =
    ap (λ (es : List Edge). ends_of es first) more ∙ ends-more old number first found
    ∙ ap (λ (f : Option ℕ). ends_of old first ++ cond (option_map_or (λ g. eqb g first) f false) (number ∷ []) []) is
    ∙ ap (λ (ns : List ℕ). ns ++ cond (is_alike names first number) (number ∷ []) []) before
    ∙ sym (filter_range_more (is_alike names first) number)

-- ---- the first that is doubled

module _ (blocks : List Block) (bound : ℕ) where
  abbrev pub names : List (List ℕ)
  names = names_in blocks Service

  -- doubled, with this first place of its description
  abbrev pub OfName : ℕ → Type 0
  OfName n = IsDoubled blocks n × (number_of names (description_of blocks n) ≡ Some bound)

  to_name : (n : ℕ) → SharesAmong blocks (alike names bound) n → OfName n
  to_name n shares =
      let is = alike-is names bound n (Contains-from_filter (is_alike names bound) (range_with_len 0 (length names)) n shares.0).1 in
      let also = alike-is names bound shares.1.0 (Contains-from_filter (is_alike names bound) (range_with_len 0 (length names)) shares.1.0 shares.1.2).1 in (
        record {
          within = alike-within names bound n shares.0;
          earlier = shares.1.0;
          before = shares.1.1;
          same = same-name names (description_of blocks shares.1.0) (description_of blocks n) bound also is;
          shared = shares.1.3;
        },
        is,
      )

  from_name : (n : ℕ) → OfName n → SharesAmong blocks (alike names bound) n
  from_name n of_name =
      let doubled = of_name.0 in
      let before = doubled.before in
      let within = doubled.within in
      let low : doubled.earlier < length names = omega (arith, before, within) in (
        Contains-filter (is_alike names bound) (range_with_len 0 (length names)) n (Contains-range (length names) n within) (is-alike names bound n of_name.1),
        (
          doubled.earlier,
          before,
          Contains-filter (is_alike names bound) (range_with_len 0 (length names)) doubled.earlier (Contains-range (length names) doubled.earlier low)
              (is-alike names bound doubled.earlier (ap (number_of names) doubled.same ∙ of_name.1)),
          doubled.shared,
        ),
      )

  -- the blocks of one description more
  pub doubled-more : (first found next : Option ℕ) (group : List ℕ) → group ≡ alike names bound → next ≡ lower first found → IsFirst (IsDoubledBelow blocks bound) first
      → IsFirst (SharesAmong blocks group) found → IsFirst (IsDoubledBelow blocks (bound + 1)) next
  doubled-more first found next group group_is next_is before here =
      subst (λ (f : Option ℕ). IsFirst (IsDoubledBelow blocks (bound + 1)) f) (sym next_is)
      (first-same (λ n. IsDoubledBelow blocks bound n ⊎ OfName n) (IsDoubledBelow blocks (bound + 1)) (lower first found) to from
      (first-lower (IsDoubledBelow blocks bound) OfName first found before
      (first-same (SharesAmong blocks (alike names bound)) OfName found to_name from_name (subst (λ (ms : List ℕ). IsFirst (SharesAmong blocks ms) found) group_is here))))
    where
      to : (n : ℕ) → IsDoubledBelow blocks bound n ⊎ OfName n → IsDoubledBelow blocks (bound + 1) n
      to n (inl below) = (below.0, (below.1.0, (let low = below.1.1 in omega (arith, low)), below.1.2))
      to n (inr of_name) = (of_name.0, (bound, omega arith, of_name.1))

      from : (n : ℕ) → IsDoubledBelow blocks (bound + 1) n → IsDoubledBelow blocks bound n ⊎ OfName n
      from n below = ⊎_elim
          (λ (early : below.1.0 < bound). inl (below.0, (below.1.0, early, below.1.2)))
          (λ (late : bound ≤ below.1.0). let low = below.1.1 in let same : below.1.0 ≡ bound = omega (arith, late, low) in inr (below.0, below.1.2 ∙ ap (λ (k : ℕ). Some k) same))
          (cases_lt below.1.0 bound)

pub doubled-none : (blocks : List Block) → IsFirst (IsDoubledBelow blocks 0) None
doubled-none blocks = λ n below. let low = below.1.1 in omega (arith, low)

pub doubled-all : (blocks : List Block) (bound : ℕ) (found : Option ℕ) → bound ≡ length (names_in blocks Service) → IsFirst (IsDoubledBelow blocks bound) found → IsFirst (IsDoubled blocks) found
doubled-all blocks bound found all below = first-same (IsDoubledBelow blocks bound) (IsDoubled blocks) found (λ n both. both.0) from below
  where
    from : (n : ℕ) → IsDoubled blocks n → IsDoubledBelow blocks bound n
    from n doubled = let first = numbered (names_in blocks Service) n doubled.within in (doubled, (first.0, subst (λ (k : ℕ). first.0 < k) (sym all) first.1, first.2))
