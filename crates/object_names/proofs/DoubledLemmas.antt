-- Objects with the name of one before them, by their numbers.
use Rattle.std.proofs.Common.{◌≡◌, ℕ, zero, suc, ◌+◌, ◌<◌, ◌≤◌, nat_lt, Bool, true, false, cond, List, [], ◌∷◌, length, take, get_or, Option, Some, None, refl, sym, ap, subst, ⊎_elim, ◌∙◌, ◌⊎◌, inl, inr, arith, lt-ltb}
use Rattle.std.specs.Prelude.{AllPairs, Contains, slice_get}
use Rattle.std.specs.List.{position_or_len, range_with_len}
use Rattle.std.specs.Option.{option_map_or}
use Rattle.std.specs.Str.{bytes_eq}
use Rattle.std.proofs.lemmas.Bool.{cases_lt, false≢true, ltb-true}
use Rattle.std.proofs.lemmas.List.{get_or-map, length-map, take_more}
use Rattle.std.proofs.lemmas.List.Elements.{Contains-append_cases, Contains-append_left, Contains-append_right, Contains-get_or}
use Rattle.std.proofs.lemmas.List.Kept.{AllPairs-filter}
use Rattle.std.proofs.lemmas.List.Quantifiers.{position-Some}
use Rattle.std.proofs.lemmas.Slice.Eq.{bytes_eq-Decides}
use Rattle.lemmas.proofs.Elements.{Contains-cases, Contains-filter, Contains-from_filter, Contains-here, Contains-none, Contains-range}
use Rattle.lemmas.proofs.Lists.{range_increases}
use Rattle.lemmas.proofs.Searches.{place-le}
use Rattle.object_groups.specs.claims.Names.{number_of}
use Rattle.object_groups.specs.Names.{is_doubled}
use Rattle.object_groups.specs.claims.Objects.{is_object, is_object_at, name_at, names_in, objects_in}
use Rattle.object_reader.specs.declared.block.Block.{Block}
use Rattle.object_reader.specs.declared.block.BlockKind.{BlockKind}
use Rattle.object_groups.specs.Objects.{ObjectsOf}
use Rattle.object_names.specs.declared.named.NamedKind.{NamedKind}
use Rattle.object_names.specs.declared.named.NamedKind.TheVariants.{Host, HostGroup, ServiceGroup, Contact, ContactGroup, TimePeriod, Command}
use Rattle.object_names.specs.claims.Doubled.{IsDoubled, IsDoubledOf}
use Rattle.object_names.specs.Doubled.{IsDoubledAmong}
use Rattle.object_groups.specs.claims.First.{IsFirst}
use Rattle.object_groups.specs.First.{lower}
use Rattle.object_names.specs.claims.Named.{block_kind}
use Rattle.object_names.specs.Named.{all_kinds}
use Rattle.object_groups.specs.FirstLaws.{first-either, first-same}

-- ---- places in lists of names

-- a name that stands at an earlier number is doubled
doubled-from : (names : List (List ℕ)) (m n : ℕ) → m < n → n < length names → get_or names m [] ≡ get_or names n [] → is_doubled names n ≡ true
doubled-from names m n early within same =
    let name = get_or names n [] in
    let place = position_or_len (bytes_eq name) names in
    let few : place ≤ m = place-le (bytes_eq name) names m [] (omega (arith, early, within)) ((bytes_eq-Decides name (get_or names m [])).1 (sym same)) in
    let low : place < length names = omega (arith, few, early, within) in
    ap (λ (b : Bool). option_map_or (λ first. nat_lt first n) (cond b (Some place) None) false) (lt-ltb place (length names) low)
    ∙ lt-ltb place n (omega (arith, few, early))

-- a doubled name stands at an earlier number
doubled-earlier : (names : List (List ℕ)) (n : ℕ) → is_doubled names n ≡ true → (m : ℕ) × (m < n) × (m < length names) × (get_or names m [] ≡ get_or names n [])
doubled-earlier names n is = by_number (number_of names (get_or names n [])) refl is
  where
    by_number : (found : Option ℕ) → number_of names (get_or names n []) ≡ found → option_map_or (λ first. nat_lt first n) found false ≡ true
        → (m : ℕ) × (m < n) × (m < length names) × (get_or names m [] ≡ get_or names n [])
    by_number None at none = absurd (false≢true none)
    by_number (Some m) at low =
        let found = position-Some (bytes_eq (get_or names n [])) names m [] at in
        (m, ltb-true m n low, found.0, sym ((bytes_eq-Decides (get_or names n []) (get_or names m [])).0 found.1))

-- ---- objects by their numbers

module _ (blocks : List Block) (kind : BlockKind) where
  objects-rise : AllPairs (λ m n. m < n) (objects_in blocks kind)
  unfolding objects_in
  objects-rise = AllPairs-filter (λ m n. m < n) (is_object_at blocks kind) (range_with_len 0 (length blocks)) (range_increases 0 (length blocks))

  is-object : (place : ℕ) → Contains (objects_in blocks kind) place → is_object_at blocks kind place ≡ true
  unfolding objects_in
  is-object place at = (Contains-from_filter (is_object_at blocks kind) (range_with_len 0 (length blocks)) place at).1

  past-none : (xs : List Block) (place : ℕ) → option_map_or (is_object kind) (slice_get xs place) false ≡ true → place < length xs
  past-none [] place is = absurd (false≢true is)
  past-none (x ∷ xs) zero is = omega arith
  past-none (x ∷ xs) (suc place) is = let low = past-none xs place is in omega (arith, low)

  object-is : (place : ℕ) → is_object_at blocks kind place ≡ true → Contains (objects_in blocks kind) place
  unfolding objects_in
  object-is place is = Contains-filter (is_object_at blocks kind) (range_with_len 0 (length blocks)) place (Contains-range (length blocks) place (past-none blocks place is)) is

  names-long : length (names_in blocks kind) ≡ length (objects_in blocks kind)
  unfolding names_in
  names-long = length-map (objects_in blocks kind) (name_at blocks kind)

  name-is : (n d : ℕ) → n < length (objects_in blocks kind) → get_or (names_in blocks kind) n [] ≡ name_at blocks kind (get_or (objects_in blocks kind) n d)
  unfolding names_in
  name-is n d within = get_or-map (name_at blocks kind) (objects_in blocks kind) n d [] within

  -- the object of that number is doubled where its name is
  pub to-place : (n d : ℕ) → n < length (objects_in blocks kind) → is_doubled (names_in blocks kind) n ≡ true → IsDoubledOf blocks kind (get_or (objects_in blocks kind) n d)
  to-place n d within is =
      let ps = objects_in blocks kind in
      let first = doubled-earlier (names_in blocks kind) n is in
      let low : first.0 < length ps = let under = first.2 in let long = names-long in omega (arith, under, long) in
      record {
        object = is-object (get_or ps n d) (Contains-get_or ps n d within);
        earlier = get_or ps first.0 d;
        before = objects-rise first.0 n d first.1 within;
        also = is-object (get_or ps first.0 d) (Contains-get_or ps first.0 d low);
        same = sym (name-is first.0 d low) ∙ first.3 ∙ name-is n d within;
      }

  -- of two objects the one with the lower place has the lower number
  number-lower : (m n : ℕ) → m < length (objects_in blocks kind) → get_or (objects_in blocks kind) m 0 < get_or (objects_in blocks kind) n 0 → n < length (objects_in blocks kind) → m < n
  number-lower m n low less high = ⊎_elim
      (λ (early : m < n). early)
      (λ (late : n ≤ m). absurd (⊎_elim
      (λ (past : n < m). let above = objects-rise n m 0 past low in omega (arith, above, less))
      (λ (same_or : m ≤ n). let same : m ≡ n = omega (arith, late, same_or) in let here = ap (λ (j : ℕ). get_or (objects_in blocks kind) j 0) same in omega (arith, here, less))
      (cases_lt n m)))
      (cases_lt m n)

  -- where an object stands among them
  number-at : (place : ℕ) → is_object_at blocks kind place ≡ true → (n : ℕ) × (n < length (objects_in blocks kind)) × (get_or (objects_in blocks kind) n 0 ≡ place)
  number-at place is = let at = object-is place is in (at.0, at.1, read (objects_in blocks kind) at.0 place at.1 at.2)
    where
      read : (xs : List ℕ) (j x : ℕ) → j < length xs → get_or xs j x ≡ x → get_or xs j 0 ≡ x
      read [] j x long is = absurd (omega (arith, long))
      read (y ∷ ys) zero x long is = is
      read (y ∷ ys) (suc j) x long is = read ys j x (omega (arith, long)) is

  pub from-place : (place : ℕ) → IsDoubledOf blocks kind place
      → (n : ℕ) × (n < length (objects_in blocks kind)) × (get_or (objects_in blocks kind) n 0 ≡ place) × (is_doubled (names_in blocks kind) n ≡ true)
  from-place place doubled =
      let here = number-at place doubled.object in
      let there = number-at doubled.earlier doubled.also in
      let less : get_or (objects_in blocks kind) there.0 0 < get_or (objects_in blocks kind) here.0 0 =
      let before = doubled.before in let one = here.2 in let other = there.2 in omega (arith, before, one, other) in
      let early = number-lower there.0 here.0 there.1 less here.1 in
      let within : here.0 < length (names_in blocks kind) = let under = here.1 in let long = names-long in omega (arith, under, long) in (
        here.0,
        here.1,
        here.2,
        doubled-from (names_in blocks kind) there.0 here.0 early within
            (name-is there.0 0 there.1 ∙ ap (name_at blocks kind) there.2 ∙ doubled.same ∙ sym (ap (name_at blocks kind) here.2) ∙ sym (name-is here.0 0 here.1)),
      )

-- ---- one number more

-- none of the objects below the number has a doubled name
pub record HasNoneBefore (names : List (List ℕ)) (number : ℕ) : Type 0 where
  pub none : (k : ℕ) → k < number → is_doubled names k ≡ false

pub none-before : (names : List (List ℕ)) → HasNoneBefore names 0
none-before names = record { none = λ k low. absurd (omega (arith, low)) }

pub none-here : (names : List (List ℕ)) (number : ℕ) → HasNoneBefore names number → is_doubled names number ≡ false → HasNoneBefore names (number + 1)
none-here names number before here = record {
  none = λ k low. ⊎_elim
      (λ (early : k < number). before.none k early)
      (λ (late : number ≤ k). let same : k ≡ number = omega (arith, low, late) in ap (is_doubled names) same ∙ here)
      (cases_lt k number);
}

-- the first of the objects, as they are read
pub first-here : (blocks : List Block) (kind : BlockKind) (names : List (List ℕ)) (places : List ℕ) (number : ℕ) → names ≡ names_in blocks kind → places ≡ objects_in blocks kind
    → number < length places → HasNoneBefore (names_in blocks kind) number → is_doubled names number ≡ true → IsFirst (IsDoubledOf blocks kind) (Some (get_or places number 0))
first-here blocks kind names places number named listed within before doubled =
    let ps = objects_in blocks kind in
    let under : number < length ps = subst (λ (xs : List ℕ). number < length xs) listed within in
    subst (λ (xs : List ℕ). IsFirst (IsDoubledOf blocks kind) (Some (get_or xs number 0))) (sym listed) (
      to-place blocks kind number 0 under (subst (λ (ns : List (List ℕ)). is_doubled ns number ≡ true) named doubled),
      (λ k early other.
          let one = from-place blocks kind k other in
          let less : get_or ps one.0 0 < get_or ps number 0 = let there = one.2 in omega (arith, early, there) in
          let low = number-lower blocks kind one.0 number one.1 less under in
          false≢true (sym (before.none one.0 low) ∙ one.3)),
    )

pub first-none : (blocks : List Block) (kind : BlockKind) (places : List ℕ) (number : ℕ) → places ≡ objects_in blocks kind
    → length places ≤ number → HasNoneBefore (names_in blocks kind) number → IsFirst (IsDoubledOf blocks kind) None
first-none blocks kind places number listed all before = λ k other.
    let one = from-place blocks kind k other in
    let under = one.1 in
    let long : length places ≡ length (objects_in blocks kind) = ap (λ (xs : List ℕ). length xs) listed in
    false≢true (sym (before.none one.0 (omega (arith, under, long, all))) ∙ one.3)

-- ---- one type more

pub none-yet : (blocks : List Block) → IsFirst (IsDoubledAmong blocks []) None
none-yet blocks = λ place some. Contains-none some.0 some.1

pub one-more : (blocks : List Block) (kinds : List NamedKind) (i : ℕ) (d : NamedKind) (objects : ObjectsOf) (first second found : Option ℕ) → i < length kinds
    → objects ≡ record { blocks = blocks; kind = block_kind (get_or kinds i d) } → found ≡ lower first second
    → IsFirst (IsDoubledAmong blocks (take i kinds)) first → IsFirst (IsDoubledOf objects.blocks objects.kind) second
    → IsFirst (IsDoubledAmong blocks (take (i + 1) kinds)) found
one-more blocks kinds i d objects first second found within are is before here =
    first-either (IsDoubledAmong blocks (take i kinds)) (IsDoubledOf blocks (block_kind (get_or kinds i d))) (IsDoubledAmong blocks (take (i + 1) kinds)) first second found is to from before
    (subst (λ (o : ObjectsOf). IsFirst (IsDoubledOf o.blocks o.kind) second) are here)
  where
    to : (n : ℕ) → IsDoubledAmong blocks (take i kinds) n ⊎ IsDoubledOf blocks (block_kind (get_or kinds i d)) n → IsDoubledAmong blocks (take (i + 1) kinds) n
    to n (inl some) = (
      some.0,
      subst (λ (ks : List NamedKind). Contains ks some.0) (sym (take_more kinds i d within)) (Contains-append_left (take i kinds) (get_or kinds i d ∷ []) some.0 some.1),
      some.2,
    )
    to n (inr one) = (
      get_or kinds i d,
      subst (λ (ks : List NamedKind). Contains ks (get_or kinds i d)) (sym (take_more kinds i d within))
          (Contains-append_right (take i kinds) (get_or kinds i d ∷ []) (get_or kinds i d) (Contains-here (get_or kinds i d) [])),
      one,
    )

    from : (n : ℕ) → IsDoubledAmong blocks (take (i + 1) kinds) n → IsDoubledAmong blocks (take i kinds) n ⊎ IsDoubledOf blocks (block_kind (get_or kinds i d)) n
    from n some = ⊎_elim
        (λ (front : Contains (take i kinds) some.0). inl (some.0, front, some.2))
        (λ (last : Contains (get_or kinds i d ∷ []) some.0). ⊎_elim
        (λ (same : get_or kinds i d ≡ some.0). inr (subst (λ (k : NamedKind). IsDoubledOf blocks (block_kind k) n) (sym same) some.2))
        (λ (none : Contains [] some.0). absurd (Contains-none some.0 none))
        (Contains-cases (get_or kinds i d) some.0 [] last))
        (Contains-append_cases (take i kinds) (get_or kinds i d ∷ []) some.0 (subst (λ (ks : List NamedKind). Contains ks some.0) (take_more kinds i d within) some.1))

is-kind : (kind : NamedKind) → Contains all_kinds kind
is-kind Host = (0, omega arith, refl)
is-kind HostGroup = (1, omega arith, refl)
is-kind ServiceGroup = (2, omega arith, refl)
is-kind Contact = (3, omega arith, refl)
is-kind ContactGroup = (4, omega arith, refl)
is-kind TimePeriod = (5, omega arith, refl)
is-kind Command = (6, omega arith, refl)

pub all-first : (blocks : List Block) (found : Option ℕ) → IsFirst (IsDoubledAmong blocks all_kinds) found → IsFirst (IsDoubled blocks) found
all-first blocks found first = first-same (IsDoubledAmong blocks all_kinds) (IsDoubled blocks) found
    (λ n some. (some.0, some.2)) (λ n some. (some.0, is-kind some.0, some.1)) first
