-- The lanes that words name.
use Rattle.std.proofs.Common.{below_more, ◌≡◌, ℕ, zero, suc, ◌+◌, ◌<◌, ◌≤◌, All, Bool, true, false, cond, eqb, List, [], ◌∷◌, ◌++◌, filter, length, take, get_or, map, position, Option, None, Some, refl, sym, ap, ap₂, subst, ◌∙◌, ⊎_elim, arith}
use Rattle.std.proofs.lemmas.Bool.{cases_Bool, eqb-true}
use Rattle.std.proofs.lemmas.List.{get_or-map, length-map, map_push, take-map, take_all}
use Rattle.std.proofs.lemmas.List.Filters.{length-filter_more}
use Rattle.std.proofs.lemmas.List.Quantifiers.{position-Some}
use Rattle.std.proofs.lemmas.Option.{none-some}
use Rattle.std.proofs.lemmas.Slice.Eq.{bytes_eq-Decides}
use Rattle.std.specs.Str.{bytes_eq}
use Rattle.due_model.specs.declared.config.Config.{Config}
use Rattle.due_model.specs.declared.config.LaneId.{LaneId}
use Rattle.channel_words.specs.declared.word.ChannelWord.{ChannelWord}
use Rattle.channel_words.specs.Lanes.{AreFew, IsFirstNinth, IsUnknown, channels_for, count_of, earlier_of, lane_named, names_of}
use Rattle.channel_words.specs.Words.{IsFirst}
use Rattle.channel_words.proofs.ListLaws.{all_more, is_first, map_more}

abbrev pub name_of : ChannelWord → List ℕ
name_of word = word.name.now

abbrev pub number_of : LaneId → Option ℕ
number_of lane = Some lane.0

-- these are the lanes of the names so far, each of which there is
pub record NamedSoFar (c : Config) (names : List (List ℕ)) (lanes : List LaneId) : Type 0 where
  pub each : map (lane_named c) names ≡ map number_of lanes
  pub known : All (λ name. ¬ IsUnknown c name) names

module _ (c : Config) (words : List ChannelWord) (i : ℕ) (lanes : List LaneId) (d : ChannelWord) (within : i < length words) where
  pub named_more : NamedSoFar c (map name_of (take i words)) lanes → (lane : LaneId) → Some lane.0 ≡ lane_named c (get_or words i d).name.now
      → NamedSoFar c (map name_of (take (i + 1) words)) (lanes ++ lane ∷ [])
  named_more so lane is = record {
    each = ap (map (lane_named c)) (map_more name_of words i d within) ∙ map_push (lane_named c) (map name_of (take i words)) (get_or words i d).name.now
        ∙ ap₂ (λ (xs : List (Option ℕ)) (x : Option ℕ). xs ++ x ∷ []) so.each (sym is) ∙ sym (map_push number_of lanes lane);
    known = all_more name_of words i d within (λ name. ¬ IsUnknown c name) so.known (λ none. let both : Some lane.0 ≡ None = is ∙ none in cc);
  }

  pub unknown_first : NamedSoFar c (map name_of (take i words)) lanes → lane_named c (get_or words i d).name.now ≡ None
      → IsFirst (IsUnknown c) (get_or words i d).name.now (map name_of words)
  unknown_first so none = is_first name_of words i d within (IsUnknown c) so.known none

pub named_all : (c : Config) (words : List ChannelWord) (i : ℕ) (lanes : List LaneId) → length words ≤ i → NamedSoFar c (map name_of (take i words)) lanes → NamedSoFar c (map name_of words) lanes
named_all c words i lanes h so = subst (λ (ws : List ChannelWord). NamedSoFar c (map name_of ws) lanes) (take_all i words h) so

-- ---- names that stand a ninth time

more_so : {X : Type 0} (p : X → Bool) (x : X) (xs : List X) → p x ≡ true → length (filter p (x ∷ xs)) ≡ length (filter p xs) + 1
more_so {X} p x xs is =
    let one : length (filter p (x ∷ xs)) ≡ suc (length (filter p xs)) = ap (λ (b : Bool). length (cond b (x ∷ filter p xs) (filter p xs))) is in
    omega (arith, one)

same_so : {X : Type 0} (p : X → Bool) (x : X) (xs : List X) → p x ≡ false → length (filter p (x ∷ xs)) ≡ length (filter p xs)
same_so {X} p x xs is = ap (λ (b : Bool). length (cond b (x ∷ filter p xs) (filter p xs))) is

any_count : {X Y : Type 0} (f : X → Y) (p : Y → Bool) (xs : List X) → length (filter p (map f xs)) ≡ length (filter (λ x. p (f x)) xs)
any_count f p [] = refl
any_count {X} f p (x ∷ xs) = ⊎_elim
    (λ (is : p (f x) ≡ true). more_so p (f x) (map f xs) is ∙ ap (λ n. n + 1) (any_count f p xs) ∙ sym (more_so (λ (y : X). p (f y)) x xs is))
    (λ (is : p (f x) ≡ false). same_so p (f x) (map f xs) is ∙ any_count f p xs ∙ sym (same_so (λ (y : X). p (f y)) x xs is))
    (cases_Bool (p (f x)))

-- how many earlier words have the name of this one
pub earlier_is : (words : List ChannelWord) (i : ℕ) (d : ChannelWord) → i < length words
    → earlier_of (names_of words) i ≡ length (filter (λ word. bytes_eq word.name.now (get_or words i d).name.now) (take i words))
earlier_is words i d h =
    ap₂ count_of (get_or-map name_of words i d [] h) (take-map name_of i words)
    ∙ any_count name_of (λ other. bytes_eq other (get_or words i d).name.now) (take i words)

module _ (words part : List ChannelWord) (i : ℕ) (d : ChannelWord) (n : ℕ) (within : i < length words) (same : part ≡ take i words)
    (is : n ≡ length (filter (λ word. bytes_eq word.name.now (get_or words i d).name.now) part)) where
  number_is : earlier_of (names_of words) i ≡ n
  number_is = earlier_is words i d within ∙ ap (λ (ws : List ChannelWord). length (filter (λ word. bytes_eq word.name.now (get_or words i d).name.now) ws)) (sym same) ∙ sym is

  -- eight have
  pub ninth_at : 8 ≤ n → ((k : ℕ) → k < i → earlier_of (names_of words) k < 8) → IsFirstNinth (get_or words i d).name.now (names_of words)
  ninth_at many none = record {
    place = i;
    within = omega (arith, length-map words name_of);
    here = get_or-map name_of words i d [] within;
    ninth = subst (λ k. 8 ≤ k) (sym number_is) many;
    earlier = none;
  }

  -- or fewer
  pub few_more : n < 8 → ((k : ℕ) → k < i → earlier_of (names_of words) k < 8) → (k : ℕ) → k < i + 1 → earlier_of (names_of words) k < 8
  few_more few none = below_more (λ k. earlier_of (names_of words) k < 8) i none (subst (λ k. k < 8) (sym number_is) few)

-- ---- lanes

-- no name stands more than eight times among the first
few_first : (names : List (List ℕ)) → AreFew names → (name : List ℕ) (i : ℕ) → i ≤ length names → count_of name (take i names) ≤ 8
few_first names few name zero h = omega arith
few_first names few name (suc i) h =
    let p = λ (other : List ℕ). bytes_eq other name in
    let next : suc i ≡ i + 1 = omega arith in
    let more : count_of name (take (suc i) names) ≡ count_of name (take i names) + cond (bytes_eq (get_or names i []) name) 1 0 =
    ap (λ (k : ℕ). count_of name (take k names)) next ∙ length-filter_more p names i [] h in
    let before = few_first names few name i (omega arith) in
    ⊎_elim
    (λ (is : bytes_eq (get_or names i []) name ≡ true).
    let own = (bytes_eq-Decides (get_or names i []) name).0 is in
    let less : count_of name (take i names) < 8 = subst (λ (n : List ℕ). count_of n (take i names) < 8) own (few i h) in
    let one : count_of name (take (suc i) names) ≡ count_of name (take i names) + 1 = more ∙ ap (λ (b : Bool). count_of name (take i names) + cond b 1 0) is in
    omega (arith, one, less))
    (λ (is : bytes_eq (get_or names i []) name ≡ false).
    let none : count_of name (take (suc i) names) ≡ count_of name (take i names) + 0 = more ∙ ap (λ (b : Bool). count_of name (take i names) + cond b 1 0) is in
    omega (arith, none, before))
    (cases_Bool (bytes_eq (get_or names i []) name))

few_names : (names : List (List ℕ)) → AreFew names → (name : List ℕ) → count_of name names ≤ 8
few_names names few name = subst (λ (ns : List (List ℕ)). count_of name ns ≤ 8) (take_all (length names) names (omega arith)) (few_first names few name (length names) (omega arith))

-- a name that is found is that of the place where it is
own_name : {X : Type 0} (name_at : X → List ℕ) (xs : List X) (name : List ℕ) (l : ℕ) → position (λ x. bytes_eq (name_at x) name) xs ≡ Some l
    → get_or (map name_at xs) l [] ≡ name
own_name name_at [] name l at = absurd (none-some l at)
own_name name_at (x ∷ xs) name l at =
    let found = position-Some (λ y. bytes_eq (name_at y) name) (x ∷ xs) l x at in
    get_or-map name_at (x ∷ xs) l x [] found.0 ∙ (bytes_eq-Decides (name_at (get_or (x ∷ xs) l x)) name).0 found.1

-- lane l has no more words than its name
lanes_below : (c : Config) (l : ℕ) (own : List ℕ) → ((name : List ℕ) → lane_named c name ≡ Some l → own ≡ name)
    → (names : List (List ℕ)) (lanes : List LaneId) → map (lane_named c) names ≡ map number_of lanes → channels_for lanes l ≤ count_of own names
lanes_below c l own is [] [] same = omega arith
lanes_below c l own is [] (lane ∷ lanes) same = absurd (let none : [] ≡ Some lane.0 ∷ map number_of lanes = same in cc)
lanes_below c l own is (name ∷ names) [] same = absurd (let none : lane_named c name ∷ map (lane_named c) names ≡ [] = same in cc)
lanes_below c l own is (name ∷ names) (lane ∷ lanes) same =
    let both : lane_named c name ∷ map (lane_named c) names ≡ Some lane.0 ∷ map number_of lanes = same in
    let here : lane_named c name ≡ Some lane.0 = cc in
    let rest : map (lane_named c) names ≡ map number_of lanes = cc in
    let below = lanes_below c l own is names lanes rest in
    let p = λ (n : List ℕ). bytes_eq n own in
    let q = λ (other : LaneId). eqb other.0 l in
    ⊎_elim
    (λ (its : eqb lane.0 l ≡ true).
    let name_is = is name (here ∙ ap (λ (n : ℕ). Some n) (eqb-true lane.0 l its)) in
    let more = more_so q lane lanes its in
    let also = more_so p name names ((bytes_eq-Decides name own).1 (sym name_is)) in
    omega (arith, below, more, also))
    (λ (other : eqb lane.0 l ≡ false).
    let none = same_so q lane lanes other in
    ⊎_elim
    (λ (yes : bytes_eq name own ≡ true). let also = more_so p name names yes in omega (arith, below, none, also))
    (λ (no : bytes_eq name own ≡ false). let also = same_so p name names no in omega (arith, below, none, also))
    (cases_Bool (bytes_eq name own)))
    (cases_Bool (eqb lane.0 l))

pub few_channels : (c : Config) (names : List (List ℕ)) (lanes : List LaneId) → map (lane_named c) names ≡ map number_of lanes → AreFew names
    → (l : ℕ) → channels_for lanes l ≤ 8
few_channels c names lanes same few l =
    let own = get_or (map (λ lane. lane.name) c.lanes) l [] in
    let below = lanes_below c l own (λ name at. own_name (λ lane. lane.name) c.lanes name l at) names lanes same in
    let most = few_names names few own in
    omega (arith, below, most)
