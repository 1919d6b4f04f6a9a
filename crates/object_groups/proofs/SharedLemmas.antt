-- Lists by their parts: one shared list more, chains of lists that are added to others, and the parts of a block's list.
use Rattle.std.proofs.Common.{◌≡◌, ℕ, zero, suc, ◌+◌, ◌<◌, ◌≤◌, Bool, true, false, cond, List, [], ◌∷◌, ◌++◌, append_assoc, length, reverse, get_or, Option, Some, None, refl, sym, ap, subst, ◌∙◌, ◌⊎◌, inl, inr, ⊎_elim, eqb, eqb-true, arith}
use Rattle.std.specs.Prelude.{IfSome, is_none, is_some, slice_get, unwrap_or}
use Rattle.std.specs.Map.{lookup}
use Rattle.std.proofs.lemmas.Bool.{false≢true}
use Rattle.std.proofs.lemmas.List.{append-nil, get_or_append_left, length-append, length-map, map-append, reverse-append}
use Rattle.std.proofs.Math.Seq.{get_or-append_seam}
use Rattle.object_groups.specs.declared.shared.Parts.{Parts}
use Rattle.object_groups.specs.declared.shared.SharedList.{SharedList}
use Rattle.object_groups.specs.claims.Objects.{list_at}
use Rattle.object_groups.specs.Shared.{AreFound, AreSharedLists, Grows, HasParts, HaveParts, IsChain, IsNumberOf, IsSharedList, list_before, nearest_at, own_part, wholes_of}
use Rattle.object_inheritance.specs.Columns.{given_from}
use Rattle.object_inheritance.specs.claims.Inherited.{given, joined_entries, list_given}
use Rattle.object_inheritance.specs.Inherited.{beside}
use Rattle.object_inheritance.specs.JoinedLaws.{joined-parts, list-entries}
use Rattle.object_reader.specs.declared.block.Block.{Block}

-- ---- one more in a list

some-same : {X : Type 0} (x y : X) → Some x ≡ Some y → x ≡ y
some-same x y is = ap (λ found. unwrap_or found x) is

at-more : {X : Type 0} (xs : List X) (x y : X) (k : ℕ) → slice_get (xs ++ x ∷ []) k ≡ Some y → (slice_get xs k ≡ Some y) ⊎ ((k ≡ length xs) × (x ≡ y))
at-more [] x y zero is = inr (refl, some-same x y is)
at-more [] x y (suc k) is = absurd (false≢true (ap is_some is))
at-more (z ∷ xs) x y zero is = inl is
at-more (z ∷ xs) x y (suc k) is = ⊎_elim
    (λ (before : slice_get xs k ≡ Some y). inl before)
    (λ (last : (k ≡ length xs) × (x ≡ y)). inr ((let end = last.0 in omega (arith, end)), last.1))
    (at-more xs x y k is)

-- ---- more lists

before-grows : (wholes more : List (List (List ℕ))) (number : Option ℕ) → IfSome number (λ k. k < length wholes) → list_before (wholes ++ more) number ≡ list_before wholes number
before-grows wholes more None low = refl
before-grows wholes more (Some number) low = get_or_append_left wholes more [] number low

within-grows : (wholes more : List (List (List ℕ))) (number : Option ℕ) → IfSome number (λ k. k < length wholes) → IfSome number (λ k. k < length (wholes ++ more))
within-grows wholes more None low = tt
within-grows wholes more (Some number) low = let long = length-append wholes more in omega (arith, long, low)

number-grows : (wholes more : List (List (List ℕ))) (number : Option ℕ) (entries : List (List ℕ)) → IsNumberOf wholes number entries → IsNumberOf (wholes ++ more) number entries
number-grows wholes more number entries is = record {
  within = within-grows wholes more number is.within;
  are = before-grows wholes more number is.within ∙ is.are;
}

module _ (blocks : List Block) (directive : List ℕ) where
  wholes-grow : (old new : List SharedList) (grows : Grows old new) → wholes_of blocks directive new ≡ wholes_of blocks directive old ++ wholes_of blocks directive grows.more
  wholes-grow old new grows = ap (wholes_of blocks directive) grows.are ∙ map-append (λ list. list_at blocks directive list.place) old grows.more

  pub grows-none : (lists : List SharedList) → Grows lists lists
  grows-none lists = record { more = []; are = sym (append-nil lists) }

  pub grows-on : (one two three : List SharedList) → Grows one two → Grows two three → Grows one three
  grows-on one two three first second = record {
    more = first.more ++ second.more;
    are = second.are ∙ ap (λ (lists : List SharedList). lists ++ second.more) first.are ∙ append_assoc one first.more second.more;
  }

  pub number-later : (old new : List SharedList) (number : Option ℕ) (entries : List (List ℕ)) → Grows old new → IsNumberOf (wholes_of blocks directive old) number entries
      → IsNumberOf (wholes_of blocks directive new) number entries
  number-later old new number entries grows is =
      subst (λ wholes. IsNumberOf wholes number entries) (sym (wholes-grow old new grows)) (number-grows (wholes_of blocks directive old) (wholes_of blocks directive grows.more) number entries is)

  parts-later : (old new : List SharedList) (place : ℕ) (parts : Parts) → Grows old new → HasParts blocks directive (wholes_of blocks directive old) place parts
      → HasParts blocks directive (wholes_of blocks directive new) place parts
  parts-later old new place parts grows has =
      let wholes = wholes_of blocks directive old in
      let more = wholes_of blocks directive grows.more in
      subst (λ all. HasParts blocks directive all place parts) (sym (wholes-grow old new grows)) (record {
        before = within-grows wholes more parts.before has.before;
        entries = has.entries ∙ ap (λ front. front ++ own_part blocks directive place parts.own) (sym (before-grows wholes more parts.before has.before));
      })

  -- ---- one list more

  below-length : (number : Option ℕ) (bound length : ℕ) → bound ≤ length → IfSome number (λ k. k < bound) → IfSome number (λ k. k < length)
  below-length None bound length few low = tt
  below-length (Some number) bound length few low = omega (arith, few, low)

  pub is-last : (old : List SharedList) (one : SharedList) → IfSome one.before (λ other. other < length (wholes_of blocks directive old))
      → list_at blocks directive one.place ≡ list_before (wholes_of blocks directive old) one.before ++ nearest_at blocks directive one.place
      → IsSharedList blocks directive (wholes_of blocks directive old) (length old) one
  is-last old one within entries = record {
    before = below-length one.before (length (wholes_of blocks directive old)) (length old)
        (let count = length-map old (λ list. list_at blocks directive list.place) in omega (arith, count)) within;
    entries = entries;
  }

  module _ (old new : List SharedList) (one : SharedList) (is : new ≡ old ++ one ∷ []) where
    abbrev pub grows-one : Grows old new
    grows-one = record { more = one ∷ []; are = is }

    long : length (wholes_of blocks directive new) ≡ length old + 1
    long = length-map new (λ list. list_at blocks directive list.place) ∙ ap (λ (lists : List SharedList). length lists) is ∙ length-append old (one ∷ [])

    stays : (number : ℕ) (list : SharedList) → number ≤ length old → IsSharedList blocks directive (wholes_of blocks directive old) number list
        → IsSharedList blocks directive (wholes_of blocks directive new) number list
    stays number list few shared =
        let wholes = wholes_of blocks directive old in
        let count : length wholes ≡ length old = length-map old (λ each. list_at blocks directive each.place) in
        let low = below-length list.before number (length wholes) (omega (arith, few, count)) shared.before in
        record {
          before = shared.before;
          entries = shared.entries ∙ ap (λ front. front ++ nearest_at blocks directive list.place)
              (sym (ap (λ all. list_before all list.before) (wholes-grow old new grows-one) ∙ before-grows wholes (wholes_of blocks directive (one ∷ [])) list.before low));
        }

    -- the new list is one of a lower number, and the entries after it
    pub lists-more : AreSharedLists blocks directive old → IsSharedList blocks directive (wholes_of blocks directive old) (length old) one → AreSharedLists blocks directive new
    lists-more are last number list at = ⊎_elim
        (λ (before : slice_get old number ≡ Some list). stays number list (let low = at-within old number list before in omega (arith, low)) (are number list before))
        (λ (here : (number ≡ length old) × (one ≡ list)).
        subst (λ (each : SharedList). IsSharedList blocks directive (wholes_of blocks directive new) number each) here.1
        (subst (λ (k : ℕ). IsSharedList blocks directive (wholes_of blocks directive new) k one) (sym here.0) (stays (length old) one (omega arith) last)))
        (at-more old one list number (subst (λ (lists : List SharedList). slice_get lists number ≡ Some list) is at))
      where
        at-within : (xs : List SharedList) (k : ℕ) (x : SharedList) → slice_get xs k ≡ Some x → k < length xs
        at-within [] k x none = absurd (false≢true (ap is_some none))
        at-within (y ∷ xs) zero x found = omega arith
        at-within (y ∷ xs) (suc k) x found = let rest = at-within xs k x found in omega (arith, rest)

    pub last-number : (number : ℕ) → number ≡ length old → IsNumberOf (wholes_of blocks directive new) (Some number) (list_at blocks directive one.place)
    last-number number number_is = record {
      within = omega (arith, long, number_is);
      are = ap (λ all. get_or all number []) (wholes-grow old new grows-one)
          ∙ ap (λ (k : ℕ). get_or (wholes_of blocks directive old ++ list_at blocks directive one.place ∷ []) k []) (number_is ∙ sym (length-map old (λ list. list_at blocks directive list.place)))
          ∙ get_or-append_seam (wholes_of blocks directive old) (list_at blocks directive one.place) [] [];
    }

    pub found-more : (numbers more : List (ℕ × ℕ)) (number : ℕ) → AreFound blocks directive numbers old
        → IsSharedList blocks directive (wholes_of blocks directive old) (length old) one → number ≡ length old
        → ((other : ℕ) → lookup (eqb other) more ≡ cond (eqb one.place other) (Some number) (lookup (eqb other) numbers))
        → AreFound blocks directive more new
    found-more numbers more number found last number_is updates = record {
      shared = lists-more found.shared last;
      numbered = λ other. subst (λ (kept : Option ℕ). IfSome kept (λ k. IsNumberOf (wholes_of blocks directive new) (Some k) (list_at blocks directive other))) (sym (updates other))
          (by_key other (eqb one.place other) refl);
    }
      where
        later : (other : ℕ) (kept : Option ℕ) → IfSome kept (λ k. IsNumberOf (wholes_of blocks directive old) (Some k) (list_at blocks directive other))
            → IfSome kept (λ k. IsNumberOf (wholes_of blocks directive new) (Some k) (list_at blocks directive other))
        later other None none = tt
        later other (Some k) some = number-later old new (Some k) (list_at blocks directive other) grows-one some

        by_key : (other : ℕ) (b : Bool) → eqb one.place other ≡ b
            → IfSome (cond b (Some number) (lookup (eqb other) numbers)) (λ k. IsNumberOf (wholes_of blocks directive new) (Some k) (list_at blocks directive other))
        by_key other true same = subst (λ (place : ℕ). IsNumberOf (wholes_of blocks directive new) (Some number) (list_at blocks directive place)) (eqb-true one.place other same) (last-number number number_is)
        by_key other false differs = later other (lookup (eqb other) numbers) (found.numbered other)

  -- ---- what a list is added to

  entries-from : (place : Option ℕ) → unwrap_or (list_given (given_from blocks directive place)) [] ≡ joined_entries (given_from blocks directive place)
  entries-from place = list-entries (given_from blocks directive place)

  -- the list of the block is that of the other, if there is one, and its nearest entries
  pub added-entries : (place : ℕ) (other : Option ℕ) → given_from blocks directive other ≡ beside (given blocks directive place)
      → list_at blocks directive place ≡ unwrap_or (list_given (given_from blocks directive other)) [] ++ nearest_at blocks directive place
  added-entries place other is =
      list-entries (given blocks directive place) ∙ joined-parts (given blocks directive place)
      ∙ ap (λ texts. joined_entries texts ++ nearest_at blocks directive place) (sym is)
      ∙ ap (λ front. front ++ nearest_at blocks directive place) (sym (list-entries (given_from blocks directive other)))

  -- ---- chains

  pub chain-begins : (chain : List ℕ) (place : ℕ) → chain ≡ [] → IsChain blocks directive (reverse chain) place (list_at blocks directive place)
  chain-begins chain place none = subst (λ (places : List ℕ). IsChain blocks directive (reverse places) place (list_at blocks directive place)) (sym none) refl

  pub chain-more : (chain more : List ℕ) (place at : ℕ) (other : Option ℕ) → more ≡ chain ++ at ∷ [] → given_from blocks directive other ≡ beside (given blocks directive at)
      → IsChain blocks directive (reverse chain) place (list_at blocks directive at)
      → IsChain blocks directive (reverse more) place (unwrap_or (list_given (given_from blocks directive other)) [])
  chain-more chain more place at other is added before =
      subst (λ (places : List ℕ). IsChain blocks directive places place (unwrap_or (list_given (given_from blocks directive other)) [])) (sym (ap (λ (places : List ℕ). reverse places) is ∙ reverse-append chain (at ∷ [])))
      (added-entries at other added, before)

  pub chain-front : (chain : List ℕ) (place : ℕ) (one other : List (List ℕ)) → one ≡ other → IsChain blocks directive chain place one → IsChain blocks directive chain place other
  chain-front chain place one other same is = subst (λ front. IsChain blocks directive chain place front) same is

  pub chain-last : (chain rest : List ℕ) (place at : ℕ) (front : List (List ℕ)) → chain ≡ rest ++ at ∷ [] → IsChain blocks directive (reverse chain) place front
      → (list_at blocks directive at ≡ front ++ nearest_at blocks directive at) × IsChain blocks directive (reverse rest) place (list_at blocks directive at)
  chain-last chain rest place at front is chained =
      subst (λ (places : List ℕ). IsChain blocks directive places place front) (ap (λ (places : List ℕ). reverse places) is ∙ reverse-append rest (at ∷ [])) chained

  pub chain-ends : (chain : List ℕ) (place : ℕ) (front : List (List ℕ)) → chain ≡ [] → IsChain blocks directive (reverse chain) place front → front ≡ list_at blocks directive place
  chain-ends chain place front none chained = subst (λ (places : List ℕ). IsChain blocks directive (reverse places) place front) none chained

  -- ---- the parts of a block's list

  -- a block that gives nothing
  pub parts-none : (wholes : List (List (List ℕ))) (place : ℕ) → is_none (slice_get (given blocks directive place) 0) ≡ true
      → HasParts blocks directive wholes place (record { before = None; own = false })
  parts-none wholes place none = record { before = tt; entries = no_list (given blocks directive place) none }
    where
      no_list : (texts : List (List ℕ)) → is_none (slice_get texts 0) ≡ true → unwrap_or (list_given texts) [] ≡ []
      no_list [] there = refl
      no_list (text ∷ texts) there = absurd (false≢true there)

  -- one that has the list of another
  pub parts-taken : (wholes : List (List (List ℕ))) (place origin : ℕ) (before : Option ℕ) → given blocks directive origin ≡ given blocks directive place
      → IsNumberOf wholes before (list_at blocks directive origin) → HasParts blocks directive wholes place (record { before = before; own = false })
  parts-taken wholes place origin before same is = record {
    before = is.within;
    entries = sym (append-nil (list_before wholes before) ∙ is.are ∙ ap (λ texts. unwrap_or (list_given texts) []) same);
  }

  -- one whose own is added to that of another
  pub parts-added : (wholes : List (List (List ℕ))) (place other : ℕ) (before : Option ℕ) → given blocks directive other ≡ beside (given blocks directive place)
      → IsNumberOf wholes before (list_at blocks directive other) → HasParts blocks directive wholes place (record { before = before; own = true })
  parts-added wholes place other before added is = record {
    before = is.within;
    entries = added-entries place (Some other) added ∙ ap (λ front. front ++ nearest_at blocks directive place) (sym is.are);
  }

  -- one whose own isn't added
  pub parts-alone : (wholes : List (List (List ℕ))) (place : ℕ) (other : Option ℕ) → other ≡ None → given_from blocks directive other ≡ beside (given blocks directive place)
      → HasParts blocks directive wholes place (record { before = None; own = true })
  parts-alone wholes place other none added = record {
    before = tt;
    entries = added-entries place None (ap (given_from blocks directive) (sym none) ∙ added);
  }

  -- ---- one place more

  pub have-more : (places : List ℕ) (old new : List SharedList) (parts more : List Parts) (one : Parts) → Grows old new → more ≡ parts ++ one ∷ []
      → HasParts blocks directive (wholes_of blocks directive new) (get_or places (length parts) 0) one
      → HaveParts blocks directive (wholes_of blocks directive old) places parts → HaveParts blocks directive (wholes_of blocks directive new) places more
  have-more places old new parts more one grows is last have = record {
    each = λ k each at. ⊎_elim
        (λ (before : slice_get parts k ≡ Some each). parts-later old new (get_or places k 0) each grows (have.each k each before))
        (λ (here : (k ≡ length parts) × (one ≡ each)).
        subst (λ (x : Parts). HasParts blocks directive (wholes_of blocks directive new) (get_or places k 0) x) here.1
        (subst (λ (n : ℕ). HasParts blocks directive (wholes_of blocks directive new) (get_or places n 0) one) (sym here.0) last))
        (at-more parts one each k (subst (λ (xs : List Parts). slice_get xs k ≡ Some each) is at));
  }

  pub have-none : (places : List ℕ) (lists : List SharedList) (parts : List Parts) → parts ≡ [] → HaveParts blocks directive (wholes_of blocks directive lists) places parts
  have-none places lists parts none = record {
    each = λ k each at. absurd (false≢true (ap is_some (subst (λ (xs : List Parts). slice_get xs k ≡ Some each) none at)));
  }

  pub found-none : (numbers : List (ℕ × ℕ)) (lists : List SharedList) → numbers ≡ [] → lists ≡ [] → AreFound blocks directive numbers lists
  found-none numbers lists no_numbers no_lists =
      subst (λ (kept : List (ℕ × ℕ)). AreFound blocks directive kept lists) (sym no_numbers)
      (subst (λ (kept : List SharedList). AreFound blocks directive [] kept) (sym no_lists) (record {
        shared = λ number list at. absurd (false≢true (ap is_some at));
        numbered = λ place. tt;
      }))
