-- Lists of places by the keys of descriptions.
use Rattle.std.proofs.Common.{◌≡◌, ℕ, zero, suc, ◌+◌, ◌<◌, ◌≤◌, Bool, true, false, cond, List, [], ◌∷◌, ◌++◌, length, take, set, get_or, replicate, length-set, Option, Some, None, refl, sym, ap, subst, eqb, eqb-true, eq-eqb, ⊎_elim, ◌∙◌, ◌⊎◌, inl, inr, arith, lt-ltb, Bor}
use Rattle.std.specs.Prelude.{Contains, unwrap_or}
use Rattle.std.specs.List.{position_or_len}
use Rattle.std.specs.Option.{IfSome}
use Rattle.std.specs.Str.{bytes_eq}
use Rattle.std.proofs.lemmas.Bool.{cases_lt}
use Rattle.std.proofs.lemmas.Cmp.{nat_list_eq_equiv}
use Rattle.std.proofs.lemmas.List.{length-replicate, take_more}
use Rattle.std.proofs.lemmas.List.Elements.{Contains-append_cases, Contains-append_left, Contains-append_right}
use Rattle.std.proofs.lemmas.List.Quantifiers.{position-Some}
use Rattle.std.proofs.lemmas.Slice.Eq.{bytes_eq-Decides}
use Rattle.lemmas.proofs.Elements.{Contains-cases, Contains-here, Contains-none}
use Rattle.lemmas.proofs.Searches.{place-le, position-within, texts-more}
use Rattle.lemmas.proofs.Writes.{at_longer}
use Rattle.object_groups.specs.claims.Names.{number_of}
use Rattle.object_groups.specs.claims.Objects.{names_in}
use Rattle.object_reached.specs.declared.roles.Role.{Role}
use Rattle.object_reader.specs.declared.block.Block.{Block}
use Rattle.object_reader.specs.declared.block.BlockKind.TheVariants.{Service}
use Rattle.object_services.specs.claims.Doubled.{description_of, place_of}
use Rattle.object_unknown_services.specs.Keys.{Adds, AreByKey, AreListsOf, GivesBelow, HasKey, key_of, NamesFirst, NamesKey}
use Rattle.object_unknown_services.specs.Named.{descriptions_at}
use Rattle.object_values.specs.Values.{texts}

-- ---- keys

pub key-within : (names : List (List ℕ)) (description : List ℕ) → key_of names description ≤ length names
key-within names description = by_number (number_of names description) (position-within (bytes_eq description) names)
  where
    by_number : (found : Option ℕ) → IfSome found (λ k. k < length names) → unwrap_or found (length names) ≤ length names
    by_number None low = omega arith
    by_number (Some k) low = omega (arith, low)

-- a text of that number is the name there
named-at : (names : List (List ℕ)) (text : List ℕ) (k : ℕ) → number_of names text ≡ Some k → text ≡ get_or names k []
named-at names text k is = (bytes_eq-Decides text (get_or names k [])).0 (position-Some (bytes_eq text) names k [] is).1

-- a name and a description of one key are the same
pub same-key : (names : List (List ℕ)) (n : ℕ) (description : List ℕ) → n < length names → key_of names (get_or names n []) ≡ key_of names description → get_or names n [] ≡ description
same-key names n description within same = by_number (number_of names description) refl
  where
    name : List ℕ
    name = get_or names n []

    first : ℕ
    first = position_or_len (bytes_eq name) names

    low : first < length names
    low = let early = place-le (bytes_eq name) names n [] within (nat_list_eq_equiv.refl name) in omega (arith, early, within)

    there : number_of names name ≡ Some first
    there = ap (λ (b : Bool). cond b (Some first) None) (lt-ltb first (length names) low)

    key : first ≡ key_of names description
    key = sym (ap (λ (found : Option ℕ). unwrap_or found (length names)) there) ∙ same

    by_number : (found : Option ℕ) → number_of names description ≡ found → name ≡ description
    by_number None none =
        let is : first ≡ length names = key ∙ ap (λ (found : Option ℕ). unwrap_or found (length names)) none in
        absurd (omega (arith, is, low))
    by_number (Some k) some =
        let is : first ≡ k = key ∙ ap (λ (found : Option ℕ). unwrap_or found (length names)) some in
        named-at names name k (there ∙ ap (λ (j : ℕ). Some j) is) ∙ sym (named-at names description k some)

-- ---- one list of lists more

abbrev pub Keyed : Type 1
Keyed = (key place : ℕ) → Type 0

abbrev no_lists : (count : ℕ) → List (List ℕ)
no_lists count = replicate count []

abbrev no_places : List ℕ
no_places = []

nothing-there : (count key : ℕ) → get_or (no_lists count) key [] ≡ no_places
nothing-there zero key = refl
nothing-there (suc count) zero = refl
nothing-there (suc count) (suc key) = nothing-there count key

pub keys-none : (wanted count : ℕ) (lists : List (List ℕ)) → count ≡ wanted → lists ≡ replicate count [] → AreListsOf wanted (λ key place. ⊥) lists
keys-none wanted count lists is are = record {
  long = ap (λ (ls : List (List ℕ)). length ls) are ∙ length-replicate count [] ∙ is;
  each = λ key place. (
    (λ at. Contains-none place (subst (λ (ps : List ℕ). Contains ps place) (ap (λ (ls : List (List ℕ)). get_or ls key []) are ∙ nothing-there count key) at)),
    (λ no. absurd no),
  );
}

pub adds-none : (P : Keyed) (lists : List (List ℕ)) → ((key place : ℕ) → P key place → ⊥) → Adds P lists lists
adds-none P lists none = record {
  long = refl;
  each = λ key place. ((λ at. inl at), (λ either. ⊎_elim (λ (at : Contains (get_or lists key []) place). at) (λ (p : P key place). absurd (none key place p)) either));
}

pub adds-one : (old new : List (List ℕ)) (i x : ℕ) → i < length old → new ≡ set old i (get_or old i [] ++ x ∷ []) → Adds (λ key at. (at ≡ x) × (key ≡ i)) old new
adds-one old new i x within is = record {
  long = ap (λ (ls : List (List ℕ)). length ls) is ∙ length-set old i (get_or old i [] ++ x ∷ []);
  each = λ key at. (
    (λ there. ⊎_elim
        (λ (before : Contains (get_or old key []) at). inl before)
        (λ (now : Contains (cond (eqb i key) (x ∷ []) []) at). inr (by_key key at (eqb i key) refl now))
        (Contains-append_cases (get_or old key []) (cond (eqb i key) (x ∷ []) []) at (subst (λ (ps : List ℕ). Contains ps at) (list key) there))),
    (λ either. subst (λ (ps : List ℕ). Contains ps at) (sym (list key)) (⊎_elim
        (λ (before : Contains (get_or old key []) at). Contains-append_left (get_or old key []) (cond (eqb i key) (x ∷ []) []) at before)
        (λ (now : (at ≡ x) × (key ≡ i)). Contains-append_right (get_or old key []) (cond (eqb i key) (x ∷ []) []) at (of_key key at now))
        either)),
  );
}
  where
    list : (key : ℕ) → get_or new key [] ≡ get_or old key [] ++ cond (eqb i key) (x ∷ []) []
    list key = ap (λ (ls : List (List ℕ)). get_or ls key []) is ∙ at_longer old i key (x ∷ []) within

    by_key : (key at : ℕ) (b : Bool) → eqb i key ≡ b → Contains (cond b (x ∷ []) []) at → (at ≡ x) × (key ≡ i)
    by_key key at true same there = ⊎_elim (λ (here : x ≡ at). (sym here, sym (eqb-true i key same))) (λ (none : Contains [] at). absurd (Contains-none at none)) (Contains-cases x at [] there)
    by_key key at false other there = absurd (Contains-none at there)

    of_key : (key at : ℕ) → (at ≡ x) × (key ≡ i) → Contains (cond (eqb i key) (x ∷ []) []) at
    of_key key at now =
        subst (λ (b : Bool). Contains (cond b (x ∷ []) []) at) (sym (eq-eqb i key (sym now.1)))
        (subst (λ (y : ℕ). Contains (x ∷ []) y) (sym now.0) (Contains-here x []))

pub adds-both : (P Q R : Keyed) (a b c : List (List ℕ)) → ((key place : ℕ) → P key place ⊎ Q key place → R key place) → ((key place : ℕ) → R key place → P key place ⊎ Q key place)
    → Adds P a b → Adds Q b c → Adds R a c
adds-both P Q R a b c to from p q = record {
  long = q.long ∙ p.long;
  each = λ key place. (
    (λ there. ⊎_elim
        (λ (before : Contains (get_or b key []) place). ⊎_elim
        (λ (first : Contains (get_or a key []) place). inl first)
        (λ (is : P key place). inr (to key place (inl is)))
        ((p.each key place).0 before))
        (λ (is : Q key place). inr (to key place (inr is)))
        ((q.each key place).0 there)),
    (λ either. (q.each key place).1 (⊎_elim
        (λ (first : Contains (get_or a key []) place). inl ((p.each key place).1 (inl first)))
        (λ (is : R key place). ⊎_elim
        (λ (by_p : P key place). inl ((p.each key place).1 (inr by_p)))
        (λ (by_q : Q key place). inr by_q)
        (from key place is))
        either)),
  );
}

pub keys-adds : (count : ℕ) (P Q R : Keyed) (old new : List (List ℕ)) → ((key place : ℕ) → P key place ⊎ Q key place → R key place)
    → ((key place : ℕ) → R key place → P key place ⊎ Q key place) → AreListsOf count P old → Adds Q old new → AreListsOf count R new
keys-adds count P Q R old new to from are adds = record {
  long = adds.long ∙ are.long;
  each = λ key place. (
    (λ there. ⊎_elim
        (λ (before : Contains (get_or old key []) place). to key place (inl ((are.each key place).0 before)))
        (λ (is : Q key place). to key place (inr is))
        ((adds.each key place).0 there)),
    (λ is. (adds.each key place).1 (⊎_elim (λ (p : P key place). inl ((are.each key place).1 p)) (λ (q : Q key place). inr q) (from key place is))),
  );
}

pub keys-same : (count : ℕ) (P Q : Keyed) (lists : List (List ℕ)) → ((key place : ℕ) → P key place → Q key place) → ((key place : ℕ) → Q key place → P key place)
    → AreListsOf count P lists → AreListsOf count Q lists
keys-same count P Q lists to from are = record {
  long = are.long;
  each = λ key place. ((λ at. to key place ((are.each key place).0 at)), (λ q. (are.each key place).1 (from key place q)));
}

-- ---- one description more

abbrev pub Pushed : (names descriptions : List (List ℕ)) → (place : ℕ) → Keyed
Pushed names descriptions place = λ key at. (at ≡ place) × HasKey names descriptions key

pub pushed-none : (names : List (List ℕ)) (place : ℕ) (lists : List (List ℕ)) → Adds (Pushed names [] place) lists lists
pushed-none names place lists = adds-none (Pushed names [] place) lists (λ key at is. Contains-none is.1.0 is.1.1)

pub pushed-more : (names : List (List ℕ)) (place key : ℕ) (xs : List (Bor (List ℕ))) (i : ℕ) (d : Bor (List ℕ)) (old now new : List (List ℕ)) → i < length xs
    → key ≡ key_of names (get_or xs i d).now → length now ≡ length names + 1 → new ≡ set now key (get_or now key [] ++ place ∷ [])
    → Adds (Pushed names (texts (take i xs)) place) old now → Adds (Pushed names (texts (take (i + 1) xs)) place) old new
pushed-more names place key xs i d old now new within is long pushed before =
    let inside = key-within names (get_or xs i d).now in
    let low : key < length now = omega (arith, inside, is, long) in
    adds-both (Pushed names (texts (take i xs)) place) (λ k at. (at ≡ place) × (k ≡ key)) (Pushed names (texts (take (i + 1) xs)) place) old now new to from before
    (adds-one now new key place low pushed)
  where
    last : List ℕ
    last = (get_or xs i d).now

    more : texts (take (i + 1) xs) ≡ texts (take i xs) ++ last ∷ []
    more = texts-more xs i d within

    to : (k at : ℕ) → Pushed names (texts (take i xs)) place k at ⊎ ((at ≡ place) × (k ≡ key)) → Pushed names (texts (take (i + 1) xs)) place k at
    to k at (inl p) = (p.0, (p.1.0, subst (λ (ts : List (List ℕ)). Contains ts p.1.0) (sym more) (Contains-append_left (texts (take i xs)) (last ∷ []) p.1.0 p.1.1), p.1.2))
    to k at (inr q) = (
      q.0,
      (
        last,
        subst (λ (ts : List (List ℕ)). Contains ts last) (sym more) (Contains-append_right (texts (take i xs)) (last ∷ []) last (Contains-here last [])),
        sym is ∙ sym q.1,
      ),
    )

    from : (k at : ℕ) → Pushed names (texts (take (i + 1) xs)) place k at → Pushed names (texts (take i xs)) place k at ⊎ ((at ≡ place) × (k ≡ key))
    from k at r = ⊎_elim
        (λ (before_it : Contains (texts (take i xs)) r.1.0). inl (r.0, (r.1.0, before_it, r.1.2)))
        (λ (it : Contains (last ∷ []) r.1.0). ⊎_elim
        (λ (here : last ≡ r.1.0). inr (r.0, sym r.1.2 ∙ ap (λ (t : List ℕ). key_of names t) (sym here) ∙ sym is))
        (λ (none : Contains [] r.1.0). absurd (Contains-none r.1.0 none))
        (Contains-cases last r.1.0 [] it))
        (Contains-append_cases (texts (take i xs)) (last ∷ []) r.1.0 (subst (λ (ts : List (List ℕ)). Contains ts r.1.0) more r.1.1))

-- ---- one service block more

pub gives-none : (names : List (List ℕ)) (blocks : List Block) (lists : List (List ℕ)) → AreByKey names (λ key place. ⊥) lists → AreByKey names (GivesBelow blocks 0) lists
gives-none names blocks lists are =
    keys-same (length names + 1) (λ key place. ⊥) (GivesBelow blocks 0) lists (λ key place no. absurd no) (λ key place some. let low = some.1 in omega (arith, low)) are

pub gives-more : (blocks : List Block) (i place key : ℕ) (old new : List (List ℕ)) → place_of blocks i ≡ place
    → key ≡ key_of (names_in blocks Service) (description_of blocks i) → new ≡ set old key (get_or old key [] ++ place ∷ [])
    → AreByKey (names_in blocks Service) (GivesBelow blocks i) old → AreByKey (names_in blocks Service) (GivesBelow blocks (i + 1)) new
gives-more blocks i place key old new place_is is pushed before =
    let inside = key-within (names_in blocks Service) (description_of blocks i) in
    let long = before.long in
    let low : key < length old = omega (arith, inside, is, long) in
    keys-adds (length (names_in blocks Service) + 1) (GivesBelow blocks i) (λ k at. (at ≡ place) × (k ≡ key)) (GivesBelow blocks (i + 1)) old new to from before
    (adds-one old new key place low pushed)
  where
    to : (k at : ℕ) → GivesBelow blocks i k at ⊎ ((at ≡ place) × (k ≡ key)) → GivesBelow blocks (i + 1) k at
    to k at (inl p) = (p.0, (let low = p.1 in omega (arith, low)), p.2, p.3)
    to k at (inr q) = (i, omega arith, place_is ∙ sym q.0, sym is ∙ sym q.1)

    from : (k at : ℕ) → GivesBelow blocks (i + 1) k at → GivesBelow blocks i k at ⊎ ((at ≡ place) × (k ≡ key))
    from k at r = ⊎_elim
        (λ (early : r.0 < i). inl (r.0, early, r.2, r.3))
        (λ (late : i ≤ r.0).
        let low = r.1 in
        let same : i ≡ r.0 = omega (arith, late, low) in
        inr (
          sym r.2 ∙ ap (λ (n : ℕ). place_of blocks n) (sym same) ∙ place_is,
          sym r.3 ∙ ap (λ (n : ℕ). key_of (names_in blocks Service) (description_of blocks n)) (sym same) ∙ sym is,
        ))
        (cases_lt r.0 i)

-- ---- one list of descriptions more

abbrev pub NamesSoFar : List Block → Role → (found : List (ℕ × ℕ)) → (i : ℕ) → Keyed
NamesSoFar blocks role found i = NamesFirst blocks role (take i found)

pub names-none : (names : List (List ℕ)) (blocks : List Block) (role : Role) (lists : List (List ℕ)) → AreByKey names (λ key place. ⊥) lists → AreByKey names (NamesFirst blocks role []) lists
names-none names blocks role lists are =
    keys-same (length names + 1) (λ key place. ⊥) (NamesFirst blocks role []) lists (λ key place no. absurd no) (λ key place some. Contains-none (place, place) some.0) are

module _ (found : List (ℕ × ℕ)) (i : ℕ) (within : i < length found) where
  abbrev pair : ℕ × ℕ
  pair = get_or found i (0, 0)

  pairs-more : take (i + 1) found ≡ take i found ++ pair ∷ []
  pairs-more = take_more found i (0, 0) within

  pairs-keep : (x : ℕ × ℕ) → Contains (take i found) x → Contains (take (i + 1) found) x
  pairs-keep x at = subst (λ (ps : List (ℕ × ℕ)). Contains ps x) (sym pairs-more) (Contains-append_left (take i found) (pair ∷ []) x at)

  pairs-last : Contains (take (i + 1) found) pair
  pairs-last = subst (λ (ps : List (ℕ × ℕ)). Contains ps pair) (sym pairs-more) (Contains-append_right (take i found) (pair ∷ []) pair (Contains-here pair []))

  pairs-cases : (x : ℕ × ℕ) → Contains (take (i + 1) found) x → Contains (take i found) x ⊎ (pair ≡ x)
  pairs-cases x at = ⊎_elim
      (λ (before : Contains (take i found) x). inl before)
      (λ (last : Contains (pair ∷ []) x). ⊎_elim (λ (here : pair ≡ x). inr here) (λ (none : Contains [] x). absurd (Contains-none x none)) (Contains-cases pair x [] last))
      (Contains-append_cases (take i found) (pair ∷ []) x (subst (λ (ps : List (ℕ × ℕ)). Contains ps x) pairs-more at))

  -- the places by their lists
  pub places-more : (count : ℕ) (old new : List (List ℕ)) → pair.1 < count → new ≡ set old pair.1 (get_or old pair.1 [] ++ pair.0 ∷ [])
      → AreListsOf count (λ list place. Contains (take i found) (place, list)) old → AreListsOf count (λ list place. Contains (take (i + 1) found) (place, list)) new
  places-more count old new low pushed before =
      let long = before.long in
      keys-adds count (λ list place. Contains (take i found) (place, list)) (λ list place. (place ≡ pair.0) × (list ≡ pair.1)) (λ list place. Contains (take (i + 1) found) (place, list)) old new
      to from before (adds-one old new pair.1 pair.0 (omega (arith, low, long)) pushed)
    where
      to : (list place : ℕ) → Contains (take i found) (place, list) ⊎ ((place ≡ pair.0) × (list ≡ pair.1)) → Contains (take (i + 1) found) (place, list)
      to list place (inl p) = pairs-keep (place, list) p
      to list place (inr q) = subst (λ (p : ℕ). Contains (take (i + 1) found) (p, list)) (sym q.0) (subst (λ (l : ℕ). Contains (take (i + 1) found) (pair.0, l)) (sym q.1) pairs-last)

      from : (list place : ℕ) → Contains (take (i + 1) found) (place, list) → Contains (take i found) (place, list) ⊎ ((place ≡ pair.0) × (list ≡ pair.1))
      from list place r = ⊎_elim
          (λ (early : Contains (take i found) (place, list)). inl early)
          (λ (here : pair ≡ (place, list)). inr (sym (ap (λ (p : ℕ × ℕ). p.0) here), sym (ap (λ (p : ℕ × ℕ). p.1) here)))
          (pairs-cases (place, list) r)

  module _ (blocks : List Block) (role : Role) where
    -- a block whose list of descriptions was met before
    pub names-past : (lists : List (List ℕ)) → (pair.0 ≡ pair.1 → ⊥) → AreByKey (names_in blocks Service) (NamesSoFar blocks role found i) lists
        → AreByKey (names_in blocks Service) (NamesSoFar blocks role found (i + 1)) lists
    names-past lists other are = keys-same (length (names_in blocks Service) + 1) (NamesSoFar blocks role found i) (NamesSoFar blocks role found (i + 1)) lists
        (λ key place some. (pairs-keep (place, place) some.0, some.1))
        (λ key place some. ⊎_elim
        (λ (before : Contains (take i found) (place, place)). (before, some.1))
        (λ (here : pair ≡ (place, place)). absurd (other (ap (λ (p : ℕ × ℕ). p.0) here ∙ sym (ap (λ (p : ℕ × ℕ). p.1) here))))
        (pairs-cases (place, place) some.0))
        are

    pub names-more : (old new : List (List ℕ)) → pair.0 ≡ pair.1 → Adds (Pushed (names_in blocks Service) (descriptions_at blocks role pair.0) pair.0) old new
        → AreByKey (names_in blocks Service) (NamesSoFar blocks role found i) old → AreByKey (names_in blocks Service) (NamesSoFar blocks role found (i + 1)) new
    names-more old new same adds before =
        keys-adds (length (names_in blocks Service) + 1) (NamesSoFar blocks role found i) (Pushed (names_in blocks Service) (descriptions_at blocks role pair.0) pair.0) (NamesSoFar blocks role found (i + 1)) old new
        to from before adds
      where
        alike : pair ≡ (pair.0, pair.0)
        alike = ap (λ (second : ℕ). (pair.0, second)) (sym same)

        to : (k at : ℕ) → NamesSoFar blocks role found i k at ⊎ Pushed (names_in blocks Service) (descriptions_at blocks role pair.0) pair.0 k at → NamesSoFar blocks role found (i + 1) k at
        to k at (inl p) = (pairs-keep (at, at) p.0, p.1)
        to k at (inr q) = (
          subst (λ (p : ℕ). Contains (take (i + 1) found) (p, p)) (sym q.0) (subst (λ (x : ℕ × ℕ). Contains (take (i + 1) found) x) alike pairs-last),
          subst (λ (p : ℕ). NamesKey blocks role k p) (sym q.0) q.1,
        )

        from : (k at : ℕ) → NamesSoFar blocks role found (i + 1) k at → NamesSoFar blocks role found i k at ⊎ Pushed (names_in blocks Service) (descriptions_at blocks role pair.0) pair.0 k at
        from k at r = ⊎_elim
            (λ (early : Contains (take i found) (at, at)). inl (early, r.1))
            (λ (here : pair ≡ (at, at)).
            let is : at ≡ pair.0 = sym (ap (λ (p : ℕ × ℕ). p.0) here) in
            inr (is, subst (λ (p : ℕ). NamesKey blocks role k p) is r.1))
            (pairs-cases (at, at) r.0)

pub places-none : (count many : ℕ) (lists : List (List ℕ)) → many ≡ count → lists ≡ replicate many [] → AreListsOf count (λ list place. Contains {X = ℕ × ℕ} [] (place, list)) lists
places-none count many lists same are =
    keys-same count (λ list place. ⊥) (λ list place. Contains {X = ℕ × ℕ} [] (place, list)) lists (λ list place no. absurd no) (λ list place at. Contains-none (place, list) at) (keys-none count many lists same are)
