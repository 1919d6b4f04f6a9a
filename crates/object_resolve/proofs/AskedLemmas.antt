-- The blocks of which the contacts are asked for: the flags so far, and that those are set which are needed.
use Rattle.std.proofs.Common.{◌≡◌, ℕ, zero, suc, ◌+◌, ◌<◌, ◌≤◌, Bool, true, false, cond, ◌&&◌, ◌||◌, List, [], ◌∷◌, ◌++◌, eqb, filter, length, get_or, Some, refl, sym, ap, subst, ◌∙◌, ⊎_elim, arith}
use Rattle.std.specs.Prelude.{slice_get, slice_index_or}
use Rattle.std.specs.List.{range_with_len}
use Rattle.std.proofs.lemmas.Bool.{and_from, cases_lt, ne_eqb, not_from_false, or_left, or_right}
use Rattle.std.proofs.lemmas.List.{get_or_append_left, get_or_past, length-append}
use Rattle.std.proofs.lemmas.List.Elements.{Contains-get_or}
use Rattle.std.proofs.lemmas.List.FromFn.{get_or-map-range_with_len, map-range_with_len_more}
use Rattle.std.proofs.lemmas.List.Sums.{count_by-le-length, length-filter}
use Rattle.std.proofs.lemmas.List.FromFn.{length-range_with_len}
use Rattle.std.proofs.lemmas.Slice.Zip.{AllZip-long}
use Rattle.std.proofs.Math.Seq.{get_or-append_seam}
use Rattle.lemmas.proofs.Elements.{Contains-from_filter, Contains-from_range}
use Rattle.lemmas.proofs.Lists.{filter_range_more}
use Rattle.object_escalations.specs.Entries.{AskForAll}
use Rattle.object_escalations.specs.claims.Escalated.{AreEscalated}
use Rattle.object_groups.specs.claims.Objects.{is_object, is_object_at, objects_in}
use Rattle.object_groups.specs.ObjectLaws.{object-at}
use Rattle.object_reader.specs.declared.block.Block.{Block}
use Rattle.object_reader.specs.declared.block.BlockKind.{BlockKind}
use Rattle.object_reader.specs.declared.block.BlockKind.TheVariants.{Host, Service}
use Rattle.object_resolve.specs.Asked.{are_any, asked_below, gives_any, gives_any_at, service_number}
use Rattle.object_resolve.proofs.EntryLemmas.{spoken-long}
use Rattle.object_services.specs.claims.Hosts.{AreHosts}
use Rattle.object_services.specs.claims.Limits.{AreHostLists}
use Rattle.object_settings.specs.Settings.{AskForHosts, AskForServices}

-- ---- numbers below a bound that pass a test

one-more : (xs : List ℕ) (place : ℕ) (b : Bool) → length (xs ++ cond b (place ∷ []) []) ≡ length xs + cond b 1 0
one-more xs place true = length-append xs (place ∷ [])
one-more xs place false = length-append xs []

at-most-one : (b : Bool) → cond b 1 0 ≤ 1
at-most-one true = omega arith
at-most-one false = omega arith

-- one stands in the list at as many as are below it
below-it : (p : ℕ → Bool) (n i d : ℕ) → i < length (filter p (range_with_len 0 n)) → length (filter p (range_with_len 0 (get_or (filter p (range_with_len 0 n)) i d))) ≡ i
below-it p zero i d low = absurd (omega (arith, low))
below-it p (suc n) i d low = ⊎_elim
    (λ (earlier : i < length (filter p (range_with_len 0 n))).
    ap (λ (k : ℕ). length (filter p (range_with_len 0 k)))
    (ap (λ (xs : List ℕ). get_or xs i d) more ∙ get_or_append_left (filter p (range_with_len 0 n)) (cond (p n) (n ∷ []) []) d i earlier)
    ∙ below-it p n i d earlier)
    (λ (past : length (filter p (range_with_len 0 n)) ≤ i). last past (p n) refl)
    (cases_lt i (length (filter p (range_with_len 0 n))))
  where
    more : filter p (range_with_len 0 (suc n)) ≡ filter p (range_with_len 0 n) ++ cond (p n) (n ∷ []) []
    more = let one : suc n ≡ n + 1 = omega arith in ap (λ (m : ℕ). filter p (range_with_len 0 m)) one ∙ filter_range_more p n

    long : length (filter p (range_with_len 0 (suc n))) ≡ length (filter p (range_with_len 0 n)) + cond (p n) 1 0
    long = ap (λ (xs : List ℕ). length xs) more ∙ one-more (filter p (range_with_len 0 n)) n (p n)

    last : length (filter p (range_with_len 0 n)) ≤ i → (b : Bool) → p n ≡ b → length (filter p (range_with_len 0 (get_or (filter p (range_with_len 0 (suc n))) i d))) ≡ i
    last past true is =
        let count = long ∙ ap (λ (b : Bool). length (filter p (range_with_len 0 n)) + cond b 1 0) is in
        let here : i ≡ length (filter p (range_with_len 0 n)) = omega (arith, low, past, count) in
        ap (λ (k : ℕ). length (filter p (range_with_len 0 k)))
        (ap (λ (xs : List ℕ). get_or xs i d) (more ∙ ap (λ (b : Bool). filter p (range_with_len 0 n) ++ cond b (n ∷ []) []) is)
        ∙ ap (λ (k : ℕ). get_or (filter p (range_with_len 0 n) ++ n ∷ []) k d) here ∙ get_or-append_seam (filter p (range_with_len 0 n)) n [] d)
        ∙ sym here
    last past false is =
        let count = long ∙ ap (λ (b : Bool). length (filter p (range_with_len 0 n)) + cond b 1 0) is in
        absurd (omega (arith, low, past, count))

-- ---- lists of numbers

any-from : (numbers : List ℕ) → 0 < length numbers → are_any numbers ≡ true
any-from numbers some = not_from_false (eqb (length numbers) 0) (ne_eqb (length numbers) 0 (λ none. absurd (omega (arith, some, none))))

-- a list that has any is one of the lists
among : (lists : List (List ℕ)) (i : ℕ) → 0 < length (slice_index_or lists i []) → i < length lists
among lists i some = ⊎_elim
    (λ (low : i < length lists). low)
    (λ (past : length lists ≤ i). let none = ap (λ (list : List ℕ). length list) (get_or_past lists i [] past) in absurd (omega (arith, some, none)))
    (cases_lt i (length lists))

module _ (blocks : List Block) where
  -- ---- the number of a service block

  number-more : (place : ℕ) (b : Bool) → is_object_at blocks Service place ≡ b → service_number blocks (place + 1) ≡ service_number blocks place + cond b 1 0
  number-more place b is =
      ap (λ (xs : List ℕ). length xs) (filter_range_more (is_object_at blocks Service) place)
      ∙ one-more (filter (is_object_at blocks Service) (range_with_len 0 place)) place (is_object_at blocks Service place)
      ∙ ap (λ (c : Bool). service_number blocks place + cond c 1 0) is

  number-low : (place : ℕ) → service_number blocks place ≤ place
  number-low place =
      let count = length-filter (is_object_at blocks Service) (range_with_len 0 place) in
      let few = count_by-le-length (is_object_at blocks Service) (range_with_len 0 place) in
      let long = length-range_with_len 0 place in
      omega (arith, count, few, long)

  module _ (hosts spoken : List (List ℕ)) where
    -- ---- the flags, one block more

    pub flags-more : (place number : ℕ) (block : Block) (host service flag : Bool) (list objects : List ℕ) (old new : List Bool) → slice_get blocks place ≡ Some block → host ≡ is_object Host block
        → service ≡ is_object Service block → list ≡ slice_index_or hosts number [] → objects ≡ slice_index_or spoken place [] → flag ≡ gives_any host service list objects
        → number ≡ service_number blocks place → old ≡ asked_below blocks hosts spoken place → new ≡ old ++ flag ∷ [] → new ≡ asked_below blocks hosts spoken (place + 1)
    flags-more place number block host service flag list objects old new here host_is service_is list_is objects_are flag_is number_is before is =
        let zero_more : 0 + place ≡ place = omega arith in
        is ∙ ap (λ (flags : List Bool). flags ++ flag ∷ []) before
        ∙ ap (λ (f : Bool). asked_below blocks hosts spoken place ++ f ∷ []) same
        ∙ sym (map-range_with_len_more (gives_any_at blocks hosts spoken) 0 place place zero_more)
      where
        same : flag ≡ gives_any_at blocks hosts spoken place
        same =
            flag_is ∙ ap (λ (h : Bool). gives_any h service list objects) (sym (object-at blocks Host place block host here host_is))
            ∙ ap (λ (s : Bool). gives_any (is_object_at blocks Host place) s list objects) (sym (object-at blocks Service place block service here service_is))
            ∙ ap (λ (ls : List ℕ). gives_any (is_object_at blocks Host place) (is_object_at blocks Service place) ls objects)
            (list_is ∙ ap (λ (n : ℕ). slice_index_or hosts n []) number_is)
            ∙ ap (λ (os : List ℕ). gives_any (is_object_at blocks Host place) (is_object_at blocks Service place) (slice_index_or hosts (service_number blocks place) []) os) objects_are

    pub service-fits : (place number one total : ℕ) (service : Bool) → one ≡ cond service 1 0 → number ≡ service_number blocks place → place < total → number + one ≤ total
    service-fits place number one total service one_is number_is within =
        let low = number-low place in
        let few = at-most-one service in
        omega (arith, low, few, one_is, number_is, within)

    pub services-more : (place number more one : ℕ) (block : Block) (service : Bool) → slice_get blocks place ≡ Some block → service ≡ is_object Service block → one ≡ cond service 1 0
        → more ≡ number + one → number ≡ service_number blocks place → more ≡ service_number blocks (place + 1)
    services-more place number more one block service here service_is one_is more_is number_is =
        let next = number-more place service (object-at blocks Service place block service here service_is) in
        more_is ∙ ap (λ (n : ℕ). n + one) number_is ∙ ap (λ (n : ℕ). service_number blocks place + n) one_is ∙ sym next

    -- ---- those that are set

    abbrev pub asked : List Bool
    asked = asked_below blocks hosts spoken (length blocks)

    flag-at : (place : ℕ) → place < length blocks → slice_index_or asked place false ≡ gives_any_at blocks hosts spoken place
    flag-at place within =
        let zero_more : 0 + place ≡ place = omega arith in
        get_or-map-range_with_len (gives_any_at blocks hosts spoken) 0 (length blocks) place place false within zero_more

    object-there : (kind : BlockKind) (number d : ℕ) → number < length (objects_in blocks kind)
        → (get_or (objects_in blocks kind) number d < length blocks) × (is_object_at blocks kind (get_or (objects_in blocks kind) number d) ≡ true)
    unfolding objects_in
    object-there kind number d within =
        let at = Contains-from_filter (is_object_at blocks kind) (range_with_len 0 (length blocks)) (get_or (objects_in blocks kind) number d)
        (Contains-get_or (objects_in blocks kind) number d within) in
        (Contains-from_range (length blocks) (get_or (objects_in blocks kind) number d) at.0, at.1)

    number-there : (number d : ℕ) → number < length (objects_in blocks Service) → service_number blocks (get_or (objects_in blocks Service) number d) ≡ number
    unfolding objects_in
    number-there number d within = below-it (is_object_at blocks Service) (length blocks) number d within

    -- the parts of a flag
    module _ (place : ℕ) where
      abbrev host : Bool
      host = is_object_at blocks Host place

      abbrev service : Bool
      service = is_object_at blocks Service place

      abbrev list : List ℕ
      list = slice_index_or hosts (service_number blocks place) []

      abbrev objects : List ℕ
      objects = slice_index_or spoken place []

      by-host : host ≡ true → gives_any_at blocks hosts spoken place ≡ true
      by-host is = or_left (host || service && are_any list) (are_any objects) (or_left host (service && are_any list) is)

      by-service : service ≡ true → 0 < length list → gives_any_at blocks hosts spoken place ≡ true
      by-service is some =
          or_left (host || service && are_any list) (are_any objects) (or_right host (service && are_any list) (and_from service (are_any list) is (any-from list some)))

      by-objects : 0 < length objects → gives_any_at blocks hosts spoken place ≡ true
      by-objects some = or_right (host || service && are_any list) (are_any objects) (any-from objects some)

    pub hosts-asked : AskForHosts blocks asked
    hosts-asked number d within =
        let there = object-there Host number d within in
        flag-at (get_or (objects_in blocks Host) number d) there.0 ∙ by-host (get_or (objects_in blocks Host) number d) there.1

    pub services-asked : AreHostLists blocks (objects_in blocks Service) hosts → AskForServices blocks hosts asked
    services-asked are number some =
        let long = AllZip-long (AreHosts blocks) (objects_in blocks Service) hosts are in
        let low = among hosts number some in
        let within : number < length (objects_in blocks Service) = omega (arith, long, low) in
        let place = get_or (objects_in blocks Service) number 0 in
        let there = object-there Service number 0 within in
        flag-at place there.0
        ∙ by-service place there.1 (subst (λ (n : ℕ). 0 < length (slice_index_or hosts n [])) (sym (number-there number 0 within)) some)

    pub escalations-asked : AreEscalated blocks hosts (length blocks) spoken → AskForAll spoken asked
    escalations-asked are place some =
        let long = spoken-long blocks hosts spoken are in
        let low = among spoken place some in
        let within : place < length blocks = omega (arith, long, low) in
        flag-at place within ∙ by-objects place some
