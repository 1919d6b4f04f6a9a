-- What blocks list as contacts, and the lists that are kept of it.
use Rattle.std.proofs.Common.{◌≡◌, ℕ, ◌+◌, ◌<◌, ◌≤◌, Bool, true, false, cond, ◌&&◌, List, [], ◌∷◌, ◌++◌, length, get_or, Option, None, Some, refl, sym, ap, subst, ◌∙◌, inl, inr, ⊎_elim, eqb, eqb-true, arith}
use Rattle.std.specs.Prelude.{◌⊎◌, All, IfSome, is_none, slice_get, slice_index_or, unwrap_or}
use Rattle.std.specs.Map.{lookup}
use Rattle.std.proofs.lemmas.Bool.{and_parts, cases_lt, false≢true}
use Rattle.std.proofs.lemmas.List.{get_or_append_left, get_or_past, length-append}
use Rattle.std.proofs.lemmas.Option.{none-some}
use Rattle.std.proofs.Math.Seq.{get_or-append_seam}
use Rattle.due_model.specs.claims.Limits.{max_contacts}
use Rattle.due_model.specs.declared.config.ContactId.{ContactId}
use Rattle.lemmas.proofs.Elements.{Contains-none}
use Rattle.object_groups.specs.claims.Groups.{group_kind, object_kind}
use Rattle.object_groups.specs.Groups.{GroupsOf}
use Rattle.object_groups.specs.claims.Names.{Lists}
use Rattle.object_groups.specs.claims.Objects.{names_in}
use Rattle.object_inheritance.specs.claims.Inherited.{given, list_given}
use Rattle.object_listing.specs.Contacts.{AddsList, AreContactsAt, AreFound, AreOfContacts, Entries, HasList, HasLists, HasListsBelow, IsAsked, IsAskedList, IsListOf, pair_eq, Stay}
use Rattle.object_listing.specs.claims.Listing.{AreThose, contact_directives, Directives, gives_neither, IsListed}
use Rattle.object_listing.specs.Listing.{AreOrigins, ListingOf}
use Rattle.object_listing.proofs.ListedLemmas.{lists-none}
use Rattle.object_reader.specs.declared.block.Block.{Block}
use Rattle.object_reader.specs.declared.block.BlockKind.TheVariants.{Contact}

-- ---- the contacts of one block

pub contacts-are : (listing : ListingOf) (groups : GroupsOf) (place : ℕ) (numbers contacts : List ℕ) → AreOfContacts listing groups → contacts ≡ numbers
    → AreThose (IsListed listing.blocks listing.directives place) numbers → AreThose (IsListed listing.blocks contact_directives place) contacts
contacts-are listing groups place numbers contacts kept same are =
    subst (λ (ns : List ℕ). AreThose (IsListed listing.blocks contact_directives place) ns) (sym same)
    (subst (λ (d : Directives). AreThose (IsListed listing.blocks d place) numbers) kept.directives_are are)

pub contacts-few : (listing : ListingOf) (groups : GroupsOf) (numbers given : List ℕ) → AreOfContacts listing groups → given ≡ numbers
    → All (λ k. k < length (names_in listing.blocks (object_kind listing.directives.kind))) numbers → All (λ k. k < max_contacts) given
contacts-few listing groups numbers given kept same within =
    subst (λ (ns : List ℕ). All (λ k. k < max_contacts) ns) (sym same)
    (λ k d at. let low = low_at k d at in let few = kept.few in omega (arith, low, few))
  where
    low_at : All (λ k. k < length (names_in listing.blocks Contact)) numbers
    low_at = subst (λ (d : Directives). All (λ k. k < length (names_in listing.blocks (object_kind d.kind))) numbers) kept.directives_are within

pub neither-is : (listing : ListingOf) (groups : GroupsOf) (place : ℕ) (neither b : Bool) → AreOfContacts listing groups → neither ≡ gives_neither listing.blocks listing.directives place → neither ≡ b
    → gives_neither listing.blocks contact_directives place ≡ b
neither-is listing groups place neither b kept are is =
    ap (λ (d : Directives). gives_neither listing.blocks d place) (sym kept.directives_are) ∙ sym are ∙ is

pub origins-are : (listing : ListingOf) (groups : GroupsOf) (place : ℕ) (origins : ℕ × ℕ) → AreOfContacts listing groups → AreOrigins listing.blocks listing.directives place origins
    → AreOrigins listing.blocks contact_directives place origins
origins-are listing groups place origins kept of = subst (λ (d : Directives). AreOrigins listing.blocks d place origins) kept.directives_are of

-- ---- blocks that give the same

module _ (blocks : List Block) (listing : Directives) where
  listed-same : (one other k : ℕ) → given blocks listing.objects one ≡ given blocks listing.objects other → given blocks listing.groups one ≡ given blocks listing.groups other
      → IsListed blocks listing one k → IsListed blocks listing other k
  listed-same one other k objects groups (inl named) =
      inl (subst (λ (texts : List (List ℕ)). Lists (names_in blocks (object_kind listing.kind)) (unwrap_or (list_given texts) []) k) objects named)
  listed-same one other k objects groups (inr some) =
      inr (some.0, subst (λ (texts : List (List ℕ)). Lists (names_in blocks (group_kind listing.kind)) (unwrap_or (list_given texts) []) some.0) groups some.1, some.2)

  -- where nothing is given nothing is listed
  none-listed : (place k : ℕ) → given blocks listing.objects place ≡ [] → given blocks listing.groups place ≡ [] → IsListed blocks listing place k → ⊥
  none-listed place k objects groups (inl named) =
      lists-none (names_in blocks (object_kind listing.kind)) k
      (subst (λ (texts : List (List ℕ)). Lists (names_in blocks (object_kind listing.kind)) (unwrap_or (list_given texts) []) k) objects named)
  none-listed place k objects groups (inr some) =
      lists-none (names_in blocks (group_kind listing.kind)) some.0
      (subst (λ (texts : List (List ℕ)). Lists (names_in blocks (group_kind listing.kind)) (unwrap_or (list_given texts) []) some.0) groups some.1)

  those-none : (place : ℕ) → given blocks listing.objects place ≡ [] → given blocks listing.groups place ≡ [] → AreThose (IsListed blocks listing place) []
  those-none place objects groups = record {
    rising = λ k low. absurd (omega (arith, low));
    exactly = λ k. ((λ at. absurd (Contains-none k at)), (λ listed. absurd (none-listed place k objects groups listed)));
  }

module _ (blocks : List Block) where
  -- one list is that of all blocks with the same origins
  contacts-same : (one other : ℕ) (origins : ℕ × ℕ) (contacts : List ContactId) → AreOrigins blocks contact_directives one origins → AreOrigins blocks contact_directives other origins
      → AreContactsAt blocks one contacts → AreContactsAt blocks other contacts
  contacts-same one other origins contacts of_one of_other are =
      let objects = sym of_one.objects ∙ of_other.objects in
      let groups = sym of_one.groups ∙ of_other.groups in
      record {
        rising = are.rising;
        exactly = λ k. (
          (λ at. listed-same blocks contact_directives one other k objects groups ((are.exactly k).0 at)),
          (λ listed. (are.exactly k).1 (listed-same blocks contact_directives other one k (sym objects) (sym groups) listed)),
        );
      }

  -- ---- a block without a list

  none-given : (texts : List (List ℕ)) → is_none (slice_get texts 0) ≡ true → texts ≡ []
  none-given [] none = refl
  none-given (text ∷ texts) none = absurd (false≢true none)

  no-list : (lists : List (List ContactId)) (place : ℕ) → given blocks contact_directives.objects place ≡ [] → given blocks contact_directives.groups place ≡ []
      → HasList blocks lists place None
  no-list lists place objects groups = record {
    within = tt;
    lacks = sym (ap (λ (texts : List (List ℕ)). is_none (slice_get texts 0) && is_none (slice_get (given blocks contact_directives.groups place) 0)) objects
        ∙ ap (λ (texts : List (List ℕ)). is_none (slice_get texts 0)) groups);
    contacts = those-none blocks contact_directives place objects groups;
  }

  neither-list : (lists : List (List ContactId)) (place : ℕ) → gives_neither blocks contact_directives place ≡ true → HasList blocks lists place None
  neither-list lists place neither =
      let both = and_parts (is_none (slice_get (given blocks contact_directives.objects place) 0)) (is_none (slice_get (given blocks contact_directives.groups place) 0)) neither in
      no-list lists place (none-given (given blocks contact_directives.objects place) both.0) (none-given (given blocks contact_directives.groups place) both.1)

  -- ---- one block more

  pub stay-all : (lists : List (List ContactId)) → Stay lists lists
  stay-all lists number low = (low, refl)

  -- no list more
  none-more : (asked : Bool) (lists : List (List ContactId)) (number : Option ℕ) (k : ℕ) → k < length lists → (k < length lists) ⊎ ((asked ≡ true) × (number ≡ Some k))
  none-more asked lists number k low = inl low

  -- a block that isn't asked for
  pub adds-nothing : (place : ℕ) (asked : Bool) (lists : List (List ContactId)) (entries : Entries) → asked ≡ false → AreFound blocks lists entries
      → AddsList blocks place asked lists lists entries None
  adds-nothing place asked lists entries other found = record {
    found = found;
    stay = stay-all lists;
    more = none-more asked lists None;
    list = λ is. absurd (false≢true (sym other ∙ is));
  }

  -- one that gives neither directive
  pub adds-none : (place : ℕ) (asked : Bool) (lists : List (List ContactId)) (entries : Entries) → gives_neither blocks contact_directives place ≡ true → AreFound blocks lists entries
      → AddsList blocks place asked lists lists entries None
  adds-none place asked lists entries neither found = record { found = found; stay = stay-all lists; more = none-more asked lists None; list = λ is. neither-list lists place neither }

  -- a list that was found before
  pub adds-found : (place : ℕ) (asked : Bool) (origins : ℕ × ℕ) (lists : List (List ContactId)) (entries : Entries) (number : ℕ) → gives_neither blocks contact_directives place ≡ false
      → AreOrigins blocks contact_directives place origins → lookup (pair_eq origins) entries ≡ Some number → AreFound blocks lists entries → AddsList blocks place asked lists lists entries (Some number)
  adds-found place asked origins lists entries number gives of is found =
      let list = subst (λ (kept : Option ℕ). IfSome kept (IsListOf blocks lists origins)) is (found origins) in
      record {
        found = found;
        stay = stay-all lists;
        more = none-more asked lists (Some number);
        list = λ set. record { within = list.within; lacks = sym gives; contacts = list.each place of };
      }

  module _ (place : ℕ) (origins : ℕ × ℕ) (old : List (List ContactId)) (contacts : List ContactId) (new : List (List ContactId)) (of : AreOrigins blocks contact_directives place origins)
      (are : AreContactsAt blocks place contacts) (is : new ≡ old ++ contacts ∷ []) where
    longer : length new ≡ length old + 1
    longer = ap (λ (lists : List (List ContactId)). length lists) is ∙ length-append old (contacts ∷ [])

    stay-more : Stay old new
    stay-more number low = (
      (let long = longer in omega (arith, long, low)),
      ap (λ (lists : List (List ContactId)). get_or lists number []) is ∙ get_or_append_left old (contacts ∷ []) [] number low,
    )

    last : get_or new (length old) [] ≡ contacts
    last = ap (λ (lists : List (List ContactId)). get_or lists (length old) []) is ∙ get_or-append_seam old contacts [] []

    list-last : IsListOf blocks new origins (length old)
    list-last = record {
      within = (let long = longer in omega (arith, long));
      each = λ other other_of. subst (λ (cs : List ContactId). AreContactsAt blocks other cs) (sym last) (contacts-same place other origins contacts of other_of are);
    }

    list-stays : (other : ℕ × ℕ) (number : ℕ) → IsListOf blocks old other number → IsListOf blocks new other number
    list-stays other number list =
        let kept = stay-more number list.within in
        record {
          within = kept.0;
          each = λ at at_of. subst (λ (cs : List ContactId). AreContactsAt blocks at cs) (sym kept.1) (list.each at at_of);
        }

    -- a new list
    pub adds-new : (asked : Bool) (entries more : Entries) (number : ℕ) → asked ≡ true → gives_neither blocks contact_directives place ≡ false → number ≡ length old
        → ((other : ℕ × ℕ) → lookup (pair_eq other) more ≡ cond (pair_eq origins other) (Some number) (lookup (pair_eq other) entries))
        → AreFound blocks old entries → AddsList blocks place asked old new more (Some number)
    adds-new asked entries more number set gives number_is updates found = record {
      found = λ other. subst (λ (kept : Option ℕ). IfSome kept (IsListOf blocks new other)) (sym (updates other)) (by_key other (pair_eq origins other) refl);
      stay = stay-more;
      more = λ k low. ⊎_elim
          (λ (earlier : k < length old). inl earlier)
          (λ (past : length old ≤ k).
          let same : number ≡ k = let long = longer in omega (arith, long, low, past, number_is) in
          inr (set, ap (λ (n : ℕ). Some n) same))
          (cases_lt k (length old));
      list = λ is. record {
        within = of_origins.within;
        lacks = sym gives;
        contacts = of_origins.each place of;
      };
    }
      where
        of_origins : IsListOf blocks new origins number
        of_origins = subst (λ (n : ℕ). IsListOf blocks new origins n) (sym number_is) list-last

        stays : (other : ℕ × ℕ) (kept : Option ℕ) → IfSome kept (IsListOf blocks old other) → IfSome kept (IsListOf blocks new other)
        stays other None list = tt
        stays other (Some k) list = list-stays other k list

        by_key : (other : ℕ × ℕ) (b : Bool) → pair_eq origins other ≡ b → IfSome (cond b (Some number) (lookup (pair_eq other) entries)) (IsListOf blocks new other)
        by_key other true same =
            let both = and_parts (eqb origins.0 other.0) (eqb origins.1 other.1) same in
            subst (λ (second : ℕ). IsListOf blocks new (other.0, second) number) (eqb-true origins.1 other.1 both.1)
            (subst (λ (first : ℕ). IsListOf blocks new (first, origins.1) number) (eqb-true origins.0 other.0 both.0) of_origins)
        by_key other false differs = stays other (lookup (pair_eq other) entries) (found other)

  -- ---- all blocks

  module _ (asked : List Bool) where
    pub no-lists : HasListsBelow blocks asked 0 [] []
    no-lists = record { long = refl; each = λ at low is. absurd (omega (arith, low)); only = λ number low. absurd (omega (arith, low)) }

    list-kept : (old new : List (List ContactId)) (place : ℕ) (number : Option ℕ) → Stay old new → HasList blocks old place number → HasList blocks new place number
    list-kept old new place None stay list = record { within = tt; lacks = list.lacks; contacts = list.contacts }
    list-kept old new place (Some number) stay list =
        let kept = stay number list.within in
        record {
          within = kept.0;
          lacks = list.lacks;
          contacts = subst (λ (cs : List ContactId). AreContactsAt blocks place cs) (sym kept.1) list.contacts;
        }

    number-kept : (numbers more : List (Option ℕ)) (number : Option ℕ) (at k : ℕ) → more ≡ numbers ++ number ∷ [] → slice_index_or numbers at None ≡ Some k → slice_index_or more at None ≡ Some k
    number-kept numbers more number at k is here = ⊎_elim
        (λ (low : at < length numbers). ap (λ (ns : List (Option ℕ)). get_or ns at None) is ∙ get_or_append_left numbers (number ∷ []) None at low ∙ here)
        (λ (past : length numbers ≤ at). absurd (none-some k (sym (get_or_past numbers at None past) ∙ here)))
        (cases_lt at (length numbers))

    number-last : (numbers more : List (Option ℕ)) (number : Option ℕ) (at : ℕ) → more ≡ numbers ++ number ∷ [] → at ≡ length numbers → slice_index_or more at None ≡ number
    number-last numbers more number at is here =
        ap (λ (ns : List (Option ℕ)). get_or ns at None) is ∙ ap (λ (k : ℕ). get_or (numbers ++ number ∷ []) k None) here ∙ get_or-append_seam numbers number [] None

    pub lists-more : (place : ℕ) (flag : Bool) (old new : List (List ContactId)) (entries : Entries) (numbers more : List (Option ℕ)) (number : Option ℕ)
        → flag ≡ slice_index_or asked place false → HasListsBelow blocks asked place old numbers → AddsList blocks place flag old new entries number
        → more ≡ numbers ++ number ∷ [] → HasListsBelow blocks asked (place + 1) new more
    lists-more place flag old new entries numbers more number flag_is before adds is = record {
      long = (let long = before.long in let length_is = ap (λ (ns : List (Option ℕ)). length ns) is ∙ length-append numbers (number ∷ []) in omega (arith, long, length_is));
      each = λ at low set. ⊎_elim
          (λ (earlier : at < place). subst (λ (n : Option ℕ). HasList blocks new at n)
          (sym (ap (λ (ns : List (Option ℕ)). get_or ns at None) is ∙ get_or_append_left numbers (number ∷ []) None at (let long = before.long in omega (arith, long, earlier))))
          (list-kept old new at (get_or numbers at None) adds.stay (before.each at earlier set)))
          (λ (past : place ≤ at).
          let here : at ≡ length numbers = let long = before.long in omega (arith, low, past, long) in
          let same : place ≡ at = omega (arith, low, past) in
          subst (λ (n : Option ℕ). HasList blocks new at n) (sym (number-last numbers more number at is here))
          (subst (λ (p : ℕ). HasList blocks new p number) same (adds.list (flag_is ∙ subst (λ (p : ℕ). IsAsked asked p) (sym same) set))))
          (cases_lt at place);
      only = λ k low. ⊎_elim earlier_list last_list (adds.more k low);
    }
      where
        earlier_list : {k : ℕ} → k < length old → IsAskedList asked more k
        earlier_list {k} low =
            let list = before.only k low in
            (list.0, list.1, number-kept numbers more number list.0 k is list.2)

        last_list : {k : ℕ} → (flag ≡ true) × (number ≡ Some k) → IsAskedList asked more k
        last_list {k} both =
            (place, sym flag_is ∙ both.0, number-last numbers more number place is (sym before.long) ∙ both.1)

    pub lists-all : (place : ℕ) (lists : List (List ContactId)) (numbers : List (Option ℕ)) → place ≡ length asked → HasListsBelow blocks asked place lists numbers
        → HasLists blocks asked lists numbers
    lists-all place lists numbers end before = record { each = each_list; only = before.only }
      where
        each_list : (at : ℕ) → IsAsked asked at → HasList blocks lists at (slice_index_or numbers at None)
        each_list at set = ⊎_elim
            (λ (low : at < place). before.each at low set)
            (λ (past : place ≤ at). absurd (false≢true (sym (get_or_past asked at false (omega (arith, end, past))) ∙ set)))
            (cases_lt at place)
