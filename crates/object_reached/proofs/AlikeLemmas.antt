-- Blocks that have the same lists.
use Rattle.std.proofs.Common.{◌≡◌, ℕ, Bor, Bool, true, false, cond, List, [], ◌∷◌, ◌++◌, Option, Some, None, is_some, refl, sym, ap, subst, eqb, eqb-true, ◌∙◌}
use Rattle.std.specs.Prelude.{IfSome, slice_get, unwrap_or}
use Rattle.std.specs.Map.{lookup}
use Rattle.std.proofs.lemmas.Bool.{false≢true}
use Rattle.std.proofs.lemmas.Slice.Eq.{bytes_eq-Decides}
use Rattle.object_groups.specs.Names.{name_eq}
use Rattle.object_groups.specs.claims.Objects.{list_at}
use Rattle.object_inheritance.specs.claims.Inherited.{given, is_additive, joined_entries, list_given, own_entries, value}
use Rattle.object_inheritance.specs.Inherited.{beside}
use Rattle.object_inheritance.specs.Columns.{Column, given_from}
use Rattle.object_listing.specs.Listing.{ListingOf}
use Rattle.object_reached.specs.Alike.{AreAlike, HaveLists}
use Rattle.object_reached.specs.claims.Listed.{of_hosts}
use Rattle.object_reached.specs.Listed.{ServiceListingOf}
use Rattle.object_reader.specs.declared.block.Block.{Block}

-- ---- one list

alone : (texts : List (List ℕ)) (text : List ℕ) → [] ≡ beside texts → slice_get texts 0 ≡ Some text → unwrap_or (list_given texts) [] ≡ own_entries text
alone [] text none is = cc
alone (first ∷ texts) text none is = by_kind (is_additive first) refl ∙ ap (λ (found : Option (List ℕ)). own_entries (unwrap_or found [])) is
  where
    by_kind : (additive : Bool) → is_additive first ≡ additive → unwrap_or (list_given (first ∷ texts)) [] ≡ own_entries first
    by_kind true is_so =
        ap (λ (c : Bool). cond c (joined_entries texts) [] ++ own_entries first) is_so
        ∙ ap (λ (ts : List (List ℕ)). joined_entries ts ++ own_entries first) (sym (none ∙ ap (λ (c : Bool). cond c texts []) is_so))
    by_kind false is_so = ap (λ (c : Bool). cond c (joined_entries texts) [] ++ own_entries first) is_so

module _ (blocks : List Block) (directive : List ℕ) where
  -- a list that isn't added to another is its text's
  pub text-alone : (place : ℕ) (text : List ℕ) → [] ≡ beside (given blocks directive place) → value blocks directive place ≡ Some text → list_at blocks directive place ≡ own_entries text
  text-alone place text none is = alone (given blocks directive place) text none is

  pub none-beside : (place : ℕ) (other : Option ℕ) → is_some other ≡ false → given_from blocks directive other ≡ beside (given blocks directive place) → [] ≡ beside (given blocks directive place)
  none-beside place None none is = is
  none-beside place (Some other) none is = absurd (false≢true (sym none))

  pub given-same : (one other : ℕ) → given blocks directive one ≡ given blocks directive other → list_at blocks directive one ≡ list_at blocks directive other
  given-same one other same = ap (λ (texts : List (List ℕ)). unwrap_or (list_given texts) []) same

  pub alike-place : (by_place more : List (ℕ × ℕ)) (by_text : List (Bor (List ℕ) × ℕ)) (origin other : ℕ) → AreAlike blocks directive by_place by_text
      → list_at blocks directive other ≡ list_at blocks directive origin
      → ((k : ℕ) → lookup (eqb k) more ≡ cond (eqb origin k) (Some other) (lookup (eqb k) by_place)) → AreAlike blocks directive more by_text
  alike-place by_place more by_text origin other are same updates = record {
    places = λ k. subst (λ (found : Option ℕ). IfSome found (λ one. list_at blocks directive one ≡ list_at blocks directive k)) (sym (updates k)) (by_key k (eqb origin k) refl);
    texts = are.texts;
  }
    where
      by_key : (k : ℕ) (b : Bool) → eqb origin k ≡ b → IfSome (cond b (Some other) (lookup (eqb k) by_place)) (λ one. list_at blocks directive one ≡ list_at blocks directive k)
      by_key k true is = same ∙ ap (list_at blocks directive) (eqb-true origin k is)
      by_key k false is = are.places k

  pub alike-text : (by_place : List (ℕ × ℕ)) (by_text more : List (Bor (List ℕ) × ℕ)) (text : Bor (List ℕ)) (place : ℕ) → AreAlike blocks directive by_place by_text
      → list_at blocks directive place ≡ own_entries text.now
      → ((t : Bor (List ℕ)) → lookup (name_eq t) more ≡ cond (name_eq text t) (Some place) (lookup (name_eq t) by_text)) → AreAlike blocks directive by_place more
  alike-text by_place by_text more text place are same updates = record {
    places = are.places;
    texts = λ t. subst (λ (found : Option ℕ). IfSome found (λ one. list_at blocks directive one ≡ own_entries t.now)) (sym (updates t)) (by_key t (name_eq text t) refl);
  }
    where
      by_key : (t : Bor (List ℕ)) (b : Bool) → name_eq text t ≡ b → IfSome (cond b (Some place) (lookup (name_eq t) by_text)) (λ one. list_at blocks directive one ≡ own_entries t.now)
      by_key t true is = same ∙ ap own_entries ((bytes_eq-Decides text.now t.now).0 is)
      by_key t false is = are.texts t

  -- what was found
  pub found-place : (by_place : List (ℕ × ℕ)) (by_text : List (Bor (List ℕ) × ℕ)) (origin other : ℕ) → AreAlike blocks directive by_place by_text → lookup (eqb origin) by_place ≡ Some other
      → list_at blocks directive other ≡ list_at blocks directive origin
  found-place by_place by_text origin other are is = subst (λ (found : Option ℕ). IfSome found (λ one. list_at blocks directive one ≡ list_at blocks directive origin)) is (are.places origin)

  pub found-text : (by_place : List (ℕ × ℕ)) (by_text : List (Bor (List ℕ) × ℕ)) (text : Bor (List ℕ)) (other : ℕ) → AreAlike blocks directive by_place by_text → lookup (name_eq text) by_text ≡ Some other
      → list_at blocks directive other ≡ own_entries text.now
  found-text by_place by_text text other are is = subst (λ (found : Option ℕ). IfSome found (λ one. list_at blocks directive one ≡ own_entries text.now)) is (are.texts text)

  pub none-alike : (by_place : List (ℕ × ℕ)) (by_text : List (Bor (List ℕ) × ℕ)) → by_place ≡ [] → by_text ≡ [] → AreAlike blocks directive by_place by_text
  none-alike by_place by_text no_places no_texts = record {
    places = λ k. subst (λ (entries : List (ℕ × ℕ)). IfSome (lookup (eqb k) entries) (λ one. list_at blocks directive one ≡ list_at blocks directive k)) (sym no_places) tt;
    texts = λ t. subst (λ (entries : List (Bor (List ℕ) × ℕ)). IfSome (lookup (name_eq t) entries) (λ one. list_at blocks directive one ≡ own_entries t.now)) (sym no_texts) tt;
  }

-- ---- the three

-- the lists of three columns
pub lists-are : (v : ServiceListingOf) (hosts : ListingOf) (one two three : Column) (place first second third : ℕ)
    → hosts ≡ record { blocks = v.blocks; directives = of_hosts v.directives }
    → one ≡ record { blocks = hosts.blocks; directive = hosts.directives.objects } → two ≡ record { blocks = hosts.blocks; directive = hosts.directives.groups }
    → three ≡ record { blocks = v.blocks; directive = v.directives.descriptions }
    → list_at one.blocks one.directive first ≡ list_at one.blocks one.directive place → list_at two.blocks two.directive second ≡ list_at two.blocks two.directive place
    → list_at three.blocks three.directive third ≡ list_at three.blocks three.directive place
    → HaveLists v.blocks v.directives place ((first, second), third)
lists-are v hosts one two three place first second third hosts_are one_is two_is three_is one_same two_same three_same =
    let first_is : one ≡ record { blocks = v.blocks; directive = v.directives.hosts } =
    one_is ∙ ap (λ (l : ListingOf). record { blocks = l.blocks; directive = l.directives.objects }) hosts_are in
    let second_is : two ≡ record { blocks = v.blocks; directive = v.directives.host_groups } =
    two_is ∙ ap (λ (l : ListingOf). record { blocks = l.blocks; directive = l.directives.groups }) hosts_are in
    let third_is : three ≡ record { blocks = v.blocks; directive = v.directives.descriptions } = three_is in
    record {
      hosts = subst (λ (c : Column). list_at c.blocks c.directive first ≡ list_at c.blocks c.directive place) first_is one_same;
      groups = subst (λ (c : Column). list_at c.blocks c.directive second ≡ list_at c.blocks c.directive place) second_is two_same;
      descriptions = subst (λ (c : Column). list_at c.blocks c.directive third ≡ list_at c.blocks c.directive place) third_is three_same;
    }
