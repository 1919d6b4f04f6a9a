use Rattle.std.proofs.Common.{◌+◌, ◌∙◌, [], ◌∷◌, ◌++◌, List, eqb, refl, subst, sym, ℕ}
use Rattle.std.proofs.lemmas.Bool.{false≢true}
use Rattle.std.proofs.lemmas.List.Elements.{Contains-append_left, Contains-append_right}
use Rattle.std.specs.Map.{lookup}
use Rattle.std.specs.Prelude.{Contains, IfSome}
use Rattle.lemmas.proofs.Elements.{Contains-here}
use Rattle.object_reached.specs.Alike.{AreListsAlike, HaveLists, places_eq}
use Rattle.object_reached.specs.Listed.{ServiceListingOf}
use Rattle.object_reached.specs.claims.Roles.{directives_of}
use Rattle.object_unknown_services.specs.Distinct.{AreDistinct, IsDistinct}
use Rattle.object_unknown_services.proofs.DistinctLemmas.{ByDescriptions, ByLists, descriptions-more, descriptions-stay, distinct-more, distinct-past, distinct-same, found-at, is-earlier, is-own, lists-more}
use Rattle.object_unknown_services.proofs.distinct.note.Goals as goal

pub lists_like-requires : goal.lists_like-requires
lists_like-requires c = subst (λ (v : ServiceListingOf). AreListsAlike v c.args.met.now.alikes) (sym c.listing.ensures) c.requires.met.alike

pub returns-then-not-speaks_at : goal.returns-then-not-speaks_at
returns-then-not-speaks_at c = record {
  alike = c.requires.met.alike;
  distinct = distinct-past c.args.naming.now.blocks c.args.naming.now.role c.args.place c.args.met.now.found.items c.requires.met.distinct
      (λ namer. false≢true (sym c.if-not-speaks_at.true ∙ c.speaks_at.ensures ∙ namer));
  by_lists = c.requires.met.by_lists;
  by_descriptions = c.requires.met.by_descriptions;
}

pub returns-in-Some : goal.returns-in-Some
returns-in-Some c =
    let blocks = c.args.naming.now.blocks in
    let role = c.args.naming.now.role in
    let found = c.args.met.now.found.items in
    let others = c.in_ok-lists.lists in
    let of : HaveLists blocks (directives_of role) c.args.place others =
    subst (λ (v : ServiceListingOf). HaveLists v.blocks v.directives c.args.place others) c.listing.ensures c.in_ok-lists.ensures.lists in
    record {
      alike = subst (λ (v : ServiceListingOf). AreListsAlike v c.lists_like.new.alikes) c.listing.ensures c.in_ok-lists.ensures.alike;
      distinct = distinct-same blocks role c.args.place found c.requires.met.distinct others _
          (found-at (ByLists blocks role found others) _ _ (c.requires.met.by_lists others) (sym c.in-Some.ensures.value)) of;
      by_lists = c.requires.met.by_lists;
      by_descriptions = c.requires.met.by_descriptions;
    }

pub returns-in-Some-get : goal.returns-in-Some-get
returns-in-Some-get c =
    let blocks = c.args.naming.now.blocks in
    let role = c.args.naming.now.role in
    let place = c.args.place in
    let found = c.args.met.now.found.items in
    let others = c.in_ok-lists.lists in
    let list = c.in-Some-get.first.now in
    let are = c.requires.met.distinct in
    let of : HaveLists blocks (directives_of role) place others =
    subst (λ (v : ServiceListingOf). HaveLists v.blocks v.directives place others) c.listing.ensures c.in_ok-lists.ensures.lists in
    let by : ByDescriptions blocks role found others.1 list =
    found-at (ByDescriptions blocks role found others.1) _ _ (c.requires.met.by_descriptions others.1) (sym c.in-Some-get.ensures.value) in
    let is : IsDistinct blocks role (place + 1) place list = is-earlier blocks role place list found others are (sym c.speaks_at.ensures ∙ c.if-not-speaks_at.false) by of in
    let at : Contains (found ++ (place, list) ∷ []) (list, list) = Contains-append_left found ((place, list) ∷ []) (list, list) by.0 in
    let items = c.in_ok-push.ensures.items in
    record {
      alike = subst (λ (v : ServiceListingOf). AreListsAlike v c.lists_like.new.alikes) c.listing.ensures c.in_ok-lists.ensures.alike;
      distinct = subst (λ (ps : List (ℕ × ℕ)). AreDistinct blocks role (place + 1) ps) (sym items) (distinct-more blocks role place found are list others of is at);
      by_lists = λ other. subst (λ (ps : List (ℕ × ℕ)). IfSome (lookup (places_eq other) c.insert.new.self.entries) (ByLists blocks role ps other)) (sym items)
          (lists-more blocks role place found are list others of is at c.args.met.now.by_lists.entries c.insert.new.self.entries c.requires.met.by_lists c.in_ok-insert.ensures.updates.0 other);
      by_descriptions = λ other. subst (λ (ps : List (ℕ × ℕ)). IfSome (lookup (eqb other) c.args.met.now.by_descriptions.entries) (ByDescriptions blocks role ps other)) (sym items)
          (descriptions-stay blocks role place found are list others of is at c.args.met.now.by_descriptions.entries c.requires.met.by_descriptions other);
    }

pub returns : goal.returns
returns c =
    let blocks = c.args.naming.now.blocks in
    let role = c.args.naming.now.role in
    let place = c.args.place in
    let found = c.args.met.now.found.items in
    let others = c.in_ok-lists.lists in
    let are = c.requires.met.distinct in
    let of : HaveLists blocks (directives_of role) place others =
    subst (λ (v : ServiceListingOf). HaveLists v.blocks v.directives place others) c.listing.ensures c.in_ok-lists.ensures.lists in
    let is : IsDistinct blocks role (place + 1) place place = is-own blocks role place (sym c.speaks_at.ensures ∙ c.if-not-speaks_at.false) in
    let at : Contains (found ++ (place, place) ∷ []) (place, place) = Contains-append_right found ((place, place) ∷ []) (place, place) (Contains-here (place, place) []) in
    let items = c.in_ok-push-2.ensures.items in
    record {
      alike = subst (λ (v : ServiceListingOf). AreListsAlike v c.lists_like.new.alikes) c.listing.ensures c.in_ok-lists.ensures.alike;
      distinct = subst (λ (ps : List (ℕ × ℕ)). AreDistinct blocks role (place + 1) ps) (sym items) (distinct-more blocks role place found are place others of is at);
      by_lists = λ other. subst (λ (ps : List (ℕ × ℕ)). IfSome (lookup (places_eq other) c.insert.new.self.entries) (ByLists blocks role ps other)) (sym items)
          (lists-more blocks role place found are place others of is at c.args.met.now.by_lists.entries c.insert.new.self.entries c.requires.met.by_lists c.in_ok-insert.ensures.updates.0 other);
      by_descriptions = λ other. subst (λ (ps : List (ℕ × ℕ)). IfSome (lookup (eqb other) c.insert-2.new.self.entries) (ByDescriptions blocks role ps other)) (sym items)
          (descriptions-more blocks role place found are place others of is at c.args.met.now.by_descriptions.entries c.insert-2.new.self.entries refl c.requires.met.by_descriptions c.in_ok-insert-2.ensures.updates.0 other);
    }
