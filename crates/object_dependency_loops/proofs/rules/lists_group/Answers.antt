use Rattle.std.proofs.Common.{◌≡◌, ◌∙◌, ◌∷◌, [], List, ap, arith, false, length, sym, subst, take, get_or, ℕ}
use Rattle.std.specs.Prelude.{All}
use Rattle.std.proofs.lemmas.Bool.Decides.{nat_tests}
use Rattle.std.proofs.lemmas.List.{nil_from_length, take_all, take_more}
use Rattle.std.proofs.lemmas.List.Elements.{All-append, All-cons}
use Rattle.object_groups.specs.claims.Objects.{list_at}
use Rattle.object_inheritance.specs.Columns.{Column}
use Rattle.object_inheritance.specs.Inherited.{has_any}
use Rattle.object_reached.specs.Listed.{ServiceListingOf}
use Rattle.object_reached.specs.claims.Roles.{directives_of}
use Rattle.object_dependency_loops.specs.Described.{ListsNoGroup}
use Rattle.object_dependency_loops.proofs.rules.lists_group.Goals as goal

no-entries : (xs : List (List ℕ)) → has_any xs ≡ false → xs ≡ []
no-entries xs none = let few : length xs ≡ 0 = grind (arith, nat_tests, none) in nil_from_length xs few

pub loop-place-preserved : goal.loop-place-preserved
loop-place-preserved c =
    let reached = c.args.reached.now in
    let places = c.args.places.now in
    let i = c.loop-place.place-index in
    let column : c.groups-groups.result.now ≡ record { blocks = reached.blocks; directive = (directives_of reached.role).groups } =
    c.groups-groups.ensures ∙ ap (λ (v : ServiceListingOf). record { blocks = v.blocks; directive = v.directives.groups }) c.listing.ensures in
    let none : has_any (list_at reached.blocks (directives_of reached.role).groups (get_or places i 0)) ≡ false =
    ap (λ (k : Column). has_any (list_at k.blocks k.directive (get_or places i 0))) (sym column) ∙ sym c.has_entries.ensures ∙ c.if-has_entries.false in
    subst (λ (ps : List ℕ). All (ListsNoGroup reached.blocks (directives_of reached.role)) ps) (sym (take_more places i 0 c.loop-place-test.true))
    (All-append (ListsNoGroup reached.blocks (directives_of reached.role)) (take i places) (get_or places i 0 ∷ []) c.loop-place.invariant
    (All-cons (ListsNoGroup reached.blocks (directives_of reached.role)) (get_or places i 0) [] (no-entries _ none) (λ k d at. absurd (omega (arith, at)))))

pub returns : goal.returns
returns c = λ none.
    subst (λ (ps : List ℕ). All (ListsNoGroup c.args.reached.now.blocks (directives_of c.args.reached.now.role)) ps) (take_all c.loop-place.place-index c.args.places.now c.loop-place-test.false) c.loop-place.invariant
