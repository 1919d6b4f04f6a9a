use Rattle.std.proofs.Common.{[], ◌≡◌, ◌+◌, ◌∙◌, List, ap, eqb-true, get_or, length, subst, sym, true, ◌<◌, ℕ}
use Rattle.std.proofs.lemmas.Result.{IfOk-weaker}
use Rattle.std.specs.Prelude.{All}
use Rattle.object_groups.specs.claims.First.{IsFirst}
use Rattle.object_reader.specs.declared.block.Block.{Block}
use Rattle.object_unknown_services.specs.Stamps.{IsHostOf, Stamped}
use Rattle.object_unknown_services.specs.Unknown.{is_before, LacksIn}
use Rattle.object_unknown_services.proofs.DistinctLemmas.{numbers-within}
use Rattle.object_unknown_services.proofs.UnknownLemmas.{of-key, stamps-later, stamps-more, unnamed}
use Rattle.object_unknown_services.proofs.unknown.first_of_key.Goals as goal

pub returns-then-is_empty-clause-first : goal.returns-then-is_empty-clause-first
returns-then-is_empty-clause-first c =
    let namers = c.args.namers.now in
    let none : length (get_or namers.described c.args.key []) ≡ 0 =
    ap (λ (ps : List ℕ). length ps) (sym c.get-numbers.ensures) ∙ eqb-true (length c.get-numbers.result.now) 0 (sym c.is_empty.ensures ∙ c.if-is_empty.true) in
    unnamed c.args.services.now c.args.naming.now.role c.args.key namers c.args.first c.requires.namers none

pub returns-then-is_empty-clause-stamps : goal.returns-then-is_empty-clause-stamps
returns-then-is_empty-clause-stamps c = stamps-later _ (c.args.key + 1) c.args.stamps.now c.requires.stamps

pub returns-clause-stamps : goal.returns-clause-stamps
returns-clause-stamps c =
    let blocks = c.args.services.now in
    let given = c.args.given.now in
    let old = c.args.stamps.now in
    let new = c.stamp_all.new.stamps in
    let stamped : Stamped (IsHostOf blocks (get_or given c.args.key [])) (c.args.key + 1) old new =
    subst (λ (ps : List ℕ). Stamped (IsHostOf blocks ps) (c.args.key + 1) old new) c.get.ensures c.in_ok-stamp_all.ensures.stamped in
    IfOk-weaker c.first_listed.result _ _
    (λ found is. stamps-more blocks c.args.naming.now.role c.args.key old new given c.requires.stamps stamped)
    c.first_listed.ensures.first

pub first_listed-requires-clause-numbers : goal.first_listed-requires-clause-numbers
first_listed-requires-clause-numbers c =
    subst (λ (ns : List ℕ). All (λ number. number < length c.args.namers.now.by_list) ns) (sym c.get-numbers.ensures)
    (numbers-within c.args.services.now c.args.naming.now.role c.args.namers.now.described c.args.namers.now.by_list c.args.key c.requires.namers)

pub returns-clause-first : goal.returns-clause-first
returns-clause-first c =
    let blocks = c.args.services.now in
    let role = c.args.naming.now.role in
    let key = c.args.key in
    let given = c.args.given.now in
    let namers = c.args.namers.now in
    let old = c.args.stamps.now in
    let new = c.stamp_all.new.stamps in
    let stamped : Stamped (IsHostOf blocks (get_or given key [])) (key + 1) old new =
    subst (λ (ps : List ℕ). Stamped (IsHostOf blocks ps) (key + 1) old new) c.get.ensures c.in_ok-stamp_all.ensures.stamped in
    IfOk-weaker c.first_listed.result _ _
    (λ found is. of-key blocks role key old new given c.requires.stamps stamped c.listed_are_objects.ensures c.requires.given namers c.requires.namers c.args.first found
    (subst (λ (bs : List Block). IsFirst (λ at. (is_before c.args.first at ≡ true) × LacksIn bs role new (key + 1) namers.by_list (get_or namers.described key []) at) found) (sym c.requires.naming)
    (subst (λ (ns : List ℕ). IsFirst (λ at. (is_before c.args.first at ≡ true) × LacksIn c.args.naming.now.blocks role new (key + 1) namers.by_list ns at) found) c.get-numbers.ensures is)))
    c.first_listed.ensures.first
