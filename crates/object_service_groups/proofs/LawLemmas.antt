-- That a loop among groups adds nothing, and that what a group lists is a member.
use Rattle.std.proofs.Common.{◌≡◌, ℕ, zero, suc, refl, sym, subst, inl, inr, ⊎_elim}
use Rattle.lemmas.proofs.Chains.{Reaches-join}
use Rattle.graph.specs.claims.Chains.{Chain, Reaches}
use Rattle.object_service_groups.specs.Laws.{AddsInclusion, BlocksServicesAreMembers, IncludedAreMembers, ListedAreMembers, LoopAddsNothing}
use Rattle.object_service_groups.specs.claims.Members.{Grouping, Includes, IsMember}

module _ (g more : Grouping) (group last : ℕ) (leads : Reaches (Includes g) group last) (adds : AddsInclusion g more last group) where
  -- a chain that goes along the loop can begin anew at the group
  without : (steps p q : ℕ) → Reaches (Includes g) group p → Chain (Includes more) steps p q → Reaches (Includes g) group q
  without zero p q reached chain = subst (λ r. Reaches (Includes g) group r) chain reached
  without (suc steps) p q reached (middle, includes, chain) = ⊎_elim
      (λ (old : Includes g p middle). without steps middle q (Reaches-join (Includes g) group p middle reached (1, (middle, old, refl))) chain)
      (λ (new : (p ≡ last) × (middle ≡ group)). without steps middle q (subst (λ r. Reaches (Includes g) group r) (sym new.1) (0, refl)) chain)
      ((adds.includes p middle).0 includes)

  within : (steps p q : ℕ) → Chain (Includes g) steps p q → Chain (Includes more) steps p q
  within zero p q chain = chain
  within (suc steps) p q (middle, includes, chain) = (middle, (adds.includes p middle).1 (inl includes), within steps middle q chain)

  member-without : (service : ℕ) → IsMember more group service → IsMember g group service
  member-without service (end, (steps, chain), holds) = (end, without steps group end (0, refl) chain, (adds.holds end service).0 holds)

  member-within : (service : ℕ) → IsMember g group service → IsMember more group service
  member-within service (end, (steps, chain), holds) = (end, (steps, within steps group end chain), (adds.holds end service).1 holds)

pub loop-adds_nothing : LoopAddsNothing
loop-adds_nothing g more group last leads adds service =
    (member-without g more group last leads adds service, member-within g more group last leads adds service)

pub listed-are : ListedAreMembers
listed-are g group service named = (group, (0, refl), inl named)

pub blocks-are : BlocksServicesAreMembers
blocks-are g group block service owner named = (group, (0, refl), inr (block, owner, named))

pub included-are : IncludedAreMembers
included-are g group other service includes (last, (steps, chain), holds) = (last, (suc steps, (other, includes, chain)), holds)
