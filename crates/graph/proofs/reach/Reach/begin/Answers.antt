use Rattle.std.proofs.Common.{◌∙◌, ℕ, List, ap, length, replicate, subst, sym}
use Rattle.std.proofs.lemmas.List.{take_at}
use Rattle.graph.specs.Reach.{IsSearch}
use Rattle.graph.proofs.ReachLemmas.{IsSearch-cleared, IsSearch-again, none_found}
use Rattle.graph.proofs.reach.Reach.begin.Goals.{then-self, else-self}
use Rattle.graph.proofs.reach.Reach.begin.Goals as goal

pub invariant_of-self : goal.invariant_of-self
invariant_of-self c =
    let s = c.self.inside in
    elim c.if-self.branch [
      | then-self w ↦ rw w.self-inside-is (
          subst (λ (marks : List ℕ). IsSearch marks 1 s.queue.items 0) (sym (take_at w.fill.new.self _ s.marks.len (w.fill.ensures.len ∙ w.as_mut_slice.ensures.len)))
          (IsSearch-cleared s.marks.items w.fill.new.self s.stamp s.queue.items s.count c.self.invariant
          (w.fill.ensures.after (λ y is. is) ∙ ap (λ (marks : List ℕ). replicate (length marks) 0) w.as_mut_slice.ensures.value))
          )
      | else-self w ↦ rw w.self-inside-is (IsSearch-again s.marks.items s.stamp s.queue.items s.count c.self.invariant)
    ]

pub returns : goal.returns
returns c =
    let s = c.self.inside in
    elim c.if-self.branch [
      | then-self w ↦ rw w.self-inside-is (
          ap none_found
          (ap (λ (marks : List ℕ). length marks) (take_at w.fill.new.self _ s.marks.len (w.fill.ensures.len ∙ w.as_mut_slice.ensures.len))
          ∙ w.fill.ensures.len ∙ ap (λ (marks : List ℕ). length marks) w.as_mut_slice.ensures.value)
          ∙ ap (λ found. none_found found.nodes) c.self.view_is
          )
      | else-self w ↦ rw w.self-inside-is (ap (λ found. none_found found.nodes) c.self.view_is)
    ]
