use Rattle.std.proofs.Common.{rules, ◌≡◌, ◌++◌, ◌||◌, ◌∷◌, [], ap, sym, ◌∙◌}
use Rattle.rtrb.specs.Ring.{received}
use Rattle.caller_feeds.specs.Items.{has_end}
use Rattle.caller_feeds.proofs.ItemLemmas.{has_end-more}
use Rattle.caller_feeds.proofs.end.FeedEnd.receive.Goals as goal

pub invariant_of-self : goal.invariant_of-self
invariant_of-self c =
    let old = received c.args.self.now.ring in
    let got : received c.pop_known.new.self ≡ old ++ c.args.item ∷ [] = search rules in
    record { marked = ap (λ b. c.args.self.now.over || b) c.is_end.ensures ∙ has_end-more c.args.self.now.over old c.args.item c.args.self.now.marked ∙ ap has_end (sym got) }
