use Rattle.std.proofs.Common.{List, ap, refl, rules, ◌∙◌}
use Rattle.std.specs.Global.{Vec}
use Rattle.std.specs.Option.{option_and_then}
use Rattle.object_inheritance.specs.Givers.{last_at}
use Rattle.object_inheritance.specs.declared.givers.OwnText.{OwnText}
use Rattle.object_inheritance.proofs.GiverLemmas.{text-added}
use Rattle.object_inheritance.proofs.givers.add_text.Goals as goal

pub returns-in_ok-push-in-Some : goal.returns-in_ok-push-in-Some
returns-in_ok-push-in-Some c blocks =
    text-added blocks c.args.by_name.now c.args.by_name.now (c.get_mut.follows.lender c.push.new.self) c.args.name c.args.own
    c.in-Some.texts.now.items c.push.new.self refl
    (λ place. ap (option_and_then (λ (given : Vec OwnText). last_at blocks given.items place)) c.in-Some.ensures.value)
    c.in_ok-push-in-Some.ensures.items ((c.get_mut.follows.holds c.push.new.self).3 (search rules)).0

pub returns-in_ok-insert-in-None : goal.returns-in_ok-insert-in-None
returns-in_ok-insert-in-None c blocks =
    text-added blocks c.args.by_name.now c.get_mut.follows.lender-at-none c.insert.new.self c.args.name c.args.own
    c.new-texts.result.items c.push-in-None.new.self c.get_mut.follows.holds-at-none
    (λ place. ap (λ (given : List OwnText). last_at blocks given place) c.new-texts.ensures.items
    ∙ ap (option_and_then (λ (given : Vec OwnText). last_at blocks given.items place)) c.in-None.ensures.value)
    c.in_ok-push-in-None.ensures.items c.in_ok-insert-in-None.ensures.updates.0
