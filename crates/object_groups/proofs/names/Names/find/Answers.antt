use Rattle.std.proofs.Common.{◌≡◌, ◌<◌, ◌∙◌, IfSome, List, ap, length, subst, sym, ℕ}
use Rattle.std.specs.Str.{bytes_eq}
use Rattle.object_groups.specs.claims.Names.{number_of}
use Rattle.lemmas.proofs.Searches.{position-within}
use Rattle.object_groups.proofs.names.Names.find.Goals as goal

pub returns-clause-within : goal.returns-clause-within
returns-clause-within c =
    let is : c.copied.result ≡ number_of c.args.self.now c.args.name.now =
    c.copied.ensures ∙ c.get.ensures.value ∙ c.self.invariant c.args.name ∙ ap (λ (names : List (List ℕ)). number_of names c.args.name.now) c.self.view_is in
    subst (λ found. IfSome found (λ number. number < length c.args.self.now)) (sym is) (position-within (bytes_eq c.args.name.now) c.args.self.now)
