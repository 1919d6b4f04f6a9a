use Rattle.std.proofs.Common.{◌∙◌, eqb, sym}
use Rattle.text_lines.proofs.Fronts.{position-some, position-none}
use Rattle.text_lines.proofs.bytes.find_slowly.Goals as goal

pub returns-in-Some : goal.returns-in-Some
returns-in-Some c = position-some (λ b. eqb b c.args.byte) c.args.bytes.now c.in-Some.place (sym c.find_first.ensures ∙ c.in-Some.is)

pub returns-in-None : goal.returns-in-None
returns-in-None c = position-none (λ b. eqb b c.args.byte) c.args.bytes.now (sym c.find_first.ensures ∙ c.in-None.is)
