use Rattle.std.proofs.Common.{arith, rules}
use Rattle.object_settings.proofs.TableLemmas.{read-before, read-now}
use Rattle.object_settings.proofs.tables.letters_once.Goals as goal

pub returns-then-origin-len-clause-read : goal.returns-then-origin-len-clause-read
returns-then-origin-len-clause-read c =
    read-now c.args.values.now c.args.kind c.args.read.now.items c.origin-origin.result c.args.place c.letters_at-letters.result
    c.origin-origin.ensures.same c.requires (omega (arith, c.if-origin-len.true, c.len.ensures, c.args.read.now.ok)) c.letters_at-letters.ensures

pub returns-in-Some-Some-clause-letters : goal.returns-in-Some-Some-clause-letters
returns-in-Some-Some-clause-letters c =
    read-before c.args.values.now c.args.kind c.args.read.now.items c.origin-origin.result c.args.place c.in-Some-Some.letters c.origin-origin.ensures.same c.requires (search rules)
