use Rattle.std.proofs.Common.{rules, arith, length-append}
use Rattle.site_check.specs.Faults.{is_answer}
use Rattle.site_check.proofs.CountLemmas.{sorted-some}
use Rattle.site_check.proofs.ListLemmas.{found-some}
use Rattle.site_check.proofs.all_faults.add_answered.Goals as goal

pub returns-then-is_some : goal.returns-then-is_some
returns-then-is_some c = found-some (is_answer c.args.blocks.now c.args.line c.args.fault) c.args.tellings.now.items (search rules)

pub returns : goal.returns
returns c = sorted-some c.push.new.self.items _ (grind (arith, length-append)) c.sort_by_key.ensures.permutation
