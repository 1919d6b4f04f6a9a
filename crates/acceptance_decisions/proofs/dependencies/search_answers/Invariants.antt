use Rattle.std.proofs.Common.{◌≡◌, length}
use Rattle.acceptance_decisions.proofs.dependencies.search_answers.Given as goal

-- The search stays for the configuration's objects.
abbrev pub invariant-loop-question : goal.invariant-loop-question
invariant-loop-question g l = record {
  objects : l.search ≡ length l.config.objects;
}
