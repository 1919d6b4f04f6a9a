use Rattle.std.proofs.Common.{◌≡◌, reverse, take, All, vec_len}
use Rattle.due_model.specs.claims.Due.{due_for, suppressed_for}
use Rattle.due_model.specs.claims.Histories.{ended, hist, released}
use Rattle.slow_rules.specs.Histories.{IsInRange}
use Rattle.slow_rules.proofs.slow.find_answers.Given as goal

abbrev pub invariant-loop-index : goal.invariant-loop-index
invariant-loop-index l = record {
  due : l.answers.due.items ≡ due_for l.subject.config.now l.subject.zone.now l.subject.id.0 l.subject.object.now l.lane.0 (reverse (take l.index l.events));
  suppressed : l.answers.suppressed.items ≡ suppressed_for l.subject.config.now l.subject.zone.now l.subject.id.0 l.subject.object.now (reverse (take l.index l.events));
  history : reverse l.history.items ≡ hist l.subject.config.now l.subject.zone.now l.subject.id.0 l.subject.object.now (reverse (take l.index l.events));
  over : l.over ≡ ended l.subject.config.now l.subject.zone.now l.subject.id.0 l.subject.object.now (reverse (take l.index l.events)) (reverse l.history.items);
  released : l.released ≡ released l.subject.id.0 (reverse (take l.index l.events)) (reverse l.history.items);
  length : vec_len l.history ≡ l.index;
  in_range : All IsInRange l.history.items;
}
