use Rattle.std.proofs.Common.{◌∙◌, ◌++◌, List, ap, subst}
use Rattle.due_model.specs.declared.config.Config.{Config}
use Rattle.due_model.specs.declared.notice.Notice.{Notice}
use Rattle.earlier_runs.specs.State.{IsState}
use Rattle.earlier_runs.proofs.state.state_of.Goals as goal

pub returns : goal.returns
returns g c = record {
  read = c.in_ok-read.read;
  said = subst (λ (x : Config). g.F.Journals.says c.args.journals.now x c.args.lane c.in_ok-read.read) c.deref.ensures c.in_ok-read.ensures;
  dropped = c.in_ok-dropped.dropped.items;
  none = c.in_ok-dropped.ensures.none;
  doubts = c.in_ok-dropped.ensures.doubts;
  given_up = c.in_ok-dropped.ensures.given_up;
  is = subst (λ (xs : List Notice). IsState c.in_ok-read.read.from xs c.in_ok-read.read.begun.items c.in_ok-lane_state.field-0)
      (c.in_ok-extend_from_slice.ensures.items ∙ ap (λ (ys : List Notice). c.in_ok-read.read.settled.items ++ ys) c.deref-2.ensures.value) c.in_ok-lane_state.ensures;
}
