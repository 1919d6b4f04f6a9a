use Rattle.std.proofs.Common.{◌≡◌, ◌<◌, ◌∙◌, Some, ap, arith, get_or, length, rules, sym}
use Rattle.std.proofs.lemmas.Option.{slice_get-get_or}
use Rattle.run_resumed.proofs.posts.resumed_post.Goals as goal

pub returns-clause-each : goal.returns-clause-each
returns-clause-each c =
    let state = c.in-Some.state.now in
    let look = c.in-Some.ensures.lookup in
    let same : c.from.result ≡ c.args.post.lane.0 = c.from.ensures in
    let within : c.args.post.lane.0 < length c.args.states.now = omega (arith, look.3.0, same) in
    record {
      state = state;
      at = slice_get-get_or c.args.states.now c.args.post.lane.0 state within
          ∙ ap Some (sym (look.1 ∙ ap (λ n. get_or c.args.states.now n state) same));
      past = c.new-channel-2.ensures.past ∙ c.in_ok-try_clone.ensures;
      lane_is = search rules;
      config = search rules;
      whole = search rules;
      taken = c.new-channel-2.ensures.taken;
      failures = c.new-channel-2.ensures.failures;
    }
