use Rattle.std.proofs.Common.{ap, length}
use Rattle.std.proofs.lemmas.List.{nil_from_length}
use Rattle.engine_threads.proofs.lane_work.serve_lane.Goals as goal

pub returns-clause-served : goal.returns-clause-served
returns-clause-served g c =
    let s = c.serve-served.ensures in
    let channels = c.args.work.channels.items in record {
      worker = s.worker;
      ended = s.ended;
      order = s.order;
      front = s.front;
      cause = record {
        closed = s.closed;
        cause = s.why;
        over = s.over;
        failed = s.failed;
        each_failed = s.each_failed;
        no_channel = ((λ e. ap (λ bs. length bs) (s.no_channel.0 e)), (λ e. s.no_channel.1 (nil_from_length channels e)));
        untaken = λ e. s.untaken (nil_from_length channels e);
        records = λ some. s.records (λ none. some (ap (λ bs. length bs) none));
        no_records = λ e. s.no_records (nil_from_length channels e);
      };
    }
