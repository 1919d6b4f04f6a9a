use Rattle.std.proofs.Common.{rules, [], Some, sym, ◌∙◌}
use Rattle.std.proofs.lemmas.List.Elements.{All-cons, All-nil}
use Rattle.due_model.specs.claims.Proper.{IsProper}
use Rattle.caller_feeds.specs.FeedLaws.{same_end_then}
use Rattle.caller_feeds.proofs.ProperLemmas.{given_proper}
use Rattle.caller_feeds.proofs.TakenLemmas.{counted-passed, proper-passed}
use Rattle.caller_feeds.proofs.intake.take_next.Goals as goal

pub returns : goal.returns
returns c =
    let config = c.args.config.now in
    let old = c.args.end.now in
    let mid = c.peek.new.self in
    let new = c.pass-2.new.self in
    let e = c.in-Some-proper_event.event in
    let is = sym c.proper_event.ensures ∙ c.in-Some-proper_event.is in
    record {
      feed = same_end_then old mid new c.peek.ensures.looked.feed c.pass-2.ensures.feed;
      events = search rules;
      received = proper-passed config c.in-Some.item old mid new (Some e) c.peek.ensures.looked c.pass-2.ensures is;
      counted = counted-passed config c.in-Some.item old mid new c.peek.ensures.looked c.pass-2.ensures;
      proper = All-cons (IsProper config) e [] (given_proper config c.in-Some.item e is) (All-nil (IsProper config));
      within = search rules;
      ended = search rules;
      over = search rules;
      dropped = search rules;
    }
