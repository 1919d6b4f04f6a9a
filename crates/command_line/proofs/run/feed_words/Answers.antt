use Rattle.command_line.proofs.run.feed_words.Goals as goal

pub returns : goal.returns
returns c = record {
  file = c.get_str.ensures;
  follow = record { left_out = c.get_flag.ensures.none; on = c.get_flag.ensures.value; off = c.get_flag.ensures.other };
  clock = record { left_out = c.get_flag-2.ensures.none; on = c.get_flag-2.ensures.value; off = c.get_flag-2.ensures.other };
  state = c.state_words.ensures;
}
