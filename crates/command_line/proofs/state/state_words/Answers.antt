use Rattle.command_line.proofs.state.state_words.Goals as goal

pub returns : goal.returns
returns c = record {
  folder = c.get_str.ensures;
  in_doubt = c.get_str-2.ensures;
  from_now = record { left_out = c.get_flag.ensures.none; on = c.get_flag.ensures.value; off = c.get_flag.ensures.other };
}
