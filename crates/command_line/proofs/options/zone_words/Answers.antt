use Rattle.command_line.proofs.options.zone_words.Goals as goal

pub returns : goal.returns
returns c = record {
  rule = c.get_str.ensures;
  file = c.get_str-2.ensures;
  as_nagios = record { left_out = c.get_flag.ensures.none; on = c.get_flag.ensures.value; off = c.get_flag.ensures.other };
  nagios = record { left_out = c.get_flag-2.ensures.none; on = c.get_flag-2.ensures.value; off = c.get_flag-2.ensures.other };
  choose = c.get_strs.ensures;
}
