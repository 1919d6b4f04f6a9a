use Rattle.value_places.proofs.origins.origins_of.Goals as goal

pub returns-clause-origins : goal.returns-clause-origins
returns-clause-origins c = record {
  lists = c.in_ok-lists.lists;
  lists_are = c.in_ok-lists.ensures.lists;
  are = c.in_ok-origins_with.ensures;
}
