use Rattle.obj_items.proofs.program.contents.Goals as goal

pub returns : goal.returns
returns c = record {
  items = c.in_ok-items.ensures.value;
  init = c.in_ok-init.ensures;
  found = c.in_ok-items.ensures.found;
  order = c.in_ok-items.ensures.order;
  data_end = rw c.requires.layout at c.data_end.ensures;
}
