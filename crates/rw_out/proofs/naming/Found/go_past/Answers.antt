use Rattle.rw_out.proofs.naming.Found.go_past.Goals as goal

pub returns-in-Label : goal.returns-in-Label
returns-in-Label c = rw c.in-Label.is (record {
  at = c.past_points.ensures.at;
  all = c.past_points.ensures.all;
  used = c.past_points.ensures.used;
  fewer = c.past_points.ensures.fewer;
})
