-- What bounds the numbers of a tally: an interchange has at most 65,536 bytes.
use Rattle.std.specs.Prelude.{◌<◌, ◌≤◌}
use Rattle.totals.specs.declared.counts.Counts.{Counts}

-- each count is at most the number of segments, and each sum at most ten to the tenth for each
pub record SmallCounts (c : Counts) : Type 0 where
  pub few_groups : c.groups < 65537
  pub few_sets : c.sets < 65537
  pub few_lines : c.lines < 65537
  pub small_sum : c.sum ≤ 655370000000000
  pub few_group_sets : c.group_sets < 65537
  pub few_set_segments : c.set_segments < 65537
  pub few_set_lines : c.set_lines < 65537
  pub small_set_sum : c.set_sum ≤ 655370000000000
