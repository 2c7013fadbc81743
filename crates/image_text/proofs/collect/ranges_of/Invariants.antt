use Rattle.std.proofs.Common.{◌≡◌, take}
use Rattle.image_text.specs.Saved.{ranges_from}
use Rattle.image_text.specs.Collected.{rows_saying, AreUpTo}
use Rattle.image_text.proofs.collect.ranges_of.Given as goal

abbrev pub invariant-loop-page : goal.invariant-loop-page
invariant-loop-page l = (l.ranges.items ≡ ranges_from 0 (rows_saying l.ghcb.0 0 (take l.page l.rows))) × AreUpTo l.page l.ranges.items
