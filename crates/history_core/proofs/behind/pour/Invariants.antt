use Rattle.std.proofs.Common.{◌≡◌, ◌+◌, ◌≤◌, ◌++◌, List, length, take, drop}
use Rattle.std.specs.Prelude.{vec_len, vec_capacity}
use Rattle.svsm_steps.specs.declared.entry.Entry.{Entry}
use Rattle.history_core.specs.Raised.{raised}
use Rattle.history_core.specs.Turned.{contents, AreLeft, IsTurned}
use Rattle.history_core.proofs.behind.pour.Given as goal

abbrev pub invariant-steps : goal.invariant-steps
invariant-steps l = record {
  count : length l.logs ≡ length l.initial.logs;
  room : vec_len l.all + length l.order ≤ vec_capacity l.all + l.place-index;
  all : (history : List Entry) → IsTurned history l.initial.logs l.order
      → l.all.items ≡ l.initial.all.items ++ raised (length l.initial.all.items) (take l.place-index history);
  left : (history : List Entry) → IsTurned history l.initial.logs l.order → AreLeft (drop l.place-index history) (contents l.logs);
}
