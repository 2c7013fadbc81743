use Rattle.std.proofs.Common.{◌≡◌, ◌-◌, ◌≤◌, length, take}
use Rattle.std.specs.Io.KnownBytes.{Appends}
use Rattle.svsm_outside.proofs.write.append_all.Given as goal

abbrev pub invariant-loop-done : goal.invariant-loop-done
invariant-loop-done g l = record {
  within : l.done ≤ length l.text;
  so_far : Appends (g.W.Sink.seen l.initial.out).written (g.W.Sink.seen l.out).written (take l.done l.text);
  calm : (g.W.Sink.seen l.out).faults ≡ (g.W.Sink.seen l.initial.out).faults;
}

abbrev pub decreases-loop-done : goal.decreases-loop-done
decreases-loop-done g l = length l.text - l.done
