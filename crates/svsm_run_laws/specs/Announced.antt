-- What the host is told of the vCPUs of a run.
use Rattle.std.specs.Prelude.{◌≡◌, ℕ, true, false, List, [], ◌++◌}
use Rattle.svsm_types.specs.declared.image.Image.{Image}
use Rattle.svsm_steps.specs.declared.entry.Entry.{Entry}
use Rattle.svsm_steps.specs.Announced.{Announced, live_pairs, host_list_after}
use Rattle.svsm_steps.specs.Image.{booted}
use Rattle.svsm_calls.specs.Waves.{AreWaves, rows_behind}
use Rattle.svsm_laws.specs.Announced.{AreSamePairs}

-- After waves whose exits the host all took, its list has just the live pairs of the registry.
abbrev pub HostKnowsPairs : Type 0
HostKnowsPairs =
    (image : Image) (entries : List Entry) (ran : List ℕ) (exits : List Announced) → AreWaves image entries ran exits
    → image.announce ≡ true
    → AreSamePairs (host_list_after (live_pairs (booted image).rows) exits) (live_pairs (rows_behind image entries))

-- In an image without the line it is told nothing.
abbrev pub HostIsToldNothing : Type 0
HostIsToldNothing =
    (image : Image) (entries : List Entry) (ran : List ℕ) (exits : List Announced) → AreWaves image entries ran exits
    → image.announce ≡ false → exits ≡ []

-- At the waves of a history up to one whose exits the host all took, its list has just the live pairs of the registry behind them.
abbrev pub HostKnows : Image → List Entry → Type 0
HostKnows image entries =
    (front back : List Entry) (ran : List ℕ) (exits : List Announced) → entries ≡ front ++ back → AreWaves image front ran exits
    → image.announce ≡ true
    → AreSamePairs (host_list_after (live_pairs (booted image).rows) exits) (live_pairs (rows_behind image front))
