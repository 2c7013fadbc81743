-- What the module and its host say to each other.
use Rattle.std.specs.Prelude.{◌≡◌, ℕ, List, [], ◌∷◌}

-- a value of the GHCB MSR and its answer; or the GHCB page as it was sent and as it came back
pub data HostEvent : Type 0 where
  asked : ℕ → ℕ → HostEvent
  exited : List ℕ → List ℕ → HostEvent

-- these events, one after another, lead from one host to another by the host's two relations
abbrev pub Leads : {H : Type 0} → (H → ℕ → ℕ → H → Type 0) → (H → List ℕ → List ℕ → H → Type 0) → H → List HostEvent → H → Type 0
Leads answers returns old [] new = new ≡ old
Leads answers returns old (asked sent got ∷ events) new = (mid : _) × answers old sent got mid × Leads answers returns mid events new
Leads answers returns old (exited sent got ∷ events) new = (mid : _) × returns old sent got mid × Leads answers returns mid events new
