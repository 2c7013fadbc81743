-- In a good exchange each entry is answered once.
use Rattle.std.specs.Prelude.{◌≡◌, ℕ, ◌+◌, ◌<◌, ◌≤◌, Bool, ◌&&◌, nat_le, nat_lt, if◌then◌else◌, Ok, List, [], ◌∷◌, length}
use Rattle.psc_batch.specs.Host.{HostEvent, asked, exited}
use Rattle.psc_batch.specs.Exchange.{IsExchange, cur_of}

-- an exit that sent one index and brought back another answers the entries from the first to the second, that one left out
abbrev pub is_between : ℕ → ℕ → ℕ → Bool
is_between cur back index = nat_le cur index && nat_lt index back

-- how many exits answer an entry, where the first one sends `cur`
abbrev pub answers_of : ℕ → ℕ → List HostEvent → ℕ
answers_of index cur [] = 0
answers_of index cur (asked sent got ∷ events) = answers_of index cur events
answers_of index cur (exited sent got ∷ events) =
    (if is_between cur (cur_of got) index then 1 else 0) + answers_of index (cur_of got) events

abbrev pub GoodExchangesAnswerOnce : Type 0
GoodExchangesAnswerOnce =
    (buffer : ℕ) (entries old new : List ℕ) (events : List HostEvent) → 1 ≤ length entries → IsExchange buffer entries old events (Ok tt) new
    → (index : ℕ) → index < length entries → answers_of index 0 events ≡ 1
