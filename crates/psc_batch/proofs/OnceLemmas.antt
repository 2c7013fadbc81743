-- Each entry is answered once.
use Rattle.std.proofs.Common.{◌≡◌, ℕ, ◌+◌, ◌<◌, ◌≤◌, ◌==◌, Bool, true, false, cond, if◌then◌else◌, Option, Some, None, Result, Ok, Err, List, [], ◌∷◌, length, refl, ◌∙◌, ap, arith}
use Rattle.std.specs.Prelude.{nat_le}
use Rattle.std.proofs.lemmas.Bool.{eqb-true}
use Rattle.std.proofs.lemmas.Bool.Decides.{nat_tests}
use Rattle.psc_batch.specs.declared.error.PscError.{PscError}
use Rattle.psc_batch.specs.declared.error.PscError.TheVariants.{Stalled}
use Rattle.psc_batch.specs.Host.{HostEvent, asked, exited}
use Rattle.psc_batch.specs.Exchange.{Ends, ending, refused_or, exchange_refusal, stalls_after, cur_of, end_index}
use Rattle.psc_batch.specs.Once.{is_between, answers_of, GoodExchangesAnswerOnce}
use Rattle.psc_batch.proofs.ExchangeLemmas.{goes_on}

well_first : (o : Option PscError) (other : Option (Result (Unit {0}) PscError)) → refused_or o other ≡ Some (Ok tt) → other ≡ Some (Ok tt)
well_first (Some error) other h = cc
well_first None other h = h

abbrev well_done : Option (Result (Unit {0}) PscError)
well_done = Some (Ok tt)

abbrev ill_done : PscError → Option (Result (Unit {0}) PscError)
ill_done error = Some (Err error)

ended_by : (b c : Bool) (error : PscError) → cond b well_done (cond c (ill_done error) None) ≡ well_done → b ≡ true
ended_by true c error h = refl
ended_by false true error h = cc
ended_by false false error h = cc

-- where an exchange ends well, all entries came back as performed
ends_at : (entries : List ℕ) (cur stalls : ℕ) (got : List ℕ) → 1 ≤ length entries → ending entries cur stalls got ≡ Some (Ok tt) → cur_of got ≡ length entries
ends_at entries cur stalls got some h =
    let ended = ended_by (cur_of got == end_index entries + 1) (stalls_after cur stalls got == 64) (Stalled cur) (well_first (exchange_refusal entries cur got) _ h) in
    let at = eqb-true (cur_of got) (end_index entries + 1) ended in
    omega arith

last_counts : (cur back index : ℕ) → index < back → (if is_between cur back index then 1 else 0) + 0 ≡ (if nat_le cur index then 1 else 0)
last_counts cur back index low = grind (arith, nat_tests)

more_counts : (cur back index : ℕ) → cur ≤ back → (if is_between cur back index then 1 else 0) + (if nat_le back index then 1 else 0) ≡ (if nat_le cur index then 1 else 0)
more_counts cur back index ahead = grind (arith, nat_tests)

once : (entries : List ℕ) (cur stalls : ℕ) (events : List HostEvent) (index : ℕ) → cur < length entries → stalls < 64 → index < length entries → Ends entries cur stalls events (Ok tt) → answers_of index cur events ≡ (if nat_le cur index then 1 else 0)
once entries cur stalls [] index within few low h = absurd h
once entries cur stalls (asked sent got ∷ events) index within few low h = absurd h
once entries cur stalls (exited sent got ∷ []) index within few low h =
    let at = ends_at entries cur stalls got (omega arith) h in
    last_counts cur (cur_of got) index (omega arith)
once entries cur stalls (exited sent got ∷ (event ∷ events)) index within few low h =
    let on = goes_on entries cur stalls got within few h.0 in
    ap (λ n. (if is_between cur (cur_of got) index then 1 else 0) + n) (once entries (cur_of got) (stalls_after cur stalls got) (event ∷ events) index on.within on.few low h.1)
    ∙ more_counts cur (cur_of got) index on.ahead

from_zero : (index : ℕ) → ◌≡◌ {A = ℕ} (if nat_le 0 index then 1 else 0) 1
from_zero index = grind (arith, nat_tests)

pub answered_once : GoodExchangesAnswerOnce
answered_once buffer entries old new events some exchange index low = once entries 0 0 events index (omega arith) (omega arith) low exchange.ends ∙ from_zero index
