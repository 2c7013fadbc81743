-- What follows of an exit that goes on, and how many exits an exchange has.
use Rattle.std.proofs.Common.{◌≡◌, ℕ, ◌+◌, ◌-◌, ◌*◌, ◌<◌, ◌≤◌, ◌==◌, nat_lt, Bool, true, false, not, cond, Option, Some, None, Result, Ok, Err, List, [], ◌∷◌, length, refl, subst, arith, inl, inr, ◌⊎◌}
use Rattle.std.proofs.lemmas.Grind.{common_steps}
use Rattle.psc_batch.specs.declared.error.PscError.{PscError}
use Rattle.psc_batch.specs.declared.error.PscError.TheVariants.{Said, End, Back, Past, Stalled}
use Rattle.ghcb_page.specs.Fields.{info1_of, info2_of, is_quiet}
use Rattle.psc_batch.specs.Host.{HostEvent, asked, exited}
use Rattle.psc_batch.specs.Exchange.{IsExchangeFrom, Ends, Sends, ending, exchange_refusal, progress, refused_or, stalls_after, change_from, cur_of, end_of, end_index, sent_page}

-- a test that chose a value
pub chosen : {A : Type 0} {x y z : A} (b : Bool) → cond b x y ≡ z → ((b ≡ true) × (x ≡ z)) ⊎ ((b ≡ false) × (y ≡ z))
chosen true h = inl (refl, h)
chosen false h = inr (refl, h)

-- where no refusal came, the second one decides
pub none_first : (o : Option PscError) (other : Option (Result (Unit {0}) PscError)) → refused_or o other ≡ None → (o ≡ None) × (other ≡ None)
none_first (Some error) other h = cc
none_first None other h = (refl, h)

-- a test that would have given something failed
pub passed : {A : Type 0} (b : Bool) (x : A) (y : Option A) → cond b (Some x) y ≡ None → (b ≡ false) × (y ≡ None)
passed true x y h = cc
passed false x y h = (refl, h)

-- the index that came back is not behind and within
pub unrefused : (entries : List ℕ) (cur : ℕ) (got : List ℕ) → exchange_refusal entries cur got ≡ None → (nat_lt (cur_of got) cur ≡ false) × (nat_lt (end_index entries + 1) (cur_of got) ≡ false)
unrefused entries cur got h =
    let quiet = passed (not (is_quiet got)) (Said (info1_of got) (info2_of got)) _ h in
    let end = passed (not (end_of got == end_index entries)) (End (end_index entries) (end_of got)) _ quiet.1 in
    let back = passed (nat_lt (cur_of got) cur) (Back cur (cur_of got)) _ end.1 in
    let past = passed (nat_lt (end_index entries + 1) (cur_of got)) (Past (end_index entries) (cur_of got)) (change_from 0 entries got) back.1 in
    (back.0, past.0)

pub progressed : (end cur stalls back : ℕ) → progress end cur stalls back ≡ None → ((back == end + 1) ≡ false) × ((stalls == 64) ≡ false)
progressed end cur stalls back h =
    let done = passed (back == end + 1) (Ok tt) _ h in
    let stalled = passed (stalls == 64) (Err (Stalled cur)) None done.1 in
    (done.0, stalled.0)

pub record GoesOn (n cur stalls back stalls' : ℕ) : Type 0 where
  pub ahead : cur ≤ back
  pub within : back < n
  pub few : stalls' < 64
  pub less : 64 * (n - back) - stalls' < 64 * (n - cur) - stalls

pub numbers : (n cur stalls back : ℕ) → cur < n → stalls < 64 → nat_lt back cur ≡ false → nat_lt (n - 1 + 1) back ≡ false → (back == n - 1 + 1) ≡ false → (cond (back == cur) (stalls + 1) 0 == 64) ≡ false → GoesOn n cur stalls back (cond (back == cur) (stalls + 1) 0)
numbers n cur stalls back within few ahead past done stalled = record {
  ahead = grind (arith, common_steps);
  within = grind (arith, common_steps);
  few = grind (arith, common_steps);
  less = grind (arith, common_steps);
}

pub goes_on : (entries : List ℕ) (cur stalls : ℕ) (got : List ℕ) → cur < length entries → stalls < 64 → ending entries cur stalls got ≡ None → GoesOn (length entries) cur stalls (cur_of got) (stalls_after cur stalls got)
goes_on entries cur stalls got within few h =
    let none = none_first _ _ h in
    let index = unrefused entries cur got none.0 in
    let on = progressed _ _ _ _ none.1 in
    numbers (length entries) cur stalls (cur_of got) within few index.0 index.1 on.0 on.1

-- at most 64 exits for each entry that is left
pub bounded : (entries : List ℕ) (cur stalls : ℕ) (events : List HostEvent) (result : Result (Unit {0}) PscError) → cur < length entries → stalls < 64 → Ends entries cur stalls events result → length events + stalls ≤ 64 * (length entries - cur)
bounded entries cur stalls [] result within few h = absurd h
bounded entries cur stalls (asked sent got ∷ events) result within few h = absurd h
bounded entries cur stalls (exited sent got ∷ []) result within few h = omega arith
bounded entries cur stalls (exited sent got ∷ (event ∷ events)) result within few h =
    let on = goes_on entries cur stalls got within few h.0 in
    let rest = bounded entries (cur_of got) (stalls_after cur stalls got) (event ∷ events) result on.within on.few h.1 in
    omega arith

-- the exits of an exchange that goes on after its first one
pub longer : (buffer : ℕ) (entries : List ℕ) (cur stalls : ℕ) (old got : List ℕ) (sent : List ℕ) (cur' stalls' : ℕ) (events : List HostEvent) (result : Result (Unit {0}) PscError) (new : List ℕ) → sent ≡ sent_page buffer entries cur old → ending entries cur stalls got ≡ None → cur' ≡ cur_of got → stalls' ≡ stalls_after cur stalls got → IsExchangeFrom buffer entries cur' stalls' got events result new → IsExchangeFrom buffer entries cur stalls old (exited sent got ∷ events) result new
longer buffer entries cur stalls old got sent cur' stalls' [] result new e none back stood rest = absurd rest.ends
longer buffer entries cur stalls old got sent cur' stalls' (event ∷ events) result new e none back stood rest = record {
  sends = (e, subst (λ n. Sends buffer entries n got (event ∷ events)) back rest.sends);
  ends = (none, subst (λ n. Ends entries n (stalls_after cur stalls got) (event ∷ events) result) back (subst (λ n. Ends entries cur' n (event ∷ events) result) stood rest.ends));
  leaves = rest.leaves;
}

-- the same of equal entries
pub of_equal : (buffer : ℕ) (entries own : List ℕ) (cur stalls : ℕ) (old : List ℕ) (events : List HostEvent) (result : Result (Unit {0}) PscError) (new : List ℕ) → entries ≡ own → IsExchangeFrom buffer entries cur stalls old events result new → IsExchangeFrom buffer own cur stalls old events result new
of_equal buffer entries own cur stalls old events result new e h = subst (λ es. IsExchangeFrom buffer es cur stalls old events result new) e h
