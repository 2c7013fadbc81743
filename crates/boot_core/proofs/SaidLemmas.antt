-- What is said one after another.
use Rattle.std.proofs.Common.{◌≡◌, ℕ, ◌+◌, ◌<◌, ◌≤◌, Bool, true, false, Result, Ok, Err, List, [], ◌∷◌, ◌++◌, drop, length, get_or, refl, sym, subst, add-one, drop-cons}
use Rattle.std.specs.Prelude.{MatchBool}
use Rattle.std.proofs.lemmas.List.{drop_all}
use Rattle.psc_batch.specs.Host.{HostEvent, asked, exited, Leads}
use Rattle.boot_core.specs.declared.error.BootError.{BootError}
use Rattle.boot_core.specs.declared.error.BootError.TheVariants.{Msr}
use Rattle.boot_core.specs.declared.asks.Ask.{Ask}
use Rattle.boot_core.specs.Asks.{Asks, Terminates, is_right}

pub leads_on : {H : Type 0} (answers : H → ℕ → ℕ → H → Type 0) (returns : H → List ℕ → List ℕ → H → Type 0) (first second : List HostEvent) (old mid new : H) → Leads answers returns old first mid → Leads answers returns mid second new → Leads answers returns old (first ++ second) new
leads_on answers returns [] second old mid new h k = subst (λ host. Leads answers returns host second new) h k
leads_on answers returns (asked sent got ∷ first) second old mid new h k = (h.0, h.1, leads_on answers returns first second h.0 mid new h.2 k)
leads_on answers returns (exited sent got ∷ first) second old mid new h k = (h.0, h.1, leads_on answers returns first second h.0 mid new h.2 k)

pub drop_next : {A : Type 0} (xs : List A) (i : ℕ) (d : A) → i < length xs → drop i xs ≡ get_or xs i d ∷ drop (i + 1) xs
drop_next xs i d h = rw (add-one, drop-cons xs i d) refl

abbrev pub the_ok : Result (Unit {0}) BootError
the_ok = Ok tt

abbrev pub the_err : BootError → Result (Unit {0}) BootError
the_err e = Err e

-- a choice by a test
pub where_true : (b : Bool) (P Q : Type 0) → b ≡ true → P → MatchBool b P Q
where_true true P Q e p = p
where_true false P Q e p = cc

pub where_false : (b : Bool) (P Q : Type 0) → b ≡ false → Q → MatchBool b P Q
where_false true P Q e q = cc
where_false false P Q e q = q

right_more : (b : Bool) (rest : List Ask) (events second : List HostEvent) (result : Result (Unit {0}) BootError) (error : BootError) (reason : ℕ)
    → MatchBool b ((events ≡ []) × (the_ok ≡ the_ok)) (Terminates reason events × (the_ok ≡ Err error)) → Asks rest second result
    → MatchBool b (Asks rest (events ++ second) result) (Terminates reason (events ++ second) × (result ≡ Err error))
right_more true rest events second result error reason h k = subst (λ first. Asks rest (first ++ second) result) (sym h.0) k
right_more false rest events second result error reason h k = cc (h.1)

-- a request that is answered right, and the others
pub asks_more : (ask : Ask) (rest : List Ask) (first second : List HostEvent) (result : Result (Unit {0}) BootError) → Asks (ask ∷ []) first (Ok tt) → Asks rest second result → Asks (ask ∷ rest) (first ++ second) result
asks_more ask rest [] second result h k = absurd h
asks_more ask rest (exited sent got ∷ events) second result h k = absurd h
asks_more ask rest (asked sent got ∷ events) second result h k = (h.0, right_more (is_right ask got) rest events second result (Msr sent got) ask.reason h.1 k)

refused_stops : (b : Bool) (rest : List Ask) (events : List HostEvent) (e error : BootError) (reason : ℕ)
    → MatchBool b ((events ≡ []) × (the_err e ≡ Ok tt)) (Terminates reason events × (the_err e ≡ Err error))
    → MatchBool b (Asks rest events (Err e)) (Terminates reason events × (the_err e ≡ Err error))
refused_stops true rest events e error reason h = cc (h.1)
refused_stops false rest events e error reason h = h

-- a request that is not
pub asks_stop : (ask : Ask) (rest : List Ask) (first : List HostEvent) (e : BootError) → Asks (ask ∷ []) first (Err e) → Asks (ask ∷ rest) first (Err e)
asks_stop ask rest [] e h = absurd h
asks_stop ask rest (exited sent got ∷ events) e h = absurd h
asks_stop ask rest (asked sent got ∷ events) e h = (h.0, refused_stops (is_right ask got) rest events e (Msr sent got) ask.reason h.1)

-- at a place in a list of requests
pub front_stop : (asks : List Ask) (i : ℕ) (d : Ask) (first : List HostEvent) (given : Result (Unit {0}) BootError) (e : BootError) → i < length asks → given ≡ Err e → Asks (get_or asks i d ∷ []) first given → Asks (drop i asks) first (Err e)
front_stop asks i d first given e low is h =
    subst (λ rest. Asks rest first (Err e)) (sym (drop_next asks i d low))
    (asks_stop (get_or asks i d) (drop (i + 1) asks) first e (subst (λ r. Asks (get_or asks i d ∷ []) first r) is h))

pub front_more : (asks : List Ask) (i : ℕ) (d : Ask) (first second : List HostEvent) (given result : Result (Unit {0}) BootError) → i < length asks → given ≡ Ok tt → Asks (get_or asks i d ∷ []) first given → Asks (drop (i + 1) asks) second result → Asks (drop i asks) (first ++ second) result
front_more asks i d first second given result low is h k =
    subst (λ rest. Asks rest (first ++ second) result) (sym (drop_next asks i d low))
    (asks_more (get_or asks i d) (drop (i + 1) asks) first second result (subst (λ r. Asks (get_or asks i d ∷ []) first r) is h) k)

pub none_left : (asks : List Ask) (i : ℕ) → length asks ≤ i → Asks (drop i asks) [] (Ok tt)
none_left asks i high = subst (λ rest. Asks rest [] (Ok tt)) (sym (drop_all i asks high)) (refl, refl)

-- one list of requests after another

left_on : (b : Bool) (asks others : List Ask) (events second : List HostEvent) (result : Result (Unit {0}) BootError) (error : BootError) (reason : ℕ)
    → (Asks asks events (Ok tt) → Asks (asks ++ others) (events ++ second) result)
    → MatchBool b (Asks asks events (Ok tt)) (Terminates reason events × (the_ok ≡ Err error)) → MatchBool b (Asks (asks ++ others) (events ++ second) result) (Terminates reason (events ++ second) × (result ≡ Err error))
left_on true asks others events second result error reason on h = on h
left_on false asks others events second result error reason on h = cc (h.1)

pub asks_then : (asks others : List Ask) (first second : List HostEvent) (result : Result (Unit {0}) BootError) → Asks asks first (Ok tt) → Asks others second result → Asks (asks ++ others) (first ++ second) result
asks_then [] others first second result h k = subst (λ events. Asks others (events ++ second) result) (sym h.0) k
asks_then (ask ∷ asks) others [] second result h k = absurd h
asks_then (ask ∷ asks) others (exited sent got ∷ events) second result h k = absurd h
asks_then (ask ∷ asks) others (asked sent got ∷ events) second result h k =
    (h.0, left_on (is_right ask got) asks others events second result (Msr sent got) ask.reason (λ rest. asks_then asks others events second result rest k) h.1)

left_stops : (b : Bool) (asks others : List Ask) (events : List HostEvent) (e error : BootError) (reason : ℕ)
    → (Asks asks events (Err e) → Asks (asks ++ others) events (Err e))
    → MatchBool b (Asks asks events (Err e)) (Terminates reason events × (the_err e ≡ Err error)) → MatchBool b (Asks (asks ++ others) events (Err e)) (Terminates reason events × (the_err e ≡ Err error))
left_stops true asks others events e error reason on h = on h
left_stops false asks others events e error reason on h = h

pub asks_end : (asks others : List Ask) (first : List HostEvent) (e : BootError) → Asks asks first (Err e) → Asks (asks ++ others) first (Err e)
asks_end [] others first e h = cc (h.1)
asks_end (ask ∷ asks) others [] e h = absurd h
asks_end (ask ∷ asks) others (exited sent got ∷ events) e h = absurd h
asks_end (ask ∷ asks) others (asked sent got ∷ events) e h =
    (h.0, left_stops (is_right ask got) asks others events e (Msr sent got) ask.reason (λ rest. asks_end asks others events e rest) h.1)
