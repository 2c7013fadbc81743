-- The counts of faults over a boot.
use Rattle.std.proofs.Common.{◌≡◌, ℕ, Bool, true, false, Result, Ok, Err, List, [], ◌∷◌, length, ◌∙◌, sym, ap, subst, arith, inl, inr}
use Rattle.std.specs.Prelude.{MatchResult, MatchBool}
use Rattle.std.proofs.lemmas.Bool.{cases_eq}
use Rattle.svsm_types.specs.Pages.{region_of}
use Rattle.svsm_types.specs.declared.address.Page.{Page}
use Rattle.platform_trait.specs.Known.{Rose}
use Rattle.psc_batch.specs.declared.error.PscError.{PscError}
use Rattle.psc_batch.specs.Host.{HostEvent, asked, exited}
use Rattle.boot_core.specs.declared.asks.Ask.{Ask}
use Rattle.boot_core.specs.declared.error.BootError.{BootError}
use Rattle.boot_core.specs.declared.error.BootError.TheVariants.{Msr, Psc, Fault, NoMemory}
use Rattle.boot_core.specs.Asks.{Terminates, Asks, asks_of, is_right}
use Rattle.boot_core.specs.Regions.{ChangesOne, AcceptsOne, AcceptsAll}
use Rattle.boot_core.specs.Entries.{decoded_entry}
use Rattle.region_core.specs.Stands.{Seen}
use Rattle.boot_core.specs.Goes.{Accepted, GoesAll}
use Rattle.region_core.specs.Accepts.{Shares}
use Rattle.boot_core.specs.Goes.{MayShare, GoesBoot}
use Rattle.boot_core.specs.Boots.{buffer_of}
use Rattle.boot_core.specs.Regions.{faults_at, Still, RoseAt, CountsBy}
use Rattle.boot_core.proofs.SaidLemmas.{the_err}
use Rattle.boot_core.proofs.StateLemmas.{all_count}

still_self : {A : Type 0} (see : A → Seen) (old new : List A) → new ≡ old → Still see old new
still_self see old new e number none low = ap (λ regions. faults_at see regions number none) e

-- one after another

still_on : {A : Type 0} (see : A → Seen) (old mid new : List A) → length mid ≡ length old → Still see old mid → Still see mid new → Still see old new
still_on see old mid new count a b number none low = b number none (omega (arith, count)) ∙ a number none low

counts_on : {A : Type 0} (see : A → Seen) (old mid new : List A) (result : Result (Unit {0}) BootError) → length mid ≡ length old → Still see old mid → CountsBy see mid new result → CountsBy see old new result
counts_on see old mid new (Ok done) count a b = still_on see old mid new count a b
counts_on see old mid new (Err (Msr sent got)) count a b = still_on see old mid new count a b
counts_on see old mid new (Err (Psc error)) count a b = still_on see old mid new count a b
counts_on see old mid new (Err NoMemory) count a b = still_on see old mid new count a b
counts_on see old mid new (Err (Fault page)) count a b = λ none low.
    subst (λ n. Rose n (faults_at see new (region_of page.0) none)) (a (region_of page.0) none low) (b none (omega (arith, count)))

still_one : {A : Type 0} (see : A → Seen) (at : ℕ) (Changes : Seen → Seen → Type 0) (old new : List A) → ((a b : Seen) → Changes a b → b.known.faults ≡ a.known.faults) → ChangesOne see at Changes old new → Still see old new
still_one see at Changes old new keeps change number none low =
    elim (cases_eq number at) [
      | inl same ↦ subst (λ k. faults_at see new k none ≡ faults_at see old k none) (sym same) (keeps _ _ (change.here none))
      | inr differs ↦ ap (λ (x : _). (see x).known.faults) (change.others number none differs)
    ]

abbrev EntriesCount : {A : Type 0} → (A → Seen) → List A → List A → Result (Unit {0}) Page → Type 0
EntriesCount see old new (Ok done) = Still see old new
EntriesCount see old new (Err page) = RoseAt see page.0 old new

entries_on : {A : Type 0} (see : A → Seen) (old mid new : List A) (result : Result (Unit {0}) Page) → length mid ≡ length old → Still see old mid → EntriesCount see mid new result → EntriesCount see old new result
entries_on see old mid new (Ok done) count a b = still_on see old mid new count a b
entries_on see old mid new (Err page) count a b = λ none low.
    subst (λ n. Rose n (faults_at see new (region_of page.0) none)) (a (region_of page.0) none low) (b none (omega (arith, count)))

entries_count : {A : Type 0} (see : A → Seen) (vmpl : ℕ) (words : List ℕ) (result : Result (Unit {0}) Page) (old new : List A) → AcceptsAll see vmpl words result old new → EntriesCount see old new result
entries_count see vmpl [] result old new h = subst (λ r. EntriesCount see old new r) (sym h.1) (still_self see old new h.0)
entries_count see vmpl (word ∷ words) result old new (mid, Err fault, change, rest) =
    subst (λ r. EntriesCount see old new r) (sym rest.1) (λ none low. subst (λ regions. Rose (faults_at see old (region_of (decoded_entry word).0) none) (faults_at see regions (region_of (decoded_entry word).0) none)) (sym rest.0) (change.here none).faults)
entries_count see vmpl (word ∷ words) result old new (mid, Ok done, change, rest) =
    entries_on see old mid new result change.count (still_one see (region_of (decoded_entry word).0) (AcceptsOne vmpl (decoded_entry word) (Ok tt)) old mid (λ a b h. h.faults) change)
    (entries_count see vmpl words result mid new rest)

accepted_count : {A : Type 0} (see : A → Seen) (events : List HostEvent) (result : Result (Unit {0}) BootError) (old new : List A) (given : Result (Unit {0}) Page) → EntriesCount see old new given → MatchResult given (λ _. (events ≡ []) × (result ≡ Ok tt)) (λ page. Terminates 0 events × (result ≡ Err (Fault page))) → CountsBy see old new result
accepted_count see events result old new (Ok done) counts said = subst (λ r. CountsBy see old new r) (sym said.1) counts
accepted_count see events result old new (Err page) counts said = subst (λ r. CountsBy see old new r) (sym said.1) counts

batch_count : {A : Type 0} (see : A → Seen) (vmpl : ℕ) (batch : List ℕ) (rest : List HostEvent) (result : Result (Unit {0}) BootError) (old new : List A) (answer : Result (Unit {0}) PscError) → MatchResult answer (λ _. Accepted see vmpl batch rest result old new) (λ error. (new ≡ old) × (Terminates 0 rest × (result ≡ Err (Psc error)))) → (CountsBy see old new result) × (length new ≡ length old)
batch_count see vmpl batch rest result old new (Ok done) h = (accepted_count see rest result old new h.given (entries_count see vmpl batch h.given old new h.accepts) h.said, all_count see vmpl batch h.given old new h.accepts)
batch_count see vmpl batch rest result old new (Err error) h = (subst (λ r. CountsBy see old new r) (sym h.1.1) (still_self see old new h.0), ap length h.0)

goes_count : {A : Type 0} (see : A → Seen) (vmpl buffer : ℕ) (batches : List (List ℕ)) (page : List ℕ) (events : List HostEvent) (result : Result (Unit {0}) BootError) (old new : List A) → GoesAll see vmpl buffer batches page events result old new → CountsBy see old new result
goes_count see vmpl buffer [] page events result old new h = subst (λ r. CountsBy see old new r) (sym h.1.0) (still_self see old new h.1.1)
goes_count see vmpl buffer (batch ∷ batches) page events result old new (here, rest, left, Err error, mid, said, goes, others) =
    subst (λ r. CountsBy see old new r) (sym others.1.0) (subst (λ regions. CountsBy see old regions (Err error)) (sym others.1.1) (batch_count see vmpl batch goes.rest (Err error) old mid goes.answer goes.then).0)
goes_count see vmpl buffer (batch ∷ batches) page events result old new (here, rest, left, Ok done, mid, said, goes, others) =
    let here = batch_count see vmpl batch goes.rest (Ok tt) old mid goes.answer goes.then in
    counts_on see old mid new result here.1 here.0 (goes_count see vmpl buffer batches left rest result mid new others)

by_answer : {A : Type 0} (see : A → Seen) (old new : List A) (b : Bool) (asks : List Ask) (events : List HostEvent) (error : BootError) (sent got reason : ℕ) → Still see old new → (Asks asks events (Err error) → CountsBy see old new (Err error)) → MatchBool b (Asks asks events (Err error)) (Terminates reason events × (the_err error ≡ Err (Msr sent got))) → CountsBy see old new (Err error)
by_answer see old new true asks events error sent got reason still before k = before k
by_answer see old new false asks events error sent got reason still before k = subst (λ r. CountsBy see old new r) (sym k.1) still

asks_count : {A : Type 0} (see : A → Seen) (old new : List A) (asks : List Ask) (events : List HostEvent) (error : BootError) → Still see old new → Asks asks events (Err error) → CountsBy see old new (Err error)
asks_count see old new [] events error still h = cc (h.1)
asks_count see old new (ask ∷ asks) [] error still h = absurd h
asks_count see old new (ask ∷ asks) (exited sent got ∷ events) error still h = absurd h
asks_count see old new (ask ∷ asks) (asked sent got ∷ events) error still h = by_answer see old new (is_right ask got) asks events error sent got ask.reason still (asks_count see old new asks events error still) h.1

may_still : {A : Type 0} (see : A → Seen) (ghcb : ℕ) (old new : List A) → MayShare see ghcb old new → Still see old new
may_still see ghcb old new (inl same) = still_self see old new same
may_still see ghcb old new (inr change) = still_one see (region_of ghcb) (Shares ghcb) old new (λ a b share. share.faults) change

then_count : {A : Type 0} (see : A → Seen) (announce : Bool) (ghcb vmpl : ℕ) (batches : List (List ℕ)) (page : List ℕ) (first second : List HostEvent) (result : Result (Unit {0}) BootError) (old new : List A) (answer : Result (Unit {0}) BootError) → Asks (asks_of announce ghcb) first answer
    → MatchResult answer (λ _. (mid : List A) × ChangesOne see (region_of ghcb) (Shares ghcb) old mid × GoesAll see vmpl (buffer_of ghcb) batches page second result mid new) (λ error. (second ≡ []) × ((result ≡ Err error) × MayShare see ghcb old new))
    → CountsBy see old new result
then_count see announce ghcb vmpl batches page first second result old new (Err error) asks h =
    subst (λ r. CountsBy see old new r) (sym h.1.0) (asks_count see old new (asks_of announce ghcb) first error (may_still see ghcb old new h.1.1) asks)
then_count see announce ghcb vmpl batches page first second result old new (Ok done) asks h =
    counts_on see old h.0 new result h.1.count (still_one see (region_of ghcb) (Shares ghcb) old h.0 (λ a b share. share.faults) h.1) (goes_count see vmpl (buffer_of ghcb) batches page second result h.0 new h.2)

pub boot_counts : {A : Type 0} (see : A → Seen) (announce : Bool) (ghcb vmpl : ℕ) (batches : List (List ℕ)) (page : List ℕ) (events : List HostEvent) (result : Result (Unit {0}) BootError) (old new : List A) → GoesBoot see announce ghcb vmpl batches page events result old new → CountsBy see old new result
boot_counts see announce ghcb vmpl batches page events result old new h = then_count see announce ghcb vmpl batches page h.first h.second result old new h.answer h.asks h.then
