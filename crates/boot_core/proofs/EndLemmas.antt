-- What is said in a boot, and how it ends, without the regions.
use Rattle.std.proofs.Common.{◌≡◌, ℕ, ◌<◌, Option, None, Result, Ok, Err, List, [], ◌∷◌, length, map, refl, ◌∙◌, sym, subst, arith, inl, inr}
use Rattle.std.specs.Prelude.{MatchResult}
use Rattle.std.specs.List.{AllByRecursion}
use Rattle.svsm_types.specs.Numbers.{Numbers}
use Rattle.svsm_types.specs.Pages.{region_of}
use Rattle.svsm_types.specs.declared.address.Page.{Page}
use Rattle.svsm_types.specs.declared.image.Image.{Image}
use Rattle.svsm_steps.specs.State.{State}
use Rattle.svsm_steps.specs.Image.{image_state}
use Rattle.region_core.specs.Accepts.{Shares}
use Rattle.region_core.specs.Stands.{Seen, Each, Stands, Tells, fresh_numbers}
use Rattle.psc_batch.specs.declared.error.PscError.{PscError}
use Rattle.psc_batch.specs.Host.{HostEvent}
use Rattle.boot_core.specs.declared.error.BootError.{BootError}
use Rattle.boot_core.specs.declared.error.BootError.TheVariants.{Psc, Fault}
use Rattle.boot_core.specs.Asks.{Terminates}
use Rattle.boot_core.specs.Entries.{decoded_entry, image_batches, IsFaultIn, AreFaultsIn}
use Rattle.boot_core.specs.Regions.{ChangesOne, AcceptsAll}
use Rattle.boot_core.specs.Goes.{Accepted, GoesBatch, GoesAll, MayShare, GoesBoot}
use Rattle.boot_core.specs.Faults.{first_fault, batch_faults, shared_state, image_faults}
use Rattle.boot_core.specs.Boots.{AcceptsEnd, BatchEnds, BatchesEnd, SaidBy, SaidAsDue, buffer_of, blank_page}
use Rattle.boot_core.proofs.StateLemmas.{all_stand, all_count, share_stands, IsWithin}
use Rattle.boot_core.proofs.TellLemmas.{page_of_fault, all_due, all_tell, share_tells, each_tells}
use Rattle.boot_core.proofs.WentLemmas.{went_well}
use Rattle.boot_core.proofs.ImageLemmas.{IsBootable, boot_within, nested}

by_given : (given : Result (Unit {0}) Page) (events : List HostEvent) (result : Result (Unit {0}) BootError) → MatchResult given (λ _. (events ≡ []) × (result ≡ Ok tt)) (λ page. Terminates 0 events × (result ≡ Err (Fault page))) → AcceptsEnd (page_of_fault given) events result
by_given (Ok done) events result h = h
by_given (Err page) events result h = h

-- OVER ANY PLATFORMS

given_in : {A : Type 0} (see : A → Seen) (vmpl : ℕ) (words : List ℕ) (given : Result (Unit {0}) Page) (old new : List A) → AcceptsAll see vmpl words given old new → IsFaultIn words (page_of_fault given)
given_in see vmpl words (Ok done) old new h = tt
given_in see vmpl [] (Err page) old new h = cc (h.1)
given_in see vmpl (word ∷ words) (Err page) old new (mid, Err fault, change, rest) = inl (cc (rest.1))
given_in see vmpl (word ∷ words) (Err page) old new (mid, Ok done, change, rest) = inr (given_in see vmpl words (Err page) mid new rest)

then_said : {A : Type 0} (see : A → Seen) (vmpl : ℕ) (batch : List ℕ) (rest : List HostEvent) (result : Result (Unit {0}) BootError) (old new : List A) (answer : Result (Unit {0}) PscError)
    → MatchResult answer (λ _. Accepted see vmpl batch rest result old new) (λ error. (new ≡ old) × (Terminates 0 rest × (result ≡ Err (Psc error))))
    → (fault : Option Page) × IsFaultIn batch fault × MatchResult answer (λ _. AcceptsEnd fault rest result) (λ error. Terminates 0 rest × (result ≡ Err (Psc error)))
then_said see vmpl batch rest result old new (Ok done) h = (page_of_fault h.given, given_in see vmpl batch h.given old new h.accepts, by_given h.given rest result h.said)
then_said see vmpl batch rest result old new (Err error) h = (None, tt, h.1)

batch_said : {A : Type 0} (see : A → Seen) (vmpl buffer : ℕ) (batch page left : List ℕ) (events : List HostEvent) (result : Result (Unit {0}) BootError) (old new : List A) → GoesBatch see vmpl buffer batch page left events result old new
    → (fault : Option Page) × IsFaultIn batch fault × BatchEnds buffer batch page left fault events result
batch_said see vmpl buffer batch page left events result old new h =
    let then = then_said see vmpl batch h.rest result old new h.answer h.then in
    (then.0, then.1, record { exchange = h.exchange; rest = h.rest; answer = h.answer; said = h.said; exchanged = h.exchanged; then = then.2 })

no_faults : List (List ℕ) → List (Option Page)
no_faults [] = []
no_faults (batch ∷ batches) = None ∷ no_faults batches

no_faults_in : (batches : List (List ℕ)) → AreFaultsIn batches (no_faults batches)
unfolding no_faults
no_faults_in [] = tt
no_faults_in (batch ∷ batches) = (tt, no_faults_in batches)

batches_said : {A : Type 0} (see : A → Seen) (vmpl buffer : ℕ) (batches : List (List ℕ)) (page : List ℕ) (events : List HostEvent) (result : Result (Unit {0}) BootError) (old new : List A) → GoesAll see vmpl buffer batches page events result old new
    → (faults : List (Option Page)) × AreFaultsIn batches faults × BatchesEnd buffer batches faults page events result
batches_said see vmpl buffer [] page events result old new h = ([], tt, (h.0, h.1.0))
batches_said see vmpl buffer (batch ∷ batches) page events result old new (here, rest, left, Ok done, mid, said, goes, others) =
    let one = batch_said see vmpl buffer batch page left here (Ok tt) old mid goes in
    let more = batches_said see vmpl buffer batches left rest result mid new others in
    (one.0 ∷ more.0, (one.1, more.1), (here, rest, left, Ok done, said, one.2, more.2))
batches_said see vmpl buffer (batch ∷ batches) page events result old new (here, rest, left, Err error, mid, said, goes, others) =
    let one = batch_said see vmpl buffer batch page left here (Err error) old mid goes in
    (one.0 ∷ no_faults batches, (one.1, no_faults_in batches), (here, rest, left, Err error, said, one.2, (others.0, others.1.0)))

boot_then : {A : Type 0} (see : A → Seen) (image : Image) (second : List HostEvent) (result : Result (Unit {0}) BootError) (old new : List A) (answer : Result (Unit {0}) BootError)
    → MatchResult answer (λ _. (mid : List A) × ChangesOne see (region_of image.ghcb.0) (Shares image.ghcb.0) old mid × GoesAll see image.vmpl.0 (buffer_of image.ghcb.0) (image_batches image) blank_page second result mid new) (λ error. (second ≡ []) × ((result ≡ Err error) × MayShare see image.ghcb.0 old new))
    → (faults : List (Option Page)) × AreFaultsIn (image_batches image) faults × MatchResult answer (λ _. BatchesEnd (buffer_of image.ghcb.0) (image_batches image) faults blank_page second result) (λ error. (second ≡ []) × (result ≡ Err error))
boot_then see image second result old new (Ok done) h = batches_said see image.vmpl.0 (buffer_of image.ghcb.0) (image_batches image) blank_page second result h.0 new h.2
boot_then see image second result old new (Err error) h = (no_faults (image_batches image), no_faults_in (image_batches image), (h.0, h.1.0))

pub boot_said : {A : Type 0} (see : A → Seen) (image : Image) (events : List HostEvent) (result : Result (Unit {0}) BootError) (old new : List A) → GoesBoot see image.announce image.ghcb.0 image.vmpl.0 (image_batches image) blank_page events result old new → SaidBy image events result
boot_said see image events result old new h =
    let then = boot_then see image h.second result old new h.answer h.then in
    inr (then.0, then.1, record { first = h.first; second = h.second; answer = h.answer; said = h.said; asks = h.asks; then = then.2 })

-- OVER PLATFORMS THAT TELL THEIR NUMBERS

then_due : {A : Type 0} (see : A → Seen) (vmpl : ℕ) (batch : List ℕ) (rest : List HostEvent) (result : Result (Unit {0}) BootError) (old new : List A) (answer : Result (Unit {0}) PscError) (state : State) (numbers : ℕ → Numbers) (none : A)
    → Each see old (Stands state numbers) → Each see old Tells → AllByRecursion (IsWithin (length old)) batch
    → MatchResult answer (λ _. Accepted see vmpl batch rest result old new) (λ error. (new ≡ old) × (Terminates 0 rest × (result ≡ Err (Psc error))))
    → MatchResult answer (λ _. AcceptsEnd (first_fault vmpl (map decoded_entry batch) numbers state) rest result) (λ error. Terminates 0 rest × (result ≡ Err (Psc error)))
then_due see vmpl batch rest result old new (Err error) state numbers none stand tells within h = h.1
then_due see vmpl batch rest result old new (Ok done) state numbers none stand tells within h =
    subst (λ due. AcceptsEnd due rest result) (sym (all_due see vmpl batch h.given old new state numbers none stand tells within h.accepts)) (by_given h.given rest result h.said)

batch_due : {A : Type 0} (see : A → Seen) (vmpl buffer : ℕ) (batch page left : List ℕ) (events : List HostEvent) (result : Result (Unit {0}) BootError) (old new : List A) (state : State) (numbers : ℕ → Numbers) (none : A)
    → Each see old (Stands state numbers) → Each see old Tells → AllByRecursion (IsWithin (length old)) batch → GoesBatch see vmpl buffer batch page left events result old new
    → BatchEnds buffer batch page left (first_fault vmpl (map decoded_entry batch) numbers state) events result
batch_due see vmpl buffer batch page left events result old new state numbers none stand tells within h = record {
  exchange = h.exchange;
  rest = h.rest;
  answer = h.answer;
  said = h.said;
  exchanged = h.exchanged;
  then = then_due see vmpl batch h.rest result old new h.answer state numbers none stand tells within h.then;
}

batches_due : {A : Type 0} (see : A → Seen) (vmpl buffer : ℕ) (batches : List (List ℕ)) (page : List ℕ) (events : List HostEvent) (result : Result (Unit {0}) BootError) (old new : List A) (state : State) (numbers : ℕ → Numbers) (none : A)
    → Each see old (Stands state numbers) → Each see old Tells → AllByRecursion (λ batch. AllByRecursion (IsWithin (length old)) batch) batches → GoesAll see vmpl buffer batches page events result old new
    → BatchesEnd buffer batches (batch_faults vmpl batches numbers state) page events result
batches_due see vmpl buffer [] page events result old new state numbers none stand tells within h = (h.0, h.1.0)
batches_due see vmpl buffer (batch ∷ batches) page events result old new state numbers none stand tells within (here, rest, left, Err error, mid, said, goes, others) =
    (here, rest, left, Err error, said, batch_due see vmpl buffer batch page left here (Err error) old mid state numbers none stand tells within.0 goes, (others.0, others.1.0))
batches_due see vmpl buffer (batch ∷ batches) page events result old new state numbers none stand tells within (here, rest, left, Ok done, mid, said, goes, others) =
    let well = went_well see vmpl batch goes.rest old mid goes.answer goes.then in
    let count = all_count see vmpl batch (Ok tt) old mid well in (
      here,
      rest,
      left,
      Ok done,
      said,
      batch_due see vmpl buffer batch page left here (Ok tt) old mid state numbers none stand tells within.0 goes,
      batches_due see vmpl buffer batches left rest result mid new _ _ none (all_stand see vmpl batch old mid state numbers stand within.0 well)
          (each_tells see old mid count (all_tell see vmpl batch old mid well) tells)
          (subst (λ n. AllByRecursion (λ b. AllByRecursion (IsWithin n) b) batches) (sym count) within.1) others,
    )

first_of : {A : Type 0} (xs : List A) → 0 < length xs → A
first_of [] low = absurd (omega (arith, low))
first_of (x ∷ xs) low = x

then_as_due : {A : Type 0} (see : A → Seen) (image : Image) (second : List HostEvent) (result : Result (Unit {0}) BootError) (old new : List A) (answer : Result (Unit {0}) BootError) → IsBootable image → length old ≡ image.regions
    → Each see old (Stands (image_state image) (fresh_numbers image)) → Each see old Tells
    → MatchResult answer (λ _. (mid : List A) × ChangesOne see (region_of image.ghcb.0) (Shares image.ghcb.0) old mid × GoesAll see image.vmpl.0 (buffer_of image.ghcb.0) (image_batches image) blank_page second result mid new) (λ error. (second ≡ []) × ((result ≡ Err error) × MayShare see image.ghcb.0 old new))
    → MatchResult answer (λ _. BatchesEnd (buffer_of image.ghcb.0) (image_batches image) (image_faults image) blank_page second result) (λ error. (second ≡ []) × (result ≡ Err error))
then_as_due see image second result old new (Err error) able count stand tells h = (h.0, h.1.0)
then_as_due see image second result old new (Ok done) able count stand tells h =
    let some : 0 < length old = omega (arith, able.ghcb, count) in
    let low : region_of image.ghcb.0 < length old = omega (arith, able.ghcb, count) in
    let shared = share_stands see image.ghcb.0 old h.0 (image_state image) (fresh_numbers image) stand low h.1 in
    let told = each_tells see old h.0 h.1.count (share_tells see image.ghcb.0 old h.0 h.1) tells in
    let within = boot_within image (length h.0) (image_batches image) able (h.1.count ∙ count) refl in
    batches_due see image.vmpl.0 (buffer_of image.ghcb.0) (image_batches image) blank_page second result h.0 new (shared_state image) (fresh_numbers image) (first_of old some) shared told (nested (length h.0) (image_batches image) within) h.2

pub boot_as_due : {A : Type 0} (see : A → Seen) (image : Image) (events : List HostEvent) (result : Result (Unit {0}) BootError) (old new : List A) → IsBootable image → length old ≡ image.regions
    → Each see old (Stands (image_state image) (fresh_numbers image)) → GoesBoot see image.announce image.ghcb.0 image.vmpl.0 (image_batches image) blank_page events result old new → Each see old Tells → SaidAsDue image events result
boot_as_due see image events result old new able count stand h tells = inr (record {
  first = h.first;
  second = h.second;
  answer = h.answer;
  said = h.said;
  asks = h.asks;
  then = then_as_due see image h.second result old new h.answer able count stand tells h.then;
})
