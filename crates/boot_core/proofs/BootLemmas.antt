-- The whole boot.
use Rattle.std.proofs.Common.{Bool, ◌≡◌, ℕ, Result, Ok, Err, List, [], ◌++◌, refl, sym, subst, inl, inr, append-nil}
use Rattle.svsm_types.specs.Pages.{region_of}
use Rattle.psc_batch.specs.Host.{HostEvent}
use Rattle.boot_core.specs.declared.error.BootError.{BootError}
use Rattle.boot_core.specs.Asks.{Asks, first_asks, last_asks}
use Rattle.boot_core.specs.Regions.{ChangesOne}
use Rattle.region_core.specs.Stands.{Seen}
use Rattle.boot_core.specs.Goes.{GoesAll}
use Rattle.boot_core.proofs.SaidLemmas.{asks_then, asks_end}
use Rattle.region_core.specs.Accepts.{Shares}
use Rattle.boot_core.specs.Goes.{GoesBoot}
use Rattle.boot_core.specs.Boots.{buffer_of}

pub refused_first : {A : Type 0} (see : A → Seen) (announce : Bool) (ghcb vmpl : ℕ) (batches : List (List ℕ)) (page : List ℕ) (events : List HostEvent) (given : Result (Unit {0}) BootError) (error : BootError) (old : List A) → given ≡ Err error → Asks (first_asks announce ghcb) events given → GoesBoot see announce ghcb vmpl batches page events (Err error) old old
refused_first see announce ghcb vmpl batches page events given error old is asks = record {
  first = events;
  second = [];
  answer = Err error;
  said = sym (append-nil events);
  asks = asks_end (first_asks announce ghcb) (last_asks announce ghcb) events error (subst (λ g. Asks (first_asks announce ghcb) events g) is asks);
  then = (refl, (refl, inl refl));
}

pub refused_last : {A : Type 0} (see : A → Seen) (announce : Bool) (ghcb vmpl : ℕ) (batches : List (List ℕ)) (page : List ℕ) (first last : List HostEvent) (fine given : Result (Unit {0}) BootError) (error : BootError) (old new : List A) → fine ≡ Ok tt → Asks (first_asks announce ghcb) first fine → ChangesOne see (region_of ghcb) (Shares ghcb) old new → given ≡ Err error → Asks (last_asks announce ghcb) last given → GoesBoot see announce ghcb vmpl batches page (first ++ last) (Err error) old new
refused_last see announce ghcb vmpl batches page first last fine given error old new well before shares is asks = record {
  first = first ++ last;
  second = [];
  answer = Err error;
  said = sym (append-nil (first ++ last));
  asks = asks_then (first_asks announce ghcb) (last_asks announce ghcb) first last (Err error) (subst (λ g. Asks (first_asks announce ghcb) first g) well before) (subst (λ g. Asks (last_asks announce ghcb) last g) is asks);
  then = (refl, (refl, inr shares));
}

pub asked_boot : {A : Type 0} (see : A → Seen) (announce : Bool) (ghcb vmpl : ℕ) (batches : List (List ℕ)) (page : List ℕ) (first last second : List HostEvent) (fine given result : Result (Unit {0}) BootError) (old mid new : List A) → fine ≡ Ok tt → Asks (first_asks announce ghcb) first fine → given ≡ Ok tt → Asks (last_asks announce ghcb) last given → ChangesOne see (region_of ghcb) (Shares ghcb) old mid → GoesAll see vmpl (buffer_of ghcb) batches page second result mid new → GoesBoot see announce ghcb vmpl batches page ((first ++ last) ++ second) result old new
asked_boot see announce ghcb vmpl batches page first last second fine given result old mid new well before is asks shares goes = record {
  first = first ++ last;
  second = second;
  answer = Ok tt;
  said = refl;
  asks = asks_then (first_asks announce ghcb) (last_asks announce ghcb) first last (Ok tt) (subst (λ g. Asks (first_asks announce ghcb) first g) well before) (subst (λ g. Asks (last_asks announce ghcb) last g) is asks);
  then = (mid, shares, goes);
}
