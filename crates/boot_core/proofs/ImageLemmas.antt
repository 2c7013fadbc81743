-- The boot of an image that has all that a boot needs.
use Rattle.std.proofs.Common.{◌≡◌, ℕ, ◌*◌, ◌^◌, ◌<◌, ◌≤◌, Result, Ok, Err, OnOk, List, [], All, length, map, get_or, replicate, refl, ◌∙◌, sym, subst, arith}
use Rattle.std.specs.Prelude.{MatchResult}
use Rattle.std.specs.List.{AllByRecursion, flat_map}
use Rattle.std.proofs.lemmas.List.Elements.{recursion_from_All}
use Rattle.svsm_types.specs.Pages.{region_of}
use Rattle.svsm_types.specs.declared.image.Image.{Image}
use Rattle.svsm_types.specs.declared.platform.Size.{Size}
use Rattle.svsm_steps.specs.Image.{image_state, accepted, booted, booted_numbers, accept_entries}
use Rattle.region_core.specs.Accepts.{Shares}
use Rattle.region_core.specs.Stands.{Seen, Each, Stands, fresh_numbers}
use Rattle.psc_batch.specs.Host.{HostEvent}
use Rattle.psc_batch.specs.Entries.{entry_words, IsLow}
use Rattle.boot_core.specs.declared.error.BootError.{BootError}
use Rattle.boot_core.specs.Entries.{decoded_entry, image_batches}
use Rattle.boot_core.specs.Regions.{ChangesOne, TellsStill}
use Rattle.boot_core.specs.Goes.{GoesAll, MayShare, GoesBoot}
use Rattle.boot_core.specs.Faults.{numbers_by, shared_state}
use Rattle.boot_core.specs.Boots.{buffer_of, blank_page}
use Rattle.boot_core.proofs.SaidLemmas.{the_ok}
use Rattle.boot_core.proofs.StateLemmas.{share_stands, IsWithin}
use Rattle.boot_core.proofs.NumberLemmas.{counted_numbers, numbers_are, with_numbers}
use Rattle.boot_core.proofs.DecodeLemmas.{IsIn, words_in, batches_in, all_batches, decoded_words}
use Rattle.boot_core.proofs.TellLemmas.{tell_on, share_tells}
use Rattle.boot_core.proofs.WentLemmas.{goes_stand, goes_tell}

-- what a boot needs of an image; a sound one has it
pub record IsBootable (image : Image) : Type 0 where
  pub regions : image.regions ≤ 512
  pub ghcb : image.ghcb.0 < 512 * image.regions
  pub spans : All IsLow image.accepts
  pub entries : All (λ entry. entry.0 < 512 * image.regions) (accept_entries image)
  pub few : 5 * length (accept_entries image) < 2 ^ 64

pub boot_within : (image : Image) (count : ℕ) (batches : List (List ℕ)) → IsBootable image → count ≡ image.regions → batches ≡ image_batches image → All (λ batch. All (IsIn count) batch) batches
boot_within image count batches able same is =
    subst (λ bs. All (λ b. All (IsIn count) b) bs) (sym is)
    (batches_in count (entry_words image.accepts) (words_in count (accept_entries image) (omega (arith, able.regions, same))
    (subst (λ n. All (λ (entry : ℕ × Size). entry.0 < 512 * n) (accept_entries image)) (sym same) able.entries)))

blank_is : (page : List ℕ) → page ≡ replicate 4096 0 → page ≡ blank_page
unfolding blank_page
blank_is page e = e

pub of_image : {A : Type 0} (see : A → Seen) (image : Image) (batches : List (List ℕ)) (page : List ℕ) (events : List HostEvent) (result : Result (Unit {0}) BootError) (old new : List A) → page ≡ replicate 4096 0 → batches ≡ image_batches image → GoesBoot see image.announce image.ghcb.0 image.vmpl.0 batches page events result old new → GoesBoot see image.announce image.ghcb.0 image.vmpl.0 (image_batches image) blank_page events result old new
of_image see image batches page events result old new blank is h =
    subst (λ bs. GoesBoot see image.announce image.ghcb.0 image.vmpl.0 bs blank_page events result old new) is
    (subst (λ p. GoesBoot see image.announce image.ghcb.0 image.vmpl.0 batches p events result old new) (blank_is page blank) h)

low_entries : (image : Image) → IsBootable image → AllByRecursion (λ (entry : ℕ × Size). entry.0 < 2 ^ 40) (accept_entries image)
low_entries image able = recursion_from_All (λ (entry : ℕ × Size). entry.0 < 2 ^ 40) (accept_entries image) (λ k d within.
    let page : (get_or (accept_entries image) k d).0 < 512 * image.regions = able.entries k d within in
    omega (arith, able.regions, page))

pub entries_again : (image : Image) → IsBootable image → flat_map (λ batch. map decoded_entry batch) (image_batches image) ≡ accept_entries image
entries_again image able = all_batches (entry_words image.accepts) ∙ decoded_words (accept_entries image) (low_entries image able)

pub nested : (count : ℕ) (batches : List (List ℕ)) → All (λ batch. All (IsIn count) batch) batches → AllByRecursion (λ batch. AllByRecursion (IsWithin count) batch) batches
nested count batches all = recursion_from_All (λ batch. AllByRecursion (IsWithin count) batch) batches (λ k d within. recursion_from_All (IsIn count) (get_or batches k d) (all k d within))

after_asks : {A : Type 0} (see : A → Seen) (image : Image) (second : List HostEvent) (old new : List A) (answer : Result (Unit {0}) BootError)
    → MatchResult answer (λ _. (mid : List A) × ChangesOne see (region_of image.ghcb.0) (Shares image.ghcb.0) old mid × GoesAll see image.vmpl.0 (buffer_of image.ghcb.0) (image_batches image) blank_page second (Ok tt) mid new) (λ error. (second ≡ []) × ((the_ok ≡ Err error) × MayShare see image.ghcb.0 old new))
    → (mid : List A) × ChangesOne see (region_of image.ghcb.0) (Shares image.ghcb.0) old mid × GoesAll see image.vmpl.0 (buffer_of image.ghcb.0) (image_batches image) blank_page second (Ok tt) mid new
after_asks see image second old new (Ok done) h = h
after_asks see image second old new (Err error) h = cc (h.1.0)

pub boot_stands : {A : Type 0} (see : A → Seen) (image : Image) (events : List HostEvent) (result : Result (Unit {0}) BootError) (old new : List A) → IsBootable image → length old ≡ image.regions
    → Each see old (Stands (image_state image) (fresh_numbers image)) → GoesBoot see image.announce image.ghcb.0 image.vmpl.0 (image_batches image) blank_page events result old new
    → OnOk result (Each see new (Stands (booted image) (booted_numbers image)))
boot_stands see image events (Err error) old new able count stand h = tt
boot_stands see image events (Ok done) old new able count stand h =
    let after = after_asks see image h.second old new h.answer h.then in
    let low : region_of image.ghcb.0 < length old = omega (arith, able.ghcb, count) in
    let shared = share_stands see image.ghcb.0 old after.0 (image_state image) (fresh_numbers image) stand low after.1 in
    let within = boot_within image (length after.0) (image_batches image) able (after.1.count ∙ count) refl in
    let here = goes_stand see image.vmpl.0 (buffer_of image.ghcb.0) (image_batches image) blank_page h.second after.0 new (shared_state image) (fresh_numbers image) shared (nested (length after.0) (image_batches image) within) after.2 in
    with_numbers see (booted image) (counted_numbers image) (booted_numbers image) new (numbers_are image able.few)
    (subst (λ (entries : List (ℕ × Size)). Each see new (Stands (accepted image.vmpl.0 entries (shared_state image)) (numbers_by image.vmpl.0 entries (fresh_numbers image)))) (entries_again image able) here)

pub boot_tells : {A : Type 0} (see : A → Seen) (image : Image) (events : List HostEvent) (result : Result (Unit {0}) BootError) (old new : List A)
    → GoesBoot see image.announce image.ghcb.0 image.vmpl.0 (image_batches image) blank_page events result old new → OnOk result (TellsStill see old new)
boot_tells see image events (Err error) old new h = tt
boot_tells see image events (Ok done) old new h =
    let after = after_asks see image h.second old new h.answer h.then in
    tell_on see old after.0 new after.1.count (share_tells see image.ghcb.0 old after.0 after.1)
    (goes_tell see image.vmpl.0 (buffer_of image.ghcb.0) (image_batches image) blank_page h.second after.0 new after.2)
