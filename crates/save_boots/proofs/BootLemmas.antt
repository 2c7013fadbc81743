-- The boot of an image that accepts nothing, against a host without lines.
use Rattle.std.proofs.Common.{◌≡◌, ◌≢◌, ℕ, ◌+◌, ◌*◌, ◌/◌, ◌%◌, ◌^◌, ◌<◌, Bool, true, false, List, [], ◌∷◌, ◌++◌, refl, sym, ap, ◌∙◌, subst, arith, append-nil, Result, Ok}
use Rattle.std.specs.Prelude.{if◌then◌else◌, ◌==◌, ◌&&◌, MatchBool, Option, Some, None}
use Rattle.std.proofs.lemmas.Bool.{eq-eqb, ne_eqb, ltb-true}
use Rattle.svsm_types.specs.declared.image.Image.{Image}
use Rattle.svsm_types.specs.declared.image.HostLine.{HostLine}
use Rattle.svsm_steps.specs.Sound.{IsSound}
use Rattle.ghcb_msr.specs.declared.request.MsrReply.TheVariants as Reply
use Rattle.ghcb_msr.specs.Msr.{bits}
use Rattle.psc_batch.specs.Entries.{entry_words, batches_of}
use Rattle.psc_batch.specs.Host.{HostEvent, asked, exited}
use Rattle.boot_core.specs.declared.error.BootError.{BootError}
use Rattle.boot_core.specs.Asks.{Asks, asks_of, is_met, is_met_if, is_right, Terminates}
use Rattle.boot_core.specs.Boots.{Boots, BatchesEnd, buffer_of, blank_page}
use Rattle.boot_core.specs.Entries.{image_batches}
use Rattle.boot_core.specs.Faults.{image_faults}
use Rattle.boot_core.specs.Sim.{sim_answer, host_of}
use Rattle.save_laws.proofs.SavedRuns.{saved_runs_come_back}
use Rattle.save_laws.specs.Saved.{last_state}
use Rattle.image_text.specs.Saved.{saved}
use Rattle.save_boots.specs.Boots.{QuietImagesBoot, SavedRunsBoot, BootsAgain}

-- WHAT IS SENT AND ANSWERED

abbrev share_sent : ℕ → ℕ
share_sent page = 0x014 + (page * 2 ^ 12 + 2 * 2 ^ 52)

abbrev ghcb_sent : ℕ → ℕ
ghcb_sent page = 0x012 + page * 2 ^ 12

shared : (page : ℕ) → sim_answer [] (share_sent page) ≡ 0x15
shared page =
    let info : (share_sent page == 0x002) ≡ false = ne_eqb (share_sent page) 0x002 (λ e. absurd (omega (arith, e))) in
    let features : (share_sent page == 0x080) ≡ false = ne_eqb (share_sent page) 0x080 (λ e. absurd (omega (arith, e))) in
    let share : (share_sent page % 4096 == 0x014) ≡ true = eq-eqb (share_sent page % 4096) 0x014 (omega arith) in
    rw (info, features, share) refl

registered : (page : ℕ) → sim_answer [] (ghcb_sent page) ≡ ghcb_sent page + 1
registered page =
    let info : (ghcb_sent page == 0x002) ≡ false = ne_eqb (ghcb_sent page) 0x002 (λ e. absurd (omega (arith, e))) in
    let features : (ghcb_sent page == 0x080) ≡ false = ne_eqb (ghcb_sent page) 0x080 (λ e. absurd (omega (arith, e))) in
    let share : (ghcb_sent page % 4096 == 0x014) ≡ false = ne_eqb (ghcb_sent page % 4096) 0x014 (λ e. absurd (omega (arith, e))) in
    let ghcb : (ghcb_sent page % 4096 == 0x012) ≡ true = eq-eqb (ghcb_sent page % 4096) 0x012 (omega arith) in
    rw (info, features, share, ghcb) refl

-- WHAT IS ASKED

-- the last request, where the answer to it is right
last_right : (announce : Bool) (page : ℕ) → page < 2 ^ 40
    → is_right (record { request = Rattle.ghcb_msr.specs.declared.request.MsrRequest.TheVariants.Register (record { 0 = page }); reason = 0; announce = announce }) (ghcb_sent page + 1) ≡ true
last_right announce page low =
    let info : (bits 0 12 (ghcb_sent page + 1) == 0x013) ≡ true = eq-eqb (bits 0 12 (ghcb_sent page + 1)) 0x013 (omega (arith, low)) in
    let same : (bits 12 52 (ghcb_sent page + 1) == page) ≡ true = eq-eqb (bits 12 52 (ghcb_sent page + 1)) page (omega (arith, low)) in
    rw (info, same) refl

abbrev said_events : ℕ → List HostEvent
said_events page =
    asked 0x002 0x0002000133000001 ∷ asked 0x080 0x23081 ∷ asked (share_sent page) 0x15 ∷ asked (ghcb_sent page) (ghcb_sent page + 1) ∷ []

if_right : (t : Bool) (right wrong : Type 0) → t ≡ true → right → MatchBool t right wrong
if_right true right wrong h k = k
if_right false right wrong h k = cc

asks_end_well : (announce : Bool) (page : ℕ) → page < 2 ^ 40 → Asks (asks_of announce page) (said_events page) (Ok tt)
asks_end_well true page low = (refl, (refl, (refl, (refl, if_right _ _ _ (last_right true page low) (refl, refl)))))
asks_end_well false page low = (refl, (refl, (refl, (refl, if_right _ _ _ (last_right false page low) (refl, refl)))))

pub quiet_images_boot : QuietImagesBoot
quiet_images_boot image sound no_accepts no_host =
    let page = image.ghcb.0 in
    let host = host_of image in
    let within : page < 512 * image.regions = ltb-true page (512 * image.regions) sound.ghcb in
    let low : page < 2 ^ 40 = omega (arith, within, sound.regions_most) in
    let answers : (sent got : ℕ) → sim_answer [] sent ≡ got → got ≡ sim_answer image.host sent =
    λ sent got is. sym (ap (λ (lines : List HostLine). sim_answer lines sent) no_host ∙ is) in
    let none : image_batches image ≡ [] = ap (λ l. batches_of (entry_words l)) no_accepts in
    record {
      events = said_events page;
      end = host;
      leads = (
        host,
        (answers 0x002 0x0002000133000001 refl, refl),
        (
          host,
          (answers 0x080 0x23081 refl, refl),
          (
            host,
            (answers (share_sent page) 0x15 (shared page), refl),
            (host, (answers (ghcb_sent page) (ghcb_sent page + 1) (registered page), refl), refl),
          ),
        ),
      );
      said = record {
        first = said_events page;
        second = [];
        answer = Ok tt;
        said = sym (append-nil (said_events page));
        asks = asks_end_well image.announce page low;
        then = subst (λ (batches : List (List ℕ)). BatchesEnd (buffer_of page) batches (image_faults image) blank_page [] (Ok tt)) (sym none) (refl, refl);
      };
    }

pub saved_runs_boot : SavedRunsBoot
saved_runs_boot image scripts entries cores refused text sound scripted run fit told =
    let back = saved_runs_come_back image scripts entries cores refused text sound scripted run fit told in
    record {
      image = saved image (last_state image entries);
      read = back.read;
      boots = quiet_images_boot (saved image (last_state image entries)) back.sound refl refl;
    }
