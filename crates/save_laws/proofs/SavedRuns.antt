-- A run that was saved is read again, and its image boots into the last state.
use Rattle.std.proofs.Common.{◌≡◌, ◌≢◌, ℕ, Bool, true, false, List, length, refl, sym, ap, ◌∙◌, Option, None, Some}
use Rattle.std.specs.Prelude.{Result, Ok, Err, if◌then◌else◌, nat_lt}
use Rattle.svsm_types.specs.declared.image.Image.{Image}
use Rattle.svsm_types.specs.declared.address.Page.{Page}
use Rattle.svsm_steps.specs.declared.outcome.CoreRun.{CoreRun}
use Rattle.svsm_steps.specs.State.{State}
use Rattle.image_grammar.specs.Image.{image_of}
use Rattle.image_text.specs.Refused.{longest, first_core, first_unsaved_page, text_if_short, by_page, by_host, by_core, save_told}
use Rattle.image_text.specs.Saved.{saved}
use Rattle.image_text.specs.Written.{image_text}
use Rattle.image_text.specs.declared.error.SaveError.{SaveError}
use Rattle.image_text.specs.declared.error.SaveError.TheVariants as errors
use Rattle.image_text.proofs.AgainLemmas.{reads_again}
use Rattle.image_text.proofs.BootLemmas.{boots_into}
use Rattle.image_text.proofs.ReadableLemmas.{saves_readable}
use Rattle.save_laws.specs.Saved.{last_state, SavedRunsComeBack}
use Rattle.save_laws.proofs.Lasts.{savable, sayable}

-- what a text that is told rests on
pub record Told (core : Option CoreRun) (page : Option ℕ) (text given : List ℕ) : Type 0 where
  pub core_none : core ≡ None
  pub page_none : page ≡ None
  pub text_is : given ≡ text

short_by : (b : Bool) (text given : List ℕ) → (if b then Err errors.Long else Ok text) ≡ Ok given → given ≡ text
short_by true text given h = cc
short_by false text given h = let same : text ≡ given = cc in sym same

pub told_by : (core : Option CoreRun) (refused : Option (ℕ × ℕ)) (page : Option ℕ) (text given : List ℕ) → by_core core refused page text ≡ Ok given
    → Told core page text given
told_by (Some run) refused page text given h = cc
told_by None (Some values) page text given h = cc
told_by None None (Some page) text given h = cc
told_by None None None text given h = record { core_none = refl; page_none = refl; text_is = short_by (nat_lt longest (length text)) text given h }

pub saved_runs_come_back : SavedRunsComeBack
saved_runs_come_back image scripts entries cores refused text sound scripted run fit told =
    let state : State = last_state image entries in
    let why = told_by (first_core cores) refused (first_unsaved_page image state) (image_text (saved image state)) text told in
    let say = sayable image scripts entries cores sound scripted run fit why.core_none why.page_none in
    let writable = saves_readable image state say in
    record {
      read = ap image_of why.text_is ∙ reads_again (saved image state) writable;
      sound = writable.sound;
      booted_is = boots_into image state say.savable;
    }
