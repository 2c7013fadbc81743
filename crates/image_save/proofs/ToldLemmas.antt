-- What is told, cause by cause.
use Rattle.std.proofs.Common.{◌≡◌, ℕ, ◌<◌, ◌≤◌, Bool, Option, None, Some, List, length, refl, sym, ap, ◌∙◌}
use Rattle.std.specs.Prelude.{Ok, Err, if◌then◌else◌}
use Rattle.std.proofs.lemmas.Bool.{lt-ltb, le-ltb}
use Rattle.svsm_types.specs.declared.address.Page.{Page}
use Rattle.svsm_steps.specs.declared.outcome.CoreRun.{CoreRun}
use Rattle.image_text.specs.Refused.{longest, text_if_short, by_core}
use Rattle.image_text.specs.declared.error.SaveError.TheVariants as errors
use Rattle.image_save.specs.Gathered.{core_number}
use Rattle.image_save.proofs.GatherLemmas.{as_page}

pub told_core : (run : Option CoreRun) (core : ℕ) (refused : Option (ℕ × ℕ)) (page : Option ℕ) (text : List ℕ) → Some core ≡ core_number run
    → by_core run refused page text ≡ Err (errors.Core core)
told_core None core refused page text h = cc
told_core (Some run) core refused page text h = let same : core ≡ run.core = cc in ap (λ (n : ℕ). Err (errors.Core n)) (sym same)

pub told_host : (run : Option CoreRun) (kept : ℕ × ℕ) (page : Option ℕ) (text : List ℕ) → None ≡ core_number run
    → by_core run (Some kept) page text ≡ Err (errors.Host kept.0 kept.1)
told_host None kept page text h = refl
told_host (Some run) kept page text h = cc

pub told_page : (run : Option CoreRun) (page : Option ℕ) (at : Page) (text : List ℕ) → None ≡ core_number run → Some at ≡ as_page page
    → by_core run None page text ≡ Err (errors.Page at)
told_page None None at text h k = cc
told_page None (Some page) at text h k = let same : at ≡ record { 0 = page } = cc in ap (λ (p : Page). Err (errors.Page p)) (sym same)
told_page (Some run) page at text h k = cc

pub told_short : (run : Option CoreRun) (page : Option ℕ) (text : List ℕ) → None ≡ core_number run → None ≡ as_page page
    → by_core run None page text ≡ text_if_short text
told_short None None text h k = refl
told_short None (Some page) text h k = cc
told_short (Some run) page text h k = cc

pub told_long : (run : Option CoreRun) (page : Option ℕ) (text given : List ℕ) → None ≡ core_number run → None ≡ as_page page → given ≡ text
    → longest < length given → by_core run None page text ≡ Err errors.Long
told_long run page text given h k same long =
    told_short run page text h k ∙ ap text_if_short (sym same) ∙ ap (λ (t : Bool). if t then Err errors.Long else Ok given) (lt-ltb longest (length given) long)

pub told_text : (run : Option CoreRun) (page : Option ℕ) (text given : List ℕ) → None ≡ core_number run → None ≡ as_page page → given ≡ text
    → length given ≤ longest → by_core run None page text ≡ Ok given
told_text run page text given h k same short =
    told_short run page text h k ∙ ap text_if_short (sym same) ∙ ap (λ (t : Bool). if t then Err errors.Long else Ok given) (le-ltb longest (length given) short)
