-- What the host was told in a run, as it is printed and as the status has it.
use Rattle.std.proofs.Common.{◌≡◌, ℕ, Bool, true, false, List, [], refl, ap, ◌∙◌}
use Rattle.std.specs.Prelude.{if◌then◌else◌, is_some, Option, None, Some}
use Rattle.std.specs.Option.{option_map}
use Rattle.svsm_types.specs.declared.image.Image.{Image}
use Rattle.svsm_types.specs.declared.request.Request.{Request}
use Rattle.svsm_steps.specs.declared.entry.Entry.{Entry}
use Rattle.svsm_steps.specs.declared.outcome.CoreRun.{CoreRun}
use Rattle.svsm_steps.specs.Announced.{Announced, ap_error, refused_at}
use Rattle.svsm_calls.specs.Waves.{has_refused}
use Rattle.svsm_calls.specs.Run.{IsRun}
use Rattle.svsm_run_laws.proofs.Announced.{host_is_told_nothing}
use Rattle.ap_start.specs.declared.exits.ApExit.{ApExit}
use Rattle.ap_start.specs.Exits.{taken, refused_exit}
use Rattle.ap_start.specs.Text.{ap_text, told_lines}
use Rattle.run_core_top.specs.Headline.{status_by}

-- an exit was refused where there is a refusal
some_kept : (refused : Option ℕ) (lines : ℕ → ℕ × ℕ) → is_some (option_map lines refused) ≡ is_some refused
some_kept None lines = refl
some_kept (Some number) lines = refl

pub refusal_is : (image : Image) (exits : List Announced) → is_some (refused_exit image exits) ≡ has_refused image exits
refusal_is image exits = some_kept (refused_at image.host 0 exits) (λ (refused : ℕ). (0, ap_error image.host refused))

-- the lines on what the host was told, of an image that announces its vCPUs or not
told_by : (image : Image) (exits : List Announced) (announce : Bool) → image.announce ≡ announce → (image.announce ≡ false → exits ≡ [])
    → ap_text (taken image exits) (refused_exit image exits) ≡ (if announce then ap_text (taken image exits) (refused_exit image exits) else [])
told_by image exits true is none = refl
told_by image exits false is none = ap (λ (l : List Announced). ap_text (taken image l) (refused_exit image l)) (none is)

pub told_is : (image : Image) (scripts : List (List Request)) (trace : List Entry) (cores : List CoreRun) (run : IsRun image scripts trace cores)
    → ap_text (taken image run.exits) (refused_exit image run.exits) ≡ told_lines image run.exits
told_is image scripts trace cores run =
    told_by image run.exits image.announce refl (host_is_told_nothing image trace run.ran run.exits run.waves)

-- a run as it was made: with the exits that the host took, and what it said of the one that it refused
abbrev pub IsRunWith : Image → List (List Request) → List Entry → List CoreRun → List ApExit → Option (ℕ × ℕ) → Type 0
IsRunWith image scripts trace cores exits refused =
    (is : IsRun image scripts trace cores) × (exits ≡ taken image is.exits) × (refused ≡ refused_exit image is.exits)

-- what is printed of the exits and the refusal of a run is what the report has of them
pub prints_told : (report : List ℕ → List ℕ) (image : Image) (scripts : List (List Request)) (trace : List Entry) (cores : List CoreRun)
    (exits : List ApExit) (refused : Option (ℕ × ℕ)) (run : IsRunWith image scripts trace cores exits refused)
    → report (ap_text exits refused) ≡ report (told_lines image run.0.exits)
prints_told report image scripts trace cores exits refused run =
    ap (λ (e : List ApExit). report (ap_text e refused)) run.1
    ∙ ap (λ (r : Option (ℕ × ℕ)). report (ap_text (taken image run.0.exits) r)) run.2
    ∙ ap report (told_is image scripts trace cores run.0)

pub status_told : (image : Image) (scripts : List (List Request)) (trace : List Entry) (cores : List CoreRun)
    (exits : List ApExit) (refused : Option (ℕ × ℕ)) (run : IsRunWith image scripts trace cores exits refused)
    → status_by cores (is_some refused) ≡ status_by cores (has_refused image run.0.exits)
status_told image scripts trace cores exits refused run =
    ap (λ (r : Option (ℕ × ℕ)). status_by cores (is_some r)) run.2 ∙ ap (status_by cores) (refusal_is image run.0.exits)
