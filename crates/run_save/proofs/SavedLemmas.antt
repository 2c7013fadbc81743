-- What is told of the places of a run is told of its last state.
use Rattle.std.proofs.Common.{◌≡◌, ◌≤◌, ℕ, List, sym, subst, ◌∙◌, inl, inr, ⊎_elim}
use Rattle.std.specs.Prelude.{◌⊎◌, Result, Ok, Err, MatchResult, OnOk}
use Rattle.svsm_types.specs.declared.image.Image.{Image}
use Rattle.svsm_steps.specs.declared.entry.Entry.{Entry}
use Rattle.image_text.specs.declared.error.SaveError.{SaveError}
use Rattle.image_text.specs.declared.error.SaveError.TheVariants.{NoMemory}
use Rattle.place_core.specs.PlaceView.{PlaceView}
use Rattle.svsm_waves.specs.InTurn.{AreBegun, StandFor}
use Rattle.save_laws.specs.Saved.{last_state}
use Rattle.image_save.specs.Stood.{StandAs}
use Rattle.image_save.proofs.StoodLemmas.{made_places_stand}

stands : (image : Image) (trace : List Entry) (places : List PlaceView) → image.regions ≤ 512 → AreBegun image places
    → StandFor image trace places → StandAs image (last_state image trace) places
stands image trace places most begun stand =
    made_places_stand image (last_state image trace) places
    (record { most = most; count = begun.count; fresh = begun.each; values = stand.values })

-- the same of the slice of them
pub stands_here : (image : Image) (trace : List Entry) (places given : List PlaceView) → given ≡ places → image.regions ≤ 512 → AreBegun image places
    → StandFor image trace places → StandAs image (last_state image trace) given
stands_here image trace places given is most begun stand =
    subst (λ (ps : List PlaceView). StandAs image (last_state image trace) ps) (sym is) (stands image trace places most begun stand)

-- and so is what is answered
pub told_on : {A : Type 0} (view : A → List ℕ) (result : Result A SaveError) (one other : Result (List ℕ) SaveError) → one ≡ other
    → MatchResult result (λ text. one ≡ Ok (view text)) (λ error. (error ≡ NoMemory) ⊎ (one ≡ Err error))
    → MatchResult result (λ text. other ≡ Ok (view text)) (λ error. (error ≡ NoMemory) ⊎ (other ≡ Err error))
told_on view (Ok text) one other same told = sym same ∙ told
told_on view (Err error) one other same told =
    ⊎_elim (λ (memory : error ≡ NoMemory). inl memory) (λ (why : one ≡ Err error). inr (sym same ∙ why)) told

pub fits_on : {A : Type 0} (result : Result A SaveError) (Here There : Type 0) → (Here → There) → OnOk result Here → OnOk result There
fits_on (Ok text) Here There on fits = on fits
fits_on (Err error) Here There on fits = tt
