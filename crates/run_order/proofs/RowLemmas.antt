-- The rows over a history are those of the machine.
use Rattle.std.proofs.Math.Seq.{take-suc}
use Rattle.std.proofs.Common.{get_or, take, length, add-one, ◌+◌, ◌<◌, ◌≡◌, ℕ, List, [], ◌∷◌, ◌++◌, refl, sym, ◌∙◌, ap}
use Rattle.std.specs.Prelude.{false}
use Rattle.svsm_types.specs.declared.image.Image.{Image}
use Rattle.svsm_types.specs.declared.image.CoreLine.{CoreLine}
use Rattle.svsm_types.specs.declared.vcpu.Row.{Row}
use Rattle.svsm_steps.specs.declared.step.Step.{Step}
use Rattle.svsm_steps.specs.declared.answer.Answer.{Answer}
use Rattle.svsm_steps.specs.declared.entry.Entry.{Entry}
use Rattle.svsm_steps.specs.State.{State, Constants}
use Rattle.svsm_steps.specs.Machine.{Kind, kind, region, pool, registry, next, next_by, state_after}
use Rattle.svsm_steps.specs.Plan.{assign}
use Rattle.svsm_steps.specs.Image.{constants_of, image_state, accept, accepted, after_at, accept_entries, booted, rows_of}
use Rattle.svsm_types.specs.declared.platform.Size.{Size}
use Rattle.svsm_types.specs.declared.platform.Size.TheVariants.{Small}
use Rattle.svsm_calls.specs.Waves.{rows_behind}
use Rattle.svsm_laws.proofs.Runs.{state_after-append}
use Rattle.run_order.specs.Registered.{rows_by, rows_over}

pub over_more : (cores : List CoreLine) (rows : List Row) (one other : List Entry) → rows_over cores rows (one ++ other) ≡ rows_over cores (rows_over cores rows one) other
over_more cores rows [] other = refl
over_more cores rows (entry ∷ one) other = over_more cores (rows_by (kind entry.step) cores rows entry) one other

next_rows : (kd : Kind) (constants : Constants) (state : State) (entry : Entry)
    → (next_by kd constants state entry.core entry.step entry.answer).rows ≡ rows_by kd constants.cores state.rows entry
next_rows region constants state entry = refl
next_rows pool constants state entry = refl
next_rows registry constants state entry = refl

pub over_machine : (constants : Constants) (state : State) (entries : List Entry) → (state_after constants state entries).rows ≡ rows_over constants.cores state.rows entries
over_machine constants state [] = refl
over_machine constants state (entry ∷ entries) =
    over_machine constants (next constants state entry) entries
    ∙ ap (λ (rows : List Row). rows_over constants.cores rows entries) (next_rows (kind entry.step) constants state entry)

-- behind more entries
pub rows_more : (image : Image) (before wave : List Entry) → rows_behind image (before ++ wave) ≡ rows_over image.cores (rows_behind image before) wave
rows_more image before wave =
    ap (λ (s : State). s.rows) (state_after-append (constants_of image) (booted image) before wave)
    ∙ over_machine (constants_of image) (state_after (constants_of image) (booted image) before) wave

-- the boot changes no rows
same_rows : (vmpl : ℕ) (entries : List (ℕ × Size)) (state : State) → (accepted vmpl entries state).rows ≡ state.rows
same_rows vmpl [] state = refl
same_rows vmpl (entry ∷ entries) state = same_rows vmpl entries (after_at entry.0 (accept vmpl entry) state)

pub booted_rows : (image : Image) → (booted image).rows ≡ rows_of image
booted_rows image =
    same_rows image.vmpl.0 (accept_entries image) (after_at image.ghcb.0 (assign Small image.ghcb.0 false ∷ []) (image_state image))

-- over one entry more
pub keep_more : (cores now_cores : List CoreLine) (rows now_rows new : List Row) (entries : List Entry) (i : ℕ) (d : Entry) → i < length entries → now_cores ≡ cores
    → now_rows ≡ rows_over cores rows (take i entries)
    → new ≡ rows_by (kind (get_or entries i d).step) now_cores now_rows (get_or entries i d) → new ≡ rows_over cores rows (take (i + 1) entries)
keep_more cores now_cores rows now_rows new entries i d low same now is =
    let entry : Entry = get_or entries i d in
    let more : take (i + 1) entries ≡ take i entries ++ entry ∷ [] = ap (λ (n : ℕ). take n entries) (add-one i) ∙ take-suc entries i d low in
    is ∙ (ap (λ (l : List CoreLine). rows_by (kind entry.step) l now_rows entry) same
    ∙ (ap (λ (l : List Row). rows_by (kind entry.step) cores l entry) now
    ∙ (sym (over_more cores rows (take i entries) (entry ∷ [])) ∙ ap (rows_over cores rows) (sym more))))
