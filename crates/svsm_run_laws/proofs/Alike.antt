-- A run in which no core ended by a fault has no fault.
use Rattle.std.proofs.Common.{◌≡◌, ℕ, Bool, true, false, List, [], ◌∷◌, ◌++◌, map, refl, sym, ap, ◌∙◌, subst, ⊎_elim, arith, Option, None, Some}
use Rattle.std.specs.Prelude.{◌==◌, if◌then◌else◌, Contains, ⊤}
use Rattle.std.proofs.lemmas.Bool.{eq-eqb}
use Rattle.svsm_types.specs.declared.image.Image.{Image}
use Rattle.svsm_types.specs.declared.request.Request.{Request}
use Rattle.svsm_types.specs.declared.request.Request.TheVariants as requests
use Rattle.svsm_types.specs.declared.call.Regs.{Regs}
use Rattle.svsm_types.specs.declared.platform.Size.TheVariants.{Small}
use Rattle.svsm_steps.specs.declared.step.Step.{Step}
use Rattle.svsm_steps.specs.declared.step.Step.TheVariants.{Release, Leave}
use Rattle.svsm_steps.specs.declared.answer.Answer.{Answer}
use Rattle.svsm_steps.specs.declared.answer.Answer.TheVariants.{Fault}
use Rattle.svsm_steps.specs.declared.entry.Entry.{Entry}
use Rattle.svsm_steps.specs.declared.call.Caller.{Caller}
use Rattle.svsm_steps.specs.declared.outcome.Outcome.{Outcome}
use Rattle.svsm_steps.specs.declared.outcome.CoreEnd.{CoreEnd}
use Rattle.svsm_steps.specs.Formed.{is_listed}
use Rattle.svsm_steps.specs.Image.{constants_of, booted}
use Rattle.svsm_steps.specs.Made.{Made, made_of, made_by}
use Rattle.svsm_steps.specs.Partition.{of_core}
use Rattle.svsm_steps.specs.Region.{fault_at}
use Rattle.svsm_calls.specs.Dialogue.{AreListed}
use Rattle.svsm_calls.specs.Events.{pairs_of, Event}
use Rattle.svsm_calls.specs.CoreRun.{IsCallPiece, IsStepPiece, outside, stepped, IsPiece, ArePieces, none, one_more, IsCoreRun, done, faulted, host}
use Rattle.svsm_calls.specs.Run.{caller_of, IsStarted, IsCore, script_of, IsRun}
use Rattle.svsm_calls.specs.Waves.{is_among}
use Rattle.svsm_calls.proofs.Whole.{call_complete}
use Rattle.svsm_laws.specs.Alike.{parts_at, NoneParts}
use Rattle.svsm_laws.proofs.Alike.{records_stay_alike, owners_stay_alike, booted_is_alike}
use Rattle.svsm_laws.proofs.CommonState.{stays_common}
use Rattle.svsm_laws.proofs.Consistent.{booted_is_consistent}
use Rattle.svsm_run_laws.proofs.Core.{fault_unlisted}
use Rattle.svsm_run_laws.proofs.Lists.{contains_cases, contains_head, contains_tail}
use Rattle.svsm_run_laws.proofs.Waves.{Line, line_of, of_waves, of_lines}
use Rattle.svsm_run_laws.specs.Alike.{is_faulted, EndsAlike}
use Rattle.svsm_steps.specs.declared.outcome.CoreRun.{CoreRun}

-- no step of these faulted
abbrev pub AreCalm : List Made → Type 0
AreCalm [] = ⊤
AreCalm (m ∷ made) = (fault_at m.answer ≡ None) × AreCalm made

pub listed_calm : (step : Step) (answer : Answer) → is_listed step answer ≡ true → fault_at answer ≡ None
listed_calm step (Fault k) e = absurd (let wrong : false ≡ true = sym (fault_unlisted step k) ∙ e in cc)
listed_calm step _ e = refl

calm-append : (first second : List Made) → AreCalm first → AreCalm second → AreCalm (first ++ second)
calm-append [] second h t = t
calm-append (m ∷ first) second h t = (h.0, calm-append first second h.1 t)

pub pairs_calm : (made : List Made) → AreListed (pairs_of made) → AreCalm made
pairs_calm [] h = tt
pairs_calm (m ∷ made) h = (listed_calm m.step m.answer h.0, pairs_calm made h.1)

call_calm : (pend : Bool) (caller : Caller) (regs : Regs) (number : ℕ) (made : List Made) (events : List Event) (outcome : Outcome)
    → IsCallPiece pend caller regs number made events outcome → AreCalm made
call_calm pend caller regs number made events outcome h =
    pairs_calm made (call_complete pend caller regs (pairs_of made) h.polls h.end h.call).1

step_calm : (caller : Caller) (page : ℕ) (step : Step) (made : List Made) (events : List Event) (outcome : Outcome)
    → IsStepPiece caller page step made events outcome → AreCalm made
step_calm caller page step _ _ _ (outside out) = tt
step_calm caller page step _ _ _ (stepped ticket answer outcome inside may gave) = (listed_calm step answer may, tt)

piece_calm : (caller : Caller) (request : Request) (made : List Made) (events : List Event) (outcome : Outcome)
    → IsPiece caller request made events outcome → AreCalm made
piece_calm caller (requests.Call regs number) made events outcome h = call_calm _ caller regs number made events outcome h
piece_calm caller (requests.Exit regs number) made events outcome h = call_calm _ caller regs number made events outcome h
piece_calm caller (requests.Write vmpl gpa word) made events outcome h = step_calm caller _ _ made events outcome h
piece_calm caller (requests.Read vmpl gpa) made events outcome h = step_calm caller _ _ made events outcome h
piece_calm caller (requests.Adjust vmpl page target mask) made events outcome h = step_calm caller _ _ made events outcome h
piece_calm caller (requests.Share page) made events outcome h = step_calm caller _ _ made events outcome h
piece_calm caller (requests.Assign page) made events outcome h = step_calm caller _ _ made events outcome h

pub pieces_calm : (caller : Caller) (script : List Request) (made : List Made) (events : List Event) (outcomes : List Outcome) (now : Caller) (due : Bool)
    → ArePieces caller script made events outcomes now due → AreCalm made
pieces_calm caller _ _ _ _ _ _ none = tt
pieces_calm caller _ _ _ _ _ _ (one_more script made events outcomes now due request steps runs asked outcome before run is) =
    calm-append made steps (pieces_calm caller script made events outcomes now due before) (piece_calm now request steps asked outcome is)

run_calm : (caller : Caller) (script : List Request) (made : List Made) (events : List Event) (outcomes : List Outcome) (end : CoreEnd)
    → is_faulted end ≡ false → IsCoreRun caller script made events outcomes end → AreCalm made
run_calm caller script _ _ _ _ e (done made events outcomes now due ticket answer pieces may) =
    calm-append made _ (pieces_calm caller script made events outcomes now due pieces) (listed_calm (Leave caller.apic) answer may, tt)
run_calm caller script _ _ _ _ e (faulted before after request made steps events runs asked outcomes now due ticket is pieces run cut) = cc
run_calm caller script _ _ _ _ e (host before after request made events outcomes now got is pieces bad) =
    pieces_calm caller before made events outcomes now _ pieces

started_calm : (image : Image) (core : ℕ) (script : List Request) (made : List Made) (outcomes : List Outcome) (end : CoreEnd)
    → is_faulted end ≡ false → IsStarted image core script made outcomes end → AreCalm made
started_calm image core script made outcomes end e h =
    rw h.begins (refl, run_calm (caller_of image core h.caa) script h.rest h.events outcomes end e h.run)

-- the entries of a core
calm_by : (core : ℕ) (first entry : Entry) (entries : List Entry) (b : Bool) → (first.core == core) ≡ b
    → (AreCalm (map made_of (of_core core entries)) → Contains entries entry → fault_at entry.answer ≡ None)
    → AreCalm (map made_of (if b then first ∷ of_core core entries else of_core core entries))
    → Contains (first ∷ entries) entry → entry.core ≡ core → fault_at entry.answer ≡ None
calm_by core first entry entries true e rest h has of_it =
    ⊎_elim (λ (same : first ≡ entry). subst (λ (x : Entry). fault_at x.answer ≡ None) same h.0) (λ (more : Contains entries entry). rest h.1 more)
    (contains_cases first entry entries has)
calm_by core first entry entries false e rest h has of_it =
    ⊎_elim
    (λ (same : first ≡ entry).
    let at : (first.core == core) ≡ true = eq-eqb first.core core (ap (λ (x : Entry). x.core) same ∙ of_it) in
    absurd (let wrong : false ≡ true = sym e ∙ at in cc))
    (λ (more : Contains entries entry). rest h more)
    (contains_cases first entry entries has)

entry_calm : (core : ℕ) (entry : Entry) → entry.core ≡ core → (entries : List Entry) → AreCalm (made_by core entries)
    → Contains entries entry → fault_at entry.answer ≡ None
entry_calm core entry of_it [] h has = absurd (let low = has.1 in omega arith)
entry_calm core entry of_it (first ∷ entries) h has =
    calm_by core first entry entries (first.core == core) refl (λ more also. entry_calm core entry of_it entries more also) h has of_it

none_part : (step : Step) (fault : Option ℕ) → fault ≡ None → parts_at step fault ≡ false
none_part (Release vmpl page Small) None e = refl
none_part (Release vmpl page Small) (Some k) e = cc
none_part _ fault e = refl

none_parts : (entries : List Entry) → ((entry : Entry) → Contains entries entry → fault_at entry.answer ≡ None) → NoneParts entries
none_parts [] h = tt
none_parts (entry ∷ entries) h = (
  none_part entry.step (fault_at entry.answer) (h entry (contains_head entry entries)),
  none_parts entries (λ other has. h other (contains_tail entry other entries has)),
)

pub entries_calm : (image : Image) (scripts : List (List Request)) (entries : List Entry) (cores : List CoreRun)
    → IsRun image scripts entries cores → ((run : CoreRun) → Contains cores run → is_faulted run.end ≡ false)
    → (entry : Entry) → Contains entries entry → fault_at entry.answer ≡ None
entries_calm image scripts entries cores run calm entry has =
    let among : is_among entry.core run.ran ≡ true = of_waves image entries run.ran run.exits run.waves entry has in
    let low = of_lines image entries run.ran run.exits run.waves entry.core among in
    let line : Line image scripts entries run.ran cores entry.core = line_of image scripts entries run.ran cores entry.core run.each low in
    let its : IsCore true image entry.core (script_of scripts entry.core) (made_by entry.core entries) line.run =
    subst (λ (b : Bool). IsCore b image entry.core (script_of scripts entry.core) (made_by entry.core entries) line.run) among line.gave in
    entry_calm entry.core entry refl entries
    (started_calm image entry.core (script_of scripts entry.core) (made_by entry.core entries) line.run.outcomes line.run.end
    (calm line.run line.of_run) its.1) has

pub ends_alike : EndsAlike
ends_alike image scripts entries cores is run calm =
    let first = booted_is_consistent image is in
    let alike = booted_is_alike image is in
    record {
      states = stays_common (constants_of image) (booted image) entries first.sized first.common;
      records = records_stay_alike (constants_of image) (booted image) entries first.sized alike.0;
      owners = owners_stay_alike (constants_of image) (booted image) entries first.sized
          (none_parts entries (entries_calm image scripts entries cores run calm)) alike.1;
    }
