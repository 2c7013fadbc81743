-- The cores of a wave enter, one after another.
use Rattle.std.proofs.Common.{◌≡◌, ℕ, ◌+◌, ◌<◌, ◌≤◌, List, [], ◌∷◌, ◌++◌, length, take, get_or, refl, sym, ◌∙◌, ap, subst, arith, map, inr, length-append}
use Rattle.std.proofs.lemmas.List.{take_more, map-append, get_or_default}
use Rattle.svsm_types.specs.declared.address.Gpa.{Gpa}
use Rattle.svsm_types.specs.declared.image.Image.{Image}
use Rattle.svsm_steps.specs.declared.step.Step.{Step}
use Rattle.svsm_steps.specs.declared.call.Caller.{Caller}
use Rattle.svsm_steps.specs.declared.entry.Entry.{Entry}
use Rattle.svsm_calls.specs.Run.{caller_of}
use Rattle.svsm_calls.specs.Waves.{enters}
use Rattle.run_order.specs.Wave.{IsEnterOf, Enterings, AreEntered, EnteringEnds}

-- one caller more, that entered by the entry in its place
enterings_push : (image : Image) (callers : List Caller) (entries : List Entry) (caller : Caller) (d : Entry) → Enterings image callers entries → length callers < length entries
    → IsEnterOf image caller.core (get_or entries (length callers) d) caller.caa → caller ≡ caller_of image caller.core caller.caa
    → Enterings image (callers ++ caller ∷ []) entries
enterings_push image [] [] caller d are low is same = absurd (omega (arith, low))
enterings_push image [] (entry ∷ entries) caller d are low is same = (is, same, tt)
enterings_push image (c ∷ callers) [] caller d are low is same = absurd are
enterings_push image (c ∷ callers) (entry ∷ entries) caller d are low is same =
    (are.0, are.1, enterings_push image callers entries caller d are.2 (omega (arith, low)) is same)

pub length_more : (callers : List Caller) (caller : Caller) → length (callers ++ caller ∷ []) ≡ length callers + 1
length_more callers caller = length-append callers (caller ∷ [])

pub entered_more : (image : Image) (cores : List ℕ) (entries : List Entry) (callers : List Caller) (n core : ℕ) (d : Entry) (caa : Gpa) → n ≡ length callers → n < length cores
    → n < length entries → AreEntered image cores entries callers → IsEnterOf image (get_or cores n core) (get_or entries n d) caa
    → AreEntered image cores entries (callers ++ caller_of image (get_or cores n core) caa ∷ [])
entered_more image cores entries callers n core d caa count low within before is =
    let caller : Caller = caller_of image (get_or cores n core) caa in
    let longer : length (callers ++ caller ∷ []) ≡ n + 1 = length_more callers caller ∙ ap (λ (k : ℕ). k + 1) (sym count) in
    let cores_are : take (n + 1) cores ≡ take n cores ++ get_or cores n core ∷ [] = take_more cores n core low in
    let entries_are : take (n + 1) entries ≡ take n entries ++ get_or entries n d ∷ [] = take_more entries n d within in
    let old_callers : map (λ (c : Caller). c.core) callers ≡ take n cores = before.callers_are ∙ ap (λ (k : ℕ). take k cores) (sym count) in
    let old_order : map (λ (e : Entry). e.core) (take n entries) ≡ take n cores =
    subst (λ (k : ℕ). map (λ (e : Entry). e.core) (take k entries) ≡ take k cores) (sym count) before.in_order in
    let old_steps : map (λ (e : Entry). e.step) (take n entries) ≡ map (enters image) (take n cores) =
    subst (λ (k : ℕ). map (λ (e : Entry). e.step) (take k entries) ≡ map (enters image) (take k cores)) (sym count) before.enter_steps in
    let new_callers : map (λ (c : Caller). c.core) (callers ++ caller ∷ []) ≡ take (n + 1) cores =
    map-append (λ (c : Caller). c.core) callers (caller ∷ []) ∙ (ap (λ (l : List ℕ). l ++ get_or cores n core ∷ []) old_callers ∙ sym cores_are) in
    let new_order : map (λ (e : Entry). e.core) (take (n + 1) entries) ≡ take (n + 1) cores =
    ap (map (λ (e : Entry). e.core)) entries_are ∙ (map-append (λ (e : Entry). e.core) (take n entries) (get_or entries n d ∷ [])
    ∙ (ap (λ (l : List ℕ). l ++ (get_or entries n d).core ∷ []) old_order ∙ (ap (λ (c : ℕ). take n cores ++ c ∷ []) is.core_is ∙ sym cores_are))) in
    let new_steps : map (λ (e : Entry). e.step) (take (n + 1) entries) ≡ map (enters image) (take (n + 1) cores) =
    ap (map (λ (e : Entry). e.step)) entries_are ∙ (map-append (λ (e : Entry). e.step) (take n entries) (get_or entries n d ∷ [])
    ∙ (ap (λ (l : List Step). l ++ (get_or entries n d).step ∷ []) old_steps ∙ (ap (λ (s : Step). map (enters image) (take n cores) ++ s ∷ []) is.step_is
    ∙ (sym (map-append (enters image) (take n cores) (get_or cores n core ∷ [])) ∙ ap (map (enters image)) (sym cores_are))))) in
    record {
      few = omega (arith, longer, low);
      within = omega (arith, longer, within);
      callers_are = new_callers ∙ ap (λ (k : ℕ). take k cores) (sym longer);
      in_order = subst (λ (k : ℕ). map (λ (e : Entry). e.core) (take k entries) ≡ take k cores) (sym longer) new_order;
      enter_steps = subst (λ (k : ℕ). map (λ (e : Entry). e.step) (take k entries) ≡ map (enters image) (take k cores)) (sym longer) new_steps;
      each = enterings_push image callers entries caller d before.each (omega (arith, count, within))
          (subst (λ (k : ℕ). IsEnterOf image caller.core (get_or entries k d) caa) count is) refl;
    }

-- the same, where the entry's index is how many entered
pub entered_at : (image : Image) (cores : List ℕ) (entries : List Entry) (callers : List Caller) (n at core : ℕ) (d : Entry) (caa : Gpa) → n ≡ length callers → at ≡ n → n < length cores
    → at < length entries → AreEntered image cores entries callers → IsEnterOf image (get_or cores n core) (get_or entries at d) caa
    → AreEntered image cores entries (callers ++ caller_of image (get_or cores n core) caa ∷ [])
entered_at image cores entries callers n at core d caa count place low within before is =
    entered_more image cores entries callers n core d caa count low (subst (λ (k : ℕ). k < length entries) place within) before
    (subst (λ (k : ℕ). IsEnterOf image (get_or cores n core) (get_or entries k d) caa) place is)

-- the next entry is no Enter of the next core
pub enter_ends : (image : Image) (cores : List ℕ) (entries : List Entry) (count n at core : ℕ) (d : Entry) → count ≡ n → at ≡ n → n < length cores → at < length entries
    → ((caa : Gpa) → IsEnterOf image (get_or cores n core) (get_or entries at d) caa → ⊥) → EnteringEnds image cores entries count
enter_ends image cores entries count n at core d many place low within none = inr (inr (λ other entry caa is.
    let same_core : get_or cores count other ≡ get_or cores n core = ap (λ (k : ℕ). get_or cores k other) many ∙ get_or_default cores n other core low in
    let same_entry : get_or entries count entry ≡ get_or entries at d = ap (λ (k : ℕ). get_or entries k entry) (many ∙ sym place) ∙ get_or_default entries at entry d within in
    none caa (subst (λ (c : ℕ). IsEnterOf image c (get_or entries at d) caa) same_core
    (subst (λ (e : Entry). IsEnterOf image (get_or cores count other) e caa) same_entry is))))
