-- With each wave fewer cores are left.
use Rattle.std.proofs.Common.{◌≡◌, ◌<◌, ℕ, Bool, true, false, List, [], ◌∷◌, ◌++◌, length, refl, sym, ◌∙◌, ap, subst, ⊎_elim}
use Rattle.std.specs.Prelude.{not, cond, filter, ◌≢◌, ◌&&◌, ◌||◌, ◌==◌}
use Rattle.std.specs.List.{list_any}
use Rattle.std.proofs.lemmas.Bool.{cases_Bool}
use Rattle.std.proofs.lemmas.List.Folds.{list_any-append}
use Rattle.svsm_types.specs.declared.image.Image.{Image}
use Rattle.svsm_types.specs.declared.vcpu.Row.{Row}
use Rattle.svsm_types.specs.declared.vcpu.RowState.TheVariants.{Ready}
use Rattle.svsm_steps.specs.Registry.{of_apic_in}
use Rattle.svsm_calls.specs.Waves.{is_among, apic_of, numbers_of, ready_cores}
use Rattle.run_trees.specs.Begun.{cores_behind}
use Rattle.run_trees.proofs.WaveTrees.{left as first_true}
use Rattle.run_trees.proofs.FrontTrees.{among_left, among_right}
use Rattle.run_trees.proofs.WholeTrees.{self}
use Rattle.run_order.specs.Behind.{left}
use Rattle.run_order.proofs.CountLemmas.{fewer}

not_true : (b : Bool) → not b ≡ true → b ≡ false
not_true true h = cc
not_true false h = refl

-- the first of a filtered list passes
first_passes : (p : ℕ → Bool) (ns : List ℕ) (w : ℕ) (rest : List ℕ) → filter p ns ≡ w ∷ rest → p w ≡ true
first_passes p [] w rest is = cc
first_passes p (x ∷ ns) w rest is = by (p x) refl is (λ h. first_passes p ns w rest h)
  where
    by : (b : Bool) → p x ≡ b → cond b (x ∷ filter p ns) (filter p ns) ≡ w ∷ rest → (filter p ns ≡ w ∷ rest → p w ≡ true) → p w ≡ true
    by true e h later = let same : x ≡ w = cc in subst (λ (n : ℕ). p n ≡ true) same e
    by false e h later = later h

still_out : (c : ℕ) (ran cores : List ℕ) → not (is_among c (ran ++ cores)) ≡ true → not (is_among c ran) ≡ true
still_out c ran cores out = ⊎_elim
    (λ (e : is_among c ran ≡ true). let no : is_among c (ran ++ cores) ≡ false = not_true (is_among c (ran ++ cores)) out in
    let yes : is_among c (ran ++ cores) ≡ true = among_left c ran cores e in cc)
    (λ (e : is_among c ran ≡ false). ap not e)
    (cases_Bool (is_among c ran))

fewer_ready : (image : Image) (ran : List ℕ) (rows : List Row) (core : ℕ) (cores : List ℕ) → core ∷ cores ≡ ready_cores image ran rows → left image (ran ++ core ∷ cores) < left image ran
fewer_ready image ran rows core cores is =
    let test : ℕ → Bool = λ core. not (is_among core ran) && list_any (of_apic_in Ready (apic_of image core)) rows in
    let passes : test core ≡ true = first_passes test (numbers_of image) core cores (sym is) in
    let own : is_among core (core ∷ cores) ≡ true = ap (λ (b : Bool). b || is_among core cores) (self core) in
    fewer test (λ c. not (is_among c ran)) (λ c. not (is_among c (ran ++ core ∷ cores))) (numbers_of image) core cores
    (λ (c : ℕ) (h : not (is_among c (ran ++ core ∷ cores)) ≡ true). still_out c ran (core ∷ cores) h) (sym is)
    (first_true (not (is_among core ran)) (list_any (of_apic_in Ready (apic_of image core)) rows) passes)
    (ap not (among_right core ran (core ∷ cores) own))

pub fewer_left : (image : Image) (b : Bool) (ran : List ℕ) (rows : List Row) (cores : List ℕ) → cores ≡ cores_behind b (ready_cores image ran rows) → cores ≢ []
    → left image (ran ++ cores) < left image ran
fewer_left image b ran rows [] is some = absurd (some refl)
fewer_left image true ran rows (core ∷ cores) is some = absurd (cc)
fewer_left image false ran rows (core ∷ cores) is some = fewer_ready image ran rows core cores is
