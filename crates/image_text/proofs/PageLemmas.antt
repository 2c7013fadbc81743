-- A tidy page is as its range line says it.
use Rattle.std.proofs.Common.{◌≡◌, ◌≢◌, ℕ, zero, suc, ◌+◌, ◌*◌, ◌/◌, ◌%◌, ◌<◌, ◌≤◌, Bool, true, false, List, [], ◌∷◌, length, refl, sym, ap, ◌∙◌, subst, arith}
use Rattle.std.specs.Prelude.{if◌then◌else◌, ◌&&◌, ◌||◌, ◌==◌, not, nat_le, Some}
use Rattle.std.proofs.lemmas.Bool.Decides.{nat_tests}
use Rattle.std.proofs.lemmas.Bool.{ne_eqb}
use Rattle.svsm_types.specs.Hardware.{right_of}
use Rattle.svsm_types.specs.declared.image.Image.{Image}
use Rattle.svsm_types.specs.declared.owner.Owner.{Owner}
use Rattle.svsm_types.specs.declared.owner.Owner.TheVariants.{Guest, Module, Pool, Vmsa}
use Rattle.svsm_types.specs.declared.platform.HwState.{HwState}
use Rattle.svsm_types.specs.declared.platform.HwState.TheVariants.{Shared, Assigned, Valid}
use Rattle.svsm_types.specs.declared.platform.PageState.{PageState}
use Rattle.svsm_types.specs.declared.platform.Perms.{Perms}
use Rattle.svsm_steps.specs.Checks.{same_owner}
use Rattle.svsm_steps.specs.State.{State, page_at, owner_at}
use Rattle.svsm_steps.specs.Image.{page_in, is_valid, is_assigned}
use Rattle.svsm_steps.specs.Sound.{has_lawful_rights, is_valid_where_held}
use Rattle.image_text.specs.Saved.{Saying, saying, range_at, hw_state, rights_of}
use Rattle.image_text.specs.PageForm.{IsTidyPage, IsSaid, TidyPagesAreSaid}
use Rattle.image_text.proofs.SoundLemmas.{all_hold}

-- a page by its parts
same_page : (a b : PageState) → a.assigned ≡ b.assigned → a.validated ≡ b.validated → a.rights ≡ b.rights → a.vmsa ≡ b.vmsa → a ≡ b
same_page a b x y z w = λ i. record { assigned = x i; validated = y i; rights = z i; vmsa = w i }

valid_by : (page : PageState) (t u : Bool) → page.validated ≡ t → page.assigned ≡ u → is_valid (hw_state page) ≡ page.validated
valid_by page true u e k = ap (λ (t : Bool). is_valid (if t then Valid else (if page.assigned then Assigned else Shared))) e ∙ sym e
valid_by page false true e k =
    ap (λ (t : Bool). is_valid (if t then Valid else (if page.assigned then Assigned else Shared))) e
    ∙ ap (λ (t : Bool). is_valid (if t then Assigned else Shared)) k ∙ sym e
valid_by page false false e k =
    ap (λ (t : Bool). is_valid (if t then Valid else (if page.assigned then Assigned else Shared))) e
    ∙ ap (λ (t : Bool). is_valid (if t then Assigned else Shared)) k ∙ sym e

assigned_by : (page : PageState) (t u : Bool) → page.validated ≡ t → page.assigned ≡ u → (page.validated ≡ true → page.assigned ≡ true) → is_assigned (hw_state page) ≡ page.assigned
assigned_by page true u e k h = ap (λ (t : Bool). is_assigned (if t then Valid else (if page.assigned then Assigned else Shared))) e ∙ sym (h e)
assigned_by page false true e k h =
    ap (λ (t : Bool). is_assigned (if t then Valid else (if page.assigned then Assigned else Shared))) e
    ∙ ap (λ (t : Bool). is_assigned (if t then Assigned else Shared)) k ∙ sym k
assigned_by page false false e k h =
    ap (λ (t : Bool). is_assigned (if t then Valid else (if page.assigned then Assigned else Shared))) e
    ∙ ap (λ (t : Bool). is_assigned (if t then Assigned else Shared)) k ∙ sym k

-- three rights
abbrev three_of : ℕ → ℕ → ℕ → List Perms
three_of a b c = record { 0 = a } ∷ record { 0 = b } ∷ record { 0 = c } ∷ []

abbrev right_in : ℕ → List Perms → ℕ
right_in vmpl rights = right_of vmpl (record { assigned = false; validated = false; rights = rights; vmsa = false })

three_rights : (rights : List Perms) → length rights ≡ 3 → rights ≡ three_of (right_in 1 rights) (right_in 2 rights) (right_in 3 rights)
three_rights [] h = absurd (omega (arith, h))
three_rights (a ∷ []) h = absurd (omega (arith, h))
three_rights (a ∷ b ∷ []) h = absurd (omega (arith, h))
three_rights (a ∷ b ∷ c ∷ []) h = refl
three_rights (a ∷ b ∷ c ∷ d ∷ rest) h = absurd (omega (arith, h))

parts_again : (a b c : ℕ) → a ≤ 15 → b ≤ 15 → c ≤ 15 → three_of a b c ≡ three_of ((a + 16 * b + 256 * c) % 16) ((a + 16 * b + 256 * c) / 16 % 16) ((a + 16 * b + 256 * c) / 256 % 16)
parts_again a b c la lb lc =
    let x : a ≡ (a + 16 * b + 256 * c) % 16 = omega arith in
    let y : b ≡ (a + 16 * b + 256 * c) / 16 % 16 = omega arith in
    let z : c ≡ (a + 16 * b + 256 * c) / 256 % 16 = omega arith in
    ap (λ (n : ℕ). three_of n b c) x
    ∙ ap (λ (n : ℕ). three_of ((a + 16 * b + 256 * c) % 16) n c) y
    ∙ ap (λ (n : ℕ). three_of ((a + 16 * b + 256 * c) % 16) ((a + 16 * b + 256 * c) / 16 % 16) n) z

-- the range that says a page
abbrev range_of_page : Owner → PageState → Saying
range_of_page owner page = record { owner = owner; state = hw_state page; rights = rights_of page }

said_page : (owner : Owner) (page : PageState) → IsTidyPage owner page → page ≡ page_in (Some (range_at 0 0 (range_of_page owner page)))
said_page owner page h =
    let v = valid_by page page.validated page.assigned refl refl in
    same_page page (page_in (Some (range_at 0 0 (range_of_page owner page))))
    (sym (assigned_by page page.validated page.assigned refl refl h.assigned))
    (sym v)
    (three_rights page.rights h.three ∙ parts_again (right_of 1 page) (right_of 2 page) (right_of 3 page) (h.bits 1) (h.bits 2) (h.bits 3))
    (h.bit ∙ ap (λ (t : Bool). t && same_owner owner Vmsa) (sym v))

-- and it is lawful

few_by : (n : ℕ) → n ≤ 4095 → nat_le n 0xfff ≡ true
few_by n h = grind (arith, nat_tests)

few_rights : (a b c : ℕ) → a ≤ 15 → b ≤ 15 → c ≤ 15 → nat_le (a + 16 * b + 256 * c) 0xfff ≡ true
few_rights a b c la lb lc = few_by (a + 16 * b + 256 * c) (omega (arith, la, lb, lc))

zero_by : (n : ℕ) → n ≡ 0 → (n == 0) ≡ true
zero_by n h = ap (λ (m : ℕ). m == 0) h

no_rights : (page : PageState) → ((vmpl : ℕ) → 1 ≤ vmpl → vmpl ≤ 3 → right_of vmpl page ≡ 0) → (rights_of page == 0) ≡ true
no_rights page h =
    let a = h 1 (omega arith) (omega arith) in
    let b = h 2 (omega arith) (omega arith) in
    let c = h 3 (omega arith) (omega arith) in
    zero_by (rights_of page) (omega (arith, a, b, c))

or_right : (t u : Bool) → u ≡ true → (t || u) ≡ true
or_right true u e = refl
or_right false u e = e

rights_by : (owner : Owner) (page : PageState) (t : Bool) → IsTidyPage owner page → page.validated ≡ t → (rights_of page == 0 || (same_owner owner Guest && is_valid (hw_state page))) ≡ true
rights_by Guest page true h e = or_right (rights_of page == 0) (is_valid (hw_state page)) (valid_by page page.validated page.assigned refl refl ∙ e)
rights_by Guest page false h e = ap (λ (t : Bool). t || is_valid (hw_state page)) (no_rights page (h.empty e))
rights_by Module page t h e = ap (λ (t : Bool). t || false) (no_rights page (h.shut (λ no. cc)))
rights_by Pool page t h e = ap (λ (t : Bool). t || false) (no_rights page (h.shut (λ no. cc)))
rights_by Vmsa page t h e = ap (λ (t : Bool). t || false) (no_rights page (h.shut (λ no. cc)))

held_by : (owner : Owner) (page : PageState) → IsTidyPage owner page → (not (same_owner owner Pool || same_owner owner Vmsa) || is_valid (hw_state page)) ≡ true
held_by Guest page h = refl
held_by Module page h = refl
held_by Pool page h = valid_by page page.validated page.assigned refl refl ∙ h.pool refl
held_by Vmsa page h = valid_by page page.validated page.assigned refl refl ∙ h.vmsas refl

said_lawful : (owner : Owner) (page : PageState) → IsTidyPage owner page
    → (has_lawful_rights (range_at 0 0 (range_of_page owner page)) && is_valid_where_held (range_at 0 0 (range_of_page owner page))) ≡ true
said_lawful owner page h =
    all_hold _ _ (all_hold _ _ (few_rights (right_of 1 page) (right_of 2 page) (right_of 3 page) (h.bits 1) (h.bits 2) (h.bits 3)) (rights_by owner page page.validated h refl)) (held_by owner page h)

-- what is said of another page than the GHCB page
saying_is : (image : Image) (state : State) (page : ℕ) → page ≢ image.ghcb.0 → range_of_page (owner_at page state) (page_at page state) ≡ saying image state page
saying_is image state page ne =
    ap (λ (t : Bool). let s : Saying = record { owner = owner_at page state; state = if t then Assigned else hw_state (page_at page state); rights = rights_of (page_at page state) } in s)
    (sym (ne_eqb page image.ghcb.0 ne))

pub tidy_pages_are_said : TidyPagesAreSaid
tidy_pages_are_said image state page ne h =
    let e = saying_is image state page ne in
    record {
      state_is = said_page (owner_at page state) (page_at page state) h ∙ ap (λ (s : Saying). page_in (Some (range_at 0 0 s))) e;
      lawful = ap (λ (s : Saying). has_lawful_rights (range_at 0 0 s) && is_valid_where_held (range_at 0 0 s)) (sym e) ∙ said_lawful (owner_at page state) (page_at page state) h;
    }
