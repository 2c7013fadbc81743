-- The ranges of pages say of each page what was said of it.
use Rattle.std.proofs.Common.{◌≡◌, ℕ, zero, suc, ◌+◌, ◌<◌, ◌≤◌, Bool, true, false, List, [], ◌∷◌, length, get_or, refl, sym, ap, ◌∙◌, subst, arith, ◌⊎◌, inl, inr}
use Rattle.std.specs.Prelude.{⊤, if◌then◌else◌, ◌&&◌, ◌==◌, nat_le, nat_lt, Option, Some, None, find, count_by, cond}
use Rattle.std.specs.Option.{option_map_or}
use Rattle.std.proofs.lemmas.Bool.Decides.{nat_tests}
use Rattle.std.proofs.lemmas.Bool.{eqb-true}
use Rattle.svsm_types.specs.declared.image.Range.{Range}
use Rattle.svsm_types.specs.declared.owner.Owner.{Owner}
use Rattle.svsm_types.specs.declared.owner.Owner.TheVariants.{Guest, Module, Pool, Vmsa}
use Rattle.svsm_types.specs.declared.platform.HwState.{HwState}
use Rattle.svsm_types.specs.declared.platform.HwState.TheVariants.{Shared, Assigned, Valid}
use Rattle.svsm_steps.specs.Checks.{same_owner}
use Rattle.svsm_steps.specs.Image.{is_in_range}
use Rattle.image_text.specs.Saved.{Saying, same_hw, same_saying, range_at, joining, ranges_from}

abbrev pub says_of : Range → Saying
says_of range = record { owner = range.owner; state = range.state; rights = range.rights }

-- what the ranges say of a page
abbrev pub said_by : Option Range → Option Saying
said_by found = option_map_or (λ (range : Range). Some (says_of range)) found None

abbrev pub said_at : List Range → ℕ → Option Saying
said_at ranges page = said_by (find (is_in_range page) ranges)

-- EQUAL SAYINGS

both : (a b : Bool) → (a && b) ≡ true → (a ≡ true) × (b ≡ true)
both true b h = (refl, h)
both false b h = cc

same_owners : (a b : Owner) → same_owner a b ≡ true → a ≡ b
same_owners Guest Guest h = refl
same_owners Module Module h = refl
same_owners Pool Pool h = refl
same_owners Vmsa Vmsa h = refl
same_owners Guest Module h = cc
same_owners Guest Pool h = cc
same_owners Guest Vmsa h = cc
same_owners Module Guest h = cc
same_owners Module Pool h = cc
same_owners Module Vmsa h = cc
same_owners Pool Guest h = cc
same_owners Pool Module h = cc
same_owners Pool Vmsa h = cc
same_owners Vmsa Guest h = cc
same_owners Vmsa Module h = cc
same_owners Vmsa Pool h = cc

same_hws : (a b : HwState) → same_hw a b ≡ true → a ≡ b
same_hws Shared Shared h = refl
same_hws Assigned Assigned h = refl
same_hws Valid Valid h = refl
same_hws Shared Assigned h = cc
same_hws Shared Valid h = cc
same_hws Assigned Shared h = cc
same_hws Assigned Valid h = cc
same_hws Valid Shared h = cc
same_hws Valid Assigned h = cc

pub same_sayings : (a b : Saying) → same_saying a b ≡ true → a ≡ b
same_sayings a b h =
    let p = both (same_owner a.owner b.owner) _ h in
    let q = both (same_hw a.state b.state) _ p.1 in
    ap (λ (o : Owner). let s : Saying = record { owner = o; state = a.state; rights = a.rights } in s) (same_owners a.owner b.owner p.0)
    ∙ ap (λ (x : HwState). let s : Saying = record { owner = b.owner; state = x; rights = a.rights } in s) (same_hws a.state b.state q.0)
    ∙ ap (λ (n : ℕ). let s : Saying = record { owner = b.owner; state = b.state; rights = n } in s) (eqb-true a.rights b.rights q.1)

-- A PAGE IN THE RANGES

is_within : (page first count : ℕ) → first ≤ page → page < first + count → (nat_le first page && nat_lt page (first + count)) ≡ true
is_within page first count low high = grind (arith, nat_tests)

is_below : (page first count : ℕ) → page < first → (nat_le first page && nat_lt page (first + count)) ≡ false
is_below page first count low = grind (arith, nat_tests)

is_past : (page first count : ℕ) → first + count ≤ page → (nat_le first page && nat_lt page (first + count)) ≡ false
is_past page first count high = grind (arith, nat_tests)

pub found_here : (page : ℕ) (range : Range) (ranges : List Range) → is_in_range page range ≡ true → said_at (range ∷ ranges) page ≡ Some (says_of range)
found_here page range ranges h = ap (λ (t : Bool). said_by (cond t (Some range) (find (is_in_range page) ranges))) h

pub found_later : (page : ℕ) (range : Range) (ranges : List Range) → is_in_range page range ≡ false → said_at (range ∷ ranges) page ≡ said_at ranges page
found_later page range ranges h = ap (λ (t : Bool). said_by (cond t (Some range) (find (is_in_range page) ranges))) h

-- the first of the ranges begins there
abbrev pub HeadAt : ℕ → List Range → Type 0
HeadAt first [] = ⊤
HeadAt first (range ∷ ranges) = range.first.0 ≡ first

head_by : (t : Bool) (first : ℕ) (says : Saying) (range : Range) (ranges : List Range)
    → HeadAt first (if t then range_at first (range.count + 1) says ∷ ranges else range_at first 1 says ∷ range ∷ ranges)
head_by true first says range ranges = refl
head_by false first says range ranges = refl

pub joining_head : (first : ℕ) (says : Saying) (ranges : List Range) → HeadAt first (joining first says ranges)
joining_head first says [] = refl
joining_head first says (range ∷ ranges) = head_by (same_saying says (says_of range)) first says range ranges

here_by : (t : Bool) (first : ℕ) (says : Saying) (range : Range) (ranges : List Range)
    → said_at (if t then range_at first (range.count + 1) says ∷ ranges else range_at first 1 says ∷ range ∷ ranges) first ≡ Some says
here_by true first says range ranges = found_here first (range_at first (range.count + 1) says) ranges (is_within first first (range.count + 1) (omega arith) (omega arith))
here_by false first says range ranges = found_here first (range_at first 1 says) (range ∷ ranges) (is_within first first 1 (omega arith) (omega arith))

pub joining_here : (first : ℕ) (says : Saying) (ranges : List Range) → said_at (joining first says ranges) first ≡ Some says
joining_here first says [] = found_here first (range_at first 1 says) [] (is_within first first 1 (omega arith) (omega arith))
joining_here first says (range ∷ ranges) = here_by (same_saying says (says_of range)) first says range ranges

-- a longer range has a later page where the shorter one had it
longer : (page first count : ℕ) → first < page → (nat_le first page && nat_lt page (first + (count + 1))) ≡ (nat_le (first + 1) page && nat_lt page (first + 1 + count))
longer page first count low = grind (arith, nat_tests)

longer_range : (page first : ℕ) (says : Saying) (range : Range) → range.first.0 ≡ first + 1 → first < page
    → is_in_range page (range_at first (range.count + 1) says) ≡ is_in_range page range
longer_range page first says range head low =
    longer page first range.count low ∙ ap (λ (n : ℕ). nat_le n page && nat_lt page (n + range.count)) (sym head)

pick : (t : Bool) (first : ℕ) (says : Saying) (range : Range) (ranges : List Range) (page : ℕ) → says ≡ says_of range
    → said_by (cond t (Some (range_at first (range.count + 1) says)) (find (is_in_range page) ranges)) ≡ said_by (cond t (Some range) (find (is_in_range page) ranges))
pick true first says range ranges page e = ap (λ (s : Saying). Some s) e
pick false first says range ranges page e = refl

later_by : (t : Bool) (first page : ℕ) (says : Saying) (range : Range) (ranges : List Range) → same_saying says (says_of range) ≡ t → range.first.0 ≡ first + 1 → first < page
    → said_at (if t then range_at first (range.count + 1) says ∷ ranges else range_at first 1 says ∷ range ∷ ranges) page ≡ said_at (range ∷ ranges) page
later_by true first page says range ranges same head low =
    ap (λ (t : Bool). said_by (cond t (Some (range_at first (range.count + 1) says)) (find (is_in_range page) ranges))) (longer_range page first says range head low)
    ∙ pick (is_in_range page range) first says range ranges page (same_sayings says (says_of range) same)
later_by false first page says range ranges same head low = found_later page (range_at first 1 says) (range ∷ ranges) (is_past page first 1 (omega arith))

pub joining_later : (first page : ℕ) (says : Saying) (ranges : List Range) → HeadAt (first + 1) ranges → first < page → said_at (joining first says ranges) page ≡ said_at ranges page
joining_later first page says [] head low = found_later page (range_at first 1 says) [] (is_past page first 1 (omega arith))
joining_later first page says (range ∷ ranges) head low = later_by (same_saying says (says_of range)) first page says range ranges refl head low

pub ranges_head : (first : ℕ) (sayings : List Saying) → HeadAt first (ranges_from first sayings)
ranges_head first [] = tt
ranges_head first (says ∷ more) = joining_head first says (ranges_from (first + 1) more)

-- THE RANGES SAY WHAT WAS SAID
pub ranges_say : (sayings : List Saying) (first i : ℕ) (d : Saying) → i < length sayings → said_at (ranges_from first sayings) (first + i) ≡ Some (get_or sayings i d)
ranges_say [] first i d below = absurd (omega arith)
ranges_say (says ∷ more) first zero d below =
    let e : first + 0 ≡ first = omega arith in
    ap (said_at (joining first says (ranges_from (first + 1) more))) e ∙ joining_here first says (ranges_from (first + 1) more)
ranges_say (says ∷ more) first (suc i) d below =
    let e : first + suc i ≡ first + 1 + i = omega arith in
    joining_later first (first + suc i) says (ranges_from (first + 1) more) (ranges_head (first + 1) more) (omega arith)
    ∙ ap (said_at (ranges_from (first + 1) more)) e
    ∙ ranges_say more (first + 1) i d (omega arith)
