-- What a core made among the first entries, entry by entry.
use Rattle.std.proofs.Common.{◌≡◌, ℕ, ◌+◌, ◌<◌, ◌≤◌, Bool, true, false, List, [], ◌∷◌, ◌++◌, length, take, get_or, refl, sym, ◌∙◌, ap, subst, inl, inr, ⊎_elim, Some, arith, append-nil, true≢false}
use Rattle.std.specs.Prelude.{IsTrue, ◌↔◌, slice_get, ◌==◌}
use Rattle.std.proofs.lemmas.List.{take_more, take_all}
use Rattle.std.proofs.lemmas.Option.{slice_get-get_or, same_Some}
use Rattle.std.proofs.lemmas.Bool.{cases_Bool}
use Rattle.svsm_steps.specs.declared.step.Step.{Step}
use Rattle.svsm_steps.specs.declared.entry.Entry.{Entry}
use Rattle.svsm_steps.specs.declared.call.Got.TheVariants as gets
use Rattle.svsm_steps.specs.Made.{Made, made_of, made_by}
use Rattle.call_decode.specs.Goes.{IsInMap}
use Rattle.run_trees.proofs.WaveTrees.{made_append, same}
use Rattle.run_trees.proofs.FrontTrees.{mine, others'}
use Rattle.run_trees.proofs.WholeTrees.{self}
use Rattle.run_order.specs.Finds.{AreInMap, made_before, IsNextAt, IsBehind, GoesOn}

apart_false : (x y : ℕ) → (x ≡ y → ⊥) → (x == y) ≡ false
apart_false x y apart = ⊎_elim (λ (e : (x == y) ≡ true). absurd (apart (same x y e))) (λ (e : (x == y) ≡ false). e) (cases_Bool (x == y))

more_is : (core : ℕ) (entries : List Entry) (at : ℕ) (d : Entry) → at < length entries
    → made_before core entries (at + 1) ≡ made_before core entries at ++ made_by core (get_or entries at d ∷ [])
more_is core entries at d low = ap (made_by core) (take_more entries at d low) ∙ made_append core (take at entries) (get_or entries at d ∷ [])

-- an entry of another core adds nothing
pub made_other : (core : ℕ) (entries : List Entry) (from at : ℕ) (d : Entry) → at < length entries → ((get_or entries at d).core ≡ core → ⊥)
    → made_before core entries at ≡ made_before core entries from → made_before core entries (at + 1) ≡ made_before core entries from
made_other core entries from at d low apart before =
    more_is core entries at d low ∙ ap (λ (l : List Made). made_before core entries at ++ l) (others' core (get_or entries at d) [] (apart_false (get_or entries at d).core core apart))
    ∙ append-nil (made_before core entries at) ∙ before

-- an entry of the core adds its step
pub made_own : (core : ℕ) (entries : List Entry) (from at : ℕ) (entry : Entry) → at < length entries → get_or entries at entry ≡ entry → entry.core ≡ core
    → made_before core entries at ≡ made_before core entries from → made_before core entries (at + 1) ≡ made_before core entries from ++ made_of entry ∷ []
made_own core entries from at entry low there own before =
    more_is core entries at entry low ∙ ap (λ (e : Entry). made_before core entries at ++ made_by core (e ∷ [])) there
    ∙ ap (λ (l : List Made). made_before core entries at ++ l) (mine core entry [] (subst (λ (c : ℕ). (entry.core == c) ≡ true) own (self entry.core)))
    ∙ ap (λ (l : List Made). l ++ made_of entry ∷ []) before

pub made_all : (core : ℕ) (entries : List Entry) (from at : ℕ) → length entries ≤ at → made_before core entries at ≡ made_before core entries from
    → made_by core entries ≡ made_before core entries from
made_all core entries from at past before = ap (made_by core) (sym (take_all at entries past)) ∙ before

-- going on
pub goes_none : (core : ℕ) (entries : List Entry) (at : ℕ) → GoesOn core entries at at
goes_none core entries at = record { rises = omega arith; behind = inl refl }

pub goes_both : (core : ℕ) (entries : List Entry) (a b c : ℕ) → GoesOn core entries a b → GoesOn core entries b c → GoesOn core entries a c
goes_both core entries a b c h k = record {
  rises = omega (arith, h.rises, k.rises);
  behind = ⊎_elim
      (λ (e : c ≡ b). ⊎_elim (λ (f : b ≡ a). inl (e ∙ f)) (λ (w : IsBehind core entries b). inr (subst (λ (n : ℕ). IsBehind core entries n) (sym e) w)) h.behind)
      (λ (w : IsBehind core entries c). inr w) k.behind;
}

pub goes_one : (core : ℕ) (entries : List Entry) (from at : ℕ) (entry : Entry) → from ≤ at → slice_get entries at ≡ Some entry → entry.core ≡ core → GoesOn core entries from (at + 1)
goes_one core entries from at entry rises there own = record {
  rises = omega (arith, rises);
  behind = inr (record { last = at; entry = entry; place = refl; there = there; own = own });
}

-- the entry that stands at an index
pub there_is : (entries : List Entry) (at : ℕ) (entry d : Entry) → at < length entries → slice_get entries at ≡ Some entry → get_or entries at d ≡ entry
there_is entries at entry d low there = same_Some (get_or entries at d) entry (sym (slice_get-get_or entries at d low) ∙ there)

-- the next entry of the core is read
pub reads_next : (core : ℕ) (entries : List Entry) (from at : ℕ) (entry d : Entry) → IsNextAt core entries from at entry → AreInMap entries
    → GoesOn core entries from (at + 1)
    × (made_before core entries (at + 1) ≡ made_before core entries from ++ made_of (get_or entries at d) ∷ [])
    × IsInMap (gets.Answer (get_or entries at d).answer)
reads_next core entries from at entry d next within =
    let there : get_or entries at d ≡ entry = there_is entries at entry d next.within next.there in (
      goes_one core entries from at entry next.rises next.there next.own,
      made_own core entries from at entry next.within (there_is entries at entry entry next.within next.there) next.own next.first
          ∙ ap (λ (e : Entry). made_before core entries from ++ made_of e ∷ []) (sym there),
      within at d next.within,
    )

-- its step is the one that is asked for
pub reads_step : (core : ℕ) (entries : List Entry) (from at : ℕ) (entry d : Entry) (step : Step) (same_as : Bool) → IsNextAt core entries from at entry → AreInMap entries
    → (IsTrue same_as ↔ ((get_or entries at d).step ≡ step)) → same_as ≡ true
    → GoesOn core entries from (at + 1)
    × (made_before core entries (at + 1)
    ≡ made_before core entries from ++ record { ticket = (get_or entries at d).ticket; step = step; answer = (get_or entries at d).answer } ∷ [])
    × IsInMap (gets.Answer (get_or entries at d).answer)
reads_step core entries from at entry d step same_as next within tests is =
    let read = reads_next core entries from at entry d next within in
    (read.0, read.1 ∙ ap (λ (s : Step). made_before core entries from ++ record { ticket = (get_or entries at d).ticket; step = s; answer = (get_or entries at d).answer } ∷ []) (tests.0 is), read.2)

-- it is another
pub not_step : (core : ℕ) (entries : List Entry) (from at : ℕ) (entry d : Entry) (step : Step) (same_as : Bool) → IsNextAt core entries from at entry
    → (IsTrue same_as ↔ ((get_or entries at d).step ≡ step)) → same_as ≡ false → entry.step ≡ step → ⊥
not_step core entries from at entry d step same_as next tests is same =
    true≢false (sym (tests.1 (ap (λ (e : Entry). e.step) (there_is entries at entry d next.within next.there) ∙ same)) ∙ is)
