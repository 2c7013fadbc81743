-- The ends and breaks of the cores of a wave, one after another.
use Rattle.std.proofs.Common.{◌≡◌, ◌⊎◌, ℕ, ◌+◌, ◌<◌, ◌≤◌, List, take, get_or, length, refl, sym, ◌∙◌, ap, subst, inl, inr, ⊎_elim, arith}
use Rattle.std.specs.Prelude.{All, max, min}
use Rattle.std.specs.List.{Any}
use Rattle.std.proofs.lemmas.List.{get_or_default}
use Rattle.std.proofs.lemmas.List.Elements.{All-more, All-weaker}
use Rattle.run_order.specs.declared.wave.Member.{Member}
use Rattle.svsm_steps.specs.declared.entry.Entry.{Entry}
use Rattle.run_order.specs.Wave.{end_of, break_of, IsOwn, EachIsOwn, IsForeign}

either_max : (a b : ℕ) → (max a b ≡ a) ⊎ (max a b ≡ b)
either_max a b = grind arith

-- one core more: its end, or the greatest before
pub end_more : (members : List Member) (count i end : ℕ) (d : Member) → i < length members
    → All (λ (member : Member). end_of member count ≤ end) (take i members) → (end ≡ 0) ⊎ Any (λ (member : Member). end_of member count ≡ end) members
    → All (λ (member : Member). end_of member count ≤ max end (end_of (get_or members i d) count)) (take (i + 1) members)
    × ((max end (end_of (get_or members i d) count) ≡ 0) ⊎ Any (λ (member : Member). end_of member count ≡ max end (end_of (get_or members i d) count)) members)
end_more members count i end d low most reached =
    let other : ℕ = end_of (get_or members i d) count in
    let here : get_or members i (get_or members i d) ≡ get_or members i d = get_or_default members i (get_or members i d) d low in (
      All-more (λ (member : Member). end_of member count ≤ max end (end_of (get_or members i d) count)) members i d low
          (All-weaker (λ (member : Member). end_of member count ≤ end) (λ (member : Member). end_of member count ≤ max end (end_of (get_or members i d) count)) (λ (member : Member) h. omega (arith, h)) (take i members) most)
          (omega arith),
      ⊎_elim
          (λ (e : max end other ≡ end). subst (λ (n : ℕ). (n ≡ 0) ⊎ Any (λ (member : Member). end_of member count ≡ n) members) (sym e) reached)
          (λ (e : max end other ≡ other). inr (i, get_or members i d, low, here, sym e))
          (either_max end other),
    )

either_min : (a b : ℕ) → (min a b ≡ a) ⊎ (min a b ≡ b)
either_min a b = grind arith

-- one core more: its index, or the least before
pub break_more : (members : List Member) (count i first : ℕ) (d : Member) → i < length members
    → first ≤ count → All (λ (member : Member). first ≤ break_of member count) (take i members) → (first ≡ count) ⊎ Any (λ (member : Member). break_of member count ≡ first) members
    → (min first (break_of (get_or members i d) count) ≤ count)
    × All (λ (member : Member). min first (break_of (get_or members i d) count) ≤ break_of member count) (take (i + 1) members)
    × ((min first (break_of (get_or members i d) count) ≡ count) ⊎ Any (λ (member : Member). break_of member count ≡ min first (break_of (get_or members i d) count)) members)
break_more members count i first d low within least reached =
    let other : ℕ = break_of (get_or members i d) count in
    let here : get_or members i (get_or members i d) ≡ get_or members i d = get_or_default members i (get_or members i d) d low in (
      omega (arith, within),
      All-more (λ (member : Member). min first (break_of (get_or members i d) count) ≤ break_of member count) members i d low
          (All-weaker (λ (member : Member). first ≤ break_of member count) (λ (member : Member). min first (break_of (get_or members i d) count) ≤ break_of member count)
          (λ (member : Member) h. omega (arith, h)) (take i members) least)
          (omega arith),
      ⊎_elim
          (λ (e : min first other ≡ first). subst (λ (n : ℕ). (n ≡ count) ⊎ Any (λ (member : Member). break_of member count ≡ n) members) (sym e) reached)
          (λ (e : min first other ≡ other). inr (i, get_or members i d, low, here, sym e))
          (either_min first other),
    )

last_or : (i at : ℕ) → i < at + 1 → (i < at) ⊎ (i ≡ at)
last_or i at low = grind (arith, low)

-- one entry more is one of a core of the wave
pub own_more : (members : List Member) (entries : List Entry) (at : ℕ) (d : Entry) → at < length entries → EachIsOwn members entries at
    → IsOwn members (length entries) (get_or entries at d) at → EachIsOwn members entries (at + 1)
own_more members entries at d within before own = λ i e low. ⊎_elim
    (λ (l : i < at). before i e l)
    (λ (same : i ≡ at). subst (λ (n : ℕ). IsOwn members (length entries) (get_or entries n e) n) (sym same)
    (subst (λ (x : Entry). IsOwn members (length entries) x at) (get_or_default entries at d e within) own))
    (last_or i at low)

pub foreign_is : (members : List Member) (entries : List Entry) (end at : ℕ) (d : Entry) → at < end → at < length entries → EachIsOwn members entries at
    → (IsOwn members (length entries) (get_or entries at d) at → ⊥) → IsForeign members entries end at
foreign_is members entries end at d low within before foreign = record {
  within = low;
  before = before;
  foreign = λ e own. foreign (subst (λ (x : Entry). IsOwn members (length entries) x at) (get_or_default entries at e d within) own);
}
