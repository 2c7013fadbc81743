-- Where a core of a wave stands behind the wave's first entries.
use Rattle.std.proofs.Common.{◌≡◌, ◌⊎◌, ℕ, zero, suc, ◌+◌, ◌<◌, ◌≤◌, List, [], ◌∷◌, ◌++◌, length, get_or, refl, sym, ◌∙◌, ap, subst, inl, inr, ⊎_elim, Some, arith}
use Rattle.std.specs.Prelude.{slice_get}
use Rattle.std.proofs.lemmas.Option.{slice_get_within}
use Rattle.svsm_types.specs.declared.image.HostLine.{HostLine}
use Rattle.svsm_types.specs.declared.request.Request.{Request}
use Rattle.svsm_steps.specs.declared.step.Step.{Step}
use Rattle.svsm_steps.specs.declared.entry.Entry.{Entry}
use Rattle.svsm_steps.specs.declared.outcome.Outcome.{Outcome}
use Rattle.svsm_steps.specs.declared.outcome.CoreEnd.{CoreEnd}
use Rattle.svsm_steps.specs.declared.call.Caller.{Caller}
use Rattle.svsm_steps.specs.Made.{Made}
use Rattle.run_trees.specs.Tree.{Tree, ended, asked_of, Follows}
use Rattle.run_trees.specs.Laws.{script_tree}
use Rattle.run_order.specs.declared.core_read.CoreRead.{CoreRead}
use Rattle.run_order.specs.declared.core_read.CoreRead.TheVariants as reads
use Rattle.run_order.specs.declared.reader.Stop.{Stop}
use Rattle.run_order.specs.declared.reader.Stop.TheVariants as stops
use Rattle.run_order.specs.Finds.{made_before, IsBehind, GoesOn}
use Rattle.run_order.specs.Reads.{CoreReads}
use Rattle.svsm_types.specs.declared.image.Image.{Image}
use Rattle.svsm_calls.specs.Run.{script_of}
use Rattle.run_order.specs.declared.wave.Member.{Member}
use Rattle.run_order.specs.Wave.{IsRead, end_by, end_of, break_by, break_of, EachIsOwn}
use Rattle.run_order.proofs.FindLemmas.{made_other}
use Rattle.run_order.proofs.PlaceLemmas.{Asks, asks_early, asks_stopped}

-- no entry of the core stands between
abbrev pub NoneBetween : ℕ → List Entry → ℕ → ℕ → Type 0
NoneBetween core entries from n = (i : ℕ) (d : Entry) → from ≤ i → i < n → (get_or entries i d).core ≡ core → ⊥

below_or : (n b : ℕ) → (n < b) ⊎ (b ≤ n)
below_or n b = grind arith

same_or : (n b : ℕ) → b ≤ n + 1 → (b ≡ n + 1) ⊎ (b ≤ n)
same_or n b low = grind (arith, low)

-- so many entries more, none of which is of the core
made_none_by : (core : ℕ) (entries : List Entry) (b more : ℕ) (d : Entry) → b + more ≤ length entries → NoneBetween core entries b (b + more)
    → made_before core entries (b + more) ≡ made_before core entries b
made_none_by core entries b zero d within none = let e : b + zero ≡ b = omega arith in ap (made_before core entries) e
made_none_by core entries b (suc more) d within none =
    let e : b + suc more ≡ (b + more) + 1 = omega arith in
    let before : made_before core entries (b + more) ≡ made_before core entries b =
    made_none_by core entries b more d (omega (arith, within)) (λ i d low high. none i d low (omega (arith, high))) in
    ap (made_before core entries) e
    ∙ made_other core entries b (b + more) d (omega (arith, within)) (λ own. none (b + more) d (omega arith) (omega arith) own) before

sum_of : (b n : ℕ) → b ≤ n → (more : ℕ) × (n ≡ b + more)
sum_of zero n low = (n, omega arith)
sum_of (suc b) zero low = absurd (omega (arith, low))
sum_of (suc b) (suc n) low = let rest = sum_of b n (omega (arith, low)) in (rest.0, omega (arith, rest.1))

pub made_none : (core : ℕ) (entries : List Entry) (b n : ℕ) (d : Entry) → b ≤ n → n ≤ length entries → NoneBetween core entries b n
    → made_before core entries n ≡ made_before core entries b
made_none core entries b n d low within none =
    let more = sum_of b n low in
    ap (made_before core entries) more.1
    ∙ made_none_by core entries b more.0 d (omega (arith, more.1, within)) (λ i d from high. none i d from (omega (arith, more.1, high)))

-- the place of a core that was read: where it has not ended yet, it asks for a step
pub read_place : (core : ℕ) (entries : List Entry) (lines : List HostLine) (caller : Caller) (script : List Request) (read : CoreRead) (behind n : ℕ) (d : Entry)
    → CoreReads core entries lines caller script 0 read behind → n ≤ length entries → n ≤ break_by read (length entries)
    → NoneBetween core entries (end_by read behind (length entries)) n
    → (n < end_by read behind (length entries) → Asks core entries (script_tree lines caller script) n)
    × ((tree : Tree) × Follows (script_tree lines caller script) (made_before core entries n) tree)
read_place core entries lines caller script (reads.Ended outcomes end) behind n d is within low none =
    let root : Tree = script_tree lines caller script in
    let early : n < behind → Asks core entries root n =
    λ before. ⊎_elim
    (λ (e : behind ≡ 0). absurd (omega (arith, before, e)))
    (λ (last : IsBehind core entries behind). asks_early core entries root (ended outcomes end) n behind before last (is.1 root refl))
    is.0.behind in (
      early,
      ⊎_elim
          (λ (before : n < behind). let at = early before in (at.tree, at.follows))
          (λ (past : behind ≤ n). (
            ended outcomes end,
            subst (λ (made : List Made). Follows root made (ended outcomes end)) (sym (made_none core entries behind n d past within none)) (is.1 root refl),
          ))
          (below_or n behind),
    )
read_place core entries lines caller script (reads.Stopped stops.Waits) behind n d is within low none =
    let at = asks_stopped core entries (script_tree lines caller script) behind n stops.Waits is within in ((λ going. at), (at.tree, at.follows))
read_place core entries lines caller script (reads.Stopped (stops.Breaks index)) behind n d is within low none =
    let at = asks_stopped core entries (script_tree lines caller script) behind n (stops.Breaks index) is low in ((λ going. at), (at.tree, at.follows))

-- no two of them are of one core
abbrev pub AreApart : List Member → Type 0
AreApart members =
    (j k : ℕ) (one other : Member) → j < length members → k < length members → get_or members j one ≡ one → get_or members k other ≡ other
    → one.caller.core ≡ other.caller.core → one ≡ other

-- where each of the first entries is of a core before its end, none behind the end of a core is its own
pub none_behind_end : (members : List Member) (entries : List Entry) (k n : ℕ) (member : Member) → AreApart members → k < length members → get_or members k member ≡ member
    → EachIsOwn members entries n → NoneBetween member.caller.core entries (end_of member (length entries)) n
none_behind_end members entries k n member apart within there each i d from high own =
    let at = each i d high in
    let same : at.1 ≡ member = apart at.0 k at.1 member at.2 within at.3 there (at.4.0 ∙ own) in
    let low : i < end_of member (length entries) = subst (λ (m : Member). i < end_of m (length entries)) same at.4.1 in
    omega (arith, from, low)

-- a core of a wave behind entries that are of its cores, and break nothing
pub member_place : (image : Image) (scripts : List (List Request)) (members : List Member) (entries : List Entry) (k n : ℕ) (member : Member) (d : Entry)
    → AreApart members → k < length members → get_or members k member ≡ member → IsRead image scripts entries member
    → n ≤ length entries → n ≤ break_of member (length entries) → EachIsOwn members entries n
    → (n < end_of member (length entries)
    → Asks member.caller.core entries (script_tree image.host member.caller (script_of scripts member.caller.core)) n)
    × ((tree : Tree) × Follows (script_tree image.host member.caller (script_of scripts member.caller.core)) (made_before member.caller.core entries n) tree)
member_place image scripts members entries k n member d apart within there read low unbroken each =
    read_place member.caller.core entries image.host member.caller (script_of scripts member.caller.core) member.read member.behind n d read low unbroken
    (none_behind_end members entries k n member apart within there each)

-- a core that has ended stays where it is
pub ended_stays : (core : ℕ) (entries : List Entry) (lines : List HostLine) (caller : Caller) (script : List Request) (outcomes : List Outcome) (end : CoreEnd) (behind n : ℕ) (d : Entry)
    → CoreReads core entries lines caller script 0 (reads.Ended outcomes end) behind → behind ≤ n → n ≤ length entries → NoneBetween core entries behind n
    → Follows (script_tree lines caller script) (made_before core entries n) (ended outcomes end)
ended_stays core entries lines caller script outcomes end behind n d is past within none =
    subst (λ (made : List Made). Follows (script_tree lines caller script) made (ended outcomes end)) (sym (made_none core entries behind n d past within none))
    (is.1 (script_tree lines caller script) refl)

-- one that stopped asks for a step, up to where it stopped
pub stopped_asks : (core : ℕ) (entries : List Entry) (lines : List HostLine) (caller : Caller) (script : List Request) (stop : Stop) (behind n : ℕ)
    → CoreReads core entries lines caller script 0 (reads.Stopped stop) behind → n ≤ length entries → n ≤ break_by (reads.Stopped stop) (length entries)
    → Asks core entries (script_tree lines caller script) n
stopped_asks core entries lines caller script stops.Waits behind n is within low =
    asks_stopped core entries (script_tree lines caller script) behind n stops.Waits is within
stopped_asks core entries lines caller script (stops.Breaks index) behind n is within low =
    asks_stopped core entries (script_tree lines caller script) behind n (stops.Breaks index) is low

-- where a core asks for another step than its next entry has
pub record AsksOther (core : ℕ) (entries : List Entry) (root : Tree) (at : ℕ) : Type 0 where
  pub tree : Tree
  pub step : Step
  pub entry : Entry
  pub follows : Follows root (made_before core entries at) tree
  pub asks : asked_of tree ≡ Some step
  pub within : at < length entries
  pub there : slice_get entries at ≡ Some entry
  pub own : entry.core ≡ core
  pub other : entry.step ≡ step → ⊥

pub break_asks : (core : ℕ) (entries : List Entry) (lines : List HostLine) (caller : Caller) (script : List Request) (at behind : ℕ)
    → CoreReads core entries lines caller script 0 (reads.Stopped (stops.Breaks at)) behind → AsksOther core entries (script_tree lines caller script) at
break_asks core entries lines caller script at behind is = record {
  tree = is.to;
  step = is.step;
  entry = is.stops.0;
  follows = subst (λ (made : List Made). Follows (script_tree lines caller script) made is.to) (sym is.stops.1.first) (is.leads (script_tree lines caller script) refl);
  asks = is.asks;
  within = is.stops.1.within;
  there = is.stops.1.there;
  own = is.stops.1.own;
  other = is.stops.2;
}

-- an ended core's last entry stands within the list
pub ended_within : (core : ℕ) (entries : List Entry) (behind : ℕ) → GoesOn core entries 0 behind → behind ≤ length entries
ended_within core entries behind goes = ⊎_elim
    (λ (e : behind ≡ 0). omega (arith, e))
    (λ (last : IsBehind core entries behind). let low : last.last < length entries = slice_get_within entries last.last last.entry last.there in omega (arith, low, last.place))
    goes.behind
