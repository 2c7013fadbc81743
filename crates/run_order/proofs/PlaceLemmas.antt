-- Where a core stands behind fewer entries than it was read.
use Rattle.std.proofs.Common.{◌≡◌, ◌⊎◌, ℕ, ◌+◌, ◌<◌, ◌≤◌, List, [], ◌∷◌, ◌++◌, length, take, drop, refl, sym, ◌∙◌, ap, subst, inl, inr, ⊎_elim, Some, arith, append-nil, append_assoc, length-append, take-append-drop, take-take}
use Rattle.std.specs.Prelude.{slice_get, None, ⊤}
use Rattle.std.proofs.lemmas.List.{take_all}
use Rattle.std.proofs.lemmas.Option.{slice_get_within}
use Rattle.svsm_steps.specs.declared.step.Step.{Step}
use Rattle.svsm_steps.specs.declared.entry.Entry.{Entry}
use Rattle.svsm_steps.specs.declared.outcome.Outcome.{Outcome}
use Rattle.svsm_steps.specs.declared.outcome.CoreEnd.{CoreEnd}
use Rattle.svsm_steps.specs.Made.{Made, made_of, made_by}
use Rattle.run_trees.specs.Tree.{Tree, ended, asked_of, tree_after, Follows}
use Rattle.run_trees.proofs.CallTrees.{on_the_way}
use Rattle.run_trees.proofs.WaveTrees.{made_append}
use Rattle.run_order.specs.declared.reader.Stop.{Stop}
use Rattle.run_order.specs.declared.reader.Stop.TheVariants as stops
use Rattle.run_order.specs.Finds.{made_before, StopsAt, IsNextAt, IsBehind, GoesOn}
use Rattle.run_order.specs.Reads.{Leads, Stops}
use Rattle.run_order.proofs.FindLemmas.{made_own, there_is}

-- more entries add steps behind those before
pub made_more : (core : ℕ) (entries : List Entry) (n m : ℕ) → n ≤ m → (more : List Made) × (made_before core entries m ≡ made_before core entries n ++ more)
made_more core entries n m low =
    let front : take n (take m entries) ≡ take n entries = take-take n m entries low in
    let whole : take m entries ≡ take n entries ++ drop n (take m entries) =
    sym (take-append-drop n (take m entries)) ∙ ap (λ (l : List Entry). l ++ drop n (take m entries)) front in
    (made_by core (drop n (take m entries)), ap (made_by core) whole ∙ made_append core (take n entries) (drop n (take m entries)))

none_behind : (xs ys : List Made) → xs ++ ys ≡ xs → ys ≡ []
none_behind [] ys e = e
none_behind (x ∷ xs) ys e = none_behind xs ys (cc)

none_front : (xs ys : List Made) → xs ++ ys ≡ [] → xs ≡ []
none_front [] ys e = refl
none_front (x ∷ xs) ys e = absurd (cc)

-- where more entries add nothing, fewer of them add nothing
pub made_between : (core : ℕ) (entries : List Entry) (a n b : ℕ) → a ≤ n → n ≤ b → made_before core entries b ≡ made_before core entries a
    → made_before core entries n ≡ made_before core entries a
made_between core entries a n b low high same =
    let one = made_more core entries a n low in
    let two = made_more core entries n b high in
    let all : made_before core entries a ++ (one.0 ++ two.0) ≡ made_before core entries a =
    sym (append_assoc (made_before core entries a) one.0 two.0) ∙ (ap (λ (l : List Made). l ++ two.0) (sym one.1) ∙ (sym two.1 ∙ same)) in
    let none : one.0 ≡ [] = none_front one.0 two.0 (none_behind (made_before core entries a) (one.0 ++ two.0) all) in
    one.1 ∙ (ap (λ (l : List Made). made_before core entries a ++ l) none ∙ append-nil (made_before core entries a))

-- A core somewhere on its way: the place that these entries lead it to, where it asks for a step
pub record Asks (core : ℕ) (entries : List Entry) (root : Tree) (n : ℕ) : Type 0 where
  pub tree : Tree
  pub step : Step
  pub follows : Follows root (made_before core entries n) tree
  pub asks : asked_of tree ≡ Some step

asks_on : (mid to : Tree) (more : List Made) (step : Step) → Follows mid more to → asked_of to ≡ Some step → (first : Step) × (asked_of mid ≡ Some first)
asks_on mid to [] step is asks = (step, ap asked_of (sym is) ∙ asks)
asks_on mid to (m ∷ more) step is asks = (m.step, is.0)

asks_more : (mid to : Tree) (more : List Made) (m : Made) → Follows mid (more ++ m ∷ []) to → (first : Step) × (asked_of mid ≡ Some first)
asks_more mid to [] m is = (m.step, is.0)
asks_more mid to (other ∷ more) m is = (other.step, is.0)

-- before a place where it asks
pub asks_before : (core : ℕ) (entries : List Entry) (root to : Tree) (n m : ℕ) (step : Step) → n ≤ m → Follows root (made_before core entries m) to → asked_of to ≡ Some step
    → Asks core entries root n
asks_before core entries root to n m step low is asks =
    let more = made_more core entries n m low in
    let way = on_the_way root to (made_before core entries n) more.0 (subst (λ (l : List Made). Follows root l to) more.1 is) in
    let first = asks_on way.0 to more.0 step way.2 asks in
    record { tree = way.0; step = first.0; follows = way.1; asks = first.1 }

-- before its last entry
pub asks_early : (core : ℕ) (entries : List Entry) (root to : Tree) (n m : ℕ) → n < m → IsBehind core entries m → Follows root (made_before core entries m) to → Asks core entries root n
asks_early core entries root to n m low last is =
    let within = slice_get_within entries last.last last.entry last.there in
    let more = made_more core entries n last.last (omega (arith, low, last.place)) in
    let own : made_before core entries (last.last + 1) ≡ made_before core entries last.last ++ made_of last.entry ∷ [] =
    made_own core entries last.last last.last last.entry within (there_is entries last.last last.entry last.entry within last.there) last.own refl in
    let all : made_before core entries m ≡ made_before core entries n ++ (more.0 ++ made_of last.entry ∷ []) =
    ap (made_before core entries) last.place ∙ (own ∙ (ap (λ (l : List Made). l ++ made_of last.entry ∷ []) more.1 ∙ append_assoc (made_before core entries n) more.0 (made_of last.entry ∷ []))) in
    let way = on_the_way root to (made_before core entries n) (more.0 ++ made_of last.entry ∷ []) (subst (λ (l : List Made). Follows root l to) all is) in
    let first = asks_more way.0 to more.0 (made_of last.entry) way.2 in
    record { tree = way.0; step = first.0; follows = way.1; asks = first.1 }

-- up to where it stops
abbrev pub IsUpTo : List Entry → ℕ → Stop → Type 0
IsUpTo entries n stops.Waits = n ≤ length entries
IsUpTo entries n (stops.Breaks at) = n ≤ at

stops_same : (core : ℕ) (entries : List Entry) (b n : ℕ) (step : Step) (stop : Stop) → b ≤ n → IsUpTo entries n stop → StopsAt core entries b step stop
    → made_before core entries n ≡ made_before core entries b
stops_same core entries b n step stops.Waits low high is =
    made_between core entries b n (length entries) low high (ap (made_by core) (take_all (length entries) entries (omega arith)) ∙ is)
stops_same core entries b n step (stops.Breaks at) low high is = made_between core entries b n at low high is.1.first

order_of_two : (n b : ℕ) → (n ≤ b) ⊎ (b ≤ n)
order_of_two n b = grind arith

pub asks_stopped : (core : ℕ) (entries : List Entry) (root : Tree) (b n : ℕ) (stop : Stop) → Stops core entries 0 b root stop → IsUpTo entries n stop → Asks core entries root n
asks_stopped core entries root b n stop is high = ⊎_elim
    (λ (low : n ≤ b). asks_before core entries root is.to n b is.step low (is.leads root refl) is.asks)
    (λ (low : b ≤ n). record {
      tree = is.to;
      step = is.step;
      follows = subst (λ (l : List Made). Follows root l is.to) (sym (stops_same core entries b n is.step stop low high is.stops)) (is.leads root refl);
      asks = is.asks;
    })
    (order_of_two n b)
