-- How the cores of a wave are read behind their Enters: a foreign entry, the wave's end, a break, or more to come.
use Rattle.std.proofs.Common.{◌≡◌, ◌⊎◌, ℕ, zero, suc, ◌+◌, ◌<◌, ◌≤◌, Bool, true, false, List, [], ◌∷◌, ◌++◌, length, take, get_or, map, refl, sym, ◌∙◌, ap, subst, inl, inr, ⊎_elim, Some, None, arith}
use Rattle.std.specs.Prelude.{IsTrue, All, ◌&&◌, ◌||◌, ◌==◌, slice_get, min, max}
use Rattle.std.specs.List.{Any, list_all}
use Rattle.std.proofs.lemmas.List.{get_or_default, get_or-map, length-map, take_all}
use Rattle.std.proofs.lemmas.List.Elements.{All-map, All-push}
use Rattle.std.proofs.lemmas.Option.{slice_get_within, slice_get-get_or, get_or_from_slice_get}
use Rattle.std.proofs.lemmas.Bool.Decides.{nat_tests}
use Rattle.svsm_types.specs.declared.image.Image.{Image}
use Rattle.svsm_types.specs.declared.request.Request.{Request}
use Rattle.svsm_steps.specs.declared.step.Step.{Step}
use Rattle.svsm_steps.specs.declared.step.Step.TheVariants.{Enter}
use Rattle.svsm_steps.specs.declared.answer.Answer.TheVariants.{Done}
use Rattle.svsm_steps.specs.declared.entry.Entry.{Entry}
use Rattle.svsm_steps.specs.declared.outcome.Outcome.{Outcome}
use Rattle.svsm_steps.specs.declared.outcome.CoreEnd.{CoreEnd}
use Rattle.svsm_steps.specs.declared.outcome.CoreRun.{CoreRun}
use Rattle.svsm_steps.specs.declared.call.Caller.{Caller}
use Rattle.svsm_steps.specs.Made.{Made}
use Rattle.svsm_calls.specs.Run.{script_of}
use Rattle.svsm_calls.specs.Waves.{is_among}
use Rattle.run_trees.specs.Tree.{Tree, ended, asked_of, Follows}
use Rattle.run_trees.specs.Laws.{script_tree}
use Rattle.run_trees.proofs.WaveTrees.{either, same, or_true}
use Rattle.run_order.specs.declared.core_read.CoreRead.{CoreRead}
use Rattle.run_order.specs.declared.core_read.CoreRead.TheVariants as reads
use Rattle.run_order.specs.declared.reader.Stop.{Stop}
use Rattle.run_order.specs.declared.reader.Stop.TheVariants as stops
use Rattle.run_order.specs.declared.wave.Member.{Member}
use Rattle.run_order.specs.declared.wave.WaveRead.TheVariants as waves
use Rattle.run_order.specs.Finds.{made_before}
use Rattle.run_order.specs.Reads.{CoreReads}
use Rattle.run_order.specs.Wave.{IsRead, end_by, end_of, break_by, break_of, IsEndOfAll, IsFirstBreak, IsOwn, EachIsOwn, IsForeign, IsEndedBy, HasEnd, HasStopped, IsRunOfOne, Stands, AreStanding, AsksMore, IsNotAsked, IsEndOf, CoresRead}
use Rattle.run_order.specs.WaveReads.{AreOnce}
use Rattle.run_order.proofs.PlaceLemmas.{Asks}
use Rattle.run_order.proofs.MemberPlaces.{NoneBetween, AreApart, none_behind_end, member_place, ended_stays, stopped_asks, AsksOther, break_asks, ended_within}

-- NUMBERS

pub own_number : (x : ℕ) → (x == x) ≡ true
own_number x = grind (arith, nat_tests)

-- the number of an element is among their numbers
pub among_of : {A : Type 0} (f : A → ℕ) (xs : List A) (k : ℕ) (x : A) → k < length xs → get_or xs k x ≡ x → is_among (f x) (map f xs) ≡ true
among_of f [] k x low there = absurd (omega (arith, low))
among_of f (y ∷ ys) zero x low there = ap (λ (b : Bool). b || is_among (f x) (map f ys)) (ap (λ (z : _). f z == f x) there ∙ own_number (f x))
among_of f (y ∷ ys) (suc k) x low there = ap (λ (b : Bool). (f y == f x) || b) (among_of f ys k x (omega (arith, low)) there) ∙ or_true (f y == f x)

-- and a number among them is that of an element
pub found_of : {A : Type 0} (f : A → ℕ) (xs : List A) (number : ℕ) → is_among number (map f xs) ≡ true → Any (λ (x : A). f x ≡ number) xs
found_of f [] number is = absurd (cc)
found_of f (y ∷ ys) number is = ⊎_elim
    (λ (e : (f y == number) ≡ true). (0, y, omega arith, refl, same (f y) number e))
    (λ (e : is_among number (map f ys) ≡ true). let rest = found_of f ys number e in (suc rest.0, rest.1, omega (arith, rest.2), rest.3, rest.4))
    (either (f y == number) (is_among number (map f ys)) is)

pub two_ways : (b : Bool) → b ≡ false → b ≡ true → ⊥
two_ways b out into = let e : false ≡ true = sym out ∙ into in absurd (cc)

-- no two elements have one number
pub apart_by : {A : Type 0} (f : A → ℕ) (xs : List A) (j k : ℕ) (one other : A) → AreOnce (map f xs) → j < length xs → k < length xs
    → get_or xs j one ≡ one → get_or xs k other ≡ other → f one ≡ f other → one ≡ other
apart_by f [] j k one other once low high here there e = absurd (omega (arith, low))
apart_by f (x ∷ xs) zero zero one other once low high here there e = sym here ∙ there
apart_by f (x ∷ xs) zero (suc k) one other once low high here there e =
    absurd (two_ways (is_among (f x) (map f xs)) once.0
    (subst (λ (n : ℕ). is_among n (map f xs) ≡ true) (sym e ∙ ap f (sym here)) (among_of f xs k other (omega (arith, high)) there)))
apart_by f (x ∷ xs) (suc j) zero one other once low high here there e =
    absurd (two_ways (is_among (f x) (map f xs)) once.0
    (subst (λ (n : ℕ). is_among n (map f xs) ≡ true) (e ∙ ap f (sym there)) (among_of f xs j one (omega (arith, low)) here)))
apart_by f (x ∷ xs) (suc j) (suc k) one other once low high here there e =
    apart_by f xs j k one other once.1 (omega (arith, low)) (omega (arith, high)) here there e

pub map_map : {A B C : Type 0} (g : B → C) (f : A → B) (xs : List A) → map g (map f xs) ≡ map (λ (x : A). g (f x)) xs
map_map g f [] = refl
map_map g f (x ∷ xs) = ap (λ (l : List _). g (f x) ∷ l) (map_map g f xs)

-- a test holds of each
pub all_first : (test : Entry → Bool) (n : ℕ) (entries : List Entry) → ((i : ℕ) (d : Entry) → i < n → i < length entries → test (get_or entries i d) ≡ true)
    → IsTrue (list_all test (take n entries))
all_first test zero [] each = refl
all_first test zero (entry ∷ entries) each = refl
all_first test (suc n) [] each = refl
all_first test (suc n) (entry ∷ entries) each =
    ap (λ (b : Bool). b && list_all test (take n entries)) (each 0 entry (omega arith) (omega arith))
    ∙ all_first test n entries (λ i d low within. each (suc i) d (omega (arith, low)) (omega (arith, within)))

map_long : {A B : Type 0} (f : A → B) (xs : List A) → length (map f xs) ≡ length xs
map_long f [] = refl
map_long f (x ∷ xs) = ap suc (map_long f xs)

pub any_map : {A B : Type 0} (P : B → Type 0) (f : A → B) (xs : List A) → Any (λ (x : A). P (f x)) xs → Any P (map f xs)
any_map P f xs any = (
  any.0,
  f any.1,
  subst (λ (n : ℕ). any.0 < n) (sym (map_long f xs)) any.2,
  get_or-map f xs any.0 any.1 (f any.1) any.2 ∙ ap f any.3,
  any.4,
)

-- MEMBERS

abbrev caller_in : Member → Caller
caller_in member = member.caller

abbrev core_in : Member → ℕ
core_in member = member.caller.core

-- a whole wave that was read, with its end and its first break
pub record Read (image : Image) (scripts : List (List Request)) (members : List Member) (entries : List Entry) (end first : ℕ) : Type 0 where
  pub once : AreOnce (map core_in members)
  pub read : All (IsRead image scripts entries) members
  pub ends : IsEndOfAll members (length entries) end
  pub breaks : IsFirstBreak members (length entries) first

pub read_of : (image : Image) (scripts : List (List Request)) (members : List Member) (entries : List Entry) (callers : List Caller) (end first : ℕ)
    → map caller_in members ≡ callers → AreOnce (map (λ (caller : Caller). caller.core) callers) → All (IsRead image scripts entries) members
    → IsEndOfAll members (length entries) end → IsFirstBreak members (length entries) first → Read image scripts members entries end first
read_of image scripts members entries callers end first same once read ends breaks = record {
  once = subst AreOnce (map_map (λ (caller : Caller). caller.core) caller_in members)
      (subst (λ (l : List Caller). AreOnce (map (λ (caller : Caller). caller.core) l)) (sym same) once);
  read = read;
  ends = ends;
  breaks = breaks;
}

no_entry : Entry
no_entry = record { ticket = 0; core = 0; place = 0; step = Enter 0; answer = Done }

are_apart : (members : List Member) → AreOnce (map core_in members) → AreApart members
are_apart members once j k one other low high here there e = apart_by core_in members j k one other once low high here there e

-- each core stands somewhere
standing : (image : Image) (scripts : List (List Request)) (members : List Member) (entries : List Entry) (end first n : ℕ) → Read image scripts members entries end first
    → n ≤ first → EachIsOwn members entries n → AreStanding image scripts (map caller_in members) entries n
standing image scripts members entries end first n read low each = record {
  of_cores = all_first (λ (entry : Entry). is_among entry.core (map (λ (caller : Caller). caller.core) (map caller_in members))) n entries
      (λ i d before within. let own = each i d before in
      subst (λ (l : List ℕ). is_among (get_or entries i d).core l ≡ true) (sym (map_map (λ (caller : Caller). caller.core) caller_in members))
      (subst (λ (c : ℕ). is_among c (map core_in members) ≡ true) own.4.0 (among_of core_in members own.0 own.1 own.2 own.3)));
  each = All-map (λ (caller : Caller). (tree : Tree) × Stands image scripts entries n caller tree) caller_in members
      (λ k d within. let member : Member = get_or members k d in
      (member_place image scripts members entries k n member no_entry (are_apart members read.once) within (get_or_default members k member d within) (read.read k d within)
      (let high = read.breaks.within in omega (arith, low, high)) (let least = read.breaks.least k d within in omega (arith, low, least)) each).1);
}

-- the core that a place of the list has
read_at : (image : Image) (scripts : List (List Request)) (members : List Member) (entries : List Entry) (k : ℕ) (member : Member) → All (IsRead image scripts entries) members
    → k < length members → get_or members k member ≡ member → IsRead image scripts entries member
read_at image scripts members entries k member read within there = subst (IsRead image scripts entries) there (read k member within)

break_at : (members : List Member) (count first k : ℕ) (member : Member) → All (λ (m : Member). first ≤ break_of m count) members → k < length members → get_or members k member ≡ member
    → first ≤ break_of member count
break_at members count first k member least within there = subst (λ (m : Member). first ≤ break_of m count) there (least k member within)

-- a core before its end asks for a step
asks_more : (image : Image) (scripts : List (List Request)) (members : List Member) (entries : List Entry) (end first n k : ℕ) (member : Member) → Read image scripts members entries end first
    → n ≤ first → EachIsOwn members entries n → k < length members → get_or members k member ≡ member → n < end_of member (length entries)
    → AsksMore image scripts entries n member.caller
asks_more image scripts members entries end first n k member read low each within there before =
    let place = member_place image scripts members entries k n member no_entry (are_apart members read.once) within there (read_at image scripts members entries k member read.read within there)
    (let high = read.breaks.within in omega (arith, low, high))
    (let least = break_at members (length entries) first k member read.breaks.least within there in omega (arith, low, least)) each in
    let asks = place.0 before in
    record { tree = asks.tree; step = asks.step; stands = asks.follows; asks = asks.asks }

stopped_more : (image : Image) (scripts : List (List Request)) (members : List Member) (entries : List Entry) (end first n k : ℕ) (member : Member) (stop : Stop) → Read image scripts members entries end first
    → n ≤ first → k < length members → get_or members k member ≡ member → member.read ≡ reads.Stopped stop → AsksMore image scripts entries n member.caller
stopped_more image scripts members entries end first n k member stop read low within there is =
    let core_reads : CoreReads member.caller.core entries image.host member.caller (script_of scripts member.caller.core) 0 (reads.Stopped stop) member.behind =
    subst (λ (r : CoreRead). CoreReads member.caller.core entries image.host member.caller (script_of scripts member.caller.core) 0 r member.behind) is
    (read_at image scripts members entries k member read.read within there) in
    let least : first ≤ break_by (reads.Stopped stop) (length entries) =
    subst (λ (r : CoreRead). first ≤ break_by r (length entries)) is (break_at members (length entries) first k member read.breaks.least within there) in
    let asks = stopped_asks member.caller.core entries image.host member.caller (script_of scripts member.caller.core) stop member.behind n core_reads
    (let high = read.breaks.within in omega (arith, low, high)) (omega (arith, low, least)) in
    record { tree = asks.tree; step = asks.step; stands = asks.follows; asks = asks.asks }

-- a core stays at its end
at_end : (image : Image) (scripts : List (List Request)) (members : List Member) (entries : List Entry) (end first n k : ℕ) (member : Member) (outs : List Outcome) (last : CoreEnd)
    → Read image scripts members entries end first → n ≤ first → EachIsOwn members entries n → k < length members → get_or members k member ≡ member → IsEndedBy member outs last
    → end_of member (length entries) ≤ n → Stands image scripts entries n member.caller (ended outs last)
at_end image scripts members entries end first n k member outs last read low each within there is past =
    let e : end_of member (length entries) ≡ member.behind = ap (λ (r : CoreRead). end_by r member.behind (length entries)) is in
    let core_reads : CoreReads member.caller.core entries image.host member.caller (script_of scripts member.caller.core) 0 (reads.Ended outs last) member.behind =
    subst (λ (r : CoreRead). CoreReads member.caller.core entries image.host member.caller (script_of scripts member.caller.core) 0 r member.behind) is
    (read_at image scripts members entries k member read.read within there) in
    let none : NoneBetween member.caller.core entries member.behind n =
    subst (λ (b : ℕ). NoneBetween member.caller.core entries b n) e (none_behind_end members entries k n member (are_apart members read.once) within there each) in
    ended_stays member.caller.core entries image.host member.caller (script_of scripts member.caller.core) outs last member.behind n no_entry core_reads
    (omega (arith, e, past)) (let high = read.breaks.within in omega (arith, low, high)) none

ended_or : (member : Member) (read : CoreRead) → member.read ≡ read → HasEnd member ⊎ HasStopped member
ended_or member (reads.Ended outs last) is = inl (outs, last, is)
ended_or member (reads.Stopped stop) is = inr (stop, is)

here_at : (xs : List Member) (x : Member) (rest : List Member) → get_or (xs ++ x ∷ rest) (length xs) x ≡ x
here_at [] x rest = refl
here_at (y ∷ xs) x rest = here_at xs x rest

here_low : (xs : List Member) (x : Member) (rest : List Member) → length xs < length (xs ++ x ∷ rest)
here_low [] x rest = omega arith
here_low (y ∷ xs) x rest = let low = here_low xs x rest in omega (arith, low)

-- one core more, read to its end
pub run_more : (members before rest : List Member) (member : Member) (runs : List CoreRun) (outs : List Outcome) (last : CoreEnd) → members ≡ before ++ member ∷ rest
    → All (IsRunOfOne members) runs → member.read ≡ reads.Ended outs last
    → All (IsRunOfOne members) (runs ++ record { core = member.caller.core; outcomes = outs; end = last } ∷ [])
run_more members before rest member runs outs last is are ends =
    All-push (IsRunOfOne members) runs (record { core = member.caller.core; outcomes = outs; end = last }) are (
      length before,
      member,
      subst (λ (l : List Member). length before < length l) (sym is) (here_low before member rest),
      subst (λ (l : List Member). get_or l (length before) member ≡ member) (sym is) (here_at before member rest),
      (refl, ends),
    )

-- none of them stopped
pub none_stops : (members before rest : List Member) (member : Member) (stop : Stop) → members ≡ before ++ member ∷ rest → All HasEnd members
    → member.read ≡ reads.Stopped stop → ⊥
none_stops members before rest member stop is all stopped =
    let ends : HasEnd member = subst HasEnd (here_at before member rest)
    (subst (All HasEnd) is all (length before) member (here_low before member rest)) in
    not_both ends.0 ends.1 (sym ends.2 ∙ stopped)
  where
    not_both : (outs : List Outcome) (last : CoreEnd) → reads.Ended outs last ≡ reads.Stopped stop → ⊥
    not_both outs last e = absurd (cc)

pub all_end : (members : List Member) → (Any HasStopped members → ⊥) → All HasEnd members
all_end members none k d within =
    let member : Member = get_or members k d in
    ⊎_elim
    (λ (end : HasEnd member). end)
    (λ (stopped : HasStopped member). absurd (none (k, member, within, get_or_default members k member d within, stopped)))
    (ended_or member member.read refl)

-- THE FOUR CASES

-- the entry at the index is of no core of the wave, or of one that has ended
foreign_not : (image : Image) (scripts : List (List Request)) (members : List Member) (entries : List Entry) (end first at : ℕ) (entry : Entry) → Read image scripts members entries end first
    → at ≤ first → IsForeign members entries end at → slice_get entries at ≡ Some entry → All (λ (member : Member). IsNotAsked image scripts entries at entry member.caller) members
foreign_not image scripts members entries end first at entry read low foreign there k d within own =
    let member : Member = get_or members k d in
    let here : get_or members k member ≡ member = get_or_default members k member d within in
    let inside : at < length entries = slice_get_within entries at entry there in
    let entry_is : get_or entries at entry ≡ entry = get_or_from_slice_get entries at entry entry there in
    let past : (at < end_of member (length entries)) → ⊥ =
    λ before. foreign.foreign entry (k, member, within, here, (own ∙ ap (λ (e : Entry). e.core) (sym entry_is), before)) in
    ⊎_elim
    (λ (ends : HasEnd member). (
      ended ends.0 ends.1,
      at_end image scripts members entries end first at k member ends.0 ends.1 read low foreign.before within here ends.2 (not_below at (end_of member (length entries)) past),
      λ asks. none_some asks,
    ))
    (λ (stopped : HasStopped member). absurd (past (
    let e : end_of member (length entries) ≡ length entries = ap (λ (r : CoreRead). end_by r member.behind (length entries)) stopped.1 in omega (arith, e, inside))))
    (ended_or member member.read refl)
  where
    not_below : (a b : ℕ) → (a < b → ⊥) → b ≤ a
    not_below a b past = ⊎_elim (λ (e : a < b). absurd (past e)) (λ (e : b ≤ a). e) (grind arith)

    none_some : {step : Step} → None ≡ Some step → ⊥
    none_some e = absurd (cc)

pub reads_foreign : (image : Image) (scripts : List (List Request)) (members : List Member) (entries : List Entry) (end first at : ℕ) → Read image scripts members entries end first
    → IsForeign members entries (min end first) at → CoresRead image scripts (map caller_in members) entries (waves.Breaks at)
reads_foreign image scripts members entries end first at read foreign =
    let low : at < min end first = foreign.within in
    let within = read.breaks.within in
    let before : IsForeign members entries end at = record { within = omega (arith, low); before = foreign.before; foreign = foreign.foreign } in (
      omega (arith, low, within),
      (
        standing image scripts members entries end first at read (omega (arith, low)) foreign.before,
        (
          any_map (AsksMore image scripts entries at) caller_in members (⊎_elim
              (λ (none : end ≡ 0). absurd (omega (arith, low, none)))
              (λ (last : Any (λ (member : Member). end_of member (length entries) ≡ end) members). (
                last.0,
                last.1,
                last.2,
                last.3,
                asks_more image scripts members entries end first at last.0 last.1 read (omega (arith, low)) foreign.before last.2 last.3
                    (let e : end_of last.1 (length entries) ≡ end = last.4 in omega (arith, low, e)),
              ))
              read.ends.reached),
          λ entry there. All-map (IsNotAsked image scripts entries at entry) caller_in members
              (foreign_not image scripts members entries end first at entry read (omega (arith, low)) before there),
        ),
      ),
    )

-- each core is at its end
over_stands : (image : Image) (scripts : List (List Request)) (members : List Member) (entries : List Entry) (end first : ℕ) (run : CoreRun) → Read image scripts members entries end first
    → end ≤ first → EachIsOwn members entries end → IsRunOfOne members run → IsEndOf image scripts (map caller_in members) entries end run
over_stands image scripts members entries end first run read low each is =
    any_map (λ (caller : Caller). (caller.core ≡ run.core) × Stands image scripts entries end caller (ended run.outcomes run.end)) caller_in members (
      is.0,
      is.1,
      is.2,
      is.3,
      (
        is.4.0,
        at_end image scripts members entries end first end is.0 is.1 run.outcomes run.end read low each is.2 is.3 is.4.1
            (subst (λ (m : Member). end_of m (length entries) ≤ end) is.3 (read.ends.most is.0 is.1 is.2)),
      ),
    )

-- an end lies within the entries
end_within : (image : Image) (scripts : List (List Request)) (entries : List Entry) (member : Member) → IsRead image scripts entries member → HasEnd member
    → end_of member (length entries) ≤ length entries
end_within image scripts entries member read ends =
    let e : end_of member (length entries) ≡ member.behind = ap (λ (r : CoreRead). end_by r member.behind (length entries)) ends.2 in
    let core_reads : CoreReads member.caller.core entries image.host member.caller (script_of scripts member.caller.core) 0 (reads.Ended ends.0 ends.1) member.behind =
    subst (λ (r : CoreRead). CoreReads member.caller.core entries image.host member.caller (script_of scripts member.caller.core) 0 r member.behind) ends.2 read in
    let low = ended_within member.caller.core entries member.behind core_reads.0 in
    omega (arith, e, low)

pub all_within : (image : Image) (scripts : List (List Request)) (members : List Member) (entries : List Entry) (end first : ℕ) → Read image scripts members entries end first
    → end ≤ length entries
all_within image scripts members entries end first read = ⊎_elim
    (λ (none : end ≡ 0). omega (arith, none))
    (λ (last : Any (λ (member : Member). end_of member (length entries) ≡ end) members).
    let e : end_of last.1 (length entries) ≡ end = last.4 in
    ⊎_elim
    (λ (ends : HasEnd last.1).
    let low = end_within image scripts entries last.1 (read_at image scripts members entries last.0 last.1 read.read last.2 last.3) ends in omega (arith, e, low))
    (λ (stopped : HasStopped last.1).
    let same : end_of last.1 (length entries) ≡ length entries = ap (λ (r : CoreRead). end_by r last.1.behind (length entries)) stopped.1 in omega (arith, e, same))
    (ended_or last.1 last.1.read refl))
    read.ends.reached

-- where each core ended, none breaks
no_break : (image : Image) (scripts : List (List Request)) (members : List Member) (entries : List Entry) (end first : ℕ) → Read image scripts members entries end first
    → All HasEnd members → first ≡ length entries
no_break image scripts members entries end first read all = ⊎_elim
    (λ (none : first ≡ length entries). none)
    (λ (breaks : Any (λ (member : Member). break_of member (length entries) ≡ first) members).
    let ends = subst HasEnd breaks.3 (all breaks.0 breaks.1 breaks.2) in
    let same : break_of breaks.1 (length entries) ≡ length entries = ap (λ (r : CoreRead). break_by r (length entries)) ends.2 in
    sym breaks.4 ∙ same)
    read.breaks.reached

pub reads_over : (image : Image) (scripts : List (List Request)) (members : List Member) (entries : List Entry) (end first : ℕ) (runs : List CoreRun) → Read image scripts members entries end first
    → All HasEnd members → EachIsOwn members entries (min end first) → map (λ (run : CoreRun). run.core) runs ≡ map core_in members → All (IsRunOfOne members) runs
    → (end ≤ length entries) × (AreStanding image scripts (map caller_in members) entries end
    × ((map (λ (run : CoreRun). run.core) runs ≡ map (λ (caller : Caller). caller.core) (map caller_in members))
    × All (IsEndOf image scripts (map caller_in members) entries end) runs))
reads_over image scripts members entries end first runs read all each cores are =
    let within = all_within image scripts members entries end first read in
    let none = no_break image scripts members entries end first read all in
    let low : end ≤ first = omega (arith, within, none) in
    let limit : min end first ≡ end = omega (arith, low) in
    let own : EachIsOwn members entries end = subst (EachIsOwn members entries) limit each in (
      within,
      (
        standing image scripts members entries end first end read low own,
        (
          cores ∙ sym (map_map (λ (caller : Caller). caller.core) caller_in members),
          λ k d there. over_stands image scripts members entries end first (get_or runs k d) read low own (are k d there),
        ),
      ),
    )

-- the end is that of all entries where a core stopped
stopped_end : (members : List Member) (entries : List Entry) (end : ℕ) → IsEndOfAll members (length entries) end → Any HasStopped members → length entries ≤ end
stopped_end members entries end ends stopped =
    let most : end_of stopped.1 (length entries) ≤ end = subst (λ (m : Member). end_of m (length entries) ≤ end) stopped.3 (ends.most stopped.0 stopped.1 stopped.2) in
    let same : end_of stopped.1 (length entries) ≡ length entries = ap (λ (r : CoreRead). end_by r stopped.1.behind (length entries)) stopped.4.1 in
    omega (arith, most, same)

more_of_all : (image : Image) (scripts : List (List Request)) (members : List Member) (entries : List Entry) (end first n : ℕ) → Read image scripts members entries end first
    → n ≤ first → Any HasStopped members → Any (AsksMore image scripts entries n) (map caller_in members)
more_of_all image scripts members entries end first n read low stopped = any_map (AsksMore image scripts entries n) caller_in members (
  stopped.0,
  stopped.1,
  stopped.2,
  stopped.3,
  stopped_more image scripts members entries end first n stopped.0 stopped.1 stopped.4.0 read low stopped.2 stopped.3 stopped.4.1,
)

pub reads_more : (image : Image) (scripts : List (List Request)) (members : List Member) (entries : List Entry) (end first : ℕ) → Read image scripts members entries end first
    → Any HasStopped members → EachIsOwn members entries (min end first) → length entries ≤ min end first → CoresRead image scripts (map caller_in members) entries waves.UnderWay
reads_more image scripts members entries end first read stopped each past =
    let long = stopped_end members entries end read.ends stopped in
    let within = read.breaks.within in
    let all : first ≡ length entries = omega (arith, within, past) in
    let limit : min end first ≡ length entries = omega (arith, all, long) in (
      standing image scripts members entries end first (length entries) read (omega (arith, all)) (subst (EachIsOwn members entries) limit each),
      more_of_all image scripts members entries end first (length entries) read (omega (arith, all)) stopped,
    )

-- the core whose break is the first asks for another step than the entry there
break_is : (read : CoreRead) (count at : ℕ) → break_by read count ≡ at → at < count → read ≡ reads.Stopped (stops.Breaks at)
break_is (reads.Ended outs last) count at e low = absurd (omega (arith, e, low))
break_is (reads.Stopped stops.Waits) count at e low = absurd (omega (arith, e, low))
break_is (reads.Stopped (stops.Breaks index)) count at e low = ap (λ (i : ℕ). reads.Stopped (stops.Breaks i)) e

break_not : (image : Image) (scripts : List (List Request)) (members : List Member) (entries : List Entry) (end first : ℕ) (entry : Entry) → Read image scripts members entries end first
    → first < length entries → Any (λ (member : Member). break_of member (length entries) ≡ first) members → slice_get entries first ≡ Some entry
    → All (λ (member : Member). IsNotAsked image scripts entries first entry member.caller) members
break_not image scripts members entries end first entry read low breaks there k d within own =
    let member : Member = get_or members k d in
    let here : get_or members k member ≡ member = get_or_default members k member d within in
    let is : breaks.1.read ≡ reads.Stopped (stops.Breaks first) = break_is breaks.1.read (length entries) first breaks.4 low in
    let core_reads : CoreReads breaks.1.caller.core entries image.host breaks.1.caller (script_of scripts breaks.1.caller.core) 0 (reads.Stopped (stops.Breaks first)) breaks.1.behind =
    subst (λ (r : CoreRead). CoreReads breaks.1.caller.core entries image.host breaks.1.caller (script_of scripts breaks.1.caller.core) 0 r breaks.1.behind) is
    (read_at image scripts members entries breaks.0 breaks.1 read.read breaks.2 breaks.3) in
    let other = break_asks breaks.1.caller.core entries image.host breaks.1.caller (script_of scripts breaks.1.caller.core) first breaks.1.behind core_reads in
    let one : other.entry ≡ entry = same_some (sym other.there ∙ there) in
    let same_core : breaks.1.caller.core ≡ member.caller.core = sym other.own ∙ (ap (λ (e : Entry). e.core) one ∙ sym own) in
    let same_member : breaks.1 ≡ member = are_apart members read.once breaks.0 k breaks.1 member breaks.2 within breaks.3 here same_core in (
      other.tree,
      subst (λ (m : Member). Stands image scripts entries first m.caller other.tree) same_member other.follows,
      λ asks. other.other (ap (λ (e : Entry). e.step) one ∙ same_some (sym asks ∙ other.asks)),
    )
  where
    same_some : {A : Type 0} {x y : A} → Some x ≡ Some y → x ≡ y
    same_some e = cc

pub reads_break : (image : Image) (scripts : List (List Request)) (members : List Member) (entries : List Entry) (end first : ℕ) → Read image scripts members entries end first
    → Any HasStopped members → EachIsOwn members entries (min end first) → min end first < length entries
    → CoresRead image scripts (map caller_in members) entries (waves.Breaks (min end first))
reads_break image scripts members entries end first read stopped each low =
    let long = stopped_end members entries end read.ends stopped in
    let limit : min end first ≡ first = omega (arith, low, long) in
    let before : first < length entries = omega (arith, low, long) in
    subst (λ (n : ℕ). CoresRead image scripts (map caller_in members) entries (waves.Breaks n)) (sym limit) (
      before,
      (
        standing image scripts members entries end first first read (omega arith) (subst (EachIsOwn members entries) limit each),
        (
          more_of_all image scripts members entries end first first read (omega arith) stopped,
          λ entry there. All-map (IsNotAsked image scripts entries first entry) caller_in members (⊎_elim
              (λ (none : first ≡ length entries). absurd (omega (arith, none, before)))
              (λ (breaks : Any (λ (member : Member). break_of member (length entries) ≡ first) members).
              break_not image scripts members entries end first entry read before breaks there)
              read.breaks.reached),
        ),
      ),
    )
