-- Two readings of a list, and of the list with more entries, have the same waves as far as both go.
use Rattle.std.proofs.Common.{◌≡◌, ℕ, Bool, true, false, List, [], ◌∷◌, ◌++◌, refl, sym, ◌∙◌, ap, subst, inl, inr, ◌⊎◌, ⊎_elim, append_assoc}
use Rattle.std.specs.Prelude.{◌≢◌, IsTrue}
use Rattle.std.specs.List.{list_all}
use Rattle.std.proofs.lemmas.List.{append-nil, append_cancel_left}
use Rattle.svsm_types.specs.declared.address.Gpa.{Gpa}
use Rattle.svsm_types.specs.declared.image.Image.{Image}
use Rattle.svsm_types.specs.declared.request.Request.{Request}
use Rattle.svsm_steps.specs.declared.answer.Answer.TheVariants.{Seen}
use Rattle.svsm_steps.specs.declared.entry.Entry.{Entry}
use Rattle.svsm_steps.specs.declared.outcome.Outcome.{Outcome}
use Rattle.svsm_steps.specs.declared.outcome.CoreEnd.{CoreEnd}
use Rattle.svsm_steps.specs.Made.{Made, made_of, made_by}
use Rattle.svsm_steps.specs.Announced.{Announced}
use Rattle.svsm_calls.specs.Waves.{is_among, next_wave, enters, exits_of, has_refused, IsWave, AreWaves, none, one_more}
use Rattle.svsm_calls.specs.Run.{caller_of, script_of}
use Rattle.run_trees.specs.Tree.{Tree, ended, Follows}
use Rattle.run_trees.specs.Laws.{script_tree}
use Rattle.run_trees.specs.Begun.{HasEntered, HasEnded, IsUnderWay}
use Rattle.run_trees.proofs.CallTrees.{one_end, on_the_way}
use Rattle.run_trees.proofs.WaveTrees.{made_append, none_made, fresh, left, right}
use Rattle.run_trees.proofs.FrontTrees.{cut, tails, mine, none_of_waves, among_left, among_right}
use Rattle.run_trees.proofs.WholeTrees.{self}

-- ONE CORE

-- what a core makes behind a place leads from there
pub leads_on : (image : Image) (scripts : List (List Request)) (core : ℕ) (made more : List Made) (tree end : Tree)
    → HasEntered image scripts core made tree → HasEntered image scripts core (made ++ more) end → Follows tree more end
leads_on image scripts core made more tree end here there =
    let told : record { ticket = here.ticket; step = enters image core; answer = Seen here.page here.caa } ∷ (here.rest ++ more) ≡ record { ticket = there.ticket; step = enters image core; answer = Seen there.page there.caa } ∷ there.rest =
    sym (ap (λ (l : List Made). l ++ more) here.begins) ∙ there.begins in
    let parts = tails (record { ticket = here.ticket; step = enters image core; answer = Seen here.page here.caa }) (record { ticket = there.ticket; step = enters image core; answer = Seen there.page there.caa }) (here.rest ++ more) there.rest told in
    let answers : Seen here.page here.caa ≡ Seen there.page there.caa = ap (λ (m : Made). m.answer) parts.0 in
    let caa : here.caa ≡ there.caa = cc in
    let root = script_tree image.host (caller_of image core here.caa) (script_of scripts core) in
    let all : Follows root (here.rest ++ more) end =
    subst (λ (l : List Made). Follows root l end) (sym parts.1)
    (subst (λ (c : Gpa). Follows (script_tree image.host (caller_of image core c) (script_of scripts core)) there.rest end) (sym caa) there.follows) in
    let way = on_the_way root end here.rest more all in
    subst (λ (t : Tree). Follows t more end) (sym (one_end root tree way.0 here.rest here.follows way.1)) way.2

no_step : (outs : List Outcome) (last : CoreEnd) (made : List Made) (end : Tree) → Follows (ended outs last) made end → made ≡ []
no_step outs last [] end follows = refl
no_step outs last (m ∷ made) end follows = absurd (let no = follows.0 in cc)

-- and behind its end a core makes nothing
pub at_end : (image : Image) (scripts : List (List Request)) (core : ℕ) (made more : List Made) → HasEnded image scripts core made → IsUnderWay image scripts core (made ++ more) → more ≡ []
at_end image scripts core made more over under =
    no_step over.outs over.end more under.tree (leads_on image scripts core made more (ended over.outs over.end) under.tree over.entered under.entered)

-- ONE WAVE

pub all_back : (test : Entry → Bool) (one other : List Entry) → IsTrue (list_all test (one ++ other)) → IsTrue (list_all test other)
all_back test [] other is = is
all_back test (entry ∷ one) other is = all_back test one other (right (test entry) (list_all test (one ++ other)) is)

abbrev pub AllEnded : Image → List (List Request) → List ℕ → List Entry → Type 0
AllEnded image scripts cores wave = (core : ℕ) → is_among core cores ≡ true → HasEnded image scripts core (made_by core wave)

abbrev pub AllUnderWay : Image → List (List Request) → List ℕ → List Entry → Type 0
AllUnderWay image scripts cores wave = (core : ℕ) → is_among core cores ≡ true → IsUnderWay image scripts core (made_by core wave)

pub ended_under : (image : Image) (scripts : List (List Request)) (cores : List ℕ) (wave : List Entry) → AllEnded image scripts cores wave → AllUnderWay image scripts cores wave
ended_under image scripts cores wave over core among = let has = over core among in record { tree = ended has.outs has.end; entered = has.entered }

-- where all its cores are at their ends, no entry of theirs is behind it
pub over_ends : (image : Image) (scripts : List (List Request)) (cores : List ℕ) (wave more : List Entry) → IsTrue (list_all (λ (entry : Entry). is_among entry.core cores) (wave ++ more))
    → AllEnded image scripts cores wave → AllUnderWay image scripts cores (wave ++ more) → more ≡ []
over_ends image scripts cores wave [] all over under = refl
over_ends image scripts cores wave (entry ∷ more) all over under =
    let test : Entry → Bool = λ entry. is_among entry.core cores in
    let among : is_among entry.core cores ≡ true = left (test entry) (list_all test more) (all_back test wave (entry ∷ more) all) in
    let nothing : made_by entry.core (entry ∷ more) ≡ [] =
    at_end image scripts entry.core (made_by entry.core wave) (made_by entry.core (entry ∷ more)) (over entry.core among)
    (subst (λ (m : List Made). IsUnderWay image scripts entry.core m) (made_append entry.core wave (entry ∷ more)) (under entry.core among)) in
    let no : made_of entry ∷ made_by entry.core more ≡ [] = sym (mine entry.core entry more (self entry.core)) ∙ nothing in absurd (cc)

-- WAVES FROM THE FRONT

-- these entries are the next wave, and its cores are at their ends
pub record IsOverWave (image : Image) (scripts : List (List Request)) (before : List Entry) (ran : List ℕ) (exits : List Announced) (wave : List Entry) : Type 0 where
  pub taken : has_refused image exits ≡ false
  pub some : next_wave image before ran ≢ []
  pub is : IsWave image (next_wave image before ran) wave
  pub over : AllEnded image scripts (next_wave image before ran) wave

-- from one place waves lead to another
pub data Grows (image : Image) (scripts : List (List Request)) : List Entry → List ℕ → List Announced → List Entry → List ℕ → List Announced → Type 0 where
  stays : (before : List Entry) (ran : List ℕ) (exits : List Announced) → Grows image scripts before ran exits before ran exits
  grows :
      (before : List Entry) (ran : List ℕ) (exits : List Announced) (wave after : List Entry) (after_ran : List ℕ) (after_exits : List Announced)
      → IsOverWave image scripts before ran exits wave
      → Grows image scripts (before ++ wave) (ran ++ next_wave image before ran) (exits ++ exits_of image before wave) after after_ran after_exits
      → Grows image scripts before ran exits after after_ran after_exits

-- one wave more
further : (image : Image) (scripts : List (List Request)) (before : List Entry) (ran : List ℕ) (exits : List Announced) (after : List Entry) (after_ran : List ℕ) (after_exits : List Announced) (wave : List Entry)
    → Grows image scripts before ran exits after after_ran after_exits → IsOverWave image scripts after after_ran after_exits wave
    → Grows image scripts before ran exits (after ++ wave) (after_ran ++ next_wave image after after_ran) (after_exits ++ exits_of image after wave)
further image scripts _ _ _ _ _ _ wave (stays before ran exits) over =
    grows before ran exits wave (before ++ wave) (ran ++ next_wave image before ran) (exits ++ exits_of image before wave) over (stays (before ++ wave) (ran ++ next_wave image before ran) (exits ++ exits_of image before wave))
further image scripts _ _ _ _ _ _ wave (grows before ran exits one after after_ran after_exits first rest) over =
    grows before ran exits one (after ++ wave) (after_ran ++ next_wave image after after_ran) (after_exits ++ exits_of image after wave) first
    (further image scripts (before ++ one) (ran ++ next_wave image before ran) (exits ++ exits_of image before one) after after_ran after_exits wave rest over)

-- waves whose cores are at their ends lead there from the begin
pub all_grow : (image : Image) (scripts : List (List Request)) (entries : List Entry) (ran : List ℕ) (exits : List Announced) → AreWaves image entries ran exits → AllEnded image scripts ran entries
    → Grows image scripts [] [] [] entries ran exits
all_grow image scripts _ _ _ none over = stays [] [] []
all_grow image scripts _ _ _ (one_more before ran cores wave exits waves taken next some is) over =
    let apart : (core : ℕ) → is_among core ran ≡ true → is_among core cores ≡ true → ⊥ =
    λ core old new. fresh image before ran core (subst (λ (l : List ℕ). is_among core l ≡ true) next new) old in
    let old_over : AllEnded image scripts ran before =
    λ core old. subst (λ (m : List Made). HasEnded image scripts core m)
    (made_append core before wave ∙ ap (λ (l : List Made). made_by core before ++ l) (none_made core cores wave is.of_cores (apart core old)) ∙ append-nil (made_by core before))
    (over core (among_left core ran cores old)) in
    let new_over : AllEnded image scripts cores wave =
    λ core new. subst (λ (m : List Made). HasEnded image scripts core m)
    (made_append core before wave ∙ ap (λ (l : List Made). l ++ made_by core wave) (none_of_waves image before ran exits core waves (λ old. apart core old new)))
    (over core (among_right core ran cores new)) in
    let this : IsOverWave image scripts before ran exits wave = record {
      taken = taken;
      some = λ none. some (next ∙ none);
      is = subst (λ (l : List ℕ). IsWave image l wave) next is;
      over = subst (λ (l : List ℕ). AllEnded image scripts l wave) next new_over;
    } in
    subst (λ (l : List ℕ). Grows image scripts [] [] [] (before ++ wave) (ran ++ l) (exits ++ exits_of image before wave)) (sym next)
    (further image scripts [] [] [] before ran exits wave (all_grow image scripts before ran exits waves old_over) this)

-- the entries there begin with those here
pub reaches : (image : Image) (scripts : List (List Request)) (before : List Entry) (ran : List ℕ) (exits : List Announced) (after : List Entry) (after_ran : List ℕ) (after_exits : List Announced)
    → Grows image scripts before ran exits after after_ran after_exits → (more : List Entry) × (after ≡ before ++ more)
reaches image scripts _ _ _ _ _ _ (stays before ran exits) = ([], sym (append-nil before))
reaches image scripts _ _ _ _ _ _ (grows before ran exits wave after after_ran after_exits first rest) =
    let more = reaches image scripts (before ++ wave) (ran ++ next_wave image before ran) (exits ++ exits_of image before wave) after after_ran after_exits rest in
    (wave ++ more.0, more.1 ∙ append_assoc before wave more.0)

-- of two waves that are over at one place and in one list, both are the same
one_wave : (image : Image) (scripts : List (List Request)) (before : List Entry) (ran : List ℕ) (exits : List Announced) (one other more back : List Entry)
    → IsOverWave image scripts before ran exits one → IsOverWave image scripts before ran exits other → one ++ more ≡ other ++ back → one ≡ other
one_wave image scripts before ran exits one other more back first second same =
    let cores = next_wave image before ran in
    ⊎_elim
    (λ short.
    let long_is : other ≡ one ++ short.0 = short.1 in
    let end : short.0 ≡ [] = over_ends image scripts cores one short.0
    (subst (λ (l : List Entry). IsTrue (list_all (λ (entry : Entry). is_among entry.core cores) l)) long_is second.is.of_cores) first.over
    (subst (λ (l : List Entry). AllUnderWay image scripts cores l) long_is (ended_under image scripts cores other second.over)) in
    sym (long_is ∙ ap (λ (l : List Entry). one ++ l) end ∙ append-nil one))
    (λ long.
    let long_is : one ≡ other ++ long.0 = long.1 in
    let end : long.0 ≡ [] = over_ends image scripts cores other long.0
    (subst (λ (l : List Entry). IsTrue (list_all (λ (entry : Entry). is_among entry.core cores) l)) long_is first.is.of_cores) second.over
    (subst (λ (l : List Entry). AllUnderWay image scripts cores l) long_is (ended_under image scripts cores one first.over)) in
    long_is ∙ ap (λ (l : List Entry). other ++ l) end ∙ append-nil other)
    (cut one more other back same)

-- of two readings of one list, one goes on to the other
pub compare : (image : Image) (scripts : List (List Request)) (before : List Entry) (ran : List ℕ) (exits : List Announced)
    (one : List Entry) (one_ran : List ℕ) (one_exits : List Announced) (other : List Entry) (other_ran : List ℕ) (other_exits : List Announced) (more back : List Entry)
    → Grows image scripts before ran exits one one_ran one_exits → Grows image scripts before ran exits other other_ran other_exits → one ++ more ≡ other ++ back
    → Grows image scripts one one_ran one_exits other other_ran other_exits ⊎ Grows image scripts other other_ran other_exits one one_ran one_exits
compare image scripts _ _ _ _ _ _ other other_ran other_exits more back (stays before ran exits) second same = inl second
compare image scripts _ _ _ _ _ _ _ _ _ more back (grows before ran exits wave one one_ran one_exits over rest) (stays _ _ _) same =
    inr (grows before ran exits wave one one_ran one_exits over rest)
compare image scripts _ _ _ _ _ _ _ _ _ more back (grows before ran exits wave one one_ran one_exits over rest) (grows _ _ _ wave' other other_ran other_exits over' rest') same =
    let cores = next_wave image before ran in
    let reach = reaches image scripts (before ++ wave) (ran ++ cores) (exits ++ exits_of image before wave) one one_ran one_exits rest in
    let reach' = reaches image scripts (before ++ wave') (ran ++ cores) (exits ++ exits_of image before wave') other other_ran other_exits rest' in
    let inner : wave ++ (reach.0 ++ more) ≡ wave' ++ (reach'.0 ++ back) =
    append_cancel_left before (wave ++ (reach.0 ++ more)) (wave' ++ (reach'.0 ++ back))
    (sym (append_assoc before wave (reach.0 ++ more)) ∙ sym (append_assoc (before ++ wave) reach.0 more) ∙ ap (λ (l : List Entry). l ++ more) (sym reach.1) ∙ same
    ∙ ap (λ (l : List Entry). l ++ back) reach'.1 ∙ append_assoc (before ++ wave') reach'.0 back ∙ append_assoc before wave' (reach'.0 ++ back)) in
    let same_wave : wave ≡ wave' = one_wave image scripts before ran exits wave wave' (reach.0 ++ more) (reach'.0 ++ back) over over' inner in
    compare image scripts (before ++ wave) (ran ++ cores) (exits ++ exits_of image before wave) one one_ran one_exits other other_ran other_exits more back rest
    (subst (λ (w : List Entry). Grows image scripts (before ++ w) (ran ++ cores) (exits ++ exits_of image before w) other other_ran other_exits) (sym same_wave) rest') same
