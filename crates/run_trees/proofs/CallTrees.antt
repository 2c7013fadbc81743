-- What leads along the tree of a call is a call's sequence, or is cut off by a fault.
use Rattle.std.proofs.Common.{◌≡◌, ℕ, ◌+◌, Bool, true, false, List, [], ◌∷◌, ◌++◌, refl, sym, ◌∙◌, ap, subst, inl, inr, ◌⊎◌, ⊎_elim, Option, None, Some, map}
use Rattle.std.specs.Prelude.{IsTrue, ◌==◌}
use Rattle.svsm_types.specs.declared.address.Gpa.{Gpa}
use Rattle.svsm_types.specs.declared.image.HostLine.{HostLine}
use Rattle.svsm_steps.specs.declared.step.Step.{Step}
use Rattle.svsm_steps.specs.declared.step.Step.TheVariants as steps
use Rattle.svsm_steps.specs.declared.answer.Answer.{Answer}
use Rattle.svsm_steps.specs.declared.answer.Answer.TheVariants.{Fault}
use Rattle.svsm_steps.specs.declared.answer.Answer.TheVariants as answers
use Rattle.svsm_steps.specs.declared.call.Do.{Do}
use Rattle.svsm_steps.specs.declared.call.Do.TheVariants as todo
use Rattle.svsm_steps.specs.declared.outcome.Outcome.{Outcome}
use Rattle.svsm_steps.specs.declared.outcome.Outcome.TheVariants as outcomes
use Rattle.svsm_steps.specs.declared.outcome.CoreEnd.{CoreEnd}
use Rattle.svsm_steps.specs.declared.outcome.CoreEnd.TheVariants.{Faulted}
use Rattle.svsm_steps.specs.Formed.{is_listed}
use Rattle.svsm_steps.specs.Region.{fault_at}
use Rattle.svsm_steps.specs.Made.{Made}
use Rattle.svsm_calls.specs.Dialogue.{Dialogue, ask, poll, reply, spurious, first_of, AreListed, LeadsTo, IsWhole}
use Rattle.svsm_calls.specs.Events.{Event, polled, pairs_of}
use Rattle.svsm_calls.specs.CoreRun.{area_by, area_after, call_outcome}
use Rattle.svsm_calls.specs.World.{Scripted, world_after, AreGiven}
use Rattle.run_trees.specs.Laws.{CanAnswer, AreAnswers}
use Rattle.run_trees.specs.Tree.{Tree, ended, unless_fault, call_tree, tree_after, Follows}

some_of : (a b : ℕ) → Some a ≡ Some b → a ≡ b
some_of a b e = cc

-- a fault has its number
pub fault_of : (answer : Answer) (done : ℕ) → fault_at answer ≡ Some done → answer ≡ Fault done
fault_of (Fault other) done e = ap Fault (some_of other done e)
fault_of answers.Done done e = absurd (cc)
fault_of (answers.Word word) done e = absurd (cc)
fault_of answers.Denied done e = absurd (cc)
fault_of answers.Refused done e = absurd (cc)
fault_of answers.Unchanged done e = absurd (cc)
fault_of (answers.Hw code) done e = absurd (cc)
fault_of answers.BadVmsa done e = absurd (cc)
fault_of (answers.Strange owner) done e = absurd (cc)
fault_of (answers.Held count) done e = absurd (cc)
fault_of (answers.Block page left) done e = absurd (cc)
fault_of (answers.Empty left) done e = absurd (cc)
fault_of (answers.Seen page caa) done e = absurd (cc)
fault_of answers.Taken done e = absurd (cc)
fault_of answers.Unknown done e = absurd (cc)
fault_of answers.Running done e = absurd (cc)

-- the world after events
abbrev pub worlds_after : Scripted → List Event → Scripted
worlds_after world [] = world
worlds_after world (event ∷ events) = worlds_after (world_after world event) events

-- a call that came to its end, with what follows it
pub record CallOver (lines : List HostLine) (core : ℕ) (d : Dialogue) (area : Gpa) (world : Scripted) (more : Outcome → Gpa → Scripted → Tree) (steps : List Made) (end : Tree) : Type 0 where
  pub first : List Made
  pub second : List Made
  pub polls : List Bool
  pub over : Do
  pub outcome : Outcome
  pub split : steps ≡ first ++ second
  pub whole : IsWhole d (pairs_of first) polls over
  pub gave : call_outcome over ≡ Some outcome
  pub listed : AreListed (pairs_of first)
  pub given : AreGiven lines core world (map polled polls)
  pub answers : AreAnswers second
  pub follows : Follows (more outcome (area_after area first) (worlds_after world (map polled polls))) second end

-- a call that a fault cut off
pub record CallCut (lines : List HostLine) (core : ℕ) (given : List Outcome) (d : Dialogue) (world : Scripted) (steps : List Made) (outs : List Outcome) (end : CoreEnd) : Type 0 where
  pub before : List Made
  pub polls : List Bool
  pub now : Dialogue
  pub step : Step
  pub performed : ℕ
  pub ticket : ℕ
  pub split : steps ≡ before ++ record { ticket = ticket; step = step; answer = Fault performed } ∷ []
  pub leads : LeadsTo d (pairs_of before) polls now
  pub asks : first_of now ≡ todo.Step step
  pub listed : AreListed (pairs_of before)
  pub told : AreGiven lines core world (map polled polls)
  pub outs_are : outs ≡ given
  pub end_is : end ≡ Faulted ticket

pub no_more : (given outs : List Outcome) (end ending : CoreEnd) (steps : List Made) → Follows (ended given end) steps (ended outs ending) → (steps ≡ []) × (outs ≡ given) × (ending ≡ end)
no_more given outs end ending [] is = (refl, cc, cc)
no_more given outs end ending (m ∷ steps) is = let no : None ≡ Some m.step = is.0 in absurd (cc)

over_more : (lines : List HostLine) (core : ℕ) (step : Step) (rest : Answer → Dialogue) (area : Gpa) (world : Scripted) (more : Outcome → Gpa → Scripted → Tree) (m : Made) (steps : List Made) (end : Tree)
    → step ≡ m.step → IsTrue (is_listed m.step m.answer) → CallOver lines core (rest m.answer) (area_by step area) world more steps end
    → CallOver lines core (ask step rest) area world more (m ∷ steps) end
over_more lines core step rest area world more m steps end same listed over = record {
  first = m ∷ over.first;
  second = over.second;
  polls = over.polls;
  over = over.over;
  outcome = over.outcome;
  split = ap (λ (l : List Made). m ∷ l) over.split;
  whole = (sym same, over.whole);
  gave = over.gave;
  listed = (listed, over.listed);
  given = over.given;
  answers = over.answers;
  follows = subst (λ (s : Step). Follows (more over.outcome (area_after (area_by s area) over.first) (worlds_after world (map polled over.polls))) over.second end) same over.follows;
}

cut_more : (lines : List HostLine) (core : ℕ) (given : List Outcome) (step : Step) (rest : Answer → Dialogue) (world : Scripted) (m : Made) (steps : List Made) (outs : List Outcome) (end : CoreEnd)
    → step ≡ m.step → IsTrue (is_listed m.step m.answer) → CallCut lines core given (rest m.answer) world steps outs end
    → CallCut lines core given (ask step rest) world (m ∷ steps) outs end
cut_more lines core given step rest world m steps outs end same listed cut = record {
  before = m ∷ cut.before;
  polls = cut.polls;
  now = cut.now;
  step = cut.step;
  performed = cut.performed;
  ticket = cut.ticket;
  split = ap (λ (l : List Made). m ∷ l) cut.split;
  leads = (sym same, cut.leads);
  asks = cut.asks;
  listed = (listed, cut.listed);
  told = cut.told;
  outs_are = cut.outs_are;
  end_is = cut.end_is;
}

over_poll : (lines : List HostLine) (core : ℕ) (rest : Bool → Dialogue) (area : Gpa) (world : Scripted) (more : Outcome → Gpa → Scripted → Tree) (steps : List Made) (end : Tree) (stops : Bool)
    → stops ≡ (world.polls + 1 == world.wanted) → CallOver lines core (rest stops) area (world_after world (polled stops)) more steps end
    → CallOver lines core (poll rest) area world more steps end
over_poll lines core rest area world more steps end stops is over = record {
  first = over.first;
  second = over.second;
  polls = stops ∷ over.polls;
  over = over.over;
  outcome = over.outcome;
  split = over.split;
  whole = over.whole;
  gave = over.gave;
  listed = over.listed;
  given = (is, over.given);
  answers = over.answers;
  follows = over.follows;
}

cut_poll : (lines : List HostLine) (core : ℕ) (given : List Outcome) (rest : Bool → Dialogue) (world : Scripted) (steps : List Made) (outs : List Outcome) (end : CoreEnd) (stops : Bool)
    → stops ≡ (world.polls + 1 == world.wanted) → CallCut lines core given (rest stops) (world_after world (polled stops)) steps outs end
    → CallCut lines core given (poll rest) world steps outs end
cut_poll lines core given rest world steps outs end stops is cut = record {
  before = cut.before;
  polls = stops ∷ cut.polls;
  now = cut.now;
  step = cut.step;
  performed = cut.performed;
  ticket = cut.ticket;
  split = cut.split;
  leads = cut.leads;
  asks = cut.asks;
  listed = cut.listed;
  told = (is, cut.told);
  outs_are = cut.outs_are;
  end_is = cut.end_is;
}

abbrev Reads : List HostLine → ℕ → List Outcome → Dialogue → Type 0
Reads lines core given d =
    (area : Gpa) (world : Scripted) (more : Outcome → Gpa → Scripted → Tree) (steps : List Made) (outs : List Outcome) (end : CoreEnd) → AreAnswers steps
    → Follows (call_tree given d area world more) steps (ended outs end)
    → CallOver lines core d area world more steps (ended outs end) ⊎ CallCut lines core given d world steps outs end

step_reads : (lines : List HostLine) (core : ℕ) (given : List Outcome) (step : Step) (rest : Answer → Dialogue) (m : Made) (steps : List Made) (area : Gpa) (world : Scripted) (more : Outcome → Gpa → Scripted → Tree)
    (outs : List Outcome) (end : CoreEnd) (fault : Option ℕ) → fault_at m.answer ≡ fault → Reads lines core given (rest m.answer) → step ≡ m.step → AreAnswers (m ∷ steps)
    → Follows (unless_fault fault m.ticket given (call_tree given (rest m.answer) (area_by step area) world more)) steps (ended outs end)
    → CallOver lines core (ask step rest) area world more (m ∷ steps) (ended outs end) ⊎ CallCut lines core given (ask step rest) world (m ∷ steps) outs end
step_reads lines core given step rest m steps area world more outs end (Some done) is reads same answers follows =
    let none = no_more given outs (Faulted m.ticket) end steps follows in
    let told : m ≡ record { ticket = m.ticket; step = step; answer = Fault done } =
    ap (λ (a : Answer). record { ticket = m.ticket; step = m.step; answer = a }) (fault_of m.answer done is) ∙ ap (λ (s : Step). record { ticket = m.ticket; step = s; answer = Fault done }) (sym same) in
    inr (record {
      before = [];
      polls = [];
      now = ask step rest;
      step = step;
      performed = done;
      ticket = m.ticket;
      split = ap (λ (l : List Made). m ∷ l) none.0 ∙ ap (λ (x : Made). x ∷ []) told;
      leads = (refl, refl);
      asks = refl;
      listed = tt;
      told = tt;
      outs_are = none.1;
      end_is = none.2;
    })
step_reads lines core given step rest m steps area world more outs end None is reads same answers follows =
    let listed : IsTrue (is_listed m.step m.answer) = subst (λ (o : Option ℕ). CanAnswer o m.step m.answer) is answers.0 in
    ⊎_elim
    (λ over. inl (over_more lines core step rest area world more m steps (ended outs end) same listed over))
    (λ cut. inr (cut_more lines core given step rest world m steps outs end same listed cut))
    (reads (area_by step area) world more steps outs end answers.1 follows)

pub call_reads : (lines : List HostLine) (core : ℕ) (given : List Outcome) (d : Dialogue) → Reads lines core given d
call_reads lines core given (ask step rest) area world more [] outs end answers follows = absurd (cc)
call_reads lines core given (ask step rest) area world more (m ∷ steps) outs end answers follows =
    let same : step ≡ m.step = let some : Some step ≡ Some m.step = follows.0 in cc in
    step_reads lines core given step rest m steps area world more outs end (fault_at m.answer) refl (call_reads lines core given (rest m.answer)) same answers follows.1
call_reads lines core given (poll rest) area world more steps outs end answers follows =
    let stops = (world.polls + 1 == world.wanted) in
    ⊎_elim
    (λ over. inl (over_poll lines core rest area world more steps (ended outs end) stops refl over))
    (λ cut. inr (cut_poll lines core given rest world steps outs end stops refl cut))
    (call_reads lines core given (rest stops) area (world_after world (polled stops)) more steps outs end answers follows)
call_reads lines core given (reply regs) area world more steps outs end answers follows = inl (record {
  first = [];
  second = steps;
  polls = [];
  over = todo.Reply regs;
  outcome = outcomes.Reply regs;
  split = refl;
  whole = (refl, refl, refl);
  gave = refl;
  listed = tt;
  given = tt;
  answers = answers;
  follows = follows;
})
call_reads lines core given spurious area world more steps outs end answers follows = inl (record {
  first = [];
  second = steps;
  polls = [];
  over = todo.Spurious;
  outcome = outcomes.Spurious;
  split = refl;
  whole = (refl, refl, refl);
  gave = refl;
  listed = tt;
  given = tt;
  answers = answers;
  follows = follows;
})

-- events one after another
pub given_append : (lines : List HostLine) (core : ℕ) (world : Scripted) (one other : List Event) → AreGiven lines core world one → AreGiven lines core (worlds_after world one) other
    → AreGiven lines core world (one ++ other)
given_append lines core world [] other is also = also
given_append lines core world (event ∷ one) other is also = (is.0, given_append lines core (world_after world event) one other is.1 also)

pub worlds_append : (world : Scripted) (one other : List Event) → worlds_after world (one ++ other) ≡ worlds_after (worlds_after world one) other
worlds_append world [] other = refl
worlds_append world (event ∷ one) other = worlds_append (world_after world event) one other

-- THE OTHER WAY

pub follows_on : (tree mid end : Tree) (one other : List Made) → Follows tree one mid → Follows mid other end → Follows tree (one ++ other) end
follows_on tree mid end [] other is also = subst (λ (t : Tree). Follows t other end) is also
follows_on tree mid end (m ∷ one) other is also = (is.0, follows_on (tree_after tree m.ticket m.answer) mid end one other is.1 also)

fault_unlisted : (step : Step) (done : ℕ) → is_listed step (Fault done) ≡ false
fault_unlisted (steps.Enter apic) done = refl
fault_unlisted step done = refl

listed_no_fault : (step : Step) (answer : Answer) (fault : Option ℕ) → fault_at answer ≡ fault → IsTrue (is_listed step answer) → fault ≡ None
listed_no_fault step answer None is listed = refl
listed_no_fault step answer (Some done) is listed =
    let no : false ≡ true = sym (fault_unlisted step done) ∙ ap (is_listed step) (sym (fault_of answer done is)) ∙ listed in absurd (cc)

pub no_fault : (step : Step) (answer : Answer) → IsTrue (is_listed step answer) → fault_at answer ≡ None
no_fault step answer listed = listed_no_fault step answer (fault_at answer) refl listed

pub unfaulted : (given : List Outcome) (ticket : ℕ) (answer : Answer) (step : Step) (tree : Tree) → IsTrue (is_listed step answer) → unless_fault (fault_at answer) ticket given tree ≡ tree
unfaulted given ticket answer step tree listed = ap (λ (o : Option ℕ). unless_fault o ticket given tree) (no_fault step answer listed)

step_follows : (given : List Outcome) (step : Step) (rest : Answer → Dialogue) (area : Gpa) (world : Scripted) (more : Outcome → Gpa → Scripted → Tree) (m : Made) (steps : List Made) (end : Tree)
    → m.step ≡ step → IsTrue (is_listed m.step m.answer) → Follows (call_tree given (rest m.answer) (area_by m.step area) world more) steps end
    → Follows (call_tree given (ask step rest) area world more) (m ∷ steps) end
step_follows given step rest area world more m steps end same listed follows = (
  ap (λ (s : Step). Some s) (sym same),
  subst (λ (t : Tree). Follows t steps end)
      (sym (unfaulted given m.ticket m.answer m.step (call_tree given (rest m.answer) (area_by step area) world more) listed))
      (subst (λ (s : Step). Follows (call_tree given (rest m.answer) (area_by s area) world more) steps end) same follows),
)

-- a whole call sequence leads along its tree
pub whole_follows : (lines : List HostLine) (core : ℕ) (given : List Outcome) (d : Dialogue) (area : Gpa) (world : Scripted) (more : Outcome → Gpa → Scripted → Tree) (steps : List Made) (polls : List Bool)
    (over : Do) (outcome : Outcome) → IsWhole d (pairs_of steps) polls over → AreListed (pairs_of steps) → call_outcome over ≡ Some outcome → AreGiven lines core world (map polled polls)
    → Follows (call_tree given d area world more) steps (more outcome (area_after area steps) (worlds_after world (map polled polls)))
whole_follows lines core given (ask step rest) area world more [] polls over outcome whole listed gave told = absurd whole
whole_follows lines core given (ask step rest) area world more (m ∷ steps) polls over outcome whole listed gave told =
    step_follows given step rest area world more m steps (more outcome (area_after (area_by m.step area) steps) (worlds_after world (map polled polls))) whole.0 listed.0
    (whole_follows lines core given (rest m.answer) (area_by m.step area) world more steps polls over outcome whole.1 listed.1 gave told)
whole_follows lines core given (poll rest) area world more steps [] over outcome whole listed gave told = absurd whole
whole_follows lines core given (poll rest) area world more steps (stops ∷ polls) over outcome whole listed gave told =
    subst (λ (b : Bool). Follows (call_tree given (rest b) area (world_after world (polled stops)) more) steps (more outcome (area_after area steps) (worlds_after (world_after world (polled stops)) (map polled polls)))) told.0
    (whole_follows lines core given (rest stops) area (world_after world (polled stops)) more steps polls over outcome whole listed gave told.1)
whole_follows lines core given (reply regs) area world more [] [] over outcome whole listed gave told =
    let same : Some (outcomes.Reply regs) ≡ Some outcome = ap call_outcome (sym whole.2) ∙ gave in
    let one : outcomes.Reply regs ≡ outcome = cc in
    ap (λ (o : Outcome). more o area world) (sym one)
whole_follows lines core given (reply regs) area world more [] (stops ∷ polls) over outcome whole listed gave told = let no = whole.1 in absurd (cc)
whole_follows lines core given (reply regs) area world more (m ∷ steps) polls over outcome whole listed gave told = let no = whole.0 in absurd (cc)
whole_follows lines core given spurious area world more [] [] over outcome whole listed gave told =
    let same : Some outcomes.Spurious ≡ Some outcome = ap call_outcome (sym whole.2) ∙ gave in
    let one : outcomes.Spurious ≡ outcome = cc in
    ap (λ (o : Outcome). more o area world) (sym one)
whole_follows lines core given spurious area world more [] (stops ∷ polls) over outcome whole listed gave told = let no = whole.1 in absurd (cc)
whole_follows lines core given spurious area world more (m ∷ steps) polls over outcome whole listed gave told = let no = whole.0 in absurd (cc)

-- what a call made so far leads to what may still follow
pub leads_follow : (lines : List HostLine) (core : ℕ) (given : List Outcome) (d : Dialogue) (area : Gpa) (world : Scripted) (more : Outcome → Gpa → Scripted → Tree) (steps : List Made) (polls : List Bool)
    (now : Dialogue) → LeadsTo d (pairs_of steps) polls now → AreListed (pairs_of steps) → AreGiven lines core world (map polled polls)
    → Follows (call_tree given d area world more) steps (call_tree given now (area_after area steps) (worlds_after world (map polled polls)) more)
leads_follow lines core given (ask step rest) area world more [] [] now leads listed told =
    ap (λ (x : Dialogue). call_tree given x area world more) leads.1
leads_follow lines core given (ask step rest) area world more [] (stops ∷ polls) now leads listed told = let no = leads.0 in absurd (cc)
leads_follow lines core given (ask step rest) area world more (m ∷ steps) polls now leads listed told =
    step_follows given step rest area world more m steps (call_tree given now (area_after (area_by m.step area) steps) (worlds_after world (map polled polls)) more) leads.0 listed.0
    (leads_follow lines core given (rest m.answer) (area_by m.step area) world more steps polls now leads.1 listed.1 told)
leads_follow lines core given (poll rest) area world more [] [] now leads listed told = ap (λ (x : Dialogue). call_tree given x area world more) leads.1
leads_follow lines core given (poll rest) area world more (m ∷ steps) [] now leads listed told = let no = leads.0 in absurd (cc)
leads_follow lines core given (poll rest) area world more steps (stops ∷ polls) now leads listed told =
    subst (λ (b : Bool). Follows (call_tree given (rest b) area (world_after world (polled stops)) more) steps
    (call_tree given now (area_after area steps) (worlds_after (world_after world (polled stops)) (map polled polls)) more)) told.0
    (leads_follow lines core given (rest stops) area (world_after world (polled stops)) more steps polls now leads listed told.1)
leads_follow lines core given (reply regs) area world more [] [] now leads listed told = ap (λ (x : Dialogue). call_tree given x area world more) leads.2
leads_follow lines core given (reply regs) area world more [] (stops ∷ polls) now leads listed told = let no = leads.1 in absurd (cc)
leads_follow lines core given (reply regs) area world more (m ∷ steps) polls now leads listed told = let no = leads.0 in absurd (cc)
leads_follow lines core given spurious area world more [] [] now leads listed told = ap (λ (x : Dialogue). call_tree given x area world more) leads.2
leads_follow lines core given spurious area world more [] (stops ∷ polls) now leads listed told = let no = leads.1 in absurd (cc)
leads_follow lines core given spurious area world more (m ∷ steps) polls now leads listed told = let no = leads.0 in absurd (cc)

-- a step that a fault cut off ends the core
pub fault_follows : (given : List Outcome) (now : Dialogue) (area : Gpa) (world : Scripted) (more : Outcome → Gpa → Scripted → Tree) (step : Step) (ticket performed : ℕ) → first_of now ≡ todo.Step step
    → Follows (call_tree given now area world more) (record { ticket = ticket; step = step; answer = Fault performed } ∷ []) (ended given (Faulted ticket))
fault_follows given (ask other rest) area world more step ticket performed is = (let s : todo.Step other ≡ todo.Step step = is in let same : other ≡ step = cc in ap (λ (x : Step). Some x) same, refl)
fault_follows given (poll rest) area world more step ticket performed is = let no = is in absurd (cc)
fault_follows given (reply regs) area world more step ticket performed is = let no = is in absurd (cc)
fault_follows given spurious area world more step ticket performed is = let no = is in absurd (cc)

-- what leads somewhere leads there only
pub one_end : (tree one other : Tree) (steps : List Made) → Follows tree steps one → Follows tree steps other → one ≡ other
one_end tree one other [] is also = is ∙ sym also
one_end tree one other (m ∷ steps) is also = one_end (tree_after tree m.ticket m.answer) one other steps is.1 also.1

-- a begin of what leads somewhere leads on the way
pub on_the_way : (tree end : Tree) (one other : List Made) → Follows tree (one ++ other) end → (mid : Tree) × Follows tree one mid × Follows mid other end
on_the_way tree end [] other is = (tree, refl, is)
on_the_way tree end (m ∷ one) other is =
    let rest = on_the_way (tree_after tree m.ticket m.answer) end one other is.1 in
    (rest.0, (is.0, rest.1), rest.2)
