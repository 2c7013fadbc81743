-- What leads along a tree, step by step.
use Rattle.std.proofs.Common.{◌≡◌, ℕ, ◌+◌, Bool, List, [], ◌∷◌, ◌++◌, refl, sym, ◌∙◌, ap, subst, Option, None, Some}
use Rattle.std.specs.Prelude.{◌==◌}
use Rattle.svsm_types.specs.declared.address.Gpa.{Gpa}
use Rattle.svsm_types.specs.declared.call.Regs.{Regs}
use Rattle.svsm_steps.specs.declared.step.Step.{Step}
use Rattle.svsm_steps.specs.declared.answer.Answer.{Answer}
use Rattle.svsm_steps.specs.declared.answer.Answer.TheVariants.{Fault}
use Rattle.svsm_steps.specs.declared.entry.Entry.{Entry}
use Rattle.svsm_steps.specs.declared.call.Do.{Do}
use Rattle.svsm_steps.specs.declared.call.Do.TheVariants as todo
use Rattle.svsm_steps.specs.declared.call.Got.TheVariants as gets
use Rattle.svsm_steps.specs.declared.outcome.Outcome.{Outcome}
use Rattle.svsm_steps.specs.declared.outcome.Outcome.TheVariants as outcomes
use Rattle.svsm_steps.specs.declared.outcome.CoreEnd.TheVariants as ends
use Rattle.svsm_steps.specs.Region.{fault_at}
use Rattle.svsm_steps.specs.Made.{Made}
use Rattle.svsm_calls.specs.Dialogue.{Dialogue, ask, poll, reply, spurious, first_of, rest_of, IsGot}
use Rattle.svsm_calls.specs.CoreRun.{area_by}
use Rattle.svsm_calls.specs.World.{Scripted}
use Rattle.call_core.specs.Rest.{area_once}
use Rattle.run_trees.specs.Tree.{Tree, ended, unless_fault, call_tree, asked_of, tree_after, Follows}
use Rattle.run_trees.proofs.CallTrees.{follows_on}
use Rattle.run_order.specs.declared.reader.Stop.{Stop}
use Rattle.run_order.specs.Finds.{made_before, StopsAt}
use Rattle.run_order.specs.Reads.{Leads, Stops}

pub lead_same : (core : ℕ) (entries : List Entry) (n : ℕ) (from to : Tree) → from ≡ to → Leads core entries n n from to
lead_same core entries n from to e = λ root h. subst (λ (t : Tree). Follows root (made_before core entries n) t) e h

pub lead_on : (core : ℕ) (entries : List Entry) (a b c : ℕ) (from mid to : Tree) → Leads core entries a b from mid → Leads core entries b c mid to → Leads core entries a c from to
lead_on core entries a b c from mid to h k = λ root f. k root (h root f)

-- one step
pub lead_step : (core : ℕ) (entries : List Entry) (old new : ℕ) (from to : Tree) (ticket : ℕ) (step : Step) (answer : Answer)
    → made_before core entries new ≡ made_before core entries old ++ record { ticket = ticket; step = step; answer = answer } ∷ []
    → asked_of from ≡ Some step → tree_after from ticket answer ≡ to → Leads core entries old new from to
lead_step core entries old new from to ticket step answer made asks after = λ root h.
    subst (λ (s : List Made). Follows root s to) (sym made)
    (follows_on root from to (made_before core entries old) (record { ticket = ticket; step = step; answer = answer } ∷ []) h (asks, sym after))

pub stops_on : (core : ℕ) (entries : List Entry) (a b c : ℕ) (from mid : Tree) (stop : Stop) → Leads core entries a b from mid → Stops core entries b c mid stop → Stops core entries a c from stop
stops_on core entries a b c from mid stop h k = record {
  to = k.to;
  step = k.step;
  leads = lead_on core entries a b c from mid k.to h k.leads;
  asks = k.asks;
  stops = k.stops;
}

pub stops_here : (core : ℕ) (entries : List Entry) (n : ℕ) (from : Tree) (step : Step) (stop : Stop) → asked_of from ≡ Some step → StopsAt core entries n step stop → Stops core entries n n from stop
stops_here core entries n from step stop asks stops = record { to = from; step = step; leads = λ root h. h; asks = asks; stops = stops }

-- A CALL

pub asked_call : (given : List Outcome) (d : Dialogue) (area : Gpa) (world : Scripted) (more : Outcome → Gpa → Scripted → Tree) (step : Step) → first_of d ≡ todo.Step step
    → asked_of (call_tree given d area world more) ≡ Some step
asked_call given (ask other rest) area world more step is = let same : todo.Step other ≡ todo.Step step = is in cc
asked_call given (poll rest) area world more step is = let none = is in absurd (cc)
asked_call given (reply regs) area world more step is = let none = is in absurd (cc)
asked_call given spurious area world more step is = let none = is in absurd (cc)

-- what is got fits what is asked
pub answer_got : (d : Dialogue) (step : Step) (answer : Answer) → first_of d ≡ todo.Step step → IsGot d (gets.Answer answer)
answer_got (ask other rest) step answer is = tt
answer_got (poll rest) step answer is = let no = is in absurd (cc)
answer_got (reply regs) step answer is = let no = is in absurd (cc)
answer_got spurious step answer is = let no = is in absurd (cc)

pub no_fault : (answer : Answer) → ((performed : ℕ) → answer ≡ Fault performed → ⊥) → fault_at answer ≡ None
no_fault (Fault performed) not = absurd (not performed refl)
no_fault _ not = refl

after_step : (given : List Outcome) (d : Dialogue) (area : Gpa) (world : Scripted) (more : Outcome → Gpa → Scripted → Tree) (step : Step) (ticket : ℕ) (answer : Answer)
    → first_of d ≡ todo.Step step → fault_at answer ≡ None
    → tree_after (call_tree given d area world more) ticket answer ≡ call_tree given (rest_of d (gets.Answer answer)) (area_once (first_of d) area) world more
after_step given (ask other rest) area world more step ticket answer is none =
    ap (λ (f : Option ℕ). unless_fault f ticket given (call_tree given (rest answer) (area_by other area) world more)) none
after_step given (poll rest) area world more step ticket answer is none = let no = is in absurd (cc)
after_step given (reply regs) area world more step ticket answer is none = let no = is in absurd (cc)
after_step given spurious area world more step ticket answer is none = let no = is in absurd (cc)

after_fault : (given : List Outcome) (d : Dialogue) (area : Gpa) (world : Scripted) (more : Outcome → Gpa → Scripted → Tree) (step : Step) (ticket performed : ℕ)
    → first_of d ≡ todo.Step step → tree_after (call_tree given d area world more) ticket (Fault performed) ≡ ended given (ends.Faulted ticket)
after_fault given (ask other rest) area world more step ticket performed is = refl
after_fault given (poll rest) area world more step ticket performed is = let no = is in absurd (cc)
after_fault given (reply regs) area world more step ticket performed is = let no = is in absurd (cc)
after_fault given spurious area world more step ticket performed is = let no = is in absurd (cc)

call_same : (given : List Outcome) (d e : Dialogue) (area other : Gpa) (world : Scripted) (more : Outcome → Gpa → Scripted → Tree) → e ≡ d → other ≡ area
    → call_tree given d area world more ≡ call_tree given e other world more
call_same given d e area other world more same there =
    ap (λ (x : Dialogue). call_tree given x area world more) (sym same) ∙ ap (λ (a : Gpa). call_tree given e a world more) (sym there)

-- a call begins
pub call_begins : (given : List Outcome) (d e : Dialogue) (area other : Gpa) (world : Scripted) (more : Outcome → Gpa → Scripted → Tree) (core : ℕ) (entries : List Entry) (n : ℕ) → e ≡ d → other ≡ area
    → Leads core entries n n (call_tree given d area world more) (call_tree given e other world more)
call_begins given d e area other world more core entries n same there = lead_same core entries n _ _ (call_same given d e area other world more same there)

-- it makes a step
pub call_step : (core : ℕ) (entries : List Entry) (old new : ℕ) (given : List Outcome) (d e : Dialogue) (area other : Gpa) (world : Scripted) (more : Outcome → Gpa → Scripted → Tree)
    (step : Step) (ticket : ℕ) (answer : Answer) → first_of d ≡ todo.Step step → fault_at answer ≡ None
    → made_before core entries new ≡ made_before core entries old ++ record { ticket = ticket; step = step; answer = answer } ∷ []
    → e ≡ rest_of d (gets.Answer answer) → other ≡ area_once (first_of d) area
    → Leads core entries old new (call_tree given d area world more) (call_tree given e other world more)
call_step core entries old new given d e area other world more step ticket answer is none made same there =
    lead_step core entries old new _ _ ticket step answer made (asked_call given d area world more step is)
    (after_step given d area world more step ticket answer is none ∙ call_same given (rest_of d (gets.Answer answer)) e (area_once (first_of d) area) other world more same there)

-- its step faults
pub call_fault : (core : ℕ) (entries : List Entry) (old new : ℕ) (given : List Outcome) (d : Dialogue) (area : Gpa) (world : Scripted) (more : Outcome → Gpa → Scripted → Tree)
    (step : Step) (ticket performed : ℕ) (answer : Answer) → first_of d ≡ todo.Step step → answer ≡ Fault performed
    → made_before core entries new ≡ made_before core entries old ++ record { ticket = ticket; step = step; answer = answer } ∷ []
    → Leads core entries old new (call_tree given d area world more) (ended given (ends.Faulted ticket))
call_fault core entries old new given d area world more step ticket performed answer is fault made =
    lead_step core entries old new _ _ ticket step answer made (asked_call given d area world more step is)
    (ap (λ (a : Answer). tree_after (call_tree given d area world more) ticket a) fault ∙ after_fault given d area world more step ticket performed is)

-- it is polled
polled_tree : (given : List Outcome) (d : Dialogue) (area : Gpa) (world : Scripted) (more : Outcome → Gpa → Scripted → Tree) (stops : Bool) → first_of d ≡ todo.Poll
    → stops ≡ (world.polls + 1 == world.wanted)
    → call_tree given d area world more
    ≡ call_tree given (rest_of d (gets.Poll stops)) area (record { wanted = world.wanted; polls = world.polls + 1; runs = world.runs }) more
polled_tree given (ask other rest) area world more stops is told = let no = is in absurd (cc)
polled_tree given (poll rest) area world more stops is told =
    ap (λ (b : Bool). call_tree given (rest b) area (record { wanted = world.wanted; polls = world.polls + 1; runs = world.runs }) more) (sym told)
polled_tree given (reply regs) area world more stops is told = let no = is in absurd (cc)
polled_tree given spurious area world more stops is told = let no = is in absurd (cc)

poll_area : (d : Do) (area : Gpa) → d ≡ todo.Poll → area_once d area ≡ area
poll_area d area is = ap (λ (x : Do). area_once x area) is

pub call_poll : (core : ℕ) (entries : List Entry) (n : ℕ) (given : List Outcome) (d e : Dialogue) (area other : Gpa) (world : Scripted) (more : Outcome → Gpa → Scripted → Tree) (stops : Bool)
    → first_of d ≡ todo.Poll → stops ≡ (world.polls + 1 == world.wanted) → e ≡ rest_of d (gets.Poll stops) → other ≡ area_once (first_of d) area
    → Leads core entries n n (call_tree given d area world more)
    (call_tree given e other (record { wanted = world.wanted; polls = world.polls + 1; runs = world.runs }) more)
call_poll core entries n given d e area other world more stops is told same there =
    lead_same core entries n _ _ (polled_tree given d area world more stops is told
    ∙ call_same given (rest_of d (gets.Poll stops)) e area other (record { wanted = world.wanted; polls = world.polls + 1; runs = world.runs }) more same (there ∙ poll_area (first_of d) area is))

-- it is over
pub call_replies : (given : List Outcome) (d : Dialogue) (area : Gpa) (world : Scripted) (more : Outcome → Gpa → Scripted → Tree) (regs : Regs) → first_of d ≡ todo.Reply regs
    → call_tree given d area world more ≡ more (outcomes.Reply regs) area world
call_replies given (ask other rest) area world more regs is = let no = is in absurd (cc)
call_replies given (poll rest) area world more regs is = let no = is in absurd (cc)
call_replies given (reply other) area world more regs is = let same : todo.Reply other ≡ todo.Reply regs = is in let e : other ≡ regs = cc in ap (λ (r : Regs). more (outcomes.Reply r) area world) e
call_replies given spurious area world more regs is = let no = is in absurd (cc)

pub call_is_none : (given : List Outcome) (d : Dialogue) (area : Gpa) (world : Scripted) (more : Outcome → Gpa → Scripted → Tree) → first_of d ≡ todo.Spurious
    → call_tree given d area world more ≡ more outcomes.Spurious area world
call_is_none given (ask other rest) area world more is = let no = is in absurd (cc)
call_is_none given (poll rest) area world more is = let no = is in absurd (cc)
call_is_none given (reply other) area world more is = let no = is in absurd (cc)
call_is_none given spurious area world more is = refl
