use Rattle.std.proofs.Common.{rules, ◌≡◌, ◌≢◌, ℕ, true, length, refl, sym, ap, ◌∙◌, subst}
use Rattle.svsm_types.specs.Numbers.{Numbers}
use Rattle.svsm_steps.specs.DueFaults.{numbers_after}
use Rattle.svsm_steps.specs.Place.{place_of}
use Rattle.svsm_steps.specs.Machine.{kind, next_by, MayGive}
use Rattle.svsm_steps.specs.declared.answer.Answer.{Answer}
use Rattle.machine_core.specs.Performed.{MakesAs}
use Rattle.machine_core.specs.Views.{state_of, constants_of, numbers_of}
use Rattle.machine_core.proofs.PlayLemmas.{illegal, legal, sole}
use Rattle.machine_core.proofs.machine.Machine.follow_entry.Goals as goal

pub returns-then-not-same_answer-clause-err : goal.returns-then-not-same_answer-clause-err
returns-then-not-same_answer-clause-err c =
    let apart : c.answer-computed.result ≢ c.args.entry.now.answer = λ e. (let t : c.same_answer.result ≡ true = c.same_answer.ensures.1 e in cc) in
    let bad = illegal c.fault_at-struck.result (constants_of c.args.self.now) (state_of c.args.self.now)
    (next_by (kind c.args.entry.now.step) (constants_of c.args.self.now) (state_of c.args.self.now) c.args.entry.now.core c.args.entry.now.step c.answer-computed.result) c.args.entry.now.core c.args.entry.now.step c.args.entry.now.answer c.answer-computed.result
    c.fault_at-struck.ensures c.answer-computed.ensures apart in
    let ticket : c.args.entry.now.ticket ≡ c.args.want = c.if-entry-want.false in
    let place : c.args.entry.now.place ≡ place_of (length c.args.self.now.regions.items) c.args.entry.now.step =
    c.if-entry-place.false ∙ c.place_of-place.ensures ∙ ap (λ (n : ℕ). place_of n c.args.entry.now.step) (c.len.ensures ∙ c.args.self.now.regions.ok.0) in
    (ticket, place, bad.0, ticket, refl, bad.1)

pub returns-clause-ok : goal.returns-clause-ok
returns-clause-ok c =
    let t : c.same_answer.result ≡ true = search rules in
    let same : c.answer-computed.result ≡ c.args.entry.now.answer = c.same_answer.ensures.0 t in
    let may : MayGive (kind c.args.entry.now.step) (constants_of c.args.self.now) (state_of c.args.self.now) c.args.entry.now.core c.args.entry.now.step c.args.entry.now.answer =
    subst (λ (a : Answer). MayGive (kind c.args.entry.now.step) (constants_of c.args.self.now) (state_of c.args.self.now) c.args.entry.now.core c.args.entry.now.step a) same c.answer-computed.ensures.may in
    let place : c.args.entry.now.place ≡ place_of (length c.args.self.now.regions.items) c.args.entry.now.step =
    c.if-entry-place.false ∙ c.place_of-place.ensures ∙ ap (λ (n : ℕ). place_of n c.args.entry.now.step) (c.len.ensures ∙ c.args.self.now.regions.ok.0) in
    let kept : c.in_ok-carried.carried.answer ≡ c.args.entry.now.answer =
    sole c.fault_at-struck.result (constants_of c.args.self.now) (state_of c.args.self.now) (state_of c.step_as.new.self) c.args.entry.now.core c.args.entry.now.step c.args.entry.now.answer c.in_ok-carried.carried.answer
    c.fault_at-struck.ensures c.in_ok-carried.ensures.ok.performs may in
    record {
      follows = legal c.fault_at-struck.result (constants_of c.args.self.now) (state_of c.args.self.now) (state_of c.step_as.new.self) c.args.entry.now c.in_ok-carried.carried.answer c.args.want c.args.entry.now.place
          c.if-entry-want.false place c.in_ok-carried.ensures.ok.performs kept;
      numbers = c.in_ok-carried.ensures.ok.numbers
          ∙ ap {B = ℕ → Numbers} (λ (a : Answer). numbers_after (kind c.args.entry.now.step) (constants_of c.args.self.now) (numbers_of c.args.self.now) (state_of c.args.self.now) c.args.entry.now.step a) kept;
    }

pub returns-clause-makes : goal.returns-clause-makes
returns-clause-makes c =
    let t : c.same_answer.result ≡ true = search rules in
    let same : c.answer-computed.result ≡ c.args.entry.now.answer = c.same_answer.ensures.0 t in
    let may : MayGive (kind c.args.entry.now.step) (constants_of c.args.self.now) (state_of c.args.self.now) c.args.entry.now.core c.args.entry.now.step c.args.entry.now.answer =
    subst (λ (a : Answer). MayGive (kind c.args.entry.now.step) (constants_of c.args.self.now) (state_of c.args.self.now) c.args.entry.now.core c.args.entry.now.step a) same c.answer-computed.ensures.may in
    let kept : c.in_ok-carried.carried.answer ≡ c.args.entry.now.answer =
    sole c.fault_at-struck.result (constants_of c.args.self.now) (state_of c.args.self.now) (state_of c.step_as.new.self) c.args.entry.now.core c.args.entry.now.step c.args.entry.now.answer c.in_ok-carried.carried.answer
    c.fault_at-struck.ensures c.in_ok-carried.ensures.ok.performs may in
    subst (λ (n : ℕ). MakesAs (kind c.args.entry.now.step) (constants_of c.args.self.now) (state_of c.args.self.now) c.args.entry.now.step c.args.entry.now.answer n) (sym c.from.ensures)
    (subst (λ (a : Answer). MakesAs (kind c.args.entry.now.step) (constants_of c.args.self.now) (state_of c.args.self.now) c.args.entry.now.step a c.in_ok-carried.carried.operations) kept
    c.in_ok-carried.ensures.makes)
