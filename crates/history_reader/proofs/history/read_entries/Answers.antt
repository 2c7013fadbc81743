use Rattle.std.proofs.Common.{◌≡◌, ◌+◌, ◌-◌, suc, drop, refl, arith, rules}
use Rattle.std.specs.Prelude.{slice_range}
use Rattle.svsm_steps.specs.declared.entry.Entry.{Entry}
use Rattle.svsm_text.specs.Lines.{lines}
use Rattle.history_reader.specs.Texts.{IsEntryLine}
use Rattle.history_reader.proofs.ReadLemmas.{leaves_one, missing, wrong, whole}
use Rattle.history_reader.proofs.history.read_entries.Goals as goal

pub returns-in_default : goal.returns-in_default
returns-in_default c =
    let more : c.entries.left ≡ suc (c.entries.left - 1) = omega arith in
    missing c.args.regions c.args.first c.args.count (lines (drop c.args.from c.args.report.now)) c.entries.number c.entries.left (c.entries.left - 1)
    (lines (drop c.entries.at c.args.report.now)) c.entries.entries.items more c.in_default.ensures.line c.entries.invariant.leaves

pub returns-in_default-2 : goal.returns-in_default-2
returns-in_default-2 c =
    let more : c.entries.left ≡ suc (c.entries.left - 1) = omega arith in
    let none : (entry : Entry) → IsEntryLine c.args.regions (slice_range c.args.report.now c.entries.at c.in-Some.end) entry → ⊥ = rw c.in_default-2.is at c.in_ok-entry.ensures in
    wrong c.args.regions c.args.first c.args.count (lines (drop c.args.from c.args.report.now)) c.entries.number c.entries.left (c.entries.left - 1)
    (lines (drop c.entries.at c.args.report.now)) (slice_range c.args.report.now c.entries.at c.in-Some.end) (lines (drop c.in-Some.next c.args.report.now)) c.entries.entries.items more
    c.in-Some.ensures.line none c.entries.invariant.leaves

pub entries-preserved : goal.entries-preserved
entries-preserved c =
    let more : c.entries.left ≡ suc (c.entries.left - 1) = omega arith in
    let here : IsEntryLine c.args.regions (slice_range c.args.report.now c.entries.at c.in-Some.end) c.in-Some-2.entry = rw c.in-Some-2.is at c.in_ok-entry.ensures in
    record {
      within = search rules;
      few = omega (arith, c.in-Some.ensures.goes);
      leaves = leaves_one c.args.regions c.args.first c.args.count (lines (drop c.args.from c.args.report.now)) c.entries.number c.entries.left (c.entries.left - 1) (c.entries.number + 1)
          (lines (drop c.entries.at c.args.report.now)) (slice_range c.args.report.now c.entries.at c.in-Some.end) (lines (drop c.in-Some.next c.args.report.now)) c.entries.entries.items
          c.push_entry.new.entries.items c.in-Some-2.entry more refl c.in-Some.ensures.line c.in_ok-push_entry.ensures here c.entries.invariant.leaves;
    }

pub returns : goal.returns
returns c =
    let none : c.entries.left ≡ 0 = omega arith in
    whole c.args.regions c.args.first c.args.count (lines (drop c.args.from c.args.report.now)) c.entries.number c.entries.left (lines (drop c.entries.at c.args.report.now))
    c.entries.entries.items none c.entries.invariant.leaves
