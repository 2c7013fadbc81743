-- What is said of what was made of a command.
use Rattle.std.specs.Prelude.{⊤, List}
use Rattle.svsm_steps.specs.declared.entry.Entry.{Entry}
use Rattle.image_text.specs.declared.error.SaveError.{SaveError}
use Rattle.run_core_top.specs.declared.carried.Made.{Made}
use Rattle.run_core_top.specs.declared.carried.Made.TheVariants as makes
use Rattle.run_core_top.specs.declared.carried.Report.{Report}

-- the history of its run
abbrev pub made_trace : Made → List Entry
made_trace (makes.Text report) = report.trace
made_trace (makes.Unsaved trace error) = trace

-- of a text this holds
abbrev pub IfText : (Report → Type 0) → Made → Type 0
IfText P (makes.Text report) = P report
IfText P (makes.Unsaved trace error) = ⊤

-- of a last state that is not saved this holds
abbrev pub IfUnsaved : (List Entry → SaveError → Type 0) → Made → Type 0
IfUnsaved P (makes.Text report) = ⊤
IfUnsaved P (makes.Unsaved trace error) = P trace error
