-- What the code has of a command.
use Rattle.std.specs.Prelude.{map, Option, Some, None}
use Rattle.command_words.specs.declared.asked.RunWords.{RunWords}
use Rattle.command_words.specs.declared.asked.GenWords.{GenWords}
use Rattle.command_words.specs.declared.asked.SaveWords.{SaveWords}
use Rattle.command_words.specs.declared.asked.AuditWords.{AuditWords}
use Rattle.command_words.specs.declared.asked.Command.{Command}
use Rattle.command_words.specs.declared.asked.Command.TheVariants as commands
use Rattle.command_words.specs.Words.{Run, Save, Audit}

abbrev pub run_seen : RunWords → Run
run_seen run = record { brief = run.brief; image = run.image.now; scripts = map (λ name. name.now) run.scripts.items }

-- the run that is asked for, if it is one
abbrev pub run_asked : Option Command → Option Run
run_asked (Some (commands.Run run)) = Some (run_seen run)
run_asked _ = None

abbrev pub save_seen : SaveWords → Save
save_seen save = record { image = save.image.now; scripts = map (λ name. name.now) save.scripts.items }

-- the run that is to be saved, if it is one
abbrev pub save_asked : Option Command → Option Save
save_asked (Some (commands.Save save)) = Some (save_seen save)
save_asked _ = None

abbrev pub audit_seen : AuditWords → Audit
audit_seen audit = record { image = audit.image.now; report = audit.report.now; scripts = map (λ name. name.now) audit.scripts.items }

-- the audit that is asked for, if it is one
abbrev pub audit_asked : Option Command → Option Audit
audit_asked (Some (commands.Audit audit)) = Some (audit_seen audit)
audit_asked _ = None

-- the generated scripts that are asked for, if it is they
abbrev pub gen_asked : Option Command → Option GenWords
gen_asked (Some (commands.Gen numbers)) = Some numbers
gen_asked _ = None
