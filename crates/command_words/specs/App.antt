-- The commands as `clap` sees them.
use Rattle.std.specs.Prelude.{[], ◌∷◌, true, Some, codes}
use Rattle.clap.specs.Walk.{Rule, Text}
use Rattle.clap.specs.Simple.{App, Shape, new_rule, new_shape, with_subcommand}
use Rattle.clap.specs.declared.builder.action.ArgAction.TheVariants.{Set, Append, SetTrue}

abbrev pub brief_rule : Rule
brief_rule = record (new_rule (codes "brief")) { long = Some (codes "brief"); action = Some SetTrue }

abbrev pub image_rule : Rule
image_rule = record (new_rule (codes "image")) { required = true; action = Some Set }

abbrev pub scripts_rule : Rule
scripts_rule = record (new_rule (codes "scripts")) { required = true; action = Some Append }

abbrev pub run_shape : Shape
run_shape = record (new_shape (codes "run")) { rules = brief_rule ∷ image_rule ∷ scripts_rule ∷ [] }

abbrev pub words_rule : Rule
words_rule = record (new_rule (codes "words")) { required = true; action = Some Append }

-- a command without flags
abbrev pub plain_shape : Text → Shape
plain_shape name = record (new_shape name) { rules = words_rule ∷ [] }

abbrev pub top_app : App
top_app = record { top = record (new_shape (codes "svsm_run")) { no_binary_name = true }; subs = [] }

abbrev pub words_app : App
words_app =
    with_subcommand (with_subcommand (with_subcommand (with_subcommand top_app run_shape) (plain_shape (codes "gen"))) (plain_shape (codes "save")))
    (plain_shape (codes "audit"))
