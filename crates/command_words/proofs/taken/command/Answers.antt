use Rattle.std.proofs.Common.{ap, codes, true, ◌≡◌, ◌∙◌}
use Rattle.std.proofs.lemmas.Result.{IfOk-weaker}
use Rattle.clap.specs.Words.{App, app_of, new_app, with_subcommand}
use Rattle.clap.specs.Simple.{app_of_fields, on_top}
use Rattle.command_words.specs.App.{run_shape, plain_shape}
use Rattle.command_words.proofs.taken.command.Goals as goal

abbrev named : App → App
named = on_top (λ s. record s { no_binary_name = true })

pub returns : goal.returns
returns c =
    let top_is : app_of c.no_binary_name-top.result ≡ named (new_app (codes "svsm_run")) = ap app_of_fields c.no_binary_name-top.ensures ∙ ap named c.new.ensures.app in
    let run_is = c.in_ok-run.ensures ∙ ap (λ (a : App). with_subcommand a run_shape) top_is in
    let gen_is = c.in_ok-generated.ensures ∙ ap (λ (a : App). with_subcommand a (plain_shape (codes "gen"))) run_is in
    let save_is = c.in_ok-saved.ensures ∙ ap (λ (a : App). with_subcommand a (plain_shape (codes "save"))) gen_is in
    IfOk-weaker c.with_plain-3.result _ _ (λ r h. h ∙ ap (λ (a : App). with_subcommand a (plain_shape (codes "audit"))) save_is) c.with_plain-3.ensures
