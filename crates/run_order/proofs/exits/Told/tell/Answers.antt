use Rattle.std.proofs.Common.{◌≡◌, ℕ, List, ◌++◌, length, map, Option, None, true, refl, sym, ◌∙◌, ap, subst}
use Rattle.std.specs.Prelude.{All}
use Rattle.svsm_types.specs.declared.image.CoreLine.{CoreLine}
use Rattle.svsm_types.specs.declared.image.HostLine.{HostLine}
use Rattle.svsm_steps.specs.Announced.{Announced, exits_between}
use Rattle.ap_start.specs.declared.exits.ApExit.{ApExit}
use Rattle.ap_start.specs.Exits.{IsLow, exit_of, before_refused}
use Rattle.run_order.specs.Told.{IsTold, told_between, refused_of, said_from}
use Rattle.run_order.proofs.ToldLemmas.{low_exits, told_more, told_all, low_taken, on_two}
use Rattle.run_order.proofs.exits.Told.tell.Goals as goal

pub returns-clause-told : goal.returns-clause-told
returns-clause-told c =
    let image = c.args.image.now in
    let more : List Announced = exits_between c.args.before.now c.args.after.now in
    let old : List ApExit = c.args.self.now.exits.items in
    let news : List ApExit = c.deref.result.now in
    let lines : List HostLine = c.as_slice-2.result.now in
    let refused : Option ℕ = refused_of lines (length old) (length news) in
    let loud : c.args.image.now.announce ≡ true = c.if-not-image.false in
    let are : c.deref.result.now ≡ map (exit_of c.args.image.now.cores) more =
    c.deref.ensures.value ∙ (c.in_ok-news.ensures ∙ ap (λ (cores : List CoreLine). map (exit_of cores) more) c.as_slice.ensures) in
    on_two c.take.result (c.take.new.self.exits.items ≡ old ++ before_refused refused news) (c.take.new.self.refused ≡ said_from lines (length old) refused)
    ((told : List Announced) → IsTold c.args.image.now told c.args.self.now.exits.items None
    → IsTold c.args.image.now (told ++ told_between c.args.image.now c.args.before.now c.args.after.now) c.take.new.self.exits.items c.take.new.self.refused)
    c.take.ensures.exits c.take.ensures.refused
    (λ took says told is.
    subst (λ (l : List Announced). IsTold c.args.image.now (told ++ l) c.take.new.self.exits.items c.take.new.self.refused)
    (sym (told_all c.args.image.now c.args.before.now c.args.after.now loud))
    (told_more c.args.image.now told more old news c.take.new.self.exits.items (length old) refused c.take.new.self.refused is refl are
    (ap (λ (l : List HostLine). refused_of l (length old) (length news)) c.as_slice-2.ensures) took
    (says ∙ ap (λ (l : List HostLine). said_from l (length old) refused) c.as_slice-2.ensures)))

pub returns-clause-low : goal.returns-clause-low
returns-clause-low c =
    let more : List Announced = exits_between c.args.before.now c.args.after.now in
    let old : List ApExit = c.args.self.now.exits.items in
    let news : List ApExit = c.deref.result.now in
    let lines : List HostLine = c.as_slice-2.result.now in
    let refused : Option ℕ = refused_of lines (length old) (length news) in
    let are : c.deref.result.now ≡ map (exit_of c.args.image.now.cores) more =
    c.deref.ensures.value ∙ (c.in_ok-news.ensures ∙ ap (λ (cores : List CoreLine). map (exit_of cores) more) c.as_slice.ensures) in
    on_two c.take.result (c.take.new.self.exits.items ≡ old ++ before_refused refused news) (c.take.new.self.refused ≡ said_from lines (length old) refused)
    (All IsLow c.take.new.self.exits.items) c.take.ensures.exits c.take.ensures.refused
    (λ took says. low_taken old news c.take.new.self.exits.items refused c.requires.low
    (subst (All IsLow) (sym are) (low_exits c.args.image.now c.args.before.now c.args.after.now c.requires.sound c.requires.before c.requires.after)) took)
