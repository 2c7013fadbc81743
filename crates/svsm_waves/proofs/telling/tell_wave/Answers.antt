use Rattle.std.proofs.Common.{◌≡◌, ℕ, sym, ap, subst, ◌∙◌, List, ◌++◌, None, Option, map, true}
use Rattle.std.specs.Prelude.{All}
use Rattle.svsm_types.specs.declared.image.CoreLine.{CoreLine}
use Rattle.svsm_steps.specs.Announced.{Announced, exits_between}
use Rattle.ap_start.specs.declared.exits.ApExit.{ApExit}
use Rattle.ap_start.specs.Exits.{IsLow, exit_of}
use Rattle.svsm_waves.specs.Told.{IsTold, told_between, taken_by, said_by}
use Rattle.svsm_waves.proofs.ToldLemmas.{low_exits, ends_there, told_more, told_all, low_taken, if_both, on_both}
use Rattle.svsm_waves.proofs.telling.tell_wave.Goals as goal

pub make_exits-requires-clause-low : goal.make_exits-requires-clause-low
make_exits-requires-clause-low c =
    let more : List Announced = exits_between c.args.before.now c.args.after.now in
    let loud : c.args.image.now.announce ≡ true = c.if-not-image.false in
    let are : c.deref.result.now ≡ map (exit_of c.args.image.now.cores) more =
    c.deref.ensures.value ∙ (c.in_ok-news.ensures ∙ ap (λ (cores : List CoreLine). map (exit_of cores) more) c.as_slice.ensures) in
    subst (All IsLow) (sym are) (low_exits c.args.image.now c.args.before.now c.args.after.now c.requires.sound (c.requires.before loud) c.requires.after)

pub take_exits-requires : goal.take_exits-requires
take_exits-requires c =
    let more : List Announced = exits_between c.args.before.now c.args.after.now in
    let news : c.in_ok-news.news.items ≡ map (exit_of c.args.image.now.cores) more =
    c.in_ok-news.ensures ∙ ap (λ (cores : List CoreLine). map (exit_of cores) more) c.as_slice.ensures in
    ends_there c.args.image.now c.len.result more c.deref-2.result.now c.in_ok-end.end (c.deref-2.ensures.value ∙ news)
    (c.in_ok-end.ensures more (c.deref.ensures.value ∙ news))

pub returns-clause-told : goal.returns-clause-told
returns-clause-told c =
    let image = c.args.image.now in
    let more : List Announced = exits_between c.args.before.now c.args.after.now in
    let loud : c.args.image.now.announce ≡ true = c.if-not-image.false in
    let news : c.in_ok-news.news.items ≡ map (exit_of c.args.image.now.cores) more =
    c.in_ok-news.ensures ∙ ap (λ (cores : List CoreLine). map (exit_of cores) more) c.as_slice.ensures in
    if_both c.take_exits.result (c.take_exits.new.exits.items ≡ c.args.exits.now.items ++ taken_by c.in_ok-end.end c.deref-2.result.now)
    (λ said. said ≡ said_by c.in_ok-end.end)
    (λ said. (told : List Announced) → IsTold c.args.image.now told c.args.exits.now.items None
    → IsTold c.args.image.now (told ++ told_between c.args.image.now c.args.before.now c.args.after.now) c.take_exits.new.exits.items said)
    c.take_exits.ensures.taken c.take_exits.ensures.said
    (λ new said says told is.
    subst (λ (l : List Announced). IsTold c.args.image.now (told ++ l) c.take_exits.new.exits.items said)
    (sym (told_all c.args.image.now c.args.before.now c.args.after.now loud))
    (told_more c.args.image.now told more c.args.exits.now.items c.deref-2.result.now c.take_exits.new.exits.items c.len.result c.in_ok-end.end said is
    (c.len.ensures ∙ c.args.exits.now.ok.0) (c.deref-2.ensures.value ∙ news) (c.in_ok-end.ensures more (c.deref.ensures.value ∙ news)) new says))

pub returns-clause-low : goal.returns-clause-low
returns-clause-low c =
    let more : List Announced = exits_between c.args.before.now c.args.after.now in
    let loud : c.args.image.now.announce ≡ true = c.if-not-image.false in
    let news : c.deref-2.result.now ≡ map (exit_of c.args.image.now.cores) more =
    c.deref-2.ensures.value ∙ (c.in_ok-news.ensures ∙ ap (λ (cores : List CoreLine). map (exit_of cores) more) c.as_slice.ensures) in
    on_both c.take_exits.result (c.take_exits.new.exits.items ≡ c.args.exits.now.items ++ taken_by c.in_ok-end.end c.deref-2.result.now)
    (All IsLow c.take_exits.new.exits.items) c.take_exits.ensures.taken
    (λ new. low_taken c.args.exits.now.items c.deref-2.result.now c.take_exits.new.exits.items c.in_ok-end.end c.requires.low
    (subst (All IsLow) (sym news) (low_exits c.args.image.now c.args.before.now c.args.after.now c.requires.sound (c.requires.before loud) c.requires.after)) new)
