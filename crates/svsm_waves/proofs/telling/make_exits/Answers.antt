use Rattle.svsm_waves.proofs.TellLemmas.{ends_behind}
use Rattle.svsm_waves.proofs.telling.make_exits.Goals as goal

pub returns : goal.returns
returns c = λ told are.
    let is = c.announce.ensures.made in
    ends_behind c.args.image.now c.args.number told c.args.exits.now c.in_ok-page.page c.announce.new.page is.0 c.in_ok-host.host c.announce.new.host
    c.announce.result c.in_ok-host.ensures are c.in_ok-page.ensures c.requires.few is.1 is.2
