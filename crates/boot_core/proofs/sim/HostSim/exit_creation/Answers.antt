use Rattle.std.proofs.Common.{◌≡◌, ℕ, List, length, arith, ap, ◌∙◌}
use Rattle.svsm_types.specs.declared.image.HostLine.{HostLine}
use Rattle.ghcb_page.specs.Bytes.{with_u64}
use Rattle.svsm_steps.specs.Announced.{ap_error}
use Rattle.boot_core.specs.Sim.{Sim, ap_return, one_later}
use Rattle.boot_core.proofs.LentLemmas.{written}
use Rattle.boot_core.proofs.sim.HostSim.exit_creation.Goals as goal

pub returns-clause-page : goal.returns-clause-page
returns-clause-page c =
    let own = c.self.inside in
    let page = c.args.page.now in
    let same : length c.put_error.new.bytes ≡ length page = omega (arith, ap length c.bytes_mut.ensures.value) in
    written page c.put_error.new.bytes same
    ∙ (c.put_error.ensures
    ∙ (ap (λ (sent : List ℕ). with_u64 0x3A0 c.ap_error-error.result (with_u64 0x398 0 sent)) c.bytes_mut.ensures.value
    ∙ (ap (λ (error : ℕ). with_u64 0x3A0 error (with_u64 0x398 0 page)) (c.ap_error-error.ensures ∙ ap (λ (lines : List HostLine). ap_error lines own.aps) c.deref.ensures.value)
    ∙ ap (λ (sim : Sim). ap_return sim.lines sim.aps page) c.self.view_is)))

pub returns-clause-host : goal.returns-clause-host
returns-clause-host c =
    let own = c.self.inside in
    ap (λ (aps : ℕ). record { lines = own.lines.items; exits = own.exits; aps = aps }) c.saturating_add-self-inside.ensures
    ∙ ap (λ (sim : Sim). record { lines = sim.lines; exits = sim.exits; aps = one_later sim.aps }) c.self.view_is
