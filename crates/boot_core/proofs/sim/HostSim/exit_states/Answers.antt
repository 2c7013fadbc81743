use Rattle.std.proofs.Common.{◌≡◌, ℕ, List, Option, length, arith, ap, ◌∙◌}
use Rattle.boot_core.specs.Sim.{Sim, returned, sim_return, one_later}
use Rattle.boot_core.proofs.IndexLemmas.{returned_by_kept}
use Rattle.boot_core.proofs.LentLemmas.{written}
use Rattle.boot_core.proofs.sim.HostSim.exit_states.Goals as goal

pub returns-clause-page : goal.returns-clause-page
returns-clause-page c =
    let own = c.self.inside in
    let lines = c.lines_of-lines.result.now in
    let page = c.args.page.now in
    let same : length c.carry_out.new.bytes ≡ length page = omega (arith, ap length c.bytes_mut.ensures.value) in
    written page c.carry_out.new.bytes same
    ∙ (c.carry_out.ensures
    ∙ (ap (λ (sent : List ℕ). returned lines own.pace own.exits sent) c.bytes_mut.ensures.value
    ∙ (returned_by_kept own.exits lines own.lines.items own.pace page (c.lines_of-lines.ensures ∙ c.self.invariant.1 own.exits)
    ∙ (ap (λ (pace : Option ℕ). returned own.lines.items pace own.exits page) c.self.invariant.0
    ∙ ap (λ (sim : Sim). sim_return sim.lines sim.exits page) c.self.view_is))))

pub returns-clause-host : goal.returns-clause-host
returns-clause-host c =
    let own = c.self.inside in
    ap (λ (exits : ℕ). record { lines = own.lines.items; exits = exits; aps = own.aps }) c.saturating_add-self-inside.ensures
    ∙ ap (λ (sim : Sim). record { lines = sim.lines; exits = one_later sim.exits; aps = sim.aps }) c.self.view_is
