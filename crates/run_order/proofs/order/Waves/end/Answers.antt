use Rattle.std.proofs.Common.{◌≡◌, ◌≤◌, ℕ, List, length, sym, ◌∙◌, ap, subst, [], refl, arith}
use Rattle.std.specs.Prelude.{Option, All}
use Rattle.svsm_steps.specs.declared.outcome.CoreRun.{CoreRun}
use Rattle.svsm_steps.specs.Announced.{Announced}
use Rattle.ap_start.specs.Exits.{IsLow, taken, refused_exit}
use Rattle.ap_start.specs.declared.exits.ApExit.{ApExit}
use Rattle.run_order.specs.Orders.{IsWhole}
use Rattle.run_order.proofs.AnswerLemmas.{given}
use Rattle.run_order.proofs.BehindLemmas.{breaks_behind}
use Rattle.run_order.proofs.StandLemmas.{stands_begun, whole_read}
use Rattle.run_order.proofs.order.Waves.end.Goals as goal

pub returns-then-behind-entries : goal.returns-then-behind-entries
returns-then-behind-entries c =
    breaks_behind c.args.image.now c.args.scripts.now c.args.entries.now c.args.self.behind c.args.self.ran.items c.requires.stands.read.told [] refl
    (given c.args.image.now c.args.entries.now c.requires.sound c.requires.formed c.requires.legal)
    (stands_begun c.args.image.now c.args.scripts.now c.args.entries.now c.args.self [] c.requires.stands (sym c.requires.none)) c.if-behind-entries.true

pub returns : goal.returns
returns c =
    let whole = whole_read c.args.image.now c.args.scripts.now c.args.entries.now c.args.self.ran.items c.args.self.cores.items c.requires.stands.read.told c.args.self.behind
    c.if-behind-entries.false
    (stands_begun c.args.image.now c.args.scripts.now c.args.entries.now c.args.self [] c.requires.stands (sym c.requires.none)) c.requires.stands.read.gave in
    subst (λ (exits : List ApExit). IsWhole c.args.image.now c.args.scripts.now c.args.entries.now (record { cores = c.from_vec.result; exits = exits; refused = c.args.self.told.refused })) (sym c.from_vec-2.ensures)
    (subst (λ (cores : List CoreRun). IsWhole c.args.image.now c.args.scripts.now c.args.entries.now (record { cores = cores; exits = c.args.self.told.exits.items; refused = c.args.self.told.refused })) (sym c.from_vec.ensures)
    (record {
      ordered = whole.0;
      exits = c.requires.stands.read.is.took ∙ ap (taken c.args.image.now) (sym whole.1);
      refused = c.requires.stands.read.is.said ∙ ap (refused_exit c.args.image.now) (sym whole.1);
      low = c.requires.stands.read.low;
    }))
