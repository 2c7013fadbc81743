use Rattle.std.proofs.Common.{◌≡◌, refl, inl, subst, ⊎_elim}
use Rattle.svsm_outside.specs.Outside.{Tells}
use Rattle.run_core_top.specs.declared.stop.Stop.{Stop}
use Rattle.run_core_top.specs.declared.stop.Stop.TheVariants as stops
use Rattle.run_core_top.specs.Stops.{stop_line}
use Rattle.run_core_top.proofs.top.unsaved.Goals as goal

pub returns-in_default : goal.returns-in_default
returns-in_default g c =
    let same : c.tell_stop.result ≡ stops.Unsaved c.args.error =
    ⊎_elim (λ (is : c.tell_stop.result ≡ stops.Unsaved c.args.error). is)
    (λ (memory : c.tell_stop.result ≡ stops.Memory). absurd (c.in_default.not-Memory memory)) c.tell_stop.ensures.same in
    inl (refl, refl, subst (λ (stop : Stop). Tells (g.E.Sink.seen c.args.err.now) (g.E.Sink.seen c.tell_stop.new.err) (stop_line stop)) same c.tell_stop.ensures.line)
