use Rattle.std.proofs.Common.{arith}
use Rattle.run_order.proofs.MemberLemmas.{own_more}
use Rattle.run_order.proofs.MemberPlaces.{read_place}
use Rattle.run_order.proofs.wave.first_foreign.Goals as goal

pub seek-preserved : goal.seek-preserved
seek-preserved c = own_more c.args.members.now c.args.entries.now c.seek.at _ (omega (arith, c.seek-test.true, c.requires)) c.seek.invariant
    (c.is_own.ensures.0 c.if-not-is_own.false)
