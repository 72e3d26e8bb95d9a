use Rattle.std.proofs.Common.{◌≡◌, ◌+◌, ◌<◌, true, false, refl, ap, arith, rules}
use Rattle.std.specs.Prelude.{is_some}
use Rattle.bpf_insn.specs.Instruction.{is_straight}
use Rattle.bpf_check.proofs.PassLemmas.{one_slot}
use Rattle.bpf_check.proofs.StraightLemmas.{unlabelled}
use Rattle.bpf_check.proofs.straight.Step.of.Goals as goal

pub returns-clause-step : goal.returns-clause-step
returns-clause-step c =
    let none : is_some c.args.here.now.label ≡ false = search rules in
    let straight : is_straight c.args.insn ≡ true = search rules in
    let one = one_slot c.args.insn in
    let at = c.slots.ensures in
    let above : c.args.here.now.slot < c.args.here.now.slot + c.slots.result = omega (arith, one, at) in
    let quiet = c.requires.spot.quiet (c.args.here.now.slot + c.slots.result) above c.if-here-next.false in
    record {
      few = c.requires.few;
      straight = straight;
      here = unlabelled c.args.certificate.now c.args.here.now.slot c.args.here.now.label none c.requires.spot.label;
      next_slot = ap (λ n. c.args.here.now.slot + n) at;
      next = quiet.0;
      function = quiet.1;
      inside = c.if-end-next.false;
    }

pub returns-clause-from : goal.returns-clause-from
returns-clause-from c = record { certificate = refl; slot_is = refl; insn = refl; here = c.in-Some.is }
