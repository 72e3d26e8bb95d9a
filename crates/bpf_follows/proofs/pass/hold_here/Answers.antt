use Rattle.std.proofs.Common.{◌≡◌, None, refl, sym, subst, arith}
use Rattle.bpf_insn.specs.Instruction.{Instructions}
use Rattle.bpf_kept.specs.Matching.{HoldsAt}
use Rattle.bpf_follows.proofs.Noted.{second_fails}
use Rattle.bpf_follows.proofs.pass.hold_here.Goals as goal

pub returns-clause-err : goal.returns-clause-err
returns-clause-err g c states is =
    let old : Instructions = g.O.Code.program c.args.old.now in
    let new : Instructions = g.N.Code.program c.args.new.now in
    let two : c.args.count ≡ 2 = omega arith in
    second_fails old new c.args.notes.now c.args.at.bounds states c.args.at.slot c.args.count None c.judged_at-2.result two (c.requires.second 1 (omega arith) (omega arith))
    (subst (λ s. HoldsAt old new c.args.notes.now c.args.at.bounds s c.args.at.slot) (sym is) (c.in_ok-judged_at.ensures.exact.0 refl))
    c.judged_at-2.ensures.exact c.judged_at-2.ensures.err
