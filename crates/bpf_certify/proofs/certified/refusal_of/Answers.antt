use Rattle.std.proofs.Common.{◌<◌, rules, sym, subst}
use Rattle.bpf_insn.specs.Instruction.{slots}
use Rattle.bpf_certify.specs.Certified.{IsRefused}
use Rattle.bpf_certify.proofs.certified.refusal_of.Goals as goal

pub returns-in-TooDear-2 : goal.returns-in-TooDear-2
returns-in-TooDear-2 c = λ length.
    let some : 0 < slots c.args.program.now.list = search rules in
    subst (λ e. IsRefused c.args.program.now length c.args.wish e) (sym c.unfound.ensures) some
