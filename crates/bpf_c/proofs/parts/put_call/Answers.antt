use Rattle.std.proofs.Common.{◌≡◌, ap, rules}
use Rattle.std.specs.Prelude.{decimal}
use Rattle.bpf_insn.specs.Instruction.{target}
use Rattle.bpf_c.specs.Parts.{part_to}
use Rattle.bpf_c.proofs.SaysLemmas.{says_more, says_of}
use Rattle.bpf_c.proofs.parts.put_call.Goals as goal

pub returns : goal.returns
returns g c =
    let part : c.part_to.result ≡ part_to (target c.args.slot c.args.off) = search rules in
    says_more c.put.ensures (says_more c.put-2.ensures (says_more c.put-3.ensures (says_more (says_of (ap decimal part) c.number.ensures) (says_more c.put-4.ensures (says_more c.number-2.ensures c.put-5.ensures)))))
