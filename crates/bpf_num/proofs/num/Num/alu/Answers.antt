use Rattle.bpf_num.proofs.NumberLaws.{num_alu_keeps}
use Rattle.bpf_num.proofs.num.Num.alu.Goals as goal

pub returns-clause-keeps : goal.returns-clause-keeps
returns-clause-keeps c x y has has' =
    rw c.alu_of_width.ensures (num_alu_keeps c.args.width c.args.op c.args.self c.args.other x y c.valid.ensures c.valid-2.ensures has has')
