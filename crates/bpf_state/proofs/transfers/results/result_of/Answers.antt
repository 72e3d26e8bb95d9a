use Rattle.std.proofs.Common.{◌∙◌}
use Rattle.bpf_state.proofs.AluLemmas.{plain_result, others_plain}
use Rattle.bpf_state.proofs.transfers.results.result_of.Goals as goal

pub returns-in_default : goal.returns-in_default
returns-in_default c =
    let told = c.numbers_result-in_default.ensures in
    let rare = c.in_default in
    record {
      value = told.value ∙ plain_result c.args.width c.args.op c.args.a c.args.b (others_plain c.args.op c.args.width rare.not-Mov rare.not-Add rare.not-Sub);
      ordered = told.ordered;
    }
