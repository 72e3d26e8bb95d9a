use Rattle.std.proofs.Common.{ap, ◌∙◌}
use Rattle.bpf_state.specs.Fault.{is_pointer}
use Rattle.bpf_state.proofs.AluLemmas.{difference_plain}
use Rattle.bpf_state.proofs.transfers.results.difference_result.Goals as goal

pub returns-in-Num : goal.returns-in-Num
returns-in-Num c =
    let told = c.numbers_result.ensures in
    record {
      value = told.value ∙ difference_plain c.args.a c.args.b (ap is_pointer c.in-Num.is);
      ordered = told.ordered;
    }
