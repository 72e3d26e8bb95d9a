use Rattle.bpf_text.proofs.AnnotatedLemmas.{without_end}
use Rattle.bpf_text.proofs.annotated.code_of.Goals as goal

pub returns : goal.returns
returns c = without_end c.args.insn.now c.new-line.result.items c.write_line.new.out.items c.pop-end.new.self.items c.new-line.ensures c.in_ok-write_line.ensures.ok c.pop-end.ensures.rest
