use Rattle.std.proofs.Common.{subst}
use Rattle.bpf_text.specs.Listing.{line_text}
use Rattle.bpf_text.specs.code.Puts.{Puts}
use Rattle.bpf_text.proofs.PutLemmas.{line_put}
use Rattle.bpf_text.proofs.lister.make_line.Goals as goal

pub returns : goal.returns
returns c = line_put c.args.insn.now _ (subst (λ a. Puts a (line_text c.args.insn.now) c.put_insn.new.line) c.clear.ensures c.put_insn.ensures)
