use Rattle.std.proofs.Common.{◌&&◌, ◌↔◌, IsTrue, sym, subst, ◌∙◌}
use Rattle.std.proofs.lemmas.Bool.{false≢true}
use Rattle.bpf_kept.specs.Mismatches.{Starts}
use Rattle.bpf_kept.proofs.FaultLemmas.{begins_is}
use Rattle.bpf_kept.proofs.begin.begins.Goals as goal

pub returns-then-cuts_blocks : goal.returns-then-cuts_blocks
returns-then-cuts_blocks g c =
    subst (λ a. IsTrue (a && c.starts.result) ↔ Starts (g.N.Code.program c.args.new.now) c.args.notes.now c.args.bounds) c.if-cuts_blocks.true
    (begins_is (g.N.Code.program c.args.new.now) c.args.notes.now c.args.bounds c.args.left c.cuts_blocks.result c.starts.result c.requires c.cuts_blocks.ensures c.starts.ensures)

pub returns-else-cuts_blocks : goal.returns-else-cuts_blocks
returns-else-cuts_blocks g c = (λ h. absurd (false≢true (sym c.if-cuts_blocks.false ∙ h)), λ s. c.cuts_blocks.ensures.1 s.0)
