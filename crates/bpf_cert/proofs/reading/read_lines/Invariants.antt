use Rattle.std.proofs.Common.{◌+◌, List}
use Rattle.bpf_cert.specs.Line.{Line}
use Rattle.bpf_cert.specs.code.Building.{IsBuilt}
use Rattle.bpf_cert.proofs.ReadingLemmas.{Progresses}
use Rattle.bpf_cert.proofs.reading.read_lines.Given as goal

abbrev pub invariant-loop-before : goal.invariant-loop-before
invariant-loop-before g l = (lines : List Line) × IsBuilt lines l.builder × Progresses l.fn.source l.source (l.before + 1) lines
