use Rattle.std.proofs.Common.{List, length}
use Rattle.bpf_cert.specs.Line.{Term}
use Rattle.bpf_cert.specs.Reading.{term_in}
use Rattle.bpf_cert.specs.code.TermSums.{IsTermSum}
use Rattle.bpf_cert.proofs.PieceLemmas.{Taken}
use Rattle.bpf_cert.proofs.term.terms_of.Given as goal

abbrev pub invariant-pieces : goal.invariant-pieces
invariant-pieces l = (done : List Term) × IsTermSum done l.terms × Taken 32 term_in l.fn.text l.rest done

abbrev pub decreases-pieces : goal.decreases-pieces
decreases-pieces l = length l.rest
