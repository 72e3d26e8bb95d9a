-- Work as the pass counts it.
use Rattle.std.specs.Prelude.{ℕ, zero, suc, List, [], ◌∷◌}
use Rattle.bpf_insn.specs.Instruction.{Instructions}
use Rattle.bpf_state.specs.Work.{Counts, counted}
use Rattle.bpf_cert.specs.View.{CertificateView}
use Rattle.bpf_safety.specs.Flow.{Visit, visits}
use Rattle.bpf_safety.specs.Flaw.{numbers_of_visit}
use Rattle.bpf_safety.specs.Work.{compared_at, transferred_at}

-- so many more of a count
abbrev pub counted_times : ℕ → ℕ → ℕ
counted_times zero n = n
counted_times (suc k) n = counted (counted_times k n)

-- so many more comparisons
abbrev pub compared : ℕ → Counts → Counts
compared k work = record work { comparisons = counted_times k work.comparisons }

-- the work of a visit
abbrev pub worked_at : Instructions → CertificateView → Visit → Counts → Counts
worked_at p c v work = record {
  transfers = counted_times (transferred_at v) work.transfers;
  comparisons = counted_times (compared_at p c v) work.comparisons;
}

abbrev pub if_faultless : List ℕ → Counts → Counts → Counts
if_faultless [] onward here = onward
if_faultless (n ∷ ns) onward here = here

-- the work of visits up to the first that has a flaw, that one too
abbrev pub worked_through : Instructions → CertificateView → List Visit → Counts → Counts
worked_through p c [] work = work
worked_through p c (v ∷ vs) work =
    if_faultless (numbers_of_visit p c v) (worked_through p c vs (worked_at p c v work)) (worked_at p c v work)

-- the work of a pass over a program, up to its first visit that has a flaw
abbrev pub worked_in_pass : Instructions → CertificateView → Counts → Counts
worked_in_pass p c work = worked_through p c (visits p c) work
