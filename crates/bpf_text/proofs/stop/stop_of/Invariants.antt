use Rattle.std.proofs.Common.{◌≡◌, List, ℕ, ◌++◌, length}
use Rattle.bpf_text.specs.declared.line.LineFault.{LineFault}
use Rattle.bpf_text.specs.Grammar.{tokens}
use Rattle.bpf_text.specs.Stop.{IsBegun}
use Rattle.bpf_text.proofs.stop.stop_of.Given as goal

pub record Reads (fault : LineFault) (text front rest : List ℕ) : Type 0 where
  pub parted : tokens text ≡ tokens front ++ tokens rest
  pub bytes : (before : List ℕ) × (text ≡ before ++ rest)
  pub begun : IsBegun fault (tokens front)

abbrev pub invariant-tokens : goal.invariant-tokens
invariant-tokens l = Reads l.fault l.text l.front.items l.rest

abbrev pub decreases-tokens : goal.decreases-tokens
decreases-tokens l = length l.rest
