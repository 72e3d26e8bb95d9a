use Rattle.std.proofs.Common.{◌≡◌, ◌<◌, drop}
use Rattle.bpf_text.specs.code.Chains.{hash_after}
use Rattle.bpf_text.proofs.chains.hash_of.Given as goal

abbrev pub invariant-loop-byte : goal.invariant-loop-byte
invariant-loop-byte l = record { same : hash_after l.hash (drop l.byte-index l.name) ≡ hash_after 0 l.name; small : l.hash < 4294967296 }
