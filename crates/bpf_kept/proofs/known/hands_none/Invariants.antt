use Rattle.std.proofs.Common.{◌≡◌, ◌<◌, ℕ, false}
use Rattle.bpf_kept.specs.Matching.{hands_frame}
use Rattle.bpf_kept.proofs.WalkLemmas.{at_slot}
use Rattle.bpf_kept.proofs.known.hands_none.Given as goal

-- the slots so far
abbrev pub invariant-loop-slot : goal.invariant-loop-slot
invariant-loop-slot g l = (slot : ℕ) → slot < l.slot → at_slot hands_frame (g.N.Code.program l.new).list slot ≡ false
