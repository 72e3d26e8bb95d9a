-- The start is decided by tests.
use Rattle.std.proofs.Common.{◌≡◌, ℕ, ◌-◌, Bool, true, false, None, sym, ap, ◌∙◌}
use Rattle.std.specs.Prelude.{◌↔◌, IsTrue, ◌&&◌}
use Rattle.std.proofs.lemmas.Bool.{and_parts, false≢true}
use Rattle.bpf_insn.specs.Instruction.{Instructions}
use Rattle.bpf_kept.specs.Meaning.{Bounds}
use Rattle.bpf_kept.specs.declared.notes.Change.TheVariants.{Kept}
use Rattle.bpf_kept.specs.Matching.{Notes, Cuts, most_at_start, start_slot, left_alone, known_at_start, arrives, starts}
use Rattle.bpf_kept.specs.Knowns.{start_for}
use Rattle.bpf_kept.specs.Mismatches.{Starts}

-- the start, with what is left alone of the frame
pub begins_is : (new : Instructions) (notes : Notes) (bounds : Bounds) (left : ℕ) (a b : Bool) → left ≡ left_alone new bounds.untouched → IsTrue a ↔ (bounds.padded ≡ true → Cuts new bounds.length)
    → b ≡ arrives notes (start_for bounds.padded bounds.length bounds.turns left None) Kept None 0 (most_at_start - start_slot bounds.padded) (start_slot bounds.padded) → IsTrue (a && b) ↔ Starts new notes bounds
unfolding known_at_start starts
begins_is new notes bounds left a b alone cuts is =
    let same : b ≡ arrives notes (start_for bounds.padded bounds.length bounds.turns left_there None) Kept None 0 (most_at_start - start_slot bounds.padded) (start_slot bounds.padded) =
    is ∙ ap (λ left. arrives notes (start_for bounds.padded bounds.length bounds.turns left None) Kept None 0 (most_at_start - start_slot bounds.padded) (start_slot bounds.padded)) alone in (
      λ h. let p = and_parts a b h in (cuts.0 p.0, sym same ∙ p.1),
      λ s. both a b (cuts.1 s.0) (same ∙ s.1),
    )
  where
    left_there : ℕ
    left_there = left_alone new bounds.untouched

    both : (a b : Bool) → a ≡ true → b ≡ true → (a && b) ≡ true
    both true b ea eb = eb
    both false b ea eb = absurd (false≢true ea)
