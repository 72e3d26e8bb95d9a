-- Where the test of a counter is noted, the notes speak of so many turns alone.
use Rattle.std.proofs.Common.{◌≡◌, ℕ, zero, suc, ◌≤◌, refl, sym, ap, ◌∙◌, subst, Bool, true, false, List, [], ◌∷◌, Option, Some, None}
use Rattle.std.specs.Prelude.{pos, ◌||◌, if◌then◌else◌}
use Rattle.std.specs.List.{list_any}
use Rattle.std.specs.Option.{option_map_or, is_some}
use Rattle.std.proofs.lemmas.Bool.{false≢true}
use Rattle.std.proofs.lemmas.Option.{none-some}
use Rattle.bpf_insn.specs.declared.instruction.Operand.TheVariants.{Imm}
use Rattle.bpf_insn.specs.declared.instruction.Width.TheVariants.{W64}
use Rattle.bpf_insn.specs.declared.instruction.Cond.TheVariants.{Eq}
use Rattle.bpf_insn.specs.declared.instruction.Insn.{Insn}
use Rattle.bpf_insn.specs.declared.instruction.Insn.TheVariants.{JumpIf}
use Rattle.bpf_kept.specs.declared.notes.Note.{Note}
use Rattle.bpf_kept.specs.declared.notes.TurnsLeft.{TurnsLeft}
use Rattle.bpf_kept.specs.declared.bounds.Turns.TheVariants.{Any, Most}
use Rattle.bpf_kept.specs.Counters.{any_counter, is_tested_turn, has_turn}
use Rattle.bpf_kept.specs.Matching.{Notes, note_at, counts, has_counter, shown_turns, AreWithin}

or_true : (b : Bool) → (b || true) ≡ true
or_true true = refl
or_true false = refl

one_counts : (test : TurnsLeft → Bool) (counters : List (Option TurnsLeft)) → any_counter test counters ≡ true → list_any is_some counters ≡ true
one_counts test [] e = absurd (false≢true e)
one_counts test (None ∷ counters) e = one_counts test counters e
one_counts test (Some c ∷ counters) e = refl

tested_counts : (counters : List (Option TurnsLeft)) (slot : ℕ) (m : Insn) → has_turn counters slot m ≡ true → list_any is_some counters ≡ true
unfolding has_turn
tested_counts counters slot (JumpIf Eq W64 dst (Imm (pos zero)) off) e = one_counts (is_tested_turn slot dst) counters e
tested_counts counters slot m e = absurd (false≢true e)

noted_counts : (notes : Notes) (slot : ℕ) (note : Note) → note_at notes slot ≡ Some note → counts note ≡ true → has_counter notes ≡ true
noted_counts [] slot note noted e = absurd (none-some note noted)
noted_counts (o ∷ notes) zero note noted e = subst (λ o. (option_map_or counts o false || has_counter notes) ≡ true) (sym noted) (ap (λ b. b || has_counter notes) e)
noted_counts (o ∷ notes) (suc slot) note noted e = ap (λ b. option_map_or counts o false || b) (noted_counts notes slot note noted e) ∙ or_true (option_map_or counts o false)

-- so the runs that are spoken of make no more
pub counted_turns : (notes : Notes) (most turns slot old_slot : ℕ) (note : Note) (m : Insn) → note_at notes slot ≡ Some note → has_turn note.counters old_slot m ≡ true → AreWithin (shown_turns notes most) turns → turns ≤ most
counted_turns notes most turns slot old_slot note m noted turn within = by_counter (has_counter notes) refl within
  where
    by_counter : (b : Bool) → has_counter notes ≡ b → AreWithin (if b then Most most else Any) turns → turns ≤ most
    by_counter true e h = h
    by_counter false e h = absurd (false≢true (sym e ∙ noted_counts notes slot note noted (tested_counts note.counters old_slot m turn)))
