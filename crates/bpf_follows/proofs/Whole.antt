-- Whole texts.
use Rattle.std.proofs.Common.{◌≡◌, ℕ, ◌⊎◌, inl, inr, List, ◌++◌, Option, Some, sym, ap, subst, ◌∙◌, arith}
use Rattle.std.specs.Prelude.{Result, Ok, Err}
use Rattle.bpf_insn.specs.Limits.{max_slots}
use Rattle.bpf_kept.specs.declared.notes.Note.{Note}
use Rattle.bpf_kept.specs.declared.bounds.Bounds.{Bounds}
use Rattle.bpf_follows.specs.declared.error.NotesError.{NotesError}
use Rattle.bpf_follows.specs.declared.error.NotesError.TheVariants.{Form, Memory}
use Rattle.bpf_follows.specs.NotesText.{AreNotes, RunsFit, note_lines, head_line, notes_text}
use Rattle.bpf_follows.specs.Refused.{IsRefused, StopsAt}
use Rattle.bpf_follows.specs.code.Reading.{lines_in, head_in}
use Rattle.bpf_follows.proofs.Again.{lines_again, head_again}
use Rattle.bpf_follows.proofs.Found.{found, refused, head_is}

same_Ok : (a b : List (Option Note)) → ◌≡◌ {A = Result (List (Option Note)) NotesError} (Ok a) (Ok b) → a ≡ b
same_Ok a b e = cc

module _ (text : List ℕ) (head : Bounds) (rest : List ℕ) (first : head_in text ≡ Some (head, rest)) where
  pub whole_found : (notes : List (Option Note)) → lines_in max_slots 0 rest ≡ Ok notes → text ≡ notes_text head notes
  whole_found notes e = head_is text head rest first ∙ ap (λ t. head_line head ++ t) (found rest notes e)

  -- the first line of what is spelled
  same_head : (other : Bounds) (notes : List (Option Note)) → RunsFit other → text ≡ notes_text other notes → (head ≡ other) × (rest ≡ note_lines 0 notes)
  same_head other notes fits e =
      let again : head_in text ≡ Some (other, note_lines 0 notes) = ap head_in e ∙ head_again other fits (note_lines 0 notes) in
      let pair : ◌≡◌ {A = Bounds × List ℕ} (head, rest) (other, note_lines 0 notes) = cc in
      (ap (λ (p : Bounds × List ℕ). p.0) pair, ap (λ (p : Bounds × List ℕ). p.1) pair)

  again : (other : Bounds) (notes : List (Option Note)) → RunsFit other → AreNotes notes → text ≡ notes_text other notes → lines_in max_slots 0 rest ≡ Ok notes
  again other notes fits are e = ap (lines_in max_slots 0) (same_head other notes fits e).1 ∙ lines_again max_slots 0 notes are.few (omega (arith, are.few)) are.each

  pub whole_only : (read : List (Option Note)) → lines_in max_slots 0 rest ≡ Ok read → (other : Bounds) (notes : List (Option Note)) → RunsFit other → AreNotes notes → text ≡ notes_text other notes → (head ≡ other) × (read ≡ notes)
  whole_only read e other notes fits are is = ((same_head other notes fits is).0, same_Ok read notes (sym e ∙ again other notes fits are is))

  -- where the lines stop, no notes are spelled
  pub whole_none : (error : NotesError) → (error ≡ Memory) ⊎ (lines_in max_slots 0 rest ≡ Err error) → (other : Bounds) (notes : List (Option Note)) → RunsFit other → AreNotes notes → text ≡ notes_text other notes → error ≡ Memory
  whole_none error (inl m) other notes fits are is = m
  whole_none error (inr e) other notes fits are is = let r : lines_in max_slots 0 rest ≡ Ok notes = again other notes fits are is in cc

  stopped : (error : NotesError) → lines_in max_slots 0 rest ≡ Err error → IsRefused text error
  stopped (Form line) e =
      let r = refused rest (Form line) e in
      let same : line ≡ r.0 = cc in
      inr (head, rest, head_is text head rest first, subst (StopsAt 0 rest) (sym same) r.2)
  stopped Memory e = tt

  pub whole_refused : (error : NotesError) → (error ≡ Memory) ⊎ (lines_in max_slots 0 rest ≡ Err error) → IsRefused text error
  whole_refused error (inl m) = subst (IsRefused text) (sym m) tt
  whole_refused error (inr e) = stopped error e
