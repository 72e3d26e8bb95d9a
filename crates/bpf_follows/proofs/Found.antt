-- What is read is spelled so, and where reading stops no line stands.
use Rattle.std.proofs.Common.{◌≡◌, ℕ, zero, suc, ◌+◌, ◌≤◌, ◌⊎◌, inl, inr, List, [], ◌∷◌, ◌++◌, length, Option, Some, None, refl, sym, ap, subst, ◌∙◌, append_assoc, arith}
use Rattle.std.specs.Prelude.{option_map, Result, Ok, Err}
use Rattle.std.specs.Option.{option_map_or}
use Rattle.bpf_streams.specs.Words.{behind}
use Rattle.bpf_kept.specs.declared.notes.Note.{Note}
use Rattle.bpf_kept.specs.declared.bounds.Bounds.{Bounds}
use Rattle.bpf_follows.specs.declared.error.NotesError.{NotesError}
use Rattle.bpf_follows.specs.declared.error.NotesError.TheVariants.{Form}
use Rattle.bpf_insn.specs.Limits.{max_slots}
use Rattle.bpf_follows.specs.NotesText.{note_line, note_lines, head_line}
use Rattle.bpf_follows.specs.Refused.{NoHead, NoLine, StopsAt}
use Rattle.bpf_insn.specs.Options.{◌>>=◌}
use Rattle.bpf_follows.specs.code.Reading.{note_in, taken_at, with_front, lines_in, said_head, head_in}
use Rattle.bpf_streams.proofs.WordLemmas.{behind_is}
use Rattle.bpf_follows.proofs.Again.{taken_again, head_again}

taken_is : (slot : ℕ) (text : List ℕ) (note : Option Note) (rest : List ℕ) → taken_at slot text ≡ Some (note, rest) → text ≡ note_line slot note ++ rest
unfolding taken_at
taken_is slot text note rest e = by_note (note_in text) e
  where
    by_left : (read : Option Note) (left : Option (List ℕ)) → behind (note_line slot read) text ≡ left → option_map {U = Option Note × List ℕ} (λ r. (read, r)) left ≡ Some (note, rest) → text ≡ note_line slot note ++ rest
    by_left read None is e = cc
    by_left read (Some r) is e =
        let pair : ◌≡◌ {A = Option Note × List ℕ} (read, r) (note, rest) = cc in
        let same : read ≡ note = ap (λ (p : Option Note × List ℕ). p.0) pair in
        let tail : r ≡ rest = ap (λ (p : Option Note × List ℕ). p.1) pair in
        behind_is (note_line slot read) text r is ∙ ap (λ x. note_line slot x ++ r) same ∙ ap (λ x. note_line slot note ++ x) tail

    by_note : (o : Option (Option Note)) → (o >>= λ n. option_map {U = Option Note × List ℕ} (λ r. (n, r)) (behind (note_line slot n) text)) ≡ Some (note, rest) → text ≡ note_line slot note ++ rest
    by_note None e = cc
    by_note (Some read) e = by_left read (behind (note_line slot read) text) refl e

-- where none is read, none stands
no_line : (slot : ℕ) (text : List ℕ) → slot + 1 ≤ max_slots → taken_at slot text ≡ None → NoLine slot text
no_line slot text small none note rest fits e = let some : taken_at slot text ≡ Some (note, rest) = ap (taken_at slot) e ∙ taken_again slot (omega arith) note fits rest in cc

-- what reading the lines says of them, where so many may follow
pub Says : ℕ → List ℕ → Result (List (Option Note)) NotesError → Type 0
Says slot text (Ok notes) = text ≡ note_lines slot notes
Says slot text (Err error) = (line : ℕ) × (error ≡ Form line) × StopsAt slot text line

behind_front : (slot : ℕ) (text rest : List ℕ) (note : Option Note) (r : Result (List (Option Note)) NotesError) → text ≡ note_line slot note ++ rest → Says (slot + 1) rest r → Says slot text (with_front note r)
unfolding Says note_lines
behind_front slot text rest note (Ok notes) e says = e ∙ ap (λ t. note_line slot note ++ t) says
behind_front slot text rest note (Err error) e (line, is, stops) =
    let count : slot + 1 + length stops.before ≡ slot + suc (length stops.before) = omega arith in (
      line,
      is,
      record {
        before = note ∷ stops.before;
        rest = stops.rest;
        lines = e ∙ ap (λ t. note_line slot note ++ t) stops.lines ∙ sym (append_assoc (note_line slot note) (note_lines (slot + 1) stops.before) stops.rest);
        line_is = stops.line_is ∙ ap (λ n. n + 2) count;
        more = stops.more;
        stops = subst (λ n. (n ≡ max_slots) ⊎ NoLine n stops.rest) count stops.stops;
      },
    )

stopped : (slot : ℕ) (c : ℕ) (cs : List ℕ) → (slot ≡ max_slots) ⊎ NoLine slot (c ∷ cs) → StopsAt slot (c ∷ cs) (slot + 2)
unfolding note_lines
stopped slot c cs why =
    let here : slot ≡ slot + 0 = omega arith in
    record { before = []; rest = c ∷ cs; lines = refl; line_is = ap (λ n. n + 2) here; more = λ e. cc; stops = subst (λ n. (n ≡ max_slots) ⊎ NoLine n (c ∷ cs)) here why }

pub lines_say : (k slot : ℕ) (text : List ℕ) → slot + k ≡ max_slots → Says slot text (lines_in k slot text)
unfolding Says lines_in note_lines
lines_say k slot [] room = refl
lines_say zero slot (c ∷ cs) room = (slot + 2, refl, stopped slot c cs (inl (omega arith)))
lines_say (suc k) slot (c ∷ cs) room = by_taken (taken_at slot (c ∷ cs)) refl (λ rest. lines_say k (slot + 1) rest (omega arith))
  where
    by_taken : (o : Option (Option Note × List ℕ)) → taken_at slot (c ∷ cs) ≡ o → ((rest : List ℕ) → Says (slot + 1) rest (lines_in k (slot + 1) rest))
        → Says slot (c ∷ cs) (option_map_or (λ x. with_front x.0 (lines_in k (slot + 1) x.1)) o (Err (Form (slot + 2))))
    by_taken None e more = (slot + 2, refl, stopped slot c cs (inr (no_line slot (c ∷ cs) (omega arith) e)))
    by_taken (Some x) e more = behind_front slot (c ∷ cs) x.1 x.0 (lines_in k (slot + 1) x.1) (taken_is slot (c ∷ cs) x.0 x.1 e) (more x.1)

pub found : (text : List ℕ) (notes : List (Option Note)) → lines_in max_slots 0 text ≡ Ok notes → text ≡ note_lines 0 notes
unfolding Says
found text notes e = subst (Says 0 text) e (lines_say max_slots 0 text refl)

pub refused : (text : List ℕ) (error : NotesError) → lines_in max_slots 0 text ≡ Err error → (line : ℕ) × (error ≡ Form line) × StopsAt 0 text line
unfolding Says
refused text error e = subst (Says 0 text) e (lines_say max_slots 0 text refl)

-- ---- the first line

pub head_is : (text : List ℕ) (head : Bounds) (rest : List ℕ) → head_in text ≡ Some (head, rest) → text ≡ head_line head ++ rest
unfolding head_in
head_is text head rest e = by_head (said_head text) e
  where
    by_left : (read : Bounds) (left : Option (List ℕ)) → behind (head_line read) text ≡ left → option_map {U = Bounds × List ℕ} (λ r. (read, r)) left ≡ Some (head, rest) → text ≡ head_line head ++ rest
    by_left read None is e = cc
    by_left read (Some r) is e =
        let pair : ◌≡◌ {A = Bounds × List ℕ} (read, r) (head, rest) = cc in
        let same : read ≡ head = ap (λ (p : Bounds × List ℕ). p.0) pair in
        let tail : r ≡ rest = ap (λ (p : Bounds × List ℕ). p.1) pair in
        behind_is (head_line read) text r is ∙ ap (λ x. head_line x ++ r) same ∙ ap (λ x. head_line head ++ x) tail

    by_head : (o : Option Bounds) → (o >>= λ h. option_map {U = Bounds × List ℕ} (λ r. (h, r)) (behind (head_line h) text)) ≡ Some (head, rest) → text ≡ head_line head ++ rest
    by_head None e = cc
    by_head (Some read) e = by_left read (behind (head_line read) text) refl e

pub no_head : (text : List ℕ) → head_in text ≡ None → NoHead text
no_head text none head rest fits e = let some : head_in text ≡ Some (head, rest) = ap head_in e ∙ head_again head fits rest in cc
