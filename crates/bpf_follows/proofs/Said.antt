-- What is read has as many of each as a note has.
use Rattle.std.proofs.Common.{◌≡◌, ℕ, zero, suc, ◌+◌, List, [], ◌∷◌, length, replicate, Option, Some, None, false, refl, subst, ◌∙◌}
use Rattle.std.specs.Prelude.{option_map, Result, Ok, Err, codes}
use Rattle.std.specs.List.{AllByRecursion}
use Rattle.std.specs.Option.{option_map_or}
use Rattle.std.proofs.lemmas.List.{length-replicate}
use Rattle.std.proofs.lemmas.Option.{same_Some}
use Rattle.bpf_insn.specs.Options.{◌>>=◌}
use Rattle.bpf_streams.specs.Words.{behind}
use Rattle.bpf_kept.specs.declared.notes.TurnsLeft.{TurnsLeft}
use Rattle.bpf_kept.specs.declared.notes.Note.{Note}
use Rattle.bpf_follows.specs.declared.error.NotesError.{NotesError}
use Rattle.bpf_follows.specs.declared.error.NotesError.TheVariants.{Form}
use Rattle.bpf_follows.specs.NotesText.{always, itself, nothing, says_nothing, usual_back, facts_noted, slots_noted, counters_noted, back_noted, IsWhole, WholeIfAny, note_line}
use Rattle.bpf_follows.specs.code.Reading.{number_in, short_in, fact_at, mark_at, counter_at, facts_in, marks_in, counters_in, back_in, extras_in, bare, with_facts, said_in, note_from, note_in, taken_at, with_front, lines_in}
use Rattle.bpf_follows.proofs.ListLemmas.{listed_long}

bound : {A B : Type 0} (o : Option A) (f : A → Option B) (y : B) → (o >>= f) ≡ Some y → (x : A) × (o ≡ Some x) × (f x ≡ Some y)
bound None f y e = cc
bound (Some x) f y e = (x, refl, e)

facts_long : (n : ℕ) (text : List ℕ) → length (facts_in n text).0 ≡ n
facts_long n text = listed_long fact_at says_nothing n false 0 (replicate n nothing) text ∙ length-replicate n nothing

marks_long : (word text : List ℕ) → length (marks_in word text).0 ≡ slots_noted
marks_long word text = listed_long (mark_at word) itself slots_noted false 0 (replicate slots_noted false) text ∙ length-replicate slots_noted false

no_counter : Option TurnsLeft
no_counter = None

counters_long : (text : List ℕ) → length (counters_in text).0 ≡ counters_noted
unfolding no_counter
counters_long text = listed_long counter_at always counters_noted tt 0 (replicate counters_noted no_counter) text ∙ length-replicate counters_noted no_counter

back_long : (text : List ℕ) → length (back_in text).0 ≡ back_noted
unfolding back_in
back_long text = by_word (behind (codes " back") text)
  where
    by_word : (o : Option (List ℕ)) → length (option_map_or (facts_in back_noted) o (usual_back, text)).0 ≡ back_noted
    by_word None = refl
    by_word (Some rest) = facts_long back_noted rest

lists_whole : (old extras : ℕ) (text : List ℕ) → IsWhole (with_facts (bare old extras) (facts_in facts_noted text))
lists_whole old extras text =
    record {
      facts = facts_long facts_noted text;
      apart = marks_long (codes " apart ") (facts_in facts_noted text).1;
      zeros = marks_long (codes " zeros ") _;
      counters = counters_long _;
      back = back_long _;
    }

place_said : (text : List ℕ) (note : Note) → said_in text ≡ Some note → IsWhole note
unfolding said_in
place_said text note e =
    let old = bound (short_in (codes " old ") text) _ note e in
    let extras = bound (extras_in old.0.1) _ note old.2 in
    subst IsWhole (same_Some _ note extras.2) (lists_whole old.0.0 extras.0.0 extras.0.1)

note_said : (text : List ℕ) (note : Option Note) → note_in text ≡ Some note → WholeIfAny note
unfolding note_in
note_said text note e =
    let slot = bound (number_in [] text) _ note e in
    by_word slot.0.1 (behind (codes " none") slot.0.1) slot.2
  where
    by_place : (at : List ℕ) (o : Option Note) → said_in at ≡ o → option_map Some o ≡ Some note → WholeIfAny note
    by_place at None is e = cc
    by_place at (Some said) is e = subst WholeIfAny (same_Some (Some said) note e) (place_said at said is)

    by_word : (at : List ℕ) (o : Option (List ℕ)) → note_from at o ≡ Some note → WholeIfAny note
    by_word at (Some r) e = subst WholeIfAny (same_Some None note e) tt
    by_word at None e = by_place at (said_in at) refl e

taken_said : (slot : ℕ) (text : List ℕ) (x : Option Note × List ℕ) → taken_at slot text ≡ Some x → WholeIfAny x.0
unfolding taken_at
taken_said slot text x e =
    let note = bound (note_in text) _ x e in
    by_left note.0 (note_said text note.0 note.1) (behind (note_line slot note.0) text) note.2
  where
    by_left : (read : Option Note) → WholeIfAny read → (o : Option (List ℕ)) → option_map {U = Option Note × List ℕ} (λ rest. (read, rest)) o ≡ Some x → WholeIfAny x.0
    by_left read said None e = cc
    by_left read said (Some r) e = subst (λ (p : Option Note × List ℕ). WholeIfAny p.0) (same_Some {A = Option Note × List ℕ} (read, r) x e) said

same_Ok : (a b : List (Option Note)) → ◌≡◌ {A = Result (List (Option Note)) NotesError} (Ok a) (Ok b) → a ≡ b
same_Ok a b e = cc

pub lines_said : (k slot : ℕ) (text : List ℕ) (notes : List (Option Note)) → lines_in k slot text ≡ Ok notes → AllByRecursion WholeIfAny notes
unfolding lines_in
lines_said k slot [] notes e = subst (AllByRecursion WholeIfAny) (same_Ok [] notes e) tt
lines_said zero slot (c ∷ cs) notes e = cc
lines_said (suc k) slot (c ∷ cs) notes e = by_taken (λ text notes e. lines_said k (slot + 1) text notes e) (taken_at slot (c ∷ cs)) refl e
  where
    Behind : Type 0
    Behind = (text : List ℕ) (notes : List (Option Note)) → lines_in k (slot + 1) text ≡ Ok notes → AllByRecursion WholeIfAny notes

    by_more : Behind → (x : Option Note × List ℕ) → WholeIfAny x.0 → (r : Result (List (Option Note)) NotesError) → lines_in k (slot + 1) x.1 ≡ r → with_front x.0 r ≡ Ok notes → AllByRecursion WholeIfAny notes
    by_more behind x said (Ok more) is e = subst (AllByRecursion WholeIfAny) (same_Ok (x.0 ∷ more) notes e) (said, behind x.1 more is)
    by_more behind x said (Err error) is e = cc

    by_taken : Behind → (o : Option (Option Note × List ℕ)) → taken_at slot (c ∷ cs) ≡ o → option_map_or (λ x. with_front x.0 (lines_in k (slot + 1) x.1)) o (Err (Form (slot + 2))) ≡ Ok notes → AllByRecursion WholeIfAny notes
    by_taken behind None is e = cc
    by_taken behind (Some x) is e = by_more behind x (taken_said slot (c ∷ cs) x is) (lines_in k (slot + 1) x.1) refl e
