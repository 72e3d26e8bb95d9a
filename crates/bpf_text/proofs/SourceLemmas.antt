-- The source of a text, line by line.
use Rattle.std.proofs.Common.{◌≡◌, ℕ, ◌+◌, ◌≤◌, ◌<◌, List, [], ◌∷◌, ◌++◌, Option, Some, None, Ok, Err, refl, sym, ap, ◌∙◌, append_assoc, append-nil, arith, length, lit≤}
use Rattle.bpf_text.specs.declared.line.LineFault.{LineFault}
use Rattle.bpf_text.specs.declared.line.LineFault.TheVariants.{NoForm, OutOfRange}
use Rattle.bpf_insn.specs.Instruction.{slot_count}
use Rattle.bpf_insn.specs.declared.instruction.Insn.{Insn}
use Rattle.bpf_insn.specs.declared.instruction.Insn.TheVariants.{LoadImm64}
use Rattle.bpf_text.specs.declared.error.TextError.{TextError}
use Rattle.bpf_text.specs.Statements.{Statement, plain, to_label}
use Rattle.bpf_text.specs.Sources.{Label, Said, Source, before, lines_of, without_comment, said_at, in_front, ends_with, statement_slots}
use Rattle.bpf_text.specs.code.LineReading.{behind_it, line_in, fault_at, labels_at, line_before, slots_said, source_from, source_of}
use Rattle.bpf_text.proofs.LineLemmas.{rest_split, split_cut}

-- the source of what is left of a text
unfoldable pub source_left : ℕ → ℕ → Option (List ℕ) → Source
source_left line slot None = ends_with None
source_left line slot (Some text) = source_from line slot (lines_of text)

pub all_left : (text : List ℕ) → source_left 1 0 (Some text) ≡ source_of text
unfolding source_left source_of
all_left text = refl

pub none_left : (line slot : ℕ) → source_left line slot None ≡ ends_with None
unfolding source_left
none_left line slot = refl

left_is : (line slot : ℕ) (o : Option (List ℕ)) → source_left line slot o ≡ source_from line slot (rest_split 10 o)
unfolding source_left
left_is line slot None = refl
left_is line slot (Some text) = refl

pub one_line : (line slot : ℕ) (text : List ℕ) → source_left line slot (Some text)
    ≡ line_before line slot (without_comment (before 10 text)) (line_in (without_comment (before 10 text))) (source_left (line + 1) (slot + slots_said (line_in (without_comment (before 10 text)))) (behind_it 10 text))
unfolding source_left
one_line line slot text = ap (source_from line slot) (split_cut 10 text)
    ∙ ap (line_before line slot (without_comment (before 10 text)) (line_in (without_comment (before 10 text)))) (sym (left_is (line + 1) (slot + slots_said (line_in (without_comment (before 10 text)))) (behind_it 10 text)))

-- what stands in front of a source stays there
pub front_of_front : (ls ms : List Label) (ss ts : List Said) (source : Source) → in_front ls ss (in_front ms ts source) ≡ in_front (ls ++ ms) (ss ++ ts) source
front_of_front ls ms ss ts source = sym (rw (append_assoc ls ms source.labels, append_assoc ss ts source.said) refl)

-- a line that stops the reading
pub stops : (line slot : ℕ) (text : List ℕ) (fault : LineFault) (ls : List Label) (ss : List Said) (all : Source)
    → Err fault ≡ line_in (without_comment (before 10 text)) → in_front ls ss (source_left line slot (Some text)) ≡ all → in_front ls ss (ends_with (Some (fault_at line fault))) ≡ all
stops line slot text NoForm ls ss all e h = ap (in_front ls ss) (sym (one_line line slot text ∙ rw (← e) refl)) ∙ h
stops line slot text OutOfRange ls ss all e h = ap (in_front ls ss) (sym (one_line line slot text ∙ rw (← e) refl)) ∙ h

-- and nothing behind it
pub ended : (ls : List Label) (ss : List Said) (fault : Option TextError) → record { labels = ls; said = ss; fault = fault } ≡ in_front ls ss (ends_with fault)
ended ls ss fault = rw (append-nil ls, append-nil ss) refl

-- a line that goes on
pub goes_on : (line slot : ℕ) (text whole code : List ℕ) (more : Option (List ℕ)) (s : Option Statement) (ls ms : List Label) (ss ts : List Said) (next : ℕ) (all : Source)
    → whole ≡ before 10 text → more ≡ behind_it 10 text → code ≡ before 59 whole → Ok s ≡ line_in code
    → ms ≡ ls ++ labels_at line slot code → ts ≡ ss ++ said_at line slot s → next ≡ slot + statement_slots s
    → in_front ls ss (source_left line slot (Some text)) ≡ all → in_front ms ts (source_left (line + 1) next more) ≡ all
goes_on line slot text whole code more s ls ms ss ts next all w m c e labels said slots h =
    rw (labels, said, slots, m) (sym (ap (in_front ls ss) (one_line line slot text ∙ rw (← w, ← c, ← e) refl)
    ∙ front_of_front ls (labels_at line slot code) ss (said_at line slot s) (source_left (line + 1) (slot + statement_slots s) (behind_it 10 text))) ∙ h)

-- a line that says something isn't empty
pub says_something : (code : List ℕ) (s : Statement) → Ok (Some s) ≡ line_in code → 0 < length code
unfolding line_in
says_something [] s e = cc
says_something (c ∷ cs) s e = omega arith

few : (i : Insn) → slot_count i ≤ 2
few (LoadImm64 dst value) = lit≤ tt
few i = lit≤ tt

pub few_slots : (s : Statement) → statement_slots (Some s) ≤ 2
few_slots (plain i) = few i
few_slots (to_label jump name) = lit≤ tt
