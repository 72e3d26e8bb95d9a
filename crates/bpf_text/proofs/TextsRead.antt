-- What is read of a text is what it says.
use Rattle.std.proofs.Common.{◌≡◌, ℕ, ◌+◌, List, [], ◌∷◌, map, Option, Some, None, option_map, Result, Ok, Err, ⊎_elim, refl, sym, ap, subst, ◌∙◌}
use Rattle.bpf_text.specs.declared.line.LineFault.{LineFault}
use Rattle.bpf_text.specs.declared.line.LineFault.TheVariants.{NoForm, OutOfRange}
use Rattle.bpf_text.specs.Statements.{Statement}
use Rattle.bpf_text.specs.Grammar.{Name, Form, IsLine, form_said, line_said}
use Rattle.bpf_text.specs.Sources.{Source, lines_of, without_comment, statement_slots, said_at, in_front, labels_of, IsSource, TextSays}
use Rattle.bpf_text.specs.Sources.IsSource.{nothing, says, out_of_range, no_form}
use Rattle.bpf_text.specs.code.LineReading.{checked, line_in, labels_at, line_before, slots_said, source_from, source_of}
use Rattle.bpf_text.specs.Laws.{ReadsText}
use Rattle.bpf_text.proofs.LinesRead.{line_answer, spelled_line, line_reads}

-- what a form says is what is read of it
said_answer : (form : Option Form) (s : Option Statement) → line_said form ≡ Some s → line_answer form ≡ Ok s
said_answer None s e = ap Ok (let same : None ≡ s = cc in same)
said_answer (Some f) s e = go (form_said f) e
  where
    go : (o : Option Statement) → option_map Some o ≡ Some s → checked (Some o) ≡ Ok s
    go None k = cc
    go (Some x) k = ap Ok (let same : Some x ≡ s = cc in same)

range_answer : (form : Option Form) → line_said form ≡ None → line_answer form ≡ Err OutOfRange
range_answer None e = cc
range_answer (Some f) e = go (form_said f) e
  where
    go : (o : Option Statement) → option_map (λ x. (let y : Option Statement = Some x in y)) o ≡ None → checked (Some o) ≡ Err OutOfRange
    go None k = refl
    go (Some x) k = cc

some_form : (form : Option Form) → line_answer form ≡ Err NoForm → ⊥
some_form None e = cc
some_form (Some f) e = go (form_said f) e
  where
    go : (o : Option Statement) → checked (Some o) ≡ Err NoForm → ⊥
    go None k = cc
    go (Some x) k = cc

labels_same : (line slot : ℕ) (names : List Name) → map (λ (name : List ℕ). record { name = name; slot = slot; line = line }) (map (λ (n : Name). n.text) names) ≡ labels_of line slot names
labels_same line slot [] = refl
labels_same line slot (name ∷ names) = ap (λ z. record { name = name.text; slot = slot; line = line } ∷ z) (labels_same line slot names)

labels_there : (line slot : ℕ) (text : List ℕ) (names : List Name) (form : Option Form) → IsLine text names form → labels_at line slot text ≡ labels_of line slot names
labels_there line slot text names form is = ap (map (λ name. record { name = name; slot = slot; line = line })) (spelled_line text names form is).labels ∙ labels_same line slot names

-- the source that is read, where what the line says is known
after_line : (line slot : ℕ) (text : List ℕ) (r : Result (Option Statement) LineFault) (rest : Result (Option Statement) LineFault → Source) → line_in text ≡ r → line_before line slot text (line_in text) (rest (line_in text)) ≡ line_before line slot text r (rest r)
after_line line slot text r rest e = ap (λ z. line_before line slot text z (rest z)) e

abbrev rest_from : ℕ → ℕ → List (List ℕ) → Result (Option Statement) LineFault → Source
rest_from line slot texts r = source_from (line + 1) (slot + slots_said r) texts

pub says_read : (line slot : ℕ) (texts : List (List ℕ)) (source : Source) → IsSource line slot texts source → source_from line slot texts ≡ source
says_read line slot [] source nothing = refl
says_read line slot (text ∷ texts) source (says {names = names} {form = form} {s = s} {rest = rest} is said more) =
    let code = without_comment text in
    after_line line slot code (Ok s) (rest_from line slot texts) ((spelled_line code names form is).answer ∙ said_answer form s said)
    ∙ ap (λ ls. in_front ls (said_at line slot s) (source_from (line + 1) (slot + statement_slots s) texts)) (labels_there line slot code names form is)
    ∙ ap (in_front (labels_of line slot names) (said_at line slot s)) (says_read (line + 1) (slot + statement_slots s) texts rest more)
says_read line slot (text ∷ texts) source (out_of_range {names = names} {form = form} is said) =
    let code = without_comment text in
    after_line line slot code (Err OutOfRange) (rest_from line slot texts) ((spelled_line code names form is).answer ∙ range_answer form said)
says_read line slot (text ∷ texts) source (no_form none) =
    let code = without_comment text in
    ⊎_elim (λ e. after_line line slot code (Err NoForm) (rest_from line slot texts) e) (λ found. absurd (none found.0 found.1 found.2)) (line_reads code)

pub read_says : (line slot : ℕ) (texts : List (List ℕ)) → IsSource line slot texts (source_from line slot texts)
read_says line slot [] = nothing
read_says line slot (text ∷ texts) = ⊎_elim refused (spelled (λ s. read_says (line + 1) (slot + statement_slots s) texts)) (line_reads (without_comment text))
  where
    code : List ℕ
    code = without_comment text

    To : Source → Type 0
    To source = IsSource line slot (text ∷ texts) source

    refused : line_in code ≡ Err NoForm → To (source_from line slot (text ∷ texts))
    refused e = subst To (sym (after_line line slot code (Err NoForm) (rest_from line slot texts) e)) (no_form (λ names form is. some_form form (sym (spelled_line code names form is).answer ∙ e)))

    by_said : (names : List Name) (form : Option Form) → IsLine code names form → ((s : Option Statement) → IsSource (line + 1) (slot + statement_slots s) texts (source_from (line + 1) (slot + statement_slots s) texts))
        → (o : Option (Option Statement)) → line_said form ≡ o → To (source_from line slot (text ∷ texts))
    by_said names form is more None e = subst To (sym (after_line line slot code (Err OutOfRange) (rest_from line slot texts) ((spelled_line code names form is).answer ∙ range_answer form e))) (out_of_range is e)
    by_said names form is more (Some s) e = subst To (sym (after_line line slot code (Ok s) (rest_from line slot texts) ((spelled_line code names form is).answer ∙ said_answer form s e)
        ∙ ap (λ ls. in_front ls (said_at line slot s) (source_from (line + 1) (slot + statement_slots s) texts)) (labels_there line slot code names form is))) (says is e (more s))

    spelled : ((s : Option Statement) → IsSource (line + 1) (slot + statement_slots s) texts (source_from (line + 1) (slot + statement_slots s) texts)) → ((names : List Name) × (form : Option Form) × IsLine code names form) → To (source_from line slot (text ∷ texts))
    spelled more found = by_said found.0 found.1 found.2 more (line_said found.1) refl

pub text_read : ReadsText
unfolding source_of
text_read text source = (λ is. says_read 1 0 (lines_of text) source is, λ e. subst (IsSource 1 0 (lines_of text)) e (read_says 1 0 (lines_of text)))

-- what is read is what the text says
pub text_says : (text : List ℕ) → TextSays text (source_of text)
text_says text = (text_read text (source_of text)).1 refl

pub only_source : (text : List ℕ) (source : Source) → TextSays text source → source_of text ≡ source
only_source text source is = (text_read text source).0 is
