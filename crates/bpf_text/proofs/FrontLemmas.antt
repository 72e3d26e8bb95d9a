-- The first word of a text tells what its statement is.
use Rattle.std.proofs.Common.{◌≡◌, ℕ, List, Option, Some, None, option_map, refl, sym, ap, ◌∙◌}
use Rattle.bpf_text.specs.declared.spelling.Register.{Register}
use Rattle.bpf_text.specs.declared.spelling.Keyword.{Keyword}
use Rattle.bpf_text.specs.Parts.{keywords, keyword_text}
use Rattle.bpf_text.specs.Statements.{Statement}
use Rattle.bpf_text.specs.Lookup.{first_named, register_named}
use Rattle.bpf_text.specs.code.WordReading.{word_in, first_spelled}
use Rattle.bpf_text.specs.code.StatementReading.{Checked, first_way, assignment_in, keyword_in, store_in, plainly, statement_in}
use Rattle.bpf_text.proofs.LookupLemmas.{name_read, keyword_found, register_found_by_word}

abbrev with_rest : {A : Type 0} → List ℕ → A → A × List ℕ
with_rest rest x = (x, rest)

abbrev on_register : Register × List ℕ → Checked Statement
on_register x = plainly (assignment_in (x.0).0 (x.0).1 x.1)

abbrev on_keyword : Keyword × List ℕ → Checked Statement
on_keyword x = keyword_in x.0 x.1

-- by what the word names, if there is a word
abbrev pub by_names : List ℕ → List ℕ → Option Register → Option Keyword → Checked Statement
by_names text rest (Some r) k = plainly (assignment_in r.0 r.1 rest)
by_names text rest None (Some k) = keyword_in k rest
by_names text rest None None = plainly (store_in text)

abbrev pub by_first : List ℕ → Option (List ℕ × List ℕ) → Checked Statement
by_first text None = plainly (store_in text)
by_first text (Some w) = by_names text w.1 (register_named w.0) (first_named keyword_text keywords w.0)

named : (text rest : List ℕ) (r : Option Register) (k : Option Keyword)
    → first_way (option_map (with_rest rest) r) on_register (first_way (option_map (with_rest rest) k) on_keyword (plainly (store_in text))) ≡ by_names text rest r k
named text rest (Some r) k = refl
named text rest None (Some k) = refl
named text rest None None = refl

read : (text : List ℕ) (o : Option (List ℕ × List ℕ))
    → first_way (name_read register_named o) on_register (first_way (name_read (first_named keyword_text keywords) o) on_keyword (plainly (store_in text))) ≡ by_first text o
read text None = refl
read text (Some w) = named text w.1 (register_named w.0) (first_named keyword_text keywords w.0)

pub statement_by_word : (text : List ℕ) → statement_in text ≡ by_first text (word_in text)
unfolding statement_in
statement_by_word text =
    ap (λ o. first_way o on_register (first_way (first_spelled keyword_text keywords text) on_keyword (plainly (store_in text)))) (register_found_by_word text)
    ∙ ap (λ o. first_way (name_read register_named (word_in text)) on_register (first_way o on_keyword (plainly (store_in text)))) (keyword_found text)
    ∙ read text (word_in text)

-- a text in which no word stands in front, or one that names a register, a keyword or nothing
pub no_word : (text : List ℕ) → None ≡ word_in text → statement_in text ≡ plainly (store_in text)
no_word text h = statement_by_word text ∙ ap (by_first text) (sym h)

pub word_named : (text first rest : List ℕ) (r : Option Register) (k : Option Keyword) → Some (first, rest) ≡ word_in text → r ≡ register_named first → k ≡ first_named keyword_text keywords first → statement_in text ≡ by_names text rest r k
word_named text first rest r k h e f = statement_by_word text ∙ ap (by_first text) (sym h) ∙ ap (λ o. by_names text rest o (first_named keyword_text keywords first)) (sym e) ∙ ap (by_names text rest r) (sym f)

pub no_register : (text first rest : List ℕ) (k : Option Keyword) → Some (first, rest) ≡ word_in text → None ≡ register_named first → k ≡ first_named keyword_text keywords first → statement_in text ≡ by_names text rest None k
no_register text first rest k h e f = word_named text first rest None k h e f

pub a_register : (text first rest : List ℕ) (r : Register) → Some (first, rest) ≡ word_in text → Some r ≡ register_named first → statement_in text ≡ plainly (assignment_in r.0 r.1 rest)
a_register text first rest r h e = word_named text first rest (Some r) (first_named keyword_text keywords first) h e refl
