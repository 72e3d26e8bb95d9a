-- The labels that a line begins with, as tokens.
use Rattle.std.proofs.Common.{◌≡◌, ℕ, Bool, true, false, cond, eqb, List, [], ◌∷◌, ◌++◌, map, Option, Some, None, get_or, refl, sym, ap, ◌∙◌, append_assoc}
use Rattle.std.specs.Prelude.{is_some}
use Rattle.std.specs.List.{onto_first}
use Rattle.std.proofs.lemmas.Bool.{eqb-true}
use Rattle.bpf_text.specs.Characters.{is_word_part, is_blank, is_name}
use Rattle.bpf_text.specs.Sources.{before}
use Rattle.bpf_text.specs.Grammar.{Token, word_ends, tokens_after, tokens, Name, label_tokens}
use Rattle.bpf_text.specs.Grammar.Token.{word, mark}
use Rattle.bpf_text.specs.Stop.{IsUnlabelled}
use Rattle.bpf_text.specs.code.LineReading.{behind_it, label_in}
use Rattle.bpf_text.proofs.LineLemmas.{rest_split, split_cut}
use Rattle.bpf_text.proofs.TokenLemmas.{word_t}
use Rattle.bpf_text.proofs.TokenReading.{if_nothing}
use Rattle.bpf_text.proofs.LinesRead.{is_colon, token_parts, parts_same, label_t, label_same}

-- ---- a colon ends a word

colon_apart : (w text more : List ℕ) → behind_it 58 text ≡ Some more → tokens_after w text ≡ tokens_after w (before 58 text) ++ mark 58 ∷ tokens more
colon_apart w [] more e = let no : (let n : Option (List ℕ) = None in n) ≡ Some more = e in cc
colon_apart w (c ∷ cs) more e = elim (eqb c 58) as (λ b. eqb c 58 ≡ b → cond b (Some cs) (behind_it 58 cs) ≡ Some more → tokens_after w (c ∷ cs) ≡ tokens_after w (cond b [] (c ∷ before 58 cs)) ++ mark 58 ∷ tokens more) [
  | true ↦ λ colon behind.
      let same : cs ≡ more = ap (λ o. elim o as (λ _. List ℕ) [ None ↦ cs | Some x ↦ x ]) behind in
      ap (λ z. tokens_after w (z ∷ cs)) (eqb-true c 58 colon) ∙ ap (λ z. word_ends w ++ mark 58 ∷ tokens z) same
  | false ↦ λ colon behind. elim (is_word_part c) as (λ b. cond b (tokens_after (w ++ c ∷ []) cs) (word_ends w ++ cond (is_blank c) (tokens cs) (mark c ∷ tokens cs)) ≡ cond b (tokens_after (w ++ c ∷ []) (before 58 cs)) (word_ends w ++ cond (is_blank c) (tokens (before 58 cs)) (mark c ∷ tokens (before 58 cs))) ++ mark 58 ∷ tokens more) [
    | true ↦ colon_apart (w ++ c ∷ []) cs more behind
    | false ↦ elim (is_blank c) as (λ b. word_ends w ++ cond b (tokens cs) (mark c ∷ tokens cs) ≡ (word_ends w ++ cond b (tokens (before 58 cs)) (mark c ∷ tokens (before 58 cs))) ++ mark 58 ∷ tokens more) [
      | true ↦ ap (λ z. word_ends w ++ z) (colon_apart [] cs more behind) ∙ sym (append_assoc (word_ends w) (tokens (before 58 cs)) (mark 58 ∷ tokens more))
      | false ↦ ap (λ z. word_ends w ++ mark c ∷ z) (colon_apart [] cs more behind) ∙ sym (append_assoc (word_ends w) (mark c ∷ tokens (before 58 cs)) (mark 58 ∷ tokens more))
    ]
  ]
] refl e

cut_apart : (text more : List ℕ) → behind_it 58 text ≡ Some more → text ≡ before 58 text ++ 58 ∷ more
cut_apart [] more e = let no : (let n : Option (List ℕ) = None in n) ≡ Some more = e in cc
cut_apart (c ∷ cs) more e = elim (eqb c 58) as (λ b. eqb c 58 ≡ b → cond b (Some cs) (behind_it 58 cs) ≡ Some more → c ∷ cs ≡ cond b [] (c ∷ before 58 cs) ++ 58 ∷ more) [
  | true ↦ λ colon behind.
      let same : cs ≡ more = ap (λ o. elim o as (λ _. List ℕ) [ None ↦ cs | Some x ↦ x ]) behind in
      ap (λ z. z ∷ cs) (eqb-true c 58 colon) ∙ ap (λ z. 58 ∷ z) same
  | false ↦ λ colon behind. ap (λ z. c ∷ z) (cut_apart cs more behind)
] refl e

-- ---- names

pub record Named (part name : List ℕ) : Type 0 where
  pub is : is_name name ≡ true
  pub alone : tokens part ≡ word name ∷ []

named_tokens : (ts : List Token) (name : List ℕ) → label_t ts ≡ Some name → (is_name name ≡ true) × (ts ≡ word name ∷ [])
unfolding label_t word_t
named_tokens [] name e = let no : (let n : Option (List ℕ) = None in n) ≡ Some name = e in cc
named_tokens (mark c ∷ ts) name e = let no : (let n : Option (List ℕ) = None in n) ≡ Some name = e in cc
named_tokens (word w ∷ ts) name e = go (is_name w) ts refl e
  where
    go : (b : Bool) (ts : List Token) → is_name w ≡ b → cond b (if_nothing w ts) None ≡ Some name → (is_name name ≡ true) × (word w ∷ ts ≡ word name ∷ [])
    go false ts is h = let no : (let n : Option (List ℕ) = None in n) ≡ Some name = h in cc
    go true (t ∷ ts) is h = let no : (let n : Option (List ℕ) = None in n) ≡ Some name = h in cc
    go true [] is h = let same : w ≡ name = ap (λ o. elim o as (λ _. List ℕ) [ None ↦ w | Some x ↦ x ]) h in (ap is_name (sym same) ∙ is, ap (λ z. word z ∷ []) same)

pub named : (part name : List ℕ) → Some name ≡ label_in part → Named part name
named part name e = let n = named_tokens (tokens part) name (sym (label_same part) ∙ sym e) in record { is = n.0; alone = n.1 }

names_it : (part name : List ℕ) → is_name name ≡ true → tokens part ≡ word name ∷ [] → label_in part ≡ Some name
unfolding label_t word_t
names_it part name is alone = label_same part ∙ ap label_t alone ∙ rw is refl

-- ---- a line that begins with a label

some_parts : (ts : List Token) → (p : List Token) × (ps : List (List Token)) × (token_parts ts ≡ p ∷ ps)
some_parts [] = ([], [], refl)
some_parts (t ∷ ts) = elim (is_colon t) as (λ b. (p : List Token) × (ps : List (List Token)) × (cond b ([] ∷ token_parts ts) (onto_first t (token_parts ts)) ≡ p ∷ ps)) [
  | true ↦ ([], token_parts ts, refl)
  | false ↦ let s = some_parts ts in (t ∷ s.0, s.1, ap (onto_first t) s.2)
]

-- the part in front of the colon is the name, and there is a colon
pub begins_so : (text : List ℕ) (name : Name) (more : List Token) → tokens text ≡ word name.text ∷ mark 58 ∷ more → (label_in (before 58 text) ≡ Some name.text) × (is_some (behind_it 58 text) ≡ true)
begins_so text name more e =
    let parts : tokens (before 58 text) ∷ map tokens (rest_split 58 (behind_it 58 text)) ≡ (word name.text ∷ []) ∷ token_parts more = ap (map tokens) (sym (split_cut 58 text)) ∙ parts_same text ∙ ap token_parts e in
    let s = some_parts more in (
      names_it (before 58 text) name.text name.is (ap (λ ps. get_or ps 0 []) parts),
      go (behind_it 58 text) (ap (λ ps. get_or ps 1 (mark 58 ∷ [])) parts ∙ ap (λ ps. get_or ps 0 (mark 58 ∷ [])) s.2) parts,
    )
  where
    go : (o : Option (List ℕ)) {p : List Token} → get_or (map tokens (rest_split 58 o)) 0 (mark 58 ∷ []) ≡ p → tokens (before 58 text) ∷ map tokens (rest_split 58 o) ≡ (word name.text ∷ []) ∷ token_parts more → is_some o ≡ true
    go (Some x) e h = refl
    go None e h = let s = some_parts more in let no : (let n : List (List Token) = [] in n) ≡ s.0 ∷ s.1 = ap (λ ps. elim ps as (λ _. List (List Token)) [ [] ↦ [] | q ∷ qs ↦ qs ]) h ∙ s.2 in cc

-- ---- the loop

pub record Passes (line rest : List ℕ) : Type 0 where
  pub names : List Name
  pub parted : tokens line ≡ label_tokens names ++ tokens rest
  pub bytes : (before : List ℕ) × (line ≡ before ++ rest)

pub starts : (line : List ℕ) → Passes line line
starts line = record { names = []; parted = refl; bytes = ([], refl) }

labels_more : (names : List Name) (name : Name) → label_tokens (names ++ name ∷ []) ≡ label_tokens names ++ word name.text ∷ mark 58 ∷ []
labels_more [] name = refl
labels_more (n ∷ names) name = ap (λ z. word n.text ∷ mark 58 ∷ z) (labels_more names name)

pub passed : (line rest part more name : List ℕ) → Passes line rest → part ≡ before 58 rest → Some more ≡ behind_it 58 rest → Some name ≡ label_in part → Passes line more
passed line rest part more name p front behind label =
    let n = named part name label in
    let one : Name = record { text = name; is = n.is } in
    let first : tokens rest ≡ word name ∷ mark 58 ∷ tokens more = colon_apart [] rest more (sym behind) ∙ ap (λ z. tokens z ++ mark 58 ∷ tokens more) (sym front) ∙ ap (λ z. z ++ mark 58 ∷ tokens more) n.alone in
    record {
      names = p.names ++ one ∷ [];
      parted = p.parted ∙ ap (λ z. label_tokens p.names ++ z) first ∙ sym (append_assoc (label_tokens p.names) (word name ∷ mark 58 ∷ []) (tokens more)) ∙ ap (λ z. z ++ tokens more) (sym (labels_more p.names one));
      bytes = (p.bytes.0 ++ (before 58 rest ++ 58 ∷ []), p.bytes.1 ∙ ap (λ z. p.bytes.0 ++ z) (cut_apart rest more (sym behind) ∙ sym (append_assoc (before 58 rest) (58 ∷ []) more)) ∙ sym (append_assoc p.bytes.0 (before 58 rest ++ 58 ∷ []) more));
    }

pub no_colon_left : (line rest : List ℕ) → Passes line rest → behind_it 58 rest ≡ None → IsUnlabelled line rest
no_colon_left line rest p none = record {
  names = p.names;
  parted = p.parted;
  bytes = p.bytes;
  last = λ name more e. let both : false ≡ true = ap is_some (sym none) ∙ (begins_so rest name more e).1 in cc;
}

pub no_label_left : (line rest part : List ℕ) → Passes line rest → part ≡ before 58 rest → None ≡ label_in part → IsUnlabelled line rest
no_label_left line rest part p front none = record {
  names = p.names;
  parted = p.parted;
  bytes = p.bytes;
  last = λ name more e. let both : false ≡ true = ap is_some (none ∙ ap label_in front ∙ (begins_so rest name more e).0) in cc;
}
