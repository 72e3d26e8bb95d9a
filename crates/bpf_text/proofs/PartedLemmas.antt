-- The parts of the first line of a text, each found by its end.
use Rattle.std.proofs.Common.{◌≡◌, ℕ, zero, suc, ◌+◌, ◌≤◌, ◌<◌, Bool, true, false, cond, eqb, List, [], ◌∷◌, ◌++◌, map, Option, Some, None, Ok, Err, length, take, drop, refl, sym, ap, subst, ◌∙◌, arith, append_assoc, append-nil}
use Rattle.std.specs.Prelude.{◌||◌, slice_index, Result, OnOk}
use Rattle.std.proofs.Math.Seq.{take-append_seam}
use Rattle.std.proofs.lemmas.Bool.{eqb-true}
use Rattle.memchr.specs.Find.{is_byte3}
use Rattle.bpf_text.specs.declared.line.LineFault.TheVariants.{NoForm}
use Rattle.bpf_text.specs.Sources.{Label, before}
use Rattle.bpf_text.specs.code.Seen.{size_left}
use Rattle.bpf_text.specs.code.WordReading.{behind_first, skip_blanks}
use Rattle.bpf_text.specs.code.LineReading.{behind_it, code_of, ends_part, IsParted, IsLonger, label_in, last_part, parts_of, part_said, said_in, line_in, labels_at}
use Rattle.bpf_text.proofs.LineLemmas.{before_all, last_here, last_stops, last_goes, labels_here, labels_go}

-- ---- the first of the three marks

abbrev is_end : ℕ → Bool
is_end c = is_byte3 58 59 10 c

-- a text that begins with one of them, or with nothing
here : (text : List ℕ) → ends_part text ≡ true → IsParted text [] text
here [] e = record { front = refl; colon = refl; line = refl; end = refl; sizes = refl }
here (c ∷ cs) e = record { front = front (eqb c 58) refl (eqb c 59) refl (eqb c 10) refl e; colon = refl; line = refl; end = e; sizes = omega arith }
  where
    front : (x : Bool) → eqb c 58 ≡ x → (y : Bool) → eqb c 59 ≡ y → (z : Bool) → eqb c 10 ≡ z → x || y || z ≡ true → [] ≡ before 58 (code_of (c ∷ cs))
    front x ex y ey true ez h = rw ez refl
    front x ex true ey false ez h = rw (ez, ey) refl
    front true ex false ey false ez h = rw (ez, ey, ex) refl
    front false ex false ey false ez h = let both : false ≡ true = h in cc

-- a byte more that is none of them
later : (c : ℕ) (text part rest : List ℕ) → is_end c ≡ false → IsParted text part rest → IsParted (c ∷ text) (c ∷ part) rest
later c text part rest e p = go (eqb c 58) refl (eqb c 59) refl (eqb c 10) refl e
  where
    go : (x : Bool) → eqb c 58 ≡ x → (y : Bool) → eqb c 59 ≡ y → (z : Bool) → eqb c 10 ≡ z → x || y || z ≡ false → IsParted (c ∷ text) (c ∷ part) rest
    go false ex false ey false ez h = record {
      front = rw (ez, ey, ex) (ap (λ xs. c ∷ xs) p.front);
      colon = rw (ez, ey, ex) p.colon;
      line = rw ez p.line;
      end = p.end;
      sizes = omega (arith, p.sizes);
    }
    go true ex y ey z ez h = let both : true ≡ false = h in cc
    go false ex true ey z ez h = let both : true ≡ false = h in cc
    go false ex false ey true ez h = let both : true ≡ false = h in cc

not_true : (b : Bool) → ¬ (b ≡ true) → b ≡ false
not_true true h = absurd (h refl)
not_true false h = refl

-- The text is cut at k, where there is none before.
pub parted : (text : List ℕ) (k : ℕ) → ((j : ℕ) → 0 ≤ j → j < k → ¬ (is_end (slice_index text j) ≡ true)) → k ≤ length text → ends_part (drop k text) ≡ true → IsParted text (take k text) (drop k text)
parted text zero none inside e = here text e
parted [] (suc k) none inside e = absurd (omega arith)
parted (c ∷ cs) (suc k) none inside e =
    later c cs (take k cs) (drop k cs) (not_true (is_end c) (none 0 (omega arith) (omega arith)))
    (parted cs k (λ j low high. none (suc j) (omega arith) (omega arith)) (omega arith) e)

pub ends_at : (text : List ℕ) (k : ℕ) → k < length text → is_end (slice_index text k) ≡ true → ends_part (drop k text) ≡ true
ends_at [] k inside e = absurd (omega arith)
ends_at (c ∷ cs) zero inside e = e
ends_at (c ∷ cs) (suc k) inside e = ends_at cs k (omega arith) e

pub ends_nowhere : (text : List ℕ) → ends_part (drop (length text) text) ≡ true
ends_nowhere [] = refl
ends_nowhere (c ∷ cs) = ends_nowhere cs

-- ---- a colon in front

pub colon_first : (rest behind : List ℕ) → behind_first 58 rest ≡ Some behind → rest ≡ 58 ∷ behind
colon_first [] behind e = let no : (let n : Option (List ℕ) = None in n) ≡ Some behind = e in cc
colon_first (c ∷ cs) behind e = go (eqb c 58) refl e
  where
    go : (b : Bool) → eqb c 58 ≡ b → cond b (Some cs) None ≡ Some behind → c ∷ cs ≡ 58 ∷ behind
    go true is h = let same : cs ≡ behind = ap (λ o. elim o as (λ _. List ℕ) [ None ↦ cs | Some x ↦ x ]) h in ap (λ z. z ∷ cs) (eqb-true c 58 is) ∙ ap (λ z. 58 ∷ z) same
    go false is h = let no : (let n : Option (List ℕ) = None in n) ≡ Some behind = h in cc

-- no colon is left where a part ends otherwise
no_colon : (rest : List ℕ) → ends_part rest ≡ true → behind_first 58 rest ≡ None → behind_it 58 (code_of rest) ≡ None
no_colon [] e none = refl
no_colon (c ∷ cs) e none = go (eqb c 58) refl (eqb c 59) refl (eqb c 10) refl e none
  where
    go : (x : Bool) → eqb c 58 ≡ x → (y : Bool) → eqb c 59 ≡ y → (z : Bool) → eqb c 10 ≡ z → x || y || z ≡ true → cond x (Some cs) None ≡ None → behind_it 58 (code_of (c ∷ cs)) ≡ None
    go x ex y ey true ez h n = rw ez refl
    go x ex true ey false ez h n = rw (ez, ey) refl
    go true ex false ey false ez h n = let no : Some cs ≡ None = n in cc
    go false ex false ey false ez h n = let both : false ≡ true = h in cc

pub last_of_line : (text part rest : List ℕ) → IsParted text part rest → behind_first 58 rest ≡ None → (behind_it 58 (code_of text) ≡ None) × (part ≡ code_of text)
last_of_line text part rest p none =
    let gone : behind_it 58 (code_of text) ≡ None = sym p.colon ∙ no_colon rest p.end none in
    (gone, p.front ∙ before_all 58 (code_of text) gone)

pub colon_behind : (text part rest behind : List ℕ) → IsParted text part rest → behind_first 58 rest ≡ Some behind
    → (Some (code_of behind) ≡ behind_it 58 (code_of text)) × (behind_it 10 behind ≡ behind_it 10 text) × (length behind < length text)
colon_behind text part rest behind p e =
    let first : rest ≡ 58 ∷ behind = colon_first rest behind e in
    let size : length rest ≡ length behind + 1 = ap length first ∙ (omega arith) in (
      sym (ap (λ r. behind_it 58 (code_of r)) first) ∙ p.colon,
      sym (ap (behind_it 10) first) ∙ p.line,
      omega (arith, size, p.sizes),
    )

-- ---- what a line says

-- behind its last colon
pub said_last : (text all part rest : List ℕ) → IsParted text part rest → behind_first 58 rest ≡ None → last_part (parts_of (code_of text)) ≡ last_part (parts_of (code_of all))
    → said_in part (skip_blanks part) ≡ line_in (code_of all)
unfolding line_in
said_last text all part rest p none same =
    let l = last_of_line text part rest p none in
    ap (λ t. part_said (Some t)) l.1 ∙ ap part_said (sym (last_here (code_of text) l.0) ∙ same)

-- where what stands in front of a colon is no label
pub said_never : (text all part rest behind : List ℕ) → IsParted text part rest → behind_first 58 rest ≡ Some behind → None ≡ label_in part → last_part (parts_of (code_of text)) ≡ last_part (parts_of (code_of all))
    → Err NoForm ≡ line_in (code_of all)
unfolding line_in
said_never text all part rest behind p e label same =
    ap part_said (last_stops (code_of text) part (code_of behind) p.front (colon_behind text part rest behind p e).0 label ∙ same)

pub said_later : (text all part rest behind name : List ℕ) → IsParted text part rest → behind_first 58 rest ≡ Some behind → Some name ≡ label_in part → last_part (parts_of (code_of text)) ≡ last_part (parts_of (code_of all))
    → last_part (parts_of (code_of behind)) ≡ last_part (parts_of (code_of all))
said_later text all part rest behind name p e label same = last_goes (code_of text) part (code_of behind) name p.front (colon_behind text part rest behind p e).0 label ∙ same

-- ---- its labels

abbrev at : ℕ → ℕ → List (List ℕ) → List Label
at line slot names = map (λ name. record { name = name; slot = slot; line = line }) names

pub labels_last : (line slot : ℕ) (text part rest : List ℕ) (old all : List Label) → IsParted text part rest → behind_first 58 rest ≡ None → old ++ labels_at line slot (code_of text) ≡ all → old ≡ all
labels_last line slot text part rest old all p none same =
    sym (append-nil old) ∙ ap (λ ls. old ++ ls) (sym (ap (at line slot) (labels_here (code_of text) (last_of_line text part rest p none).0))) ∙ same

pub label_more : (line slot : ℕ) (text part rest behind name : List ℕ) (old all : List Label) → IsParted text part rest → behind_first 58 rest ≡ Some behind → Some name ≡ label_in part
    → old ++ labels_at line slot (code_of text) ≡ all → (old ++ record { name = name; slot = slot; line = line } ∷ []) ++ labels_at line slot (code_of behind) ≡ all
label_more line slot text part rest behind name old all p e label same =
    append_assoc old (record { name = name; slot = slot; line = line } ∷ []) (labels_at line slot (code_of behind))
    ∙ ap (λ ls. old ++ ls) (sym (ap (at line slot) (labels_go (code_of text) part (code_of behind) (Some name) p.front (colon_behind text part rest behind p e).0 label)))
    ∙ same

-- ---- sizes

before_sizes : (m : ℕ) (text : List ℕ) → length (before m text) + size_left (behind_it m text) ≡ length text
before_sizes m [] = refl
before_sizes m (c ∷ cs) = go (eqb c m) (before_sizes m cs)
  where
    go : (b : Bool) → length (before m cs) + size_left (behind_it m cs) ≡ length cs → length (cond b [] (c ∷ before m cs)) + size_left (cond b (Some cs) (behind_it m cs)) ≡ length (c ∷ cs)
    go true e = omega arith
    go false e = omega (arith, e)

-- a line is as long as it is, and what stands behind it
pub line_sizes : (text : List ℕ) → length (code_of text) + size_left (behind_it 10 text) ≤ length text
line_sizes text = let whole = before_sizes 10 text in let code = before_sizes 59 (before 10 text) in omega (arith, whole, code)

-- ---- lists that grow

pub longer : {A : Type 0} (old mid new : List A) (x : A) → IsLonger old mid → new ≡ mid ++ x ∷ [] → IsLonger old new
longer old mid new x l e = record { more = l.more ++ x ∷ []; is = e ∙ ap (λ xs. xs ++ x ∷ []) l.is ∙ append_assoc old l.more (x ∷ []) }

pub cut_back : {A : Type 0} (old new : List A) → IsLonger old new → take (length old) new ≡ old
cut_back old new l = ap (take (length old)) l.is ∙ take-append_seam old l.more

-- ---- results

pub on_ok : {T E P : Type 0} (r : Result T E) → P → OnOk r P
on_ok (Ok x) p = p
on_ok (Err e) p = tt

pub when_ok : {T E P : Type 0} (r : Result T E) (x : T) → r ≡ Ok x → OnOk r P → P
when_ok {P = P} r x e p = subst (λ r. OnOk r P) e p
