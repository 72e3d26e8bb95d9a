-- A text is read as a line only if it is spelled as that line.
use Rattle.std.proofs.Common.{◌≡◌, ℕ, Bool, true, false, cond, eqb, List, [], ◌∷◌, ◌++◌, map, Option, Some, None, refl, sym, ap, subst, ◌∙◌, append_assoc}
use Rattle.std.specs.Prelude.{codes}
use Rattle.std.specs.List.{slice_split, join_with_byte}
use Rattle.std.specs.Str.{bytes_eq}
use Rattle.std.proofs.lemmas.Bool.{eqb-true}
use Rattle.std.proofs.lemmas.List.Splits.{join_with_byte-slice_split}
use Rattle.bpf_streams.specs.Words.{behind}
use Rattle.bpf_streams.proofs.WordLemmas.{behind_is}
use Rattle.bpf_cert.specs.Numeral.{is_numeral}
use Rattle.bpf_cert.specs.Line.{Part, Number, Content, PlaceText, Measure, Lengths, Line, signed_text, range_text, part_text, number_text, content_text, place_text, measure_text, term_text, fields, line_text}
use Rattle.bpf_cert.specs.Reading.{◌>>=◌, or_else, all_there, cut, numeral_in, end_in, signed_in, range_in, part_in, number_in, pointer_in, bytes_in, content_in, place_in, place_closed_in, measure_in, term_in, one_length_in, two_lengths_in, header_in, function_in, label_in, entry_in, line_of_fields, line_in}
use Rattle.bpf_cert.proofs.Bools.{both_true}

-- what is there has the property
pub record Gives {A : Type 0} (o : Option A) (P : A → Type 0) : Type 0 where
  pub holds : (x : A) → o ≡ Some x → P x

pub none_gives : {A : Type 0} {P : A → Type 0} → Gives None P
none_gives = record { holds = λ x e. absurd (cc) }

pub some_gives : {A : Type 0} {P : A → Type 0} (y : A) → P y → Gives (Some y) P
some_gives {P = P} y h = record { holds = λ x e. subst P (let same : y ≡ x = cc in same) h }

pub bind_gives : {A B : Type 0} {o : Option A} {f : A → Option B} {P : A → Type 0} {Q : B → Type 0} → Gives o P → ((x : A) → P x → Gives (f x) Q) → Gives (o >>= f) Q
unfolding ◌>>=◌
bind_gives {o = None} g k = none_gives
bind_gives {o = Some x} g k = k x (g.holds x refl)

pub or_gives : {A : Type 0} {o p : Option A} {P : A → Type 0} → Gives o P → Gives p P → Gives (or_else o p) P
unfolding or_else
or_gives {o = None} g h = h
or_gives {o = Some x} g h = g

pub if_gives : {A : Type 0} {o : Option A} {P : A → Type 0} (b : Bool) → (b ≡ true → Gives o P) → Gives (cond b o None) P
if_gives true h = h refl
if_gives false h = none_gives

abbrev pub IsCut : ℕ → List ℕ → List ℕ × List ℕ → Type 0
IsCut c text p = text ≡ p.0 ++ c ∷ p.1

pub choice_gives : {A : Type 0} {o p : Option A} {P : A → Type 0} (b : Bool) → (b ≡ true → Gives o P) → (b ≡ false → Gives p P) → Gives (cond b o p) P
choice_gives true h k = h refl
choice_gives false h k = k refl

pub cut_gives : (c : ℕ) (text : List ℕ) → Gives (cut c text) (IsCut c text)
unfolding cut
cut_gives c [] = none_gives
cut_gives c (x ∷ xs) = elim (eqb x c) as (λ b. eqb x c ≡ b → Gives (cond b (Some ([], xs)) (cut c xs >>= λ p. Some (x ∷ p.0, p.1))) (IsCut c (x ∷ xs))) [
  | true ↦ λ e. some_gives ([], xs) (ap (λ z. z ∷ xs) (eqb-true x c e))
  | false ↦ λ e. bind_gives (cut_gives c xs) (λ p h. some_gives (x ∷ p.0, p.1) (ap (λ z. x ∷ z) h))
] refl

pub behind_gives : (word text : List ℕ) → Gives (behind word text) (λ rest. text ≡ word ++ rest)
behind_gives word text = record { holds = λ rest there. behind_is word text rest there }

numeral_gives : (text : List ℕ) → Gives (numeral_in text) (λ ds. text ≡ ds)
unfolding numeral_in
numeral_gives text = if_gives (is_numeral text) (λ e. some_gives text refl)

signed_gives : (text : List ℕ) → Gives (signed_in text) (λ s. text ≡ signed_text s)
unfolding signed_in
signed_gives text = or_gives
    (bind_gives (behind_gives (codes "-") text) (λ digits h. bind_gives (numeral_gives digits) (λ ds e. some_gives (record { minus = true; digits = ds }) (h ∙ ap (λ z. 45 ∷ z) e))))
    (bind_gives (numeral_gives text) (λ ds e. some_gives (record { minus = false; digits = ds }) e))

abbrev IsRange : {A : Type 0} → (A → List ℕ) → List ℕ → A × A → Type 0
IsRange end_text text p = text ≡ range_text (end_text p.0) (end_text p.1)

range_gives : {A : Type 0} (end_in : List ℕ → Option A) (end_text : A → List ℕ) → ((t : List ℕ) → Gives (end_in t) (λ x. t ≡ end_text x))
    → (text : List ℕ) → Gives (range_in end_in text) (IsRange end_text text)
unfolding range_in
range_gives end_in end_text ends text =
    bind_gives (cut_gives 46 text) (λ p h. bind_gives (behind_gives (codes ".") p.1) (λ high k. bind_gives (ends p.0) (λ lo l. bind_gives (ends high) (λ hi m.
    some_gives (lo, hi) (h ∙ ap (λ z. p.0 ++ 46 ∷ z) k ∙ ap (λ z. z ++ 46 ∷ 46 ∷ high) l ∙ ap (λ z. end_text lo ++ 46 ∷ 46 ∷ z) m ∙ sym (append_assoc (end_text lo) (46 ∷ 46 ∷ []) (end_text hi)))))))

abbrev same_text : List ℕ → List ℕ
same_text t = t

pub part_gives : (text : List ℕ) → Gives (part_in text) (λ p. text ≡ part_text p)
unfolding part_in
part_gives text = or_gives
    (bind_gives (behind_gives (codes "u") text) (λ range h. bind_gives (range_gives numeral_in same_text numeral_gives range) (λ ends e. some_gives (Part.unsigned ends.0 ends.1) (h ∙ ap (λ z. 117 ∷ z) e))))
    (or_gives
    (bind_gives (behind_gives (codes "s") text) (λ range h. bind_gives (range_gives signed_in signed_text signed_gives range) (λ ends e. some_gives (Part.signed ends.0 ends.1) (h ∙ ap (λ z. 115 ∷ z) e))))
    (bind_gives (behind_gives (codes "k") text) (λ pair h. bind_gives (cut_gives 47 pair) (λ both k. bind_gives (numeral_gives both.0) (λ value l. bind_gives (numeral_gives both.1) (λ mask m.
    some_gives (Part.bits value mask) (h ∙ ap (λ z. 107 ∷ z) (k ∙ ap (λ z. z ++ 47 ∷ both.1) l ∙ ap (λ z. value ++ 47 ∷ z) m ∙ sym (append_assoc value (47 ∷ []) mask)))))))))

-- each text of the list is read
abbrev pub AreTexts : {A : Type 0} → (A → List ℕ) → List (List ℕ) → List A → Type 0
AreTexts text_of texts xs = texts ≡ map text_of xs

pub all_gives : {A : Type 0} (read : List ℕ → Option A) (text_of : A → List ℕ) → ((t : List ℕ) → Gives (read t) (λ x. t ≡ text_of x))
    → (texts : List (List ℕ)) → Gives (all_there (map read texts)) (AreTexts text_of texts)
unfolding all_there
all_gives read text_of each [] = some_gives [] refl
all_gives read text_of each (t ∷ ts) = bind_gives (each t) (λ x h. bind_gives (all_gives read text_of each ts) (λ xs k.
    some_gives (x ∷ xs) (ap (λ z. z ∷ ts) h ∙ ap (λ z. text_of x ∷ z) k)))

equal_texts : (a b : List ℕ) → bytes_eq a b ≡ true → a ≡ b
equal_texts [] [] e = refl
equal_texts [] (y ∷ b) e = cc
equal_texts (x ∷ a) [] e = cc
equal_texts (x ∷ a) (y ∷ b) e = let both = both_true (eqb x y) (bytes_eq a b) e in
    ap (λ z. z ∷ a) (eqb-true x y both.0) ∙ ap (λ z. y ∷ z) (equal_texts a b both.1)

-- the parts between the commas, and the fields between the spaces
rejoined : (c : ℕ) (text : List ℕ) (parts : List (List ℕ)) → slice_split (λ x. eqb x c) text ≡ parts → text ≡ join_with_byte c parts
rejoined c text parts e = sym (join_with_byte-slice_split c text) ∙ ap (join_with_byte c) e

number_gives : (text : List ℕ) → Gives (number_in text) (λ n. text ≡ number_text n)
unfolding number_in
number_gives text = choice_gives (bytes_eq text (codes "*")) (λ e. some_gives Number.top (equal_texts text (codes "*") e))
    (λ e. bind_gives (all_gives part_in part_text part_gives (slice_split (λ c. eqb c 44) text)) (λ ps h. some_gives (Number.parts ps) (rejoined 44 text (map part_text ps) h)))

pointer_gives : (text : List ℕ) → Gives (pointer_in text) (λ c. text ≡ content_text c)
unfolding pointer_in
pointer_gives text = or_gives
    (bind_gives (behind_gives (codes "ctx") text) (λ range h. bind_gives (range_gives signed_in signed_text signed_gives range) (λ ends e. some_gives (Content.context ends.0 ends.1) (h ∙ ap (λ z. codes "ctx" ++ z) e))))
    (bind_gives (behind_gives (codes "fp") text) (λ range h. bind_gives (range_gives signed_in signed_text signed_gives range) (λ ends e. some_gives (Content.frame ends.0 ends.1) (h ∙ ap (λ z. codes "fp" ++ z) e))))

bytes_give : (p : PlaceText) (text : List ℕ) → Gives (bytes_in p text) (λ c. text ≡ content_text c)
unfolding bytes_in
bytes_give (PlaceText.register i) text = none_gives
bytes_give (PlaceText.slot k) text = bind_gives (behind_gives (codes "b") text) (λ mask h. bind_gives (numeral_gives mask) (λ m e. some_gives (Content.bytes m) (h ∙ ap (λ z. codes "b" ++ z) e)))

content_gives : (p : PlaceText) (text : List ℕ) → Gives (content_in p text) (λ c. text ≡ content_text c)
unfolding content_in
content_gives p text = choice_gives (bytes_eq text (codes "any")) (λ e. some_gives Content.any (equal_texts text (codes "any") e))
    (λ e. or_gives (pointer_gives text) (or_gives (bytes_give p text) (bind_gives (number_gives text) (λ n h. some_gives (Content.number n) h))))

place_gives : (text : List ℕ) → Gives (place_in text) (λ p. text ≡ place_text p)
unfolding place_in
place_gives text = or_gives
    (bind_gives (behind_gives (codes "r") text) (λ digits h. bind_gives (numeral_gives digits) (λ i e. some_gives (PlaceText.register i) (h ∙ ap (λ z. codes "r" ++ z) e))))
    (bind_gives (behind_gives (codes "s") text) (λ digits h. bind_gives (numeral_gives digits) (λ k e. some_gives (PlaceText.slot k) (h ∙ ap (λ z. codes "s" ++ z) e))))

closed_gives : (text : List ℕ) → Gives (place_closed_in text) (λ p. text ≡ place_text p ++ codes ")")
unfolding place_closed_in
closed_gives text = bind_gives (cut_gives 41 text) (λ both h. bind_gives (place_gives both.0) (λ p e. if_gives (bytes_eq both.1 []) (λ bare.
    some_gives p (h ∙ ap (λ z. z ++ 41 ∷ both.1) e ∙ ap (λ z. place_text p ++ 41 ∷ z) (equal_texts both.1 [] bare)))))

measure_gives : (text : List ℕ) → Gives (measure_in text) (λ m. text ≡ measure_text m)
unfolding measure_in
measure_gives text = or_gives
    (bind_gives (place_gives text) (λ p h. some_gives (Measure.down p) h))
    (bind_gives (behind_gives (codes "(") text) (λ inside h. bind_gives (cut_gives 45 inside) (λ both k. bind_gives (numeral_gives both.0) (λ limit l. bind_gives (closed_gives both.1) (λ p m.
    some_gives (Measure.up limit p) (h ∙ ap (λ z. 40 ∷ z) (k ∙ ap (λ z. z ++ 45 ∷ both.1) l ∙ ap (λ z. limit ++ 45 ∷ z) m
    ∙ sym (append_assoc limit (45 ∷ []) (place_text p ++ 41 ∷ [])) ∙ sym (append_assoc (limit ++ 45 ∷ []) (place_text p) (41 ∷ [])))))))))

term_gives : (text : List ℕ) → Gives (term_in text) (λ t. text ≡ term_text t)
unfolding term_in
term_gives text = bind_gives (behind_gives (codes "+") text) (λ product h. bind_gives (cut_gives 42 product) (λ both k. bind_gives (numeral_gives both.0) (λ weight l. bind_gives (measure_gives both.1) (λ measure m.
    some_gives (record { weight = weight; measure = measure }) (h ∙ ap (λ z. 43 ∷ z) (k ∙ ap (λ z. z ++ 42 ∷ both.1) l ∙ ap (λ z. weight ++ 42 ∷ z) m ∙ sym (append_assoc weight (42 ∷ []) (measure_text measure))))))))

-- the fields behind the first
abbrev HasFields : List ℕ → List (List ℕ) → Line → Type 0
HasFields name rest l = name ∷ rest ≡ fields l

one_length_gives : (rest : List (List ℕ)) → Gives (one_length_in rest) (HasFields (codes "bpfcert") (codes "1" ∷ rest))
unfolding one_length_in
one_length_gives [] = none_gives
one_length_gives (len ∷ []) = none_gives
one_length_gives (len ∷ steps ∷ []) = bind_gives (numeral_gives len) (λ l h. bind_gives (numeral_gives steps) (λ s k.
    some_gives (Line.header (Lengths.one l) s) (ap (λ z. codes "bpfcert" ∷ codes "1" ∷ z ∷ steps ∷ []) h ∙ ap (λ z. codes "bpfcert" ∷ codes "1" ∷ l ∷ z ∷ []) k)))
one_length_gives (len ∷ steps ∷ x ∷ more) = none_gives

two_lengths_give : (rest : List (List ℕ)) → Gives (two_lengths_in rest) (HasFields (codes "bpfcert") (codes "2" ∷ rest))
unfolding two_lengths_in
two_lengths_give [] = none_gives
two_lengths_give (least ∷ []) = none_gives
two_lengths_give (least ∷ most ∷ []) = none_gives
two_lengths_give (least ∷ most ∷ steps ∷ []) = bind_gives (numeral_gives least) (λ l g. bind_gives (numeral_gives most) (λ m h. bind_gives (numeral_gives steps) (λ s k.
    some_gives (Line.header (Lengths.range l m) s) (ap (λ z. codes "bpfcert" ∷ codes "2" ∷ z ∷ most ∷ steps ∷ []) g
    ∙ ap (λ z. codes "bpfcert" ∷ codes "2" ∷ l ∷ z ∷ steps ∷ []) h ∙ ap (λ z. codes "bpfcert" ∷ codes "2" ∷ l ∷ m ∷ z ∷ []) k))))
two_lengths_give (least ∷ most ∷ steps ∷ x ∷ more) = none_gives

-- of the version that the test found
version_gives : (v word : List ℕ) (rest : List (List ℕ)) (o : Option Line) → bytes_eq v word ≡ true → Gives o (HasFields (codes "bpfcert") (word ∷ rest)) → Gives o (HasFields (codes "bpfcert") (v ∷ rest))
version_gives v word rest o e g = subst (λ z. Gives o (HasFields (codes "bpfcert") (z ∷ rest))) (sym (equal_texts v word e)) g

header_gives : (rest : List (List ℕ)) → Gives (header_in rest) (HasFields (codes "bpfcert") rest)
unfolding header_in
header_gives [] = none_gives
header_gives (v ∷ rest) = choice_gives (bytes_eq v (codes "1")) (λ e. version_gives v (codes "1") rest _ e (one_length_gives rest))
    (λ _. choice_gives (bytes_eq v (codes "2")) (λ e. version_gives v (codes "2") rest _ e (two_lengths_give rest)) (λ _. none_gives))

function_gives : (rest : List (List ℕ)) → Gives (function_in rest) (HasFields (codes "fn") rest)
unfolding function_in
function_gives [] = none_gives
function_gives (a ∷ []) = none_gives
function_gives (a ∷ b ∷ []) = none_gives
function_gives (first ∷ depth ∷ ret ∷ []) = bind_gives (numeral_gives first) (λ f h. bind_gives (numeral_gives depth) (λ d k. bind_gives (number_gives ret) (λ r m.
    some_gives (Line.function f d r) (ap (λ z. codes "fn" ∷ z ∷ depth ∷ ret ∷ []) h ∙ ap (λ z. codes "fn" ∷ f ∷ z ∷ ret ∷ []) k ∙ ap (λ z. codes "fn" ∷ f ∷ d ∷ z ∷ []) m))))
function_gives (a ∷ b ∷ c ∷ x ∷ more) = none_gives

label_gives : (rest : List (List ℕ)) → Gives (label_in rest) (HasFields (codes "at") rest)
unfolding label_in
label_gives [] = none_gives
label_gives (a ∷ []) = none_gives
label_gives (slot ∷ base ∷ terms) = bind_gives (numeral_gives slot) (λ s h. bind_gives (numeral_gives base) (λ b k. bind_gives (all_gives term_in term_text term_gives terms) (λ ts m.
    some_gives (Line.label s b ts) (ap (λ z. codes "at" ∷ z ∷ base ∷ terms) h ∙ ap (λ z. codes "at" ∷ s ∷ z ∷ terms) k ∙ ap (λ z. codes "at" ∷ s ∷ b ∷ z) m))))

entry_gives : (name : List ℕ) (rest : List (List ℕ)) → Gives (entry_in name rest) (HasFields name rest)
unfolding entry_in
entry_gives name [] = none_gives
entry_gives name (content ∷ []) = bind_gives (place_gives name) (λ p h. bind_gives (content_gives p content) (λ c k.
    some_gives (Line.entry p c) (ap (λ z. z ∷ content ∷ []) h ∙ ap (λ z. place_text p ∷ z ∷ []) k)))
entry_gives name (a ∷ b ∷ more) = none_gives

end_gives : (rest : List (List ℕ)) → Gives (end_in rest) (HasFields (codes "end") rest)
unfolding end_in
end_gives [] = some_gives Line.end refl
end_gives (f ∷ fs) = none_gives

-- under the name that the test found
named_gives : (name word : List ℕ) (rest : List (List ℕ)) (o : Option Line) → bytes_eq name word ≡ true → Gives o (HasFields word rest) → Gives o (HasFields name rest)
named_gives name word rest o e g = subst (λ z. Gives o (HasFields z rest)) (sym (equal_texts name word e)) g

fields_give : (fs : List (List ℕ)) → Gives (line_of_fields fs) (λ l. fs ≡ fields l)
unfolding line_of_fields
fields_give [] = none_gives
fields_give (name ∷ rest) = choice_gives (bytes_eq name (codes "bpfcert")) (λ e. named_gives name (codes "bpfcert") rest _ e (header_gives rest))
    (λ _. choice_gives (bytes_eq name (codes "fn")) (λ e. named_gives name (codes "fn") rest _ e (function_gives rest))
    (λ _. choice_gives (bytes_eq name (codes "at")) (λ e. named_gives name (codes "at") rest _ e (label_gives rest))
    (λ _. choice_gives (bytes_eq name (codes "end")) (λ e. named_gives name (codes "end") rest _ e (end_gives rest))
    (λ _. entry_gives name rest))))

-- what is read as a line is spelled as that line
pub line_spelled : (text : List ℕ) (l : Line) → line_in text ≡ Some l → text ≡ line_text l
unfolding line_in
line_spelled text l e = rejoined 32 text (fields l) ((fields_give (slice_split (λ c. eqb c 32) text)).holds l e)
