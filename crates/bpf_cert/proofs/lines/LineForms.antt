-- What is read as a line is a line; so a text is read as a line exactly if it is spelled as one.
use Rattle.std.proofs.Common.{◌≡◌, ℕ, Bool, true, false, cond, eqb, List, [], ◌∷◌, map, Option, Some, refl, sym, ap, ◌∙◌}
use Rattle.std.specs.Prelude.{codes, ◌&&◌, ◌↔◌}
use Rattle.std.specs.List.{slice_split, onto_first, list_all}
use Rattle.std.specs.Str.{bytes_eq}
use Rattle.bpf_streams.specs.Words.{behind}
use Rattle.bpf_cert.specs.Numeral.{is_numeral}
use Rattle.bpf_cert.specs.Line.{Part, Number, Content, PlaceText, Measure, Lengths, Line, part_text, line_text, is_part, is_number, is_content, is_place, is_measure, is_term, is_line}
use Rattle.bpf_cert.specs.Reading.{all_there, cut, numeral_in, end_in, signed_in, range_in, part_in, number_in, pointer_in, bytes_in, content_in, place_in, place_closed_in, measure_in, term_in, one_length_in, two_lengths_in, header_in, function_in, label_in, entry_in, line_of_fields, line_in}
use Rattle.bpf_cert.proofs.lines.LineLaws.{Gives, none_gives, some_gives, bind_gives, or_gives, if_gives, choice_gives, all_gives, part_gives, line_spelled}
use Rattle.bpf_cert.proofs.lines.LineAgain.{line_again}

both : {a b : Bool} → a ≡ true → b ≡ true → (a && b) ≡ true
both {a} {b} e f = rw (e, f) refl

-- Each reader gives what is well formed; what it cut off on the way is of no interest here.
any : {A : Type 0} (o : Option A) → Gives o (λ x. Unit {0})
any o = record { holds = λ x e. tt }

numeral_is : (text : List ℕ) → Gives (numeral_in text) (λ ds. is_numeral ds ≡ true)
unfolding numeral_in
numeral_is text = if_gives (is_numeral text) (λ e. some_gives text e)

signed_is : (text : List ℕ) → Gives (signed_in text) (λ s. is_numeral s.digits ≡ true)
unfolding signed_in
signed_is text = or_gives
    (bind_gives (any (behind (codes "-") text)) (λ digits u. bind_gives (numeral_is digits) (λ ds e. some_gives (record { minus = true; digits = ds }) e)))
    (bind_gives (numeral_is text) (λ ds e. some_gives (record { minus = false; digits = ds }) e))

range_is : {A : Type 0} (end_in : List ℕ → Option A) (P : A → Type 0) → ((t : List ℕ) → Gives (end_in t) P) → (text : List ℕ) → Gives (range_in end_in text) (λ p. P p.0 × P p.1)
unfolding range_in
range_is end_in P ends text = bind_gives (any (cut 46 text)) (λ p u. bind_gives (any (behind (codes ".") p.1)) (λ high v. bind_gives (ends p.0) (λ lo l. bind_gives (ends high) (λ hi m. some_gives (lo, hi) (l, m)))))

pub part_is : (text : List ℕ) → Gives (part_in text) (λ p. is_part p ≡ true)
unfolding part_in
part_is text = or_gives
    (bind_gives (any (behind (codes "u") text)) (λ range u. bind_gives (range_is numeral_in (λ ds. is_numeral ds ≡ true) numeral_is range) (λ ends e. some_gives (Part.unsigned ends.0 ends.1) (both e.0 e.1))))
    (or_gives
    (bind_gives (any (behind (codes "s") text)) (λ range u. bind_gives (range_is signed_in (λ s. is_numeral s.digits ≡ true) signed_is range) (λ ends e. some_gives (Part.signed ends.0 ends.1) (both e.0 e.1))))
    (bind_gives (any (behind (codes "k") text)) (λ pair u. bind_gives (any (cut 47 pair)) (λ parts v. bind_gives (numeral_is parts.0) (λ value l. bind_gives (numeral_is parts.1) (λ mask m.
    some_gives (Part.bits value mask) (both l m)))))))

all_is : {A : Type 0} (read : List ℕ → Option A) (good : A → Bool) → ((t : List ℕ) → Gives (read t) (λ x. good x ≡ true)) → (texts : List (List ℕ)) → Gives (all_there (map read texts)) (λ xs. list_all good xs ≡ true)
unfolding all_there
all_is read good each [] = some_gives [] refl
all_is read good each (t ∷ ts) = bind_gives (each t) (λ x h. bind_gives (all_is read good each ts) (λ xs k. some_gives (x ∷ xs) (both h k)))

pieces_some : (c : ℕ) (text : List ℕ) → (w : List ℕ) × (ws : List (List ℕ)) × (slice_split (λ x. eqb x c) text ≡ w ∷ ws)
pieces_some c [] = ([], [], refl)
pieces_some c (x ∷ xs) = let s = pieces_some c xs in
    elim (eqb x c) as (λ b. (w : List ℕ) × (ws : List (List ℕ)) × (cond b ([] ∷ slice_split (λ y. eqb y c) xs) (onto_first x (slice_split (λ y. eqb y c) xs)) ≡ w ∷ ws)) [
      | true ↦ ([], slice_split (λ y. eqb y c) xs, refl)
      | false ↦ (x ∷ s.0, s.1, ap (onto_first x) s.2)
    ]

-- at least one part is read, since a split gives at least one piece
some_parts : (text : List ℕ) (ps : List Part) → slice_split (λ x. eqb x 44) text ≡ map part_text ps → list_all is_part ps ≡ true → is_number (Number.parts ps) ≡ true
some_parts text [] e f = let s = pieces_some 44 text in let none : s.0 ∷ s.1 ≡ [] = sym (s.2) ∙ e in cc
some_parts text (p ∷ ps) e f = f

pub number_is : (text : List ℕ) → Gives (number_in text) (λ n. is_number n ≡ true)
unfolding number_in
number_is text = choice_gives (bytes_eq text (codes "*")) (λ e. some_gives Number.top refl)
    (λ e. bind_gives (pair_gives (all_gives part_in part_text part_gives (slice_split (λ c. eqb c 44) text)) (all_is part_in is_part part_is (slice_split (λ c. eqb c 44) text)))
    (λ ps h. some_gives (Number.parts ps) (some_parts text ps h.0 h.1)))
  where
    pair_gives : {A : Type 0} {o : Option A} {P Q : A → Type 0} → Gives o P → Gives o Q → Gives o (λ x. P x × Q x)
    pair_gives g h = record { holds = λ x e. (g.holds x e, h.holds x e) }

pub pointer_is : (p : PlaceText) (text : List ℕ) → Gives (pointer_in text) (λ c. is_content p c ≡ true)
unfolding pointer_in
pointer_is p text = or_gives
    (bind_gives (any (behind (codes "ctx") text)) (λ range u. bind_gives (range_is signed_in (λ s. is_numeral s.digits ≡ true) signed_is range) (λ ends e. some_gives (Content.context ends.0 ends.1) (both e.0 e.1))))
    (bind_gives (any (behind (codes "fp") text)) (λ range u. bind_gives (range_is signed_in (λ s. is_numeral s.digits ≡ true) signed_is range) (λ ends e. some_gives (Content.frame ends.0 ends.1) (both e.0 e.1))))

pub bytes_is : (p : PlaceText) (text : List ℕ) → Gives (bytes_in p text) (λ c. is_content p c ≡ true)
unfolding bytes_in
bytes_is (PlaceText.register i) text = none_gives
bytes_is (PlaceText.slot k) text = bind_gives (any (behind (codes "b") text)) (λ mask u. bind_gives (numeral_is mask) (λ m e. some_gives (Content.bytes m) e))

pub content_is : (p : PlaceText) (text : List ℕ) → Gives (content_in p text) (λ c. is_content p c ≡ true)
unfolding content_in
content_is p text = choice_gives (bytes_eq text (codes "any")) (λ e. some_gives Content.any refl)
    (λ e. or_gives (pointer_is p text) (or_gives (bytes_is p text) (bind_gives (number_is text) (λ n h. some_gives (Content.number n) h))))

pub place_is : (text : List ℕ) → Gives (place_in text) (λ p. is_place p ≡ true)
unfolding place_in
place_is text = or_gives
    (bind_gives (any (behind (codes "r") text)) (λ digits u. bind_gives (numeral_is digits) (λ i e. some_gives (PlaceText.register i) e)))
    (bind_gives (any (behind (codes "s") text)) (λ digits u. bind_gives (numeral_is digits) (λ k e. some_gives (PlaceText.slot k) e)))

closed_is : (text : List ℕ) → Gives (place_closed_in text) (λ p. is_place p ≡ true)
unfolding place_closed_in
closed_is text = bind_gives (any (cut 41 text)) (λ parts u. bind_gives (place_is parts.0) (λ p e. if_gives (bytes_eq parts.1 []) (λ bare. some_gives p e)))

measure_is : (text : List ℕ) → Gives (measure_in text) (λ m. is_measure m ≡ true)
unfolding measure_in
measure_is text = or_gives
    (bind_gives (place_is text) (λ p h. some_gives (Measure.down p) h))
    (bind_gives (any (behind (codes "(") text)) (λ inside u. bind_gives (any (cut 45 inside)) (λ parts v. bind_gives (numeral_is parts.0) (λ limit l. bind_gives (closed_is parts.1) (λ p m. some_gives (Measure.up limit p) (both l m))))))

pub term_is : (text : List ℕ) → Gives (term_in text) (λ t. is_term t ≡ true)
unfolding term_in
term_is text = bind_gives (any (behind (codes "+") text)) (λ product u. bind_gives (any (cut 42 product)) (λ parts v. bind_gives (numeral_is parts.0) (λ weight l. bind_gives (measure_is parts.1) (λ measure m.
    some_gives (record { weight = weight; measure = measure }) (both l m)))))

IsLine : Line → Type 0
IsLine l = is_line l ≡ true

one_length_is : (rest : List (List ℕ)) → Gives (one_length_in rest) IsLine
unfolding one_length_in IsLine
one_length_is [] = none_gives
one_length_is (len ∷ []) = none_gives
one_length_is (len ∷ steps ∷ []) = bind_gives (numeral_is len) (λ l h. bind_gives (numeral_is steps) (λ s k. some_gives (Line.header (Lengths.one l) s) (both h k)))
one_length_is (len ∷ steps ∷ x ∷ more) = none_gives

two_lengths_are : (rest : List (List ℕ)) → Gives (two_lengths_in rest) IsLine
unfolding two_lengths_in IsLine
two_lengths_are [] = none_gives
two_lengths_are (least ∷ []) = none_gives
two_lengths_are (least ∷ most ∷ []) = none_gives
two_lengths_are (least ∷ most ∷ steps ∷ []) = bind_gives (numeral_is least) (λ l g. bind_gives (numeral_is most) (λ m h. bind_gives (numeral_is steps) (λ s k. some_gives (Line.header (Lengths.range l m) s) (both (both g h) k))))
two_lengths_are (least ∷ most ∷ steps ∷ x ∷ more) = none_gives

header_is : (rest : List (List ℕ)) → Gives (header_in rest) IsLine
unfolding header_in
header_is [] = none_gives
header_is (v ∷ rest) = choice_gives (bytes_eq v (codes "1")) (λ e. one_length_is rest) (λ _. choice_gives (bytes_eq v (codes "2")) (λ e. two_lengths_are rest) (λ _. none_gives))

function_is : (rest : List (List ℕ)) → Gives (function_in rest) IsLine
unfolding function_in IsLine
function_is [] = none_gives
function_is (a ∷ []) = none_gives
function_is (a ∷ b ∷ []) = none_gives
function_is (first ∷ depth ∷ ret ∷ []) = bind_gives (numeral_is first) (λ f h. bind_gives (numeral_is depth) (λ d k. bind_gives (number_is ret) (λ r m. some_gives (Line.function f d r) (both (both h k) m))))
function_is (a ∷ b ∷ c ∷ x ∷ more) = none_gives

label_is : (rest : List (List ℕ)) → Gives (label_in rest) IsLine
unfolding label_in IsLine
label_is [] = none_gives
label_is (a ∷ []) = none_gives
label_is (slot ∷ base ∷ terms) = bind_gives (numeral_is slot) (λ s h. bind_gives (numeral_is base) (λ b k. bind_gives (all_is term_in is_term term_is terms) (λ ts m. some_gives (Line.label s b ts) (both (both h k) m))))

entry_is : (name : List ℕ) (rest : List (List ℕ)) → Gives (entry_in name rest) IsLine
unfolding entry_in IsLine
entry_is name [] = none_gives
entry_is name (content ∷ []) = bind_gives (place_is name) (λ p h. bind_gives (content_is p content) (λ c k. some_gives (Line.entry p c) (both h k)))
entry_is name (a ∷ b ∷ more) = none_gives

end_is : (rest : List (List ℕ)) → Gives (end_in rest) IsLine
unfolding end_in IsLine
end_is [] = some_gives Line.end refl
end_is (f ∷ fs) = none_gives

fields_are : (fs : List (List ℕ)) → Gives (line_of_fields fs) IsLine
unfolding IsLine line_of_fields
fields_are [] = none_gives
fields_are (name ∷ rest) = choice_gives (bytes_eq name (codes "bpfcert")) (λ e. header_is rest)
    (λ _. choice_gives (bytes_eq name (codes "fn")) (λ e. function_is rest)
    (λ _. choice_gives (bytes_eq name (codes "at")) (λ e. label_is rest)
    (λ _. choice_gives (bytes_eq name (codes "end")) (λ e. end_is rest)
    (λ _. entry_is name rest))))

pub line_is : (text : List ℕ) (l : Line) → line_in text ≡ Some l → is_line l ≡ true
unfolding line_in IsLine
line_is text l e = (fields_are (slice_split (λ c. eqb c 32) text)).holds l e

-- A text has the form of a line exactly if it is the spelling of one, and of that one alone.
pub line_exactly : (text : List ℕ) (l : Line) → (line_in text ≡ Some l) ↔ ((is_line l ≡ true) × (text ≡ line_text l))
line_exactly text l = (λ e. (line_is text l e, line_spelled text l e), λ h. ap line_in h.1 ∙ line_again l h.0)
