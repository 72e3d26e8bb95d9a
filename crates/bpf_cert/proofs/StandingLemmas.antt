-- Lines by their forms, behind the lines before them.
use Rattle.std.proofs.Common.{◌≡◌, ℕ, ◌^◌, ◌<◌, ◌≤◌, Bool, true, false, not, leb, ltb, List, [], ◌∷◌, map, Option, Some, None, Result, Ok, Err, refl, sym, ap, ◌∙◌, arith, min}
use Rattle.std.specs.Prelude.{◌&&◌, option_map, IfSome, decimal}
use Rattle.std.proofs.lemmas.Bool.{leb-true, lt-ltb, ltb-true, ltb-false}
use Rattle.bpf_cert.specs.Numeral.{is_numeral, is_plain, number, is_from_to}
use Rattle.bpf_cert.specs.Line.{Line, PlaceText, Number, Content, Term, Lengths}
use Rattle.bpf_cert.specs.Faults.{is_canonical, is_limited, may_stand, is_in_order, has_room, comes_after}
use Rattle.bpf_cert.specs.Reading.{◌>>=◌, numeral_in, all_there, term_in, place_in, number_in, content_in, function_in, label_in, entry_in}
use Rattle.bpf_cert.specs.code.Findings.{tested, found, joined, valued}
use Rattle.bpf_cert.specs.code.TermSums.{terms_in}
use Rattle.bpf_cert.specs.code.Standing.{FunctionIs, LabelIs, EntryIs, stage_of, is_start, may_have_label, may_have_entry, ruled, fields_in, uncons, three_of}
use Rattle.bpf_cert.specs.declared.finding.PartFault.{PartFault}
use Rattle.bpf_cert.specs.declared.finding.PartFault.TheVariants.{Syntax}
use Rattle.bpf_cert.proofs.Bools.{both_true}
use Rattle.bpf_cert.proofs.LastLine.{by_last}
use Rattle.bpf_cert.proofs.NumeralLaws.{numeral-decimal}
use Rattle.bpf_cert.proofs.FindingLemmas.{found_tested, joined_valued}
use Rattle.bpf_cert.proofs.lines.LineForms.{place_is}
use Rattle.bpf_cert.proofs.NumberLemmas.{plain_value}

pub three_is : (fs : List (List ℕ)) (a b c : List ℕ) → three_of fs ≡ Some (a, b, c) → fs ≡ a ∷ b ∷ c ∷ []
three_is [] a b c e = cc
three_is (x ∷ []) a b c e = cc
three_is (x ∷ y ∷ []) a b c e = cc
three_is (x ∷ y ∷ z ∷ []) a b c e = let same : ◌≡◌ {A = List ℕ × List ℕ × List ℕ} (x, y, z) (a, b, c) = cc in ap (λ p. p.0 ∷ p.1 ∷ p.2 ∷ []) same
three_is (x ∷ y ∷ z ∷ w ∷ ws) a b c e = cc

pub no_function : (fs : List (List ℕ)) → three_of fs ≡ None → function_in fs ≡ None
unfolding function_in
no_function [] e = refl
no_function (x ∷ []) e = refl
no_function (x ∷ y ∷ []) e = refl
no_function (x ∷ y ∷ z ∷ []) e = cc
no_function (x ∷ y ∷ z ∷ w ∷ ws) e = refl

pub numeral_yes : (ds : List ℕ) → is_numeral ds ≡ true → numeral_in ds ≡ Some ds
unfolding numeral_in
numeral_yes ds e = rw e refl

pub numeral_no : (ds : List ℕ) → is_numeral ds ≡ false → numeral_in ds ≡ None
unfolding numeral_in
numeral_no ds e = rw e refl

number_then : (f d : List ℕ) (o : Option Number) → (o >>= (λ r. Some (Line.function f d r))) ≡ option_map (Line.function f d) o
unfolding ◌>>=◌
number_then f d None = refl
number_then f d (Some n) = refl

pub function_yes : (fs : List (List ℕ)) (f d r : List ℕ) → three_of fs ≡ Some (f, d, r) → is_numeral f ≡ true → is_numeral d ≡ true → function_in fs ≡ option_map (Line.function f d) (number_in r)
unfolding function_in ◌>>=◌
function_yes fs f d r e g h = rw (three_is fs f d r e, numeral_yes f g, numeral_yes d h) (number_then f d (number_in r))

pub function_no : (fs : List (List ℕ)) (f d r : List ℕ) → three_of fs ≡ Some (f, d, r) → (is_numeral f && is_numeral d) ≡ false → function_in fs ≡ None
unfolding function_in ◌>>=◌
function_no fs f d r e g = rw (three_is fs f d r e) (by_tests (is_numeral f) (is_numeral d) refl refl g)
  where
    by_tests : (a b : Bool) → is_numeral f ≡ a → is_numeral d ≡ b → (a && b) ≡ false → (numeral_in f >>= (λ x. numeral_in d >>= (λ y. number_in r >>= (λ z. Some (Line.function x y z))))) ≡ None
    by_tests false b h k t = rw (numeral_no f h) refl
    by_tests true false h k t = rw (numeral_yes f h, numeral_no d k) refl
    by_tests true true h k t = cc

pub uncons_none : (fs : List (List ℕ)) → uncons fs ≡ None → fs ≡ []
uncons_none [] e = refl
uncons_none (f ∷ fs) e = cc

pub uncons_some : (fs : List (List ℕ)) (f : List ℕ) (rest : List (List ℕ)) → uncons fs ≡ Some (f, rest) → fs ≡ f ∷ rest
uncons_some [] f rest e = cc
uncons_some (x ∷ xs) f rest e = let same : ◌≡◌ {A = List ℕ × List (List ℕ)} (x, xs) (f, rest) = cc in ap (λ p. p.0 ∷ p.1) same

terms_are : (o : Option (List ℕ)) → all_there (map term_in (fields_in o)) ≡ terms_in o
unfolding all_there
terms_are None = refl
terms_are (Some text) = refl

pub no_label : (fs : List (List ℕ)) → fs ≡ [] → label_in fs ≡ None
unfolding label_in
no_label fs e = rw e refl

pub no_base : (fs : List (List ℕ)) (a : List ℕ) → fs ≡ a ∷ [] → label_in fs ≡ None
unfolding label_in
no_base fs a e = rw e refl

terms_then : (s b : List ℕ) (o : Option (List _)) → (o >>= (λ ts. Some (Line.label s b ts))) ≡ option_map (Line.label s b) o
unfolding ◌>>=◌
terms_then s b None = refl
terms_then s b (Some ts) = refl

pub label_yes : (fs : List (List ℕ)) (s b : List ℕ) (o : Option (List ℕ)) → fs ≡ s ∷ b ∷ fields_in o → is_numeral s ≡ true → is_numeral b ≡ true → label_in fs ≡ option_map (Line.label s b) (terms_in o)
unfolding label_in ◌>>=◌
label_yes fs s b o e g h = rw (e, numeral_yes s g, numeral_yes b h, terms_are o) (terms_then s b (terms_in o))

pub label_no : (fs : List (List ℕ)) (s b : List ℕ) (o : Option (List ℕ)) → fs ≡ s ∷ b ∷ fields_in o → (is_numeral s && is_numeral b) ≡ false → label_in fs ≡ None
unfolding label_in ◌>>=◌
label_no fs s b o e g = rw e (by_tests (is_numeral s) (is_numeral b) refl refl g)
  where
    by_tests : (x y : Bool) → is_numeral s ≡ x → is_numeral b ≡ y → (x && y) ≡ false → (numeral_in s >>= (λ p. numeral_in b >>= (λ q. all_there (map term_in (fields_in o)) >>= (λ ts. Some (Line.label p q ts))))) ≡ None
    by_tests false y h k t = rw (numeral_no s h) refl
    by_tests true false h k t = rw (numeral_yes s h, numeral_no b k) refl
    by_tests true true h k t = cc

pub no_entry : (name : List ℕ) (fs : List (List ℕ)) → fs ≡ [] → entry_in name fs ≡ None
unfolding entry_in
no_entry name fs e = rw e refl

pub long_entry : (name a b : List ℕ) (fs more : List (List ℕ)) → fs ≡ a ∷ b ∷ more → entry_in name fs ≡ None
unfolding entry_in
long_entry name a b fs more e = rw e refl

pub nowhere : (name a : List ℕ) (fs : List (List ℕ)) → fs ≡ a ∷ [] → place_in name ≡ None → entry_in name fs ≡ None
unfolding entry_in ◌>>=◌
nowhere name a fs e f = rw (e, f) refl

content_then : (p : PlaceText) (o : Option _) → (o >>= (λ c. Some (Line.entry p c))) ≡ option_map (Line.entry p) o
unfolding ◌>>=◌
content_then p None = refl
content_then p (Some c) = refl

pub entry_yes : (name a : List ℕ) (fs : List (List ℕ)) (p : PlaceText) → fs ≡ a ∷ [] → place_in name ≡ Some p → EntryIs name fs (Some (p, a))
unfolding entry_in ◌>>=◌
entry_yes name a fs p e f = ((place_is name).holds p f, rw (e, f) (content_then p (content_in p a)))

-- where each kind of line may stand

pub stand_header : (before : List Line) (l : Lengths) (s : List ℕ) → may_stand before (Line.header l s) ≡ is_start (stage_of before)
stand_header before l s = by_last (λ ls. may_stand ls (Line.header l s) ≡ is_start (stage_of ls)) refl (λ ls a b. refl) (λ ls a b c. refl) (λ ls a b c. refl) (λ ls a b. refl) (λ ls. refl) before

pub stand_function : (before : List Line) (f d : List ℕ) (r : Number) → may_stand before (Line.function f d r) ≡ not (is_start (stage_of before))
stand_function before f d r = by_last (λ ls. may_stand ls (Line.function f d r) ≡ not (is_start (stage_of ls))) refl (λ ls a b. refl) (λ ls a b c. refl) (λ ls a b c. refl) (λ ls a b. refl) (λ ls. refl) before

pub stand_label : (before : List Line) (s b : List ℕ) (ts : List Term) → may_stand before (Line.label s b ts) ≡ may_have_label (stage_of before)
stand_label before s b ts = by_last (λ ls. may_stand ls (Line.label s b ts) ≡ may_have_label (stage_of ls)) refl (λ ls a b. refl) (λ ls a b c. refl) (λ ls a b c. refl) (λ ls a b. refl) (λ ls. refl) before

pub stand_entry : (before : List Line) (p : PlaceText) (c : Content) → may_stand before (Line.entry p c) ≡ may_have_entry (stage_of before)
stand_entry before p c = by_last (λ ls. may_stand ls (Line.entry p c) ≡ may_have_entry (stage_of ls)) refl (λ ls a b. refl) (λ ls a b c. refl) (λ ls a b c. refl) (λ ls a b. refl) (λ ls. refl) before

pub stand_end : (before : List Line) → may_stand before Line.end ≡ not (is_start (stage_of before))
stand_end before = by_last (λ ls. may_stand ls Line.end ≡ not (is_start (stage_of ls))) refl (λ ls a b. refl) (λ ls a b c. refl) (λ ls a b c. refl) (λ ls a b. refl) (λ ls. refl) before

-- a form that may not stand there
pub ruled_never : {A : Type 0} (before : List Line) (mk : A → Line) (o : Option A) → ((x : A) → may_stand before (mk x) ≡ false) → Err Syntax ≡ ruled before (option_map mk o)
ruled_never before mk None h = refl
ruled_never before mk (Some x) h = rw (h x) refl

ruled_joined : {A : Type 0} (before : List Line) (c l : A → Bool) (a b : Bool) (mk : A → Line) (o : Option A) → ((x : A) → may_stand before (mk x) ≡ true)
    → ((x : A) → (is_canonical (mk x) && is_in_order before (mk x)) ≡ (a && c x)) → ((x : A) → (is_limited (mk x) && has_room before (mk x)) ≡ (b && l x))
    → ruled before (option_map mk o) ≡ valued mk (joined (tested a b) (found c l o))
ruled_joined before c l a b mk None may canon limit = none a b
  where
    none : (a b : Bool) → Err Syntax ≡ valued mk (joined (tested a b) (Err Syntax))
    none true true = refl
    none true false = refl
    none false b = refl
ruled_joined before c l a b mk (Some x) may canon limit = rw (may x, canon x, limit x) (found_tested (a && c x) (b && l x) (mk x)
    ∙ sym (mapped (tested (a && c x) (b && l x))) ∙ ap (valued mk) (sym (ap (joined (tested a b)) (found_tested (c x) (l x) x) ∙ joined_valued a b (c x) (l x) x)))
  where
    mapped : (r : Result (Unit {0}) PartFault) → valued mk (valued (λ (u : Unit {0}). x) r) ≡ valued (λ (u : Unit {0}). mk x) r
    mapped (Ok u) = refl
    mapped (Err f) = refl

joined_maps : {A V : Type 0} (spell : V → A) (r : Result (Unit {0}) PartFault) (s : Result V PartFault) → valued spell (joined r s) ≡ joined r (valued spell s)
joined_maps spell (Ok u) s = refl
joined_maps spell (Err f) (Ok v) = refl
joined_maps spell (Err f) (Err g) = refl

-- a line by what was found in its own fields and in the part that is read apart
pub judged_line : {A V : Type 0} (before : List Line) (c l : A → Bool) (a b : Bool) (mk : A → Line) (spell : V → A) (o : Option A) (r j : Result V PartFault) (own : Result (Unit {0}) PartFault) (whole : Option Line)
    → whole ≡ option_map mk o → ((x : A) → may_stand before (mk x) ≡ true)
    → ((x : A) → (is_canonical (mk x) && is_in_order before (mk x)) ≡ (a && c x)) → ((x : A) → (is_limited (mk x) && has_room before (mk x)) ≡ (b && l x))
    → own ≡ tested a b → valued spell r ≡ found c l o → j ≡ joined own r → valued mk (valued spell j) ≡ ruled before whole
judged_line before c l a b mk spell o r j own whole e may canon limit f g h =
    ap (λ x. valued mk (valued spell x)) (h ∙ ap (λ x. joined x r) f) ∙ ap (valued mk) (joined_maps spell (tested a b) r ∙ ap (joined (tested a b)) g)
    ∙ sym (ap (ruled before) e ∙ ruled_joined before c l a b mk o may canon limit)

-- tests of a number where 2^64 is cut off

capped_test : (p : ℕ → Bool) → ((n : ℕ) → 2 ^ 64 ≤ n → p n ≡ false) → (n : ℕ) → p (min n (2 ^ 64)) ≡ p n
capped_test p far n = by_size (ltb n (2 ^ 64)) refl
  where
    by_size : (b : Bool) → ltb n (2 ^ 64) ≡ b → p (min n (2 ^ 64)) ≡ p n
    by_size true e = let small : n < 2 ^ 64 = ltb-true n (2 ^ 64) e in let same : min n (2 ^ 64) ≡ n = omega arith in rw same refl
    by_size false e = let big : 2 ^ 64 ≤ n = ltb-false n (2 ^ 64) e in let same : min n (2 ^ 64) ≡ 2 ^ 64 = omega arith in rw same (far (2 ^ 64) (omega arith) ∙ sym (far n big))

above_leb : (n k : ℕ) → k < n → leb n k ≡ false
above_leb n k h = by_test (leb n k) refl
  where
    by_test : (b : Bool) → leb n k ≡ b → leb n k ≡ false
    by_test true e = let back : n ≤ k = leb-true n k e in absurd (omega arith)
    by_test false e = e

pub capped_most : (n k : ℕ) → k < 2 ^ 64 → leb (min n (2 ^ 64)) k ≡ leb n k
capped_most n k h = capped_test (λ m. leb m k) (λ m far. above_leb m k (omega arith)) n

pub capped_between : (low high n : ℕ) → high < 2 ^ 64 → is_from_to low high (min n (2 ^ 64)) ≡ is_from_to low high n
capped_between low high n h = capped_test (λ m. is_from_to low high m) (λ m far. rw (above_leb m high (omega arith)) (and_false (leb low m))) n
  where
    and_false : (b : Bool) → (b && false) ≡ false
    and_false true = refl
    and_false false = refl

pub capped_rises : (o : Option ℕ) (n : ℕ) → IfSome o (λ m. m ≤ 65535) → comes_after ltb o (min n (2 ^ 64)) ≡ comes_after ltb o n
capped_rises None n h = refl
capped_rises (Some m) n h = by_size (ltb n (2 ^ 64)) refl
  where
    by_size : (b : Bool) → ltb n (2 ^ 64) ≡ b → ltb m (min n (2 ^ 64)) ≡ ltb m n
    by_size true e = let small : n < 2 ^ 64 = ltb-true n (2 ^ 64) e in let same : min n (2 ^ 64) ≡ n = omega arith in rw same refl
    by_size false e = let big : 2 ^ 64 ≤ n = ltb-false n (2 ^ 64) e in let same : min n (2 ^ 64) ≡ 2 ^ 64 = omega arith in rw same (lt-ltb m (2 ^ 64) (omega arith) ∙ sym (lt-ltb m n (omega arith)))

pub place_rises_at : (i n m : ℕ) → i < 2 ^ 16 → m ≡ min n (2 ^ 64) → ltb i m ≡ ltb (number (decimal i)) n
place_rises_at i n m small e = let same = (numeral-decimal i (omega arith)).1 in rw (e, same) (by_size (ltb n (2 ^ 64)) refl)
  where
    by_size : (b : Bool) → ltb n (2 ^ 64) ≡ b → ltb i (min n (2 ^ 64)) ≡ ltb i n
    by_size true f = let below : n < 2 ^ 64 = ltb-true n (2 ^ 64) f in let same : min n (2 ^ 64) ≡ n = omega arith in rw same refl
    by_size false f = let big : 2 ^ 64 ≤ n = ltb-false n (2 ^ 64) f in let same : min n (2 ^ 64) ≡ 2 ^ 64 = omega arith in rw same (lt-ltb i (2 ^ 64) (omega arith) ∙ sym (lt-ltb i n (omega arith)))

pub spelled_again : (ds : List ℕ) (n k : ℕ) → is_numeral ds ≡ true → is_plain ds ≡ true → n ≡ min (number ds) (2 ^ 64) → leb (number ds) k ≡ true → k < 2 ^ 64 → decimal n ≡ ds
spelled_again ds n k digits plain e few small = let bound : number ds ≤ k = leb-true (number ds) k few in plain_value ds n digits plain e (omega arith)

pub function_then : (fs : List (List ℕ)) (f d r : List ℕ) (x y z : Bool) → Some (f, d, r) ≡ three_of fs → x ≡ is_numeral f → y ≡ is_numeral d → z ≡ (x && y) → z ≡ true → FunctionIs fs (Some (f, d, r))
function_then fs f d r x y z e g h i t = let inner = both_true x y (sym i ∙ t) in (sym g ∙ inner.0, sym h ∙ inner.1, function_yes fs f d r (sym e) (sym g ∙ inner.0) (sym h ∙ inner.1))

pub function_else : (fs : List (List ℕ)) (f d r : List ℕ) (x y z : Bool) → Some (f, d, r) ≡ three_of fs → x ≡ is_numeral f → y ≡ is_numeral d → z ≡ (x && y) → z ≡ false → function_in fs ≡ None
function_else fs f d r x y z e g h i t = function_no fs f d r (sym e) (ap (λ b. b && is_numeral d) (sym g) ∙ ap (λ b. x && b) (sym h) ∙ sym i ∙ t)

pub label_then : (fs rest : List (List ℕ)) (s b : List ℕ) (o : Option (List ℕ)) (x y z : Bool) → Some (s, rest) ≡ uncons fs → Some (b, fields_in o) ≡ uncons rest → x ≡ is_numeral s → y ≡ is_numeral b → z ≡ (x && y) → z ≡ true → LabelIs fs (Some (s, b, o))
label_then fs rest s b o x y z e f g h i t = let inner = both_true x y (sym i ∙ t) in
    (sym g ∙ inner.0, sym h ∙ inner.1, label_yes fs s b o (uncons_some fs s rest (sym e) ∙ ap (λ xs. s ∷ xs) (uncons_some rest b (fields_in o) (sym f))) (sym g ∙ inner.0) (sym h ∙ inner.1))

pub label_else : (fs rest : List (List ℕ)) (s b : List ℕ) (o : Option (List ℕ)) (x y z : Bool) → Some (s, rest) ≡ uncons fs → Some (b, fields_in o) ≡ uncons rest → x ≡ is_numeral s → y ≡ is_numeral b → z ≡ (x && y) → z ≡ false → label_in fs ≡ None
label_else fs rest s b o x y z e f g h i t = label_no fs s b o (uncons_some fs s rest (sym e) ∙ ap (λ xs. s ∷ xs) (uncons_some rest b (fields_in o) (sym f))) (ap (λ c. c && is_numeral b) (sym g) ∙ ap (λ c. x && c) (sym h) ∙ sym i ∙ t)

pub label_short : (fs rest : List (List ℕ)) (s : List ℕ) → Some (s, rest) ≡ uncons fs → None ≡ uncons rest → label_in fs ≡ None
label_short fs rest s e f = no_base fs s (uncons_some fs s rest (sym e) ∙ ap (λ xs. s ∷ xs) (uncons_none rest (sym f)))

pub entry_long : (name : List ℕ) (fs rest more : List (List ℕ)) (a b : List ℕ) → Some (a, rest) ≡ uncons fs → Some (b, more) ≡ uncons rest → entry_in name fs ≡ None
entry_long name fs rest more a b e f = long_entry name a b fs more (uncons_some fs a rest (sym e) ∙ ap (λ xs. a ∷ xs) (uncons_some rest b more (sym f)))

pub entry_then : (name : List ℕ) (fs rest : List (List ℕ)) (a : List ℕ) (p : PlaceText) → Some (a, rest) ≡ uncons fs → None ≡ uncons rest → Some p ≡ place_in name → EntryIs name fs (Some (p, a))
entry_then name fs rest a p e f g = entry_yes name a fs p (uncons_some fs a rest (sym e) ∙ ap (λ xs. a ∷ xs) (uncons_none rest (sym f))) (sym g)

pub entry_nowhere : (name : List ℕ) (fs rest : List (List ℕ)) (a : List ℕ) → Some (a, rest) ≡ uncons fs → None ≡ uncons rest → None ≡ place_in name → entry_in name fs ≡ None
entry_nowhere name fs rest a e f g = nowhere name a fs (uncons_some fs a rest (sym e) ∙ ap (λ xs. a ∷ xs) (uncons_none rest (sym f))) (sym g)
