-- What is found in each kind of line, behind the lines before it.
use Rattle.std.proofs.Common.{◌≡◌, ℕ, ◌^◌, ◌<◌, Bool, true, false, not, eqb, leb, ltb, List, ◌∷◌, length, Option, Some, None, Result, Ok, Err, refl, sym, ap, ◌∙◌, arith, min}
use Rattle.std.specs.Prelude.{◌&&◌, option_map, decimal, codes, count_by}
use Rattle.std.specs.List.{list_all, slice_split}
use Rattle.std.specs.Str.{bytes_eq}
use Rattle.bpf_cert.specs.Numeral.{is_plain, number, is_from_to}
use Rattle.bpf_cert.specs.Line.{Line, PlaceText, Number, Content, Term, Lengths}
use Rattle.bpf_cert.specs.Faults.{is_canonical, is_limited, comes_after, place_before, last_first, last_slot, is_function, ends_bare, is_canonical_number, is_limited_number, is_canonical_content, is_limited_content, is_plain_place, is_limited_place, is_limited_term}
use Rattle.bpf_cert.specs.Limits.{is_rising}
use Rattle.bpf_cert.specs.Reading.{number_in, content_in, header_in, function_in, label_in, entry_in, end_in, line_in, line_of_fields}
use Rattle.bpf_cert.specs.code.Findings.{tested, found, joined, valued}
use Rattle.bpf_cert.specs.code.TermSums.{terms_in, are_canonical_terms, are_limited_terms, is_plain_term, term_before}
use Rattle.bpf_cert.specs.Spelling.{spelled_place}
use Rattle.bpf_cert.specs.code.Standing.{Stands, HeaderIs, FunctionIs, LabelIs, EntryIs, stage_of, is_start, may_have_label, may_have_entry, ruled, fields_in, uncons}
use Rattle.bpf_cert.specs.code.Seen.{header_seen}
use Rattle.bpf_cert.specs.declared.header.HeaderForm.{HeaderForm}
use Rattle.bpf_cert.specs.declared.header.HeaderForm.TheVariants as header
use Rattle.bpf_cert.specs.declared.finding.PartFault.{PartFault}
use Rattle.bpf_cert.specs.declared.finding.PartFault.TheVariants.{Syntax}
use Rattle.bpf_cert.specs.declared.standing.Standing.{Standing}
use Rattle.bpf_cert.proofs.Bools.{both_true}
use Rattle.bpf_cert.proofs.NumLemmas.{tested_ok}
use Rattle.bpf_cert.proofs.FindingLemmas.{joined_ok, found_tested}
use Rattle.bpf_cert.proofs.StandingLemmas.{stand_header, stand_function, stand_label, stand_entry, stand_end, ruled_never, judged_line, capped_most, capped_between, capped_rises, spelled_again, uncons_none, uncons_some}

and_true : (b : Bool) → (b && true) ≡ b
and_true true = refl
and_true false = refl

pub header_never : (before : List Line) (fs : List (List ℕ)) (f : HeaderForm) (b : Bool) → HeaderIs (header_in fs) (Some (header_seen f)) → b ≡ is_start (stage_of before) → b ≡ false → Err Syntax ≡ ruled before (header_in fs)
header_never before fs f b form e g = rw form.1 (by_form f)
  where
    by_form : (f : HeaderForm) → Err Syntax ≡ ruled before (Some (header_seen f))
    by_form (header.One len steps) = rw (stand_header before (Lengths.one len.now) steps.now ∙ sym e ∙ g) refl
    by_form (header.Range least most steps) = rw (stand_header before (Lengths.range least.now most.now) steps.now ∙ sym e ∙ g) refl

pub header_ruled : (before : List Line) (fs : List (List ℕ)) (f : HeaderForm) (b : Bool) → HeaderIs (header_in fs) (Some (header_seen f)) → b ≡ is_start (stage_of before) → b ≡ true
    → found is_canonical is_limited (Some (header_seen f)) ≡ ruled before (header_in fs)
header_ruled before fs f b form e g = rw form.1 (by_form f)
  where
    by_lengths : (l : Lengths) (s : List ℕ) → found is_canonical is_limited (Some (Line.header l s)) ≡ ruled before (Some (Line.header l s))
    by_lengths l s = rw (stand_header before l s ∙ sym e ∙ g, and_true (is_canonical (Line.header l s)), and_true (is_limited (Line.header l s))) refl

    by_form : (f : HeaderForm) → found is_canonical is_limited (Some (header_seen f)) ≡ ruled before (Some (header_seen f))
    by_form (header.One len steps) = by_lengths (Lengths.one len.now) steps.now
    by_form (header.Range least most steps) = by_lengths (Lengths.range least.now most.now) steps.now

-- what is computed of a function's own fields
pub record FunctionFacts (before : List Line) (s : Standing) (fs : List (List ℕ)) (first depth text : List ℕ) (slot deep : ℕ) (plain rise canonical mid limited room all : Bool) (own : Result (Unit {0}) PartFault) : Type 0 where
  pub stands : Stands before s
  pub form : FunctionIs fs (Some (first, depth, text))
  pub slot_is : slot ≡ min (number first) (2 ^ 64)
  pub deep_is : deep ≡ min (number depth) (2 ^ 64)
  pub plain_is : plain ≡ (is_plain first && is_plain depth)
  pub rise_is : rise ≡ comes_after ltb s.first slot
  pub canonical_is : canonical ≡ (plain && rise)
  pub mid_is : mid ≡ is_from_to 1 8 deep
  pub limited_is : limited ≡ (leb slot 65535 && mid)
  pub room_is : room ≡ (ltb (count_by is_function before) 256 && not (ends_bare before))
  pub all_is : all ≡ (limited && room)
  pub own_is : own ≡ tested canonical all

function_slot : (before : List Line) (s : Standing) (first : List ℕ) (slot : ℕ) (rise : Bool) → Stands before s → slot ≡ min (number first) (2 ^ 64) → rise ≡ comes_after ltb s.first slot → rise ≡ comes_after ltb (last_first before) (number first)
function_slot before s first slot rise st e f = f ∙ ap (comes_after ltb s.first) e ∙ capped_rises s.first (number first) st.low_first ∙ ap (λ o. comes_after ltb o (number first)) st.first

low_same : (ds : List ℕ) (n k : ℕ) → n ≡ min (number ds) (2 ^ 64) → k < 2 ^ 64 → leb n k ≡ leb (number ds) k
low_same ds n k e small = ap (λ m. leb m k) e ∙ capped_most (number ds) k small

between_same : (low high : ℕ) (ds : List ℕ) (n : ℕ) → n ≡ min (number ds) (2 ^ 64) → high < 2 ^ 64 → is_from_to low high n ≡ is_from_to low high (number ds)
between_same low high ds n e small = ap (is_from_to low high) e ∙ capped_between low high (number ds) small

swap_last : (a b c : Bool) → ((a && b) && c) ≡ ((a && c) && b)
swap_last true true true = refl
swap_last true true false = refl
swap_last true false true = refl
swap_last true false false = refl
swap_last false b c = refl

pub function_found : {V : Type 0} (before : List Line) (s : Standing) (fs : List (List ℕ)) (first depth text : List ℕ) (slot deep : ℕ) (plain rise canonical mid limited room all : Bool) (own : Result (Unit {0}) PartFault)
    (spell : V → Number) (r j : Result V PartFault) (b : Bool) → FunctionFacts before s fs first depth text slot deep plain rise canonical mid limited room all own → b ≡ is_start (stage_of before) → b ≡ false
    → valued spell r ≡ found is_canonical_number is_limited_number (number_in text) → j ≡ joined own r → valued (Line.function first depth) (valued spell j) ≡ ruled before (function_in fs)
function_found before s fs first depth text slot deep plain rise canonical mid limited room all own spell r j b f e g value h =
    judged_line before is_canonical_number is_limited_number canonical all (Line.function first depth) spell (number_in text) r j own (function_in fs) (f.form.2)
    (λ n. stand_function before first depth n ∙ ap not (sym e ∙ g))
    (λ n. ap (λ x. ((is_plain first && is_plain depth) && is_canonical_number n) && x) (sym (function_slot before s first slot rise f.stands f.slot_is f.rise_is))
    ∙ ap (λ x. (x && is_canonical_number n) && rise) (sym f.plain_is) ∙ swap_last plain (is_canonical_number n) rise ∙ ap (λ x. x && is_canonical_number n) (sym f.canonical_is))
    (λ n. ap (λ x. ((leb (number first) 65535 && is_from_to 1 8 (number depth)) && is_limited_number n) && x) (sym f.room_is)
    ∙ swap_last (leb (number first) 65535 && is_from_to 1 8 (number depth)) (is_limited_number n) room
    ∙ ap (λ x. ((x && is_from_to 1 8 (number depth)) && room) && is_limited_number n) (sym (low_same first slot 65535 f.slot_is (omega arith)))
    ∙ ap (λ x. ((leb slot 65535 && x) && room) && is_limited_number n) (sym (between_same 1 8 depth deep f.deep_is (omega arith)) ∙ sym f.mid_is)
    ∙ ap (λ x. (x && room) && is_limited_number n) (sym f.limited_is) ∙ ap (λ x. x && is_limited_number n) (sym f.all_is))
    f.own_is value h

pub function_spelled : {V : Type 0} (before : List Line) (s : Standing) (fs : List (List ℕ)) (first depth text : List ℕ) (slot deep : ℕ) (plain rise canonical mid limited room all : Bool) (own : Result (Unit {0}) PartFault)
    (r : Result V PartFault) (v : V) → FunctionFacts before s fs first depth text slot deep plain rise canonical mid limited room all own → Ok v ≡ joined own r → (decimal slot ≡ first) × (decimal deep ≡ depth)
function_spelled before s fs first depth text slot deep plain rise canonical mid limited room all own r v f h =
    let t = tested_ok canonical all tt (sym f.own_is ∙ (joined_ok own r v (sym h)).0) in
    let plains = both_true (is_plain first) (is_plain depth) (sym f.plain_is ∙ (both_true plain rise (sym f.canonical_is ∙ t.0)).0) in
    let limits = both_true (leb slot 65535) mid (sym f.limited_is ∙ (both_true limited room (sym f.all_is ∙ t.1)).0) in
    let low_is : leb (number first) 65535 ≡ true = sym (low_same first slot 65535 f.slot_is (omega arith)) ∙ limits.0 in
    let range : is_from_to 1 8 (number depth) ≡ true = sym (between_same 1 8 depth deep f.deep_is (omega arith)) ∙ sym f.mid_is ∙ limits.1 in
    let ends = both_true (leb 1 (number depth)) (leb (number depth) 8) range in
    (spelled_again first slot 65535 f.form.0 plains.0 f.slot_is low_is (omega arith), spelled_again depth deep 8 f.form.1 plains.1 f.deep_is ends.1 (omega arith))

pub function_never : (before : List Line) (fs : List (List ℕ)) (first depth text : List ℕ) (b : Bool) → FunctionIs fs (Some (first, depth, text)) → b ≡ is_start (stage_of before) → b ≡ true → Err Syntax ≡ ruled before (function_in fs)
function_never before fs first depth text b form e f = ruled_never before (Line.function first depth) (number_in text) (λ n. stand_function before first depth n ∙ ap not (sym e ∙ f)) ∙ ap (ruled before) (sym form.2)

-- what is computed of a label's own fields
pub record LabelFacts (before : List Line) (s : Standing) (fs : List (List ℕ)) (at base : List ℕ) (text : Option (List ℕ)) (slot most : ℕ) (plain rise canonical limited all : Bool) (own : Result (Unit {0}) PartFault) : Type 0 where
  pub stands : Stands before s
  pub form : LabelIs fs (Some (at, base, text))
  pub slot_is : slot ≡ min (number at) (2 ^ 64)
  pub most_is : most ≡ min (number base) (2 ^ 64)
  pub plain_is : plain ≡ (is_plain at && is_plain base)
  pub rise_is : rise ≡ comes_after ltb s.slot slot
  pub canonical_is : canonical ≡ (plain && rise)
  pub limited_is : limited ≡ (leb slot 65535 && leb most (2 ^ 40))
  pub all_is : all ≡ (limited && ltb s.labels 65536)
  pub own_is : own ≡ tested canonical all

label_slot : (before : List Line) (s : Standing) (at : List ℕ) (slot : ℕ) (rise : Bool) → Stands before s → slot ≡ min (number at) (2 ^ 64) → rise ≡ comes_after ltb s.slot slot → rise ≡ comes_after ltb (last_slot before) (number at)
label_slot before s at slot rise st e f = f ∙ ap (comes_after ltb s.slot) e ∙ capped_rises s.slot (number at) st.low_slot ∙ ap (λ o. comes_after ltb o (number at)) st.slot

four_canonical : (p q r o : Bool) → (((p && q) && r) && o) ≡ ((p && o) && (q && r))
four_canonical true true true true = refl
four_canonical true true true false = refl
four_canonical true true false true = refl
four_canonical true true false false = refl
four_canonical true false r true = refl
four_canonical true false r false = refl
four_canonical false q r o = refl

pub label_found : {V : Type 0} (before : List Line) (s : Standing) (fs : List (List ℕ)) (at base : List ℕ) (text : Option (List ℕ)) (slot most : ℕ) (plain rise canonical limited all : Bool) (own : Result (Unit {0}) PartFault)
    (spell : V → List Term) (r j : Result V PartFault) (b : Bool) → LabelFacts before s fs at base text slot most plain rise canonical limited all own → b ≡ may_have_label (stage_of before) → b ≡ true
    → valued spell r ≡ found are_canonical_terms are_limited_terms (terms_in text) → j ≡ joined own r → valued (Line.label at base) (valued spell j) ≡ ruled before (label_in fs)
label_found before s fs at base text slot most plain rise canonical limited all own spell r j b f e g value h =
    judged_line before are_canonical_terms are_limited_terms canonical all (Line.label at base) spell (terms_in text) r j own (label_in fs) (f.form.2)
    (λ ts. stand_label before at base ts ∙ sym e ∙ g)
    (λ ts. ap (λ x. (((is_plain at && is_plain base) && list_all is_plain_term ts) && is_rising term_before ts) && x) (sym (label_slot before s at slot rise f.stands f.slot_is f.rise_is))
    ∙ ap (λ x. ((x && list_all is_plain_term ts) && is_rising term_before ts) && rise) (sym f.plain_is) ∙ four_canonical plain (list_all is_plain_term ts) (is_rising term_before ts) rise ∙ ap (λ x. x && are_canonical_terms ts) (sym f.canonical_is))
    (λ ts. ap (λ x. (((leb (number at) 65535 && leb (number base) (2 ^ 40)) && leb (length ts) 4) && list_all is_limited_term ts) && ltb x 65536) (sym f.stands.labels)
    ∙ four_canonical (leb (number at) 65535 && leb (number base) (2 ^ 40)) (leb (length ts) 4) (list_all is_limited_term ts) (ltb s.labels 65536)
    ∙ ap (λ x. ((x && leb (number base) (2 ^ 40)) && ltb s.labels 65536) && are_limited_terms ts) (sym (low_same at slot 65535 f.slot_is (omega arith)))
    ∙ ap (λ x. ((leb slot 65535 && x) && ltb s.labels 65536) && are_limited_terms ts) (sym (low_same base most (2 ^ 40) f.most_is (omega arith)))
    ∙ ap (λ x. (x && ltb s.labels 65536) && are_limited_terms ts) (sym f.limited_is) ∙ ap (λ x. x && are_limited_terms ts) (sym f.all_is))
    f.own_is value h

pub label_spelled : {V : Type 0} (before : List Line) (s : Standing) (fs : List (List ℕ)) (at base : List ℕ) (text : Option (List ℕ)) (slot most : ℕ) (plain rise canonical limited all : Bool) (own : Result (Unit {0}) PartFault)
    (r : Result V PartFault) (v : V) → LabelFacts before s fs at base text slot most plain rise canonical limited all own → Ok v ≡ joined own r → (decimal slot ≡ at) × (decimal most ≡ base)
label_spelled before s fs at base text slot most plain rise canonical limited all own r v f h =
    let t = tested_ok canonical all tt (sym f.own_is ∙ (joined_ok own r v (sym h)).0) in
    let plains = both_true (is_plain at) (is_plain base) (sym f.plain_is ∙ (both_true plain rise (sym f.canonical_is ∙ t.0)).0) in
    let limits = both_true (leb slot 65535) (leb most (2 ^ 40)) (sym f.limited_is ∙ (both_true limited (ltb s.labels 65536) (sym f.all_is ∙ t.1)).0) in
    let low_is : leb (number at) 65535 ≡ true = sym (low_same at slot 65535 f.slot_is (omega arith)) ∙ limits.0 in
    let base_is : leb (number base) (2 ^ 40) ≡ true = sym (low_same base most (2 ^ 40) f.most_is (omega arith)) ∙ limits.1 in
    (spelled_again at slot 65535 f.form.0 plains.0 f.slot_is low_is (omega arith), spelled_again base most (2 ^ 40) f.form.1 plains.1 f.most_is base_is (omega arith))

pub label_never : (before : List Line) (fs : List (List ℕ)) (at base : List ℕ) (text : Option (List ℕ)) (b : Bool) → LabelIs fs (Some (at, base, text)) → b ≡ may_have_label (stage_of before) → b ≡ false → Err Syntax ≡ ruled before (label_in fs)
label_never before fs at base text b form e f = ruled_never before (Line.label at base) (terms_in text) (λ ts. stand_label before at base ts ∙ sym e ∙ f) ∙ ap (ruled before) (sym form.2)

-- what is computed of an entry's place
pub record EntryFacts (before : List Line) (s : Standing) (name : List ℕ) (fs : List (List ℕ)) (p : PlaceText) (text : List ℕ) (plain rise canonical limited : Bool) (own : Result (Unit {0}) PartFault) : Type 0 where
  pub stands : Stands before s
  pub form : EntryIs name fs (Some (p, text))
  pub plain_is : plain ≡ is_plain_place p
  pub rise_is : rise ≡ comes_after place_before (option_map spelled_place s.place) p
  pub canonical_is : canonical ≡ (plain && rise)
  pub limited_is : limited ≡ is_limited_place p
  pub own_is : own ≡ tested canonical limited

pub entry_found : {V : Type 0} (before : List Line) (s : Standing) (name : List ℕ) (fs : List (List ℕ)) (p : PlaceText) (text : List ℕ) (plain rise canonical limited : Bool) (own : Result (Unit {0}) PartFault)
    (spell : V → Content) (r j : Result V PartFault) (b : Bool) → EntryFacts before s name fs p text plain rise canonical limited own → b ≡ may_have_entry (stage_of before) → b ≡ true
    → valued spell r ≡ found is_canonical_content is_limited_content (content_in p text) → j ≡ joined own r → valued (Line.entry p) (valued spell j) ≡ ruled before (entry_in name fs)
entry_found before s name fs p text plain rise canonical limited own spell r j b f e g value h =
    judged_line before is_canonical_content is_limited_content canonical limited (Line.entry p) spell (content_in p text) r j own (entry_in name fs) (f.form.1)
    (λ c. stand_entry before p c ∙ sym e ∙ g)
    (λ c. ap (λ x. (is_plain_place p && is_canonical_content c) && x) (ap (λ o. comes_after place_before o p) (sym f.stands.place) ∙ sym f.rise_is)
    ∙ ap (λ x. (x && is_canonical_content c) && rise) (sym f.plain_is) ∙ swap_last plain (is_canonical_content c) rise ∙ ap (λ x. x && is_canonical_content c) (sym f.canonical_is))
    (λ c. and_true (is_limited_place p && is_limited_content c) ∙ ap (λ x. x && is_limited_content c) (sym f.limited_is))
    f.own_is value h

pub entry_plain : {V : Type 0} (before : List Line) (s : Standing) (name : List ℕ) (fs : List (List ℕ)) (p : PlaceText) (text : List ℕ) (plain rise canonical limited : Bool) (own : Result (Unit {0}) PartFault)
    (r : Result V PartFault) (v : V) → own ≡ tested canonical limited → canonical ≡ (plain && rise) → plain ≡ is_plain_place p → limited ≡ is_limited_place p → Ok v ≡ joined own r → (is_plain_place p ≡ true) × (is_limited_place p ≡ true)
entry_plain before s name fs p text plain rise canonical limited own r v o c q l h =
    let t = tested_ok canonical limited tt (sym o ∙ (joined_ok own r v (sym h)).0) in (sym q ∙ (both_true plain rise (sym c ∙ t.0)).0, sym l ∙ t.1)

pub entry_never : (before : List Line) (name : List ℕ) (fs : List (List ℕ)) (p : PlaceText) (text : List ℕ) (b : Bool) → EntryIs name fs (Some (p, text)) → b ≡ may_have_entry (stage_of before) → b ≡ false → Err Syntax ≡ ruled before (entry_in name fs)
entry_never before name fs p text b form e f = ruled_never before (Line.entry p) (content_in p text) (λ c. stand_entry before p c ∙ sym e ∙ f) ∙ ap (ruled before) (sym form.1)

pub end_none : (before : List Line) (fs more : List (List ℕ)) (f : List ℕ) → Some (f, more) ≡ uncons fs → Err Syntax ≡ ruled before (end_in fs)
unfolding end_in
end_none before fs more f e = rw (uncons_some fs f more (sym e)) refl

pub end_never : (before : List Line) (fs : List (List ℕ)) (b : Bool) → None ≡ uncons fs → b ≡ is_start (stage_of before) → b ≡ true → Err Syntax ≡ ruled before (end_in fs)
unfolding end_in
end_never before fs b e f g = rw (uncons_none fs (sym e), stand_end before ∙ ap not (sym f ∙ g)) refl

pub end_found : (before : List Line) (fs : List (List ℕ)) (b m : Bool) → None ≡ uncons fs → b ≡ is_start (stage_of before) → b ≡ false → m ≡ (ltb 0 (count_by is_function before) && not (ends_bare before))
    → valued (λ (u : Unit {0}). Line.end) (tested true m) ≡ ruled before (end_in fs)
unfolding end_in
end_found before fs b m e f g h = rw (uncons_none fs (sym e), stand_end before ∙ ap not (sym f ∙ g)) (sym (found_tested true (ltb 0 (count_by is_function before) && not (ends_bare before)) Line.end ∙ ap (λ x. valued (λ (u : Unit {0}). Line.end) (tested true x)) (sym h)))

-- a line by its first field
pub line_by : (text name : List ℕ) (fs : List (List ℕ)) → Some (name, fs) ≡ uncons (fields_in (Some text)) → line_in text ≡ line_of_fields (name ∷ fs)
unfolding line_in
line_by text name fs e = ap line_of_fields (uncons_some (slice_split (λ c. eqb c 32) text) name fs (sym e))

pub line_none : (text : List ℕ) → None ≡ uncons (fields_in (Some text)) → line_in text ≡ None
unfolding line_in line_of_fields
line_none text e = ap line_of_fields (uncons_none (slice_split (λ c. eqb c 32) text) (sym e))

pub by_header : (name : List ℕ) (fs : List (List ℕ)) → bytes_eq name (codes "bpfcert") ≡ true → line_of_fields (name ∷ fs) ≡ header_in fs
unfolding line_of_fields
by_header name fs e = rw e refl

pub by_function : (name : List ℕ) (fs : List (List ℕ)) → bytes_eq name (codes "bpfcert") ≡ false → bytes_eq name (codes "fn") ≡ true → line_of_fields (name ∷ fs) ≡ function_in fs
unfolding line_of_fields
by_function name fs e f = rw (e, f) refl

pub by_label : (name : List ℕ) (fs : List (List ℕ)) → bytes_eq name (codes "bpfcert") ≡ false → bytes_eq name (codes "fn") ≡ false → bytes_eq name (codes "at") ≡ true → line_of_fields (name ∷ fs) ≡ label_in fs
unfolding line_of_fields
by_label name fs e f g = rw (e, f, g) refl

pub by_end : (name : List ℕ) (fs : List (List ℕ)) → bytes_eq name (codes "bpfcert") ≡ false → bytes_eq name (codes "fn") ≡ false → bytes_eq name (codes "at") ≡ false → bytes_eq name (codes "end") ≡ true → line_of_fields (name ∷ fs) ≡ end_in fs
unfolding line_of_fields
by_end name fs e f g h = rw (e, f, g, h) refl

pub by_entry : (name : List ℕ) (fs : List (List ℕ)) → bytes_eq name (codes "bpfcert") ≡ false → bytes_eq name (codes "fn") ≡ false → bytes_eq name (codes "at") ≡ false → bytes_eq name (codes "end") ≡ false → line_of_fields (name ∷ fs) ≡ entry_in name fs
unfolding line_of_fields
by_entry name fs e f g h = rw (e, f, g, h) refl
