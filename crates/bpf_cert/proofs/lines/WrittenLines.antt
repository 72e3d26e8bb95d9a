-- The lines of a certificate can be read again from their texts.
use Rattle.std.proofs.Common.{◌≡◌, ℕ, zero, suc, ◌+◌, ◌-◌, ◌*◌, ◌^◌, ◌<◌, ◌≤◌, Bool, true, false, cond, eqb, leb, ltb, List, [], ◌∷◌, ◌++◌, length, map, take, flat_map, refl, arith, subst, ⊎_elim, sym}
use Rattle.std.specs.Prelude.{◌&&◌, decimal, codes, sum_by}
use Rattle.std.specs.List.{list_all, join_with_byte}
use Rattle.std.proofs.lemmas.Bool.{leb-true, lt-ltb, eqb-true, le-ltb}
use Rattle.std.proofs.lemmas.List.{length-map, length-take-le}
use Rattle.bpf_cert.specs.Numeral.{is_from_to}
use Rattle.bpf_cert.specs.Line.{Line, Lengths, PlaceText, place_text, content_text, number_text, term_text}
use Rattle.bpf_cert.specs.Spelling.{number_of, content_of, term_of, place_at, is_unknown, entry_lines, lines_from, contents, header_line, label_line, label_lines, function_lines, certificate_lines}
use Rattle.bpf_cert.specs.View.{LabelView, FunctionView, CertificateView, header_of}
use Rattle.bpf_cert.specs.Limits.{is_canonical, is_limited, is_limited_header, is_limited_num, is_limited_register, is_limited_slot, is_limited_state, is_limited_term, is_limited_label, is_limited_function, has_shape, label_count, IsCertificate}
use Rattle.bpf_state.specs.State.{AbstractState, value_slot}
use Rattle.bpf_state.specs.declared.known.RegState.{RegState}
use Rattle.bpf_state.specs.declared.known.RegState.TheVariants as reg
use Rattle.bpf_state.specs.declared.known.SlotState.{SlotState}
use Rattle.bpf_state.specs.declared.known.SlotState.TheVariants as slot
use Rattle.bpf_cert.proofs.Bools.{both_true}
use Rattle.bpf_cert.specs.declared.header.Header.{Header}
use Rattle.bpf_cert.proofs.HeaderValues.{header_facts, versions, lengths_one, lengths_two}
use Rattle.bpf_cert.proofs.fine.FineLines.{IsWritten, AreWritten}
use Rattle.bpf_cert.proofs.lines.WrittenTexts.{both, fits_more, fits_append, fits_word, joined_fits, decimal_short, number_short, IsPlaceShort, register_short, slot_short, terms_form, terms_fit, IsContentShort, word_short, pointer_short, bytes_short}

-- lists of lines

written_append : (ls ms : List Line) → AreWritten ls → AreWritten ms → AreWritten (ls ++ ms)
written_append [] ms v w = w
written_append (l ∷ ls) ms v w = (v.0, written_append ls ms v.1 w)

written_all : {A : Type 0} (p : A → Bool) (lines : A → List Line) (xs : List A) → ((x : A) → p x ≡ true → AreWritten (lines x)) → list_all p xs ≡ true → AreWritten (flat_map lines xs)
written_all p lines [] f e = tt
written_all p lines (x ∷ xs) f e = let parts = both_true (p x) (list_all p xs) e in written_append (lines x) (flat_map lines xs) (f x parts.0) (written_all p lines xs f parts.1)

-- entries

entry_written : (p : PlaceText) (s : SlotState) → IsPlaceShort p → IsContentShort p (content_of s) → IsWritten (Line.entry p (content_of s))
entry_written p s q c =
    let fits = fits_append 3 138 (place_text p) (32 ∷ content_text (content_of s)) q.fits (fits_append 1 137 (32 ∷ []) (content_text (content_of s)) (fits_word (32 ∷ []) refl) c.fits) in
    let short = fits.short in
    record { form = both q.form c.form; short = omega arith; one_line = fits.one_line }

at_register : (j : ℕ) → j < 10 → place_at j ≡ PlaceText.register (decimal j)
at_register j low = rw (lt-ltb j 10 low) refl

at_slot : (j : ℕ) → 10 ≤ j → place_at j ≡ PlaceText.slot (decimal (j - 9))
at_slot j high = rw (le-ltb j 10 high) refl

register_entry : (j : ℕ) (r : RegState) → j < 10 → is_limited_register r ≡ true → AreWritten (entry_lines (place_at j) (value_slot r))
register_entry j reg.Any low e = tt
register_entry j (reg.Num n) low e = rw (at_register j low) (entry_written (PlaceText.register (decimal j)) (slot.Word n) (register_short j (omega arith)) (word_short (PlaceText.register (decimal j)) n e), tt)
register_entry j (reg.Ptr q) low e = rw (at_register j low) (entry_written (PlaceText.register (decimal j)) (slot.Spilled q) (register_short j (omega arith)) (pointer_short (PlaceText.register (decimal j)) q e), tt)

slot_content : (k : List ℕ) (s : SlotState) → is_limited_slot s ≡ true → IsContentShort (PlaceText.slot k) (content_of s)
slot_content k (slot.Bytes m) e = bytes_short k m e
slot_content k (slot.Word n) e = word_short (PlaceText.slot k) n e
slot_content k (slot.Spilled q) e = pointer_short (PlaceText.slot k) q e

unless_unknown : (b : Bool) (l : Line) → IsWritten l → AreWritten (cond b [] (l ∷ []))
unless_unknown true l w = tt
unless_unknown false l w = (w, tt)

slot_entry : (j : ℕ) (s : SlotState) → 10 ≤ j → j < 74 → is_limited_slot s ≡ true → AreWritten (entry_lines (place_at j) s)
slot_entry j s high low e = rw (at_slot j high)
    (unless_unknown (is_unknown s) (Line.entry (PlaceText.slot (decimal (j - 9))) (content_of s)) (entry_written (PlaceText.slot (decimal (j - 9))) s (slot_short (j - 9) (omega arith)) (slot_content (decimal (j - 9)) s e)))

slots_written : (j : ℕ) (ss : List SlotState) → 10 ≤ j → j + length ss ≤ 74 → list_all is_limited_slot ss ≡ true → AreWritten (lines_from j ss)
slots_written j [] high low e = tt
slots_written j (s ∷ ss) high low e = let parts = both_true (is_limited_slot s) (list_all is_limited_slot ss) e in
    written_append (entry_lines (place_at j) s) (lines_from (j + 1) ss) (slot_entry j s high (omega arith) parts.0) (slots_written (j + 1) ss (omega arith) (omega arith) parts.1)

places_written : (j : ℕ) (rs : List RegState) (ss : List SlotState) → j + length rs ≡ 10 → length ss ≡ 64 → list_all is_limited_register rs ≡ true → list_all is_limited_slot ss ≡ true
    → AreWritten (lines_from j (map value_slot rs ++ ss))
places_written j [] ss ten all e f = slots_written j ss (omega arith) (omega arith) f
places_written j (r ∷ rs) ss ten all e f = let parts = both_true (is_limited_register r) (list_all is_limited_register rs) e in
    written_append (entry_lines (place_at j) (value_slot r)) (lines_from (j + 1) (map value_slot rs ++ ss)) (register_entry j r (omega arith) parts.0) (places_written (j + 1) rs ss (omega arith) all parts.1 f)

all_of_taken : {A : Type 0} (p : A → Bool) (n : ℕ) (xs : List A) → list_all p xs ≡ true → list_all p (take n xs) ≡ true
all_of_taken p zero xs e = refl
all_of_taken p (suc n) [] e = refl
all_of_taken p (suc n) (x ∷ xs) e = let parts = both_true (p x) (list_all p xs) e in both parts.0 (all_of_taken p n xs parts.1)

state_written : (s : AbstractState) → is_limited_state s ≡ true → AreWritten (lines_from 0 (contents s))
state_written s e =
    let most = both_true (has_shape s && list_all is_limited_register s.registers) (list_all is_limited_slot s.slots) e in
    let first = both_true (has_shape s) (list_all is_limited_register s.registers) most.0 in
    let three = both_true (eqb (length s.registers) 11 && eqb (length s.slots) 64 && eqb (length s.register_tags) 11) (eqb (length s.slot_tags) 64) first.0 in
    let two = both_true (eqb (length s.registers) 11 && eqb (length s.slots) 64) (eqb (length s.register_tags) 11) three.0 in
    let one = both_true (eqb (length s.registers) 11) (eqb (length s.slots) 64) two.0 in
    let eleven : length s.registers ≡ 11 = eqb-true (length s.registers) 11 one.0 in
    let all : length s.slots ≡ 64 = eqb-true (length s.slots) 64 one.1 in
    places_written 0 (take 10 s.registers) s.slots (omega (arith, length-take-le 10 s.registers (omega arith))) all (all_of_taken is_limited_register 10 s.registers first.1) most.1

-- labels, functions, the whole

label_line_written : (l : LabelView) → is_limited_label l ≡ true → IsWritten (label_line l)
label_line_written l e =
    let terms = both_true (leb l.slot 65535 && is_limited_state l.state && leb l.base (2 ^ 40) && leb (length l.terms) 4) (list_all is_limited_term l.terms) e in
    let count = both_true (leb l.slot 65535 && is_limited_state l.state && leb l.base (2 ^ 40)) (leb (length l.terms) 4) terms.0 in
    let bases = both_true (leb l.slot 65535 && is_limited_state l.state) (leb l.base (2 ^ 40)) count.0 in
    let slots = both_true (leb l.slot 65535) (is_limited_state l.state) bases.0 in
    let few : length l.terms ≤ 4 = leb-true (length l.terms) 4 count.1 in
    let low_slot = leb-true l.slot 65535 slots.0 in
    let low_base = leb-true l.base (2 ^ 40) bases.1 in
    let at = decimal_short l.slot (omega arith) in
    let base = decimal_short l.base (omega arith) in
    let texts = map term_text (map term_of l.terms) in
    let count_is = length-map (map term_of l.terms) term_text in
    let count_was = length-map l.terms term_of in
    let joined = join_with_byte 32 (decimal l.base ∷ texts) in
    let rest = fits_more (20 + length texts * (1 + 48)) 216 joined (omega arith) (joined_fits 32 20 48 (decimal l.base) texts refl base.fits (terms_fit l.terms terms.1)) in
    let fits = fits_append 3 237 (codes "at ") (decimal l.slot ++ 32 ∷ joined) (fits_word (codes "at ") refl)
    (fits_append 20 217 (decimal l.slot) (32 ∷ joined) at.fits (fits_append 1 216 (32 ∷ []) joined (fits_word (32 ∷ []) refl) rest)) in
    let short = fits.short in
    record { form = both (both at.form base.form) (terms_form l.terms terms.1); short = omega arith; one_line = fits.one_line }

label_written : (l : LabelView) → is_limited_label l ≡ true → AreWritten (label_lines l)
label_written l e =
    let terms = both_true (leb l.slot 65535 && is_limited_state l.state && leb l.base (2 ^ 40) && leb (length l.terms) 4) (list_all is_limited_term l.terms) e in
    let count = both_true (leb l.slot 65535 && is_limited_state l.state && leb l.base (2 ^ 40)) (leb (length l.terms) 4) terms.0 in
    let bases = both_true (leb l.slot 65535 && is_limited_state l.state) (leb l.base (2 ^ 40)) count.0 in
    let slots = both_true (leb l.slot 65535) (is_limited_state l.state) bases.0 in
    (label_line_written l e, state_written l.state slots.1)

function_written : (f : FunctionView) → is_limited_function f ≡ true → AreWritten (function_lines f)
function_written f e =
    let labels = both_true (leb f.first 65535 && is_from_to 1 8 f.depth && is_limited_num f.ret && ltb 0 (length f.labels)) (list_all is_limited_label f.labels) e in
    let some = both_true (leb f.first 65535 && is_from_to 1 8 f.depth && is_limited_num f.ret) (ltb 0 (length f.labels)) labels.0 in
    let rets = both_true (leb f.first 65535 && is_from_to 1 8 f.depth) (is_limited_num f.ret) some.0 in
    let depths = both_true (leb f.first 65535) (is_from_to 1 8 f.depth) rets.0 in
    let ends = both_true (leb 1 f.depth) (leb f.depth 8) depths.1 in
    let low_first = leb-true f.first 65535 depths.0 in
    let low_depth = leb-true f.depth 8 ends.1 in
    let first = decimal_short f.first (omega arith) in
    let depth = decimal_short f.depth (omega arith) in
    let ret = number_short f.ret rets.1 in
    let text = number_text (number_of f.ret) in
    let fits = fits_append 3 179 (codes "fn ") (decimal f.first ++ 32 ∷ (decimal f.depth ++ 32 ∷ text)) (fits_word (codes "fn ") refl)
    (fits_append 20 159 (decimal f.first) (32 ∷ (decimal f.depth ++ 32 ∷ text)) first.fits
    (fits_append 1 158 (32 ∷ []) (decimal f.depth ++ 32 ∷ text) (fits_word (32 ∷ []) refl)
    (fits_append 20 138 (decimal f.depth) (32 ∷ text) depth.fits (fits_append 1 137 (32 ∷ []) text (fits_word (32 ∷ []) refl) ret.fits)))) in
    let short = fits.short in
    (record { form = both (both first.form depth.form) ret.form; short = omega arith; one_line = fits.one_line }, written_all is_limited_label label_lines f.labels label_written labels.1)

one_written : (len steps : ℕ) → len < 2 ^ 64 → steps < 2 ^ 64 → IsWritten (Line.header (Lengths.one (decimal len)) (decimal steps))
one_written len steps low few =
    let first = decimal_short len low in
    let second = decimal_short steps few in
    let fits = fits_append 10 41 (codes "bpfcert 1 ") (decimal len ++ 32 ∷ decimal steps) (fits_word (codes "bpfcert 1 ") refl)
    (fits_append 20 21 (decimal len) (32 ∷ decimal steps) first.fits (fits_append 1 20 (32 ∷ []) (decimal steps) (fits_word (32 ∷ []) refl) second.fits)) in
    let short = fits.short in
    record { form = both first.form second.form; short = omega arith; one_line = fits.one_line }

range_written : (least most steps : ℕ) → least < 2 ^ 64 → most < 2 ^ 64 → steps < 2 ^ 64 → IsWritten (Line.header (Lengths.range (decimal least) (decimal most)) (decimal steps))
range_written least most steps low high few =
    let first = decimal_short least low in
    let second = decimal_short most high in
    let third = decimal_short steps few in
    let rest = decimal most ++ 32 ∷ decimal steps in
    let fits = fits_append 10 62 (codes "bpfcert 2 ") (decimal least ++ 32 ∷ rest) (fits_word (codes "bpfcert 2 ") refl)
    (fits_append 20 42 (decimal least) (32 ∷ rest) first.fits (fits_append 1 41 (32 ∷ []) rest (fits_word (32 ∷ []) refl)
    (fits_append 20 21 (decimal most) (32 ∷ decimal steps) second.fits (fits_append 1 20 (32 ∷ []) (decimal steps) (fits_word (32 ∷ []) refl) third.fits)))) in
    let short = fits.short in
    record { form = both (both first.form second.form) third.form; short = omega arith; one_line = fits.one_line }

header_written : (h : Header) → is_limited_header h ≡ true → IsWritten (header_line h)
header_written h e =
    let facts = header_facts h e in
    let order = facts.order in let short = facts.short in let few = facts.few in
    ⊎_elim (λ p. subst (λ l. IsWritten (Line.header l (decimal h.steps))) (sym (lengths_one h.version h.least h.most p.0)) (one_written h.least h.steps (omega arith) (omega arith)))
    (λ p. subst (λ l. IsWritten (Line.header l (decimal h.steps))) (sym (lengths_two h.version h.least h.most p)) (range_written h.least h.most h.steps (omega arith) (omega arith) (omega arith)))
    (versions h.version h.least h.most facts.version)

end_written : IsWritten Line.end
end_written = let fits = fits_word (codes "end") refl in record { form = refl; short = omega arith; one_line = fits.one_line }

pub certificate_written : (c : CertificateView) → IsCertificate c → AreWritten (certificate_lines c)
certificate_written c e =
    let limits = (both_true (is_canonical c) (is_limited c) e).1 in
    let functions = both_true (is_limited_header (header_of c) && is_from_to 1 256 (length c.functions) && leb (sum_by label_count c.functions) 65536) (list_all is_limited_function c.functions) limits in
    let labels = both_true (is_limited_header (header_of c) && is_from_to 1 256 (length c.functions)) (leb (sum_by label_count c.functions) 65536) functions.0 in
    let header = both_true (is_limited_header (header_of c)) (is_from_to 1 256 (length c.functions)) labels.0 in (
      header_written (header_of c) header.0,
      written_append (flat_map function_lines c.functions) (Line.end ∷ []) (written_all is_limited_function function_lines c.functions function_written functions.1) (end_written, tt),
    )
