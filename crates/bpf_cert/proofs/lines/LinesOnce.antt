-- A certificate's lines are of no other certificate: what they say is the certificate again.
use Rattle.std.proofs.Common.{◌≡◌, ℕ, ◌+◌, ◌^◌, ◌≤◌, Bool, true, false, cond, leb, ltb, List, [], ◌∷◌, ◌++◌, length, map, refl, sym, ap, ◌∙◌, arith, append_assoc, append-nil}
use Rattle.std.specs.Prelude.{◌&&◌, decimal, flat_map, sum_by}
use Rattle.std.specs.List.{list_all}
use Rattle.std.proofs.lemmas.Bool.{leb-true}
use Rattle.bpf_state.specs.declared.known.SlotState.{SlotState}
use Rattle.bpf_state.specs.State.{AbstractState}
use Rattle.bpf_num.specs.Number.{Number as NumberValue}
use Rattle.bpf_cert.specs.declared.certificate.Term.{Term as TermValue}
use Rattle.bpf_cert.specs.Numeral.{number, is_from_to}
use Rattle.bpf_cert.specs.Line.{Number, Term, Line}
use Rattle.bpf_cert.specs.Limits.{is_rising, IsCertificate, is_canonical, is_limited, is_limited_header, is_canonical_state, term_before, is_canonical_label, slot_before, is_canonical_function, first_before, is_limited_num, is_limited_state, is_limited_term, is_limited_label, is_limited_function, label_count}
use Rattle.bpf_cert.specs.View.{LabelView, FunctionView, CertificateView, certificate_of, header_of}
use Rattle.bpf_cert.specs.Spelling.{number_of, content_of, term_of, lengths_of, is_unknown, place_at, contents, lines_from, label_lines, function_lines, certificate_lines}
use Rattle.bpf_cert.proofs.Bools.{both_true}
use Rattle.bpf_cert.proofs.HeaderValues.{header_said, header_again}
use Rattle.bpf_cert.proofs.lines.LineValues.{number_again, number_said, num_again, term_said, terms_again}
use Rattle.bpf_cert.proofs.lines.LineStates.{contents_said, state_said, entries_again}

-- What lines say, read from the last one back: entries whose label comes before them, labels whose function does, and
-- whole functions.
record Told : Type 0 where
  entries : List Line
  labels : List LabelView
  functions : List FunctionView

-- one more of each, in front

abbrev one_entry : Line → Told → Told
one_entry l t = record t { entries = l ∷ t.entries }

abbrev one_label : Told → ℕ → AbstractState → ℕ → List TermValue → Told
one_label t at state base terms = record { entries = []; labels = record { slot = at; state = state; base = base; terms = terms } ∷ t.labels; functions = t.functions }

abbrev one_function : List LabelView → List FunctionView → ℕ → ℕ → NumberValue → Told
one_function ls fs first depth ret = record { entries = []; labels = []; functions = record { first = first; depth = depth; ret = ret; labels = ls } ∷ fs }

abbrev label_line_told : List ℕ → List ℕ → List Term → Told → Told
label_line_told at base terms t = one_label t (number at) (state_said (contents_said 74 0 t.entries)) (number base) (map term_said terms)

abbrev function_line_told : List ℕ → List ℕ → Number → Told → Told
function_line_told first depth ret t = one_function t.labels t.functions (number first) (number depth) (number_said ret)

abbrev told : List Line → Told
told [] = record { entries = []; labels = []; functions = [] }
told (Line.header lengths steps ∷ ls) = told ls
told (Line.function first depth ret ∷ ls) = function_line_told first depth ret (told ls)
told (Line.label at base terms ∷ ls) = label_line_told at base terms (told ls)
told (Line.entry p c ∷ ls) = one_entry (Line.entry p c) (told ls)
told (Line.end ∷ ls) = told ls

-- the lines of a certificate's parts say those parts, whatever stands behind them

entries_told : (j : ℕ) (ss : List SlotState) (rest : List Line) → told (lines_from j ss ++ rest) ≡ record (told rest) { entries = lines_from j ss ++ (told rest).entries }
entries_told j [] rest = refl
entries_told j (s ∷ ss) rest = by_test (is_unknown s) (entries_told (j + 1) ss rest)
  where
    lines : Bool → List Line
    lines b = cond b [] (Line.entry (place_at j) (content_of s) ∷ []) ++ lines_from (j + 1) ss

    by_test : (b : Bool) → told (lines true ++ rest) ≡ record (told rest) { entries = lines true ++ (told rest).entries } → told (lines b ++ rest) ≡ record (told rest) { entries = lines b ++ (told rest).entries }
    by_test true e = e
    by_test false e = ap (one_entry (Line.entry (place_at j) (content_of s))) e

label_told : (l : LabelView) (rest : List Line) → is_canonical_label l ≡ true → is_limited_label l ≡ true → (told rest).entries ≡ []
    → told (label_lines l ++ rest) ≡ record { entries = []; labels = l ∷ (told rest).labels; functions = (told rest).functions }
label_told l rest e h none =
    let a = both_true (leb l.slot 65535 && is_limited_state l.state && leb l.base (2 ^ 40) && leb (length l.terms) 4) (list_all is_limited_term l.terms) h in
    let b = both_true (leb l.slot 65535 && is_limited_state l.state && leb l.base (2 ^ 40)) (leb (length l.terms) 4) a.0 in
    let c = both_true (leb l.slot 65535 && is_limited_state l.state) (leb l.base (2 ^ 40)) b.0 in
    let d = both_true (leb l.slot 65535) (is_limited_state l.state) c.0 in
    let low : l.slot ≤ 65535 = leb-true l.slot 65535 d.0 in
    let few : l.base ≤ 2 ^ 40 = leb-true l.base (2 ^ 40) c.1 in
    let canonical = both_true (is_canonical_state l.state) (is_rising term_before l.terms) e in
    let state = ap (λ ls. state_said (contents_said 74 0 (lines_from 0 (contents l.state) ++ ls))) none ∙ ap (λ ls. state_said (contents_said 74 0 ls)) (append-nil (lines_from 0 (contents l.state))) ∙ entries_again l.state canonical.0 d.1 in
    let line = label_line_told (decimal l.slot) (decimal l.base) (map term_of l.terms) in
    let said = one_label (told rest) in
    ap line (entries_told 0 (contents l.state) rest)
    ∙ ap (λ n. said n (state_said (contents_said 74 0 (lines_from 0 (contents l.state) ++ (told rest).entries))) (number (decimal l.base)) (map term_said (map term_of l.terms))) (number_again l.slot (omega arith))
    ∙ ap (λ s. said l.slot s (number (decimal l.base)) (map term_said (map term_of l.terms))) state
    ∙ ap (λ n. said l.slot l.state n (map term_said (map term_of l.terms))) (number_again l.base (omega arith))
    ∙ ap (said l.slot l.state l.base) (terms_again l.terms a.1)

labels_told : (ls : List LabelView) (rest : List Line) → list_all is_canonical_label ls ≡ true → list_all is_limited_label ls ≡ true → (told rest).entries ≡ []
    → told (flat_map label_lines ls ++ rest) ≡ record { entries = []; labels = ls ++ (told rest).labels; functions = (told rest).functions }
labels_told [] rest e h none = ap (λ es. record (told rest) { entries = es }) none
labels_told (l ∷ ls) rest e h none =
    let canonical = both_true (is_canonical_label l) (list_all is_canonical_label ls) e in
    let limited = both_true (is_limited_label l) (list_all is_limited_label ls) h in
    let after = labels_told ls rest canonical.1 limited.1 none in
    ap told (append_assoc (label_lines l) (flat_map label_lines ls) rest)
    ∙ label_told l (flat_map label_lines ls ++ rest) canonical.0 limited.0 (ap (λ t. t.entries) after)
    ∙ ap (λ t. record { entries = []; labels = l ∷ t.labels; functions = t.functions }) after

functions_told : (fs : List FunctionView) → list_all is_canonical_function fs ≡ true → list_all is_limited_function fs ≡ true
    → told (flat_map function_lines fs ++ Line.end ∷ []) ≡ record { entries = []; labels = []; functions = fs }
functions_told [] e h = refl
functions_told (f ∷ fs) e h =
    let canonical = both_true (is_canonical_function f) (list_all is_canonical_function fs) e in
    let limited = both_true (is_limited_function f) (list_all is_limited_function fs) h in
    let ordered = both_true (is_rising slot_before f.labels) (list_all is_canonical_label f.labels) canonical.0 in
    let a = both_true (leb f.first 65535 && is_from_to 1 8 f.depth && is_limited_num f.ret && ltb 0 (length f.labels)) (list_all is_limited_label f.labels) limited.0 in
    let b = both_true (leb f.first 65535 && is_from_to 1 8 f.depth && is_limited_num f.ret) (ltb 0 (length f.labels)) a.0 in
    let c = both_true (leb f.first 65535 && is_from_to 1 8 f.depth) (is_limited_num f.ret) b.0 in
    let d = both_true (leb f.first 65535) (is_from_to 1 8 f.depth) c.0 in
    let low : f.first ≤ 65535 = leb-true f.first 65535 d.0 in
    let few : f.depth ≤ 8 = leb-true f.depth 8 (both_true (leb 1 f.depth) (leb f.depth 8) d.1).1 in
    let rest = flat_map function_lines fs ++ Line.end ∷ [] in
    let after = functions_told fs canonical.1 limited.1 in
    let inside = labels_told f.labels rest ordered.1 a.1 (ap (λ t. t.entries) after) ∙ ap (λ t. record { entries = []; labels = f.labels ++ t.labels; functions = t.functions }) after
    ∙ ap (λ ls. record { entries = []; labels = ls; functions = fs }) (append-nil f.labels) in
    let said = one_function f.labels fs in
    ap told (append_assoc (function_lines f) (flat_map function_lines fs) (Line.end ∷ []))
    ∙ ap (function_line_told (decimal f.first) (decimal f.depth) (number_of f.ret)) inside
    ∙ ap (λ n. said n (number (decimal f.depth)) (number_said (number_of f.ret))) (number_again f.first (omega arith))
    ∙ ap (λ n. said f.first n (number_said (number_of f.ret))) (number_again f.depth (omega arith))
    ∙ ap (said f.first f.depth) (num_again f.ret c.1)

-- the certificate that lines are of
abbrev certificate_said : List Line → CertificateView
certificate_said (Line.header lengths steps ∷ ls) = certificate_of (header_said lengths steps) (told ls).functions
certificate_said ls = certificate_of (record { version = 0; least = 0; most = 0; steps = 0 }) (told ls).functions

certificate_again : (c : CertificateView) → IsCertificate c → certificate_said (certificate_lines c) ≡ c
certificate_again c valid =
    let parts = both_true (is_canonical c) (is_limited c) valid in
    let ordered = both_true (is_rising first_before c.functions) (list_all is_canonical_function c.functions) parts.0 in
    let a = both_true (is_limited_header (header_of c) && is_from_to 1 256 (length c.functions) && leb (sum_by label_count c.functions) 65536) (list_all is_limited_function c.functions) parts.1 in
    let b = both_true (is_limited_header (header_of c) && is_from_to 1 256 (length c.functions)) (leb (sum_by label_count c.functions) 65536) a.0 in
    let d = both_true (is_limited_header (header_of c)) (is_from_to 1 256 (length c.functions)) b.0 in
    ap (λ t. certificate_of (header_said (lengths_of c.version c.least c.most) (decimal c.steps)) t.functions) (functions_told c.functions ordered.1 a.1)
    ∙ ap (λ h. certificate_of h c.functions) (header_again (header_of c) d.0)

-- two certificates with the same lines are one
pub lines_once : (c d : CertificateView) → IsCertificate c → IsCertificate d → certificate_lines c ≡ certificate_lines d → c ≡ d
lines_once c d p q e = sym (certificate_again c p) ∙ ap certificate_said e ∙ certificate_again d q
