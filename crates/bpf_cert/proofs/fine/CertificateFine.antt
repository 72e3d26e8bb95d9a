-- Each line of a certificate is fine behind those before it.
use Rattle.std.proofs.Common.{◌≡◌, ℕ, ◌+◌, ◌<◌, ◌≤◌, true, false, cond, not, leb, ltb, List, [], ◌∷◌, ◌++◌, length, flat_map, Option, Some, None, refl, ap, subst, ◌∙◌, arith}
use Rattle.std.specs.Prelude.{decimal, count_by, sum_by}
use Rattle.std.specs.List.{list_all}
use Rattle.std.proofs.lemmas.Bool.{leb-true, lt-ltb}
use Rattle.std.proofs.lemmas.List.Sums.{sum_by-cons}
use Rattle.bpf_cert.specs.Numeral.{is_from_to}
use Rattle.bpf_cert.specs.Line.{Line}
use Rattle.bpf_cert.specs.Faults.{comes_after, is_function}
use Rattle.bpf_cert.specs.Limits.{is_rising, IsCertificate, is_canonical, is_limited, is_canonical_function, is_canonical_label, is_limited_function, is_limited_label, is_limited_num, slot_before, first_before, label_count}
use Rattle.bpf_cert.specs.View.{LabelView, FunctionView, CertificateView, header_of}
use Rattle.bpf_cert.specs.Spelling.{label_lines, function_line, function_lines, header_line, certificate_lines, number_of}
use Rattle.bpf_cert.specs.code.Standing.{is_start, may_have_label}
use Rattle.bpf_cert.specs.declared.header.Header.{Header}
use Rattle.bpf_cert.specs.declared.standing.Stage.{Stage}
use Rattle.bpf_cert.specs.declared.standing.Stage.TheVariants as stage
use Rattle.bpf_cert.proofs.Bools.{both_true}
use Rattle.bpf_cert.proofs.AfterLemmas.{IsFine}
use Rattle.bpf_cert.proofs.fine.FineLines.{AreFine}
use Rattle.bpf_cert.proofs.StandingLemmas.{stand_function, stand_end}
use Rattle.bpf_cert.proofs.fine.FineParts.{decimal_writes, number_good}
use Rattle.bpf_cert.proofs.HeaderValues.{header_fine}
use Rattle.bpf_cert.proofs.fine.FineOrder.{Tells, Runs, back, runs_none, runs_one, runs_append, is_end_stage, ended_is, is_bare_stage, bare_is, label_runs}

-- the labels of a function, one at least, and what they tell but for the last one's slot
labels_run : (l : LabelView) (ls : List LabelView) (before : List Line) (s : Stage) (first at : Option ℕ) (functions labels : ℕ) → Tells before s first at functions labels → may_have_label s ≡ true → is_end_stage s ≡ false
    → comes_after ltb at l.slot ≡ true → labels + length (l ∷ ls) ≤ 65536 → is_rising slot_before (l ∷ ls) ≡ true → list_all is_canonical_label (l ∷ ls) ≡ true → list_all is_limited_label (l ∷ ls) ≡ true
    → (last : Option ℕ) × Runs before (flat_map label_lines (l ∷ ls)) stage.Label first last functions (labels + length (l ∷ ls))
labels_run l [] before s first at functions labels t may going order room rising canonical limited =
    let r = label_runs l before s first at functions labels t may going order (omega arith) (both_true (is_canonical_label l) true canonical).0 (both_true (is_limited_label l) true limited).0 in
    (Some l.slot, runs_append before (label_lines l) [] stage.Label first (Some l.slot) functions (labels + 1) r.fine (runs_none _ stage.Label first (Some l.slot) functions (labels + 1) r.tells))
labels_run l (m ∷ ms) before s first at functions labels t may going order room rising canonical limited =
    let c = both_true (is_canonical_label l) (list_all is_canonical_label (m ∷ ms)) canonical in
    let d = both_true (is_limited_label l) (list_all is_limited_label (m ∷ ms)) limited in
    let up = both_true (slot_before l m) (is_rising slot_before (m ∷ ms)) rising in
    let r = label_runs l before s first at functions labels t may going order (omega arith) c.0 d.0 in
    let rest = labels_run m ms (back (label_lines l) before) stage.Label first (Some l.slot) functions (labels + 1) r.tells refl refl up.0 (omega arith) up.1 c.1 d.1 in
    let count : labels + 1 + length (m ∷ ms) ≡ labels + length (l ∷ m ∷ ms) = omega arith in (
      rest.0,
      runs_append before (label_lines l) (flat_map label_lines (m ∷ ms)) stage.Label first rest.0 functions (labels + length (l ∷ m ∷ ms)) r.fine
          (subst (λ k. Runs (back (label_lines l) before) (flat_map label_lines (m ∷ ms)) stage.Label first rest.0 functions k) count rest.1),
    )

-- a function stands behind the header, or behind another one's labels
abbrev MayHaveFunction : Stage → Type 0
MayHaveFunction s = (is_start s ≡ false) × (is_end_stage s ≡ false) × (is_bare_stage s ≡ false)

record IsWithin (f : FunctionView) : Type 0 where
  first : leb f.first 65535 ≡ true
  depth : is_from_to 1 8 f.depth ≡ true
  ret : is_limited_num f.ret ≡ true
  some : ltb 0 (length f.labels) ≡ true
  labels : list_all is_limited_label f.labels ≡ true

within : (f : FunctionView) → is_limited_function f ≡ true → IsWithin f
within f e =
    let a = both_true _ (list_all is_limited_label f.labels) e in
    let b = both_true _ (ltb 0 (length f.labels)) a.0 in
    let c = both_true _ (is_limited_num f.ret) b.0 in
    let d = both_true (leb f.first 65535) (is_from_to 1 8 f.depth) c.0 in
    record { first = d.0; depth = d.1; ret = c.1; some = b.1; labels = a.1 }

function_fine : (f : FunctionView) (before : List Line) (s : Stage) (first at : Option ℕ) (functions labels : ℕ) → Tells before s first at functions labels → MayHaveFunction s → comes_after ltb first f.first ≡ true → functions < 256
    → IsWithin f → IsFine before (function_line f)
function_fine f before s first at functions labels t may order room w =
    let low : f.first ≤ 65535 = leb-true f.first 65535 w.first in
    let few : f.depth ≤ 8 = leb-true f.depth 8 (both_true (leb 1 f.depth) (leb f.depth 8) w.depth).1 in
    let x = decimal_writes f.first (omega arith) in
    let y = decimal_writes f.depth (omega arith) in
    let z = number_good f.ret w.ret in
    record {
      stands = stand_function before (decimal f.first) (decimal f.depth) (number_of f.ret) ∙ ap (λ u. not (is_start u)) t.stage ∙ ap not may.0;
      canonical = rw (x.plain, y.plain, z.0) refl;
      order = rw (t.first, x.same) order;
      limited = rw (x.same, y.same, w.first, w.depth, z.1) refl;
      room = rw (t.functions, lt-ltb functions 256 room, bare_is before, t.stage, may.2) refl;
    }

plus_one : (k : ℕ) → 1 + k ≡ k + 1
plus_one k = omega arith

function_tells : (f : FunctionView) (before : List Line) (s : Stage) (first at : Option ℕ) (functions labels : ℕ) → Tells before s first at functions labels → f.first ≤ 65535 → Tells (function_line f ∷ before) stage.Function (Some f.first) None (functions + 1) labels
function_tells f before s first at functions labels t low = let x = decimal_writes f.first (omega arith) in record {
  stage = refl;
  first = ap Some x.same;
  at = refl;
  functions = sum_by-cons (λ x. cond (is_function x) 1 0) (function_line f) before ∙ plus_one (count_by is_function before) ∙ ap (λ k. k + 1) t.functions;
  labels = t.labels;
}

labels_of : (ls : List LabelView) (before : List Line) (first : Option ℕ) (functions labels : ℕ) → Tells before stage.Function first None functions labels → ltb 0 (length ls) ≡ true
    → labels + length ls ≤ 65536 → is_rising slot_before ls ≡ true → list_all is_canonical_label ls ≡ true → list_all is_limited_label ls ≡ true
    → (last : Option ℕ) × Runs before (flat_map label_lines ls) stage.Label first last functions (labels + length ls)
labels_of [] before first functions labels t some room rising canonical limited = cc
labels_of (l ∷ ls) before first functions labels t some room rising canonical limited = labels_run l ls before stage.Function first None functions labels t refl refl refl room rising canonical limited

function_runs : (f : FunctionView) (before : List Line) (s : Stage) (first at : Option ℕ) (functions labels : ℕ) → Tells before s first at functions labels → MayHaveFunction s → comes_after ltb first f.first ≡ true → functions < 256
    → labels + length f.labels ≤ 65536 → is_canonical_function f ≡ true → is_limited_function f ≡ true
    → (last : Option ℕ) × Runs before (function_lines f) stage.Label (Some f.first) last (functions + 1) (labels + length f.labels)
function_runs f before s first at functions labels t may order room more canonical limited =
    let w = within f limited in
    let c = both_true (is_rising slot_before f.labels) (list_all is_canonical_label f.labels) canonical in
    let told = function_tells f before s first at functions labels t (leb-true f.first 65535 w.first) in
    let r = labels_of f.labels (function_line f ∷ before) (Some f.first) (functions + 1) labels told w.some more c.0 c.1 w.labels in
    (r.0, record { fine = (ended_is before ∙ ap is_end_stage t.stage ∙ may.1, function_fine f before s first at functions labels t may order room w, (r.1).fine); tells = (r.1).tells })

-- functions, one at least, and what they tell but for the last one's slots
functions_run : (f : FunctionView) (fs : List FunctionView) (before : List Line) (s : Stage) (first at : Option ℕ) (functions labels : ℕ) → Tells before s first at functions labels → MayHaveFunction s → comes_after ltb first f.first ≡ true
    → functions + length (f ∷ fs) ≤ 256 → labels + sum_by label_count (f ∷ fs) ≤ 65536 → is_rising first_before (f ∷ fs) ≡ true → list_all is_canonical_function (f ∷ fs) ≡ true → list_all is_limited_function (f ∷ fs) ≡ true
    → (ends : Option ℕ) × (last : Option ℕ) × Runs before (flat_map function_lines (f ∷ fs)) stage.Label ends last (functions + length (f ∷ fs)) (labels + sum_by label_count (f ∷ fs))
functions_run f [] before s first at functions labels t may order room more rising canonical limited =
    let count : sum_by label_count (f ∷ []) ≡ length f.labels + sum_by label_count [] = sum_by-cons label_count f [] in
    let r = function_runs f before s first at functions labels t may order (omega arith) (omega arith) (both_true (is_canonical_function f) true canonical).0 (both_true (is_limited_function f) true limited).0 in
    let all : labels + length f.labels ≡ labels + sum_by label_count (f ∷ []) = omega arith in (
      Some f.first,
      r.0,
      runs_append before (function_lines f) [] stage.Label (Some f.first) r.0 (functions + 1) (labels + sum_by label_count (f ∷ [])) (r.1).fine
          (runs_none _ stage.Label (Some f.first) r.0 (functions + 1) (labels + sum_by label_count (f ∷ [])) (subst (λ k. Tells (back (function_lines f) before) stage.Label (Some f.first) r.0 (functions + 1) k) all (r.1).tells)),
    )
functions_run f (g ∷ gs) before s first at functions labels t may order room more rising canonical limited =
    let count : sum_by label_count (f ∷ g ∷ gs) ≡ length f.labels + sum_by label_count (g ∷ gs) = sum_by-cons label_count f (g ∷ gs) in
    let c = both_true (is_canonical_function f) (list_all is_canonical_function (g ∷ gs)) canonical in
    let d = both_true (is_limited_function f) (list_all is_limited_function (g ∷ gs)) limited in
    let up = both_true (first_before f g) (is_rising first_before (g ∷ gs)) rising in
    let r = function_runs f before s first at functions labels t may order (omega arith) (omega arith) c.0 d.0 in
    let rest = functions_run g gs (back (function_lines f) before) stage.Label (Some f.first) r.0 (functions + 1) (labels + length f.labels) (r.1).tells (refl, refl, refl) up.0 (omega arith) (omega arith) up.1 c.1 d.1 in
    let many : functions + 1 + length (g ∷ gs) ≡ functions + length (f ∷ g ∷ gs) = omega arith in
    let all : labels + length f.labels + sum_by label_count (g ∷ gs) ≡ labels + sum_by label_count (f ∷ g ∷ gs) = omega arith in (
      rest.0,
      rest.1,
      runs_append before (function_lines f) (flat_map function_lines (g ∷ gs)) stage.Label rest.0 rest.1 (functions + length (f ∷ g ∷ gs)) (labels + sum_by label_count (f ∷ g ∷ gs)) (r.1).fine
          (subst (λ n. Runs (back (function_lines f) before) (flat_map function_lines (g ∷ gs)) stage.Label rest.0 rest.1 n (labels + sum_by label_count (f ∷ g ∷ gs))) many
          (subst (λ k. Runs (back (function_lines f) before) (flat_map function_lines (g ∷ gs)) stage.Label rest.0 rest.1 (functions + 1 + length (g ∷ gs)) k) all rest.2)),
    )

end_fine : (before : List Line) (first at : Option ℕ) (functions labels : ℕ) → Tells before stage.Label first at functions labels → 0 < functions → IsFine before Line.end
end_fine before first at functions labels t some = record {
  stands = stand_end before ∙ ap (λ u. not (is_start u)) t.stage;
  canonical = refl;
  order = refl;
  limited = refl;
  room = rw (t.functions, lt-ltb 0 functions some, bare_is before, t.stage) refl;
}

header_tells : (h : Header) → Tells (header_line h ∷ []) stage.Header None None 0 0
header_tells h = record { stage = refl; first = refl; at = refl; functions = refl; labels = refl }

-- the functions behind the header, and the end behind them
ended : (fs : List FunctionView) (before : List Line) → Tells before stage.Header None None 0 0 → is_from_to 1 256 (length fs) ≡ true → sum_by label_count fs ≤ 65536
    → is_rising first_before fs ≡ true → list_all is_canonical_function fs ≡ true → list_all is_limited_function fs ≡ true → AreFine before (flat_map function_lines fs ++ Line.end ∷ [])
ended [] before t few more rising canonical limited = cc
ended (f ∷ fs) before t few more rising canonical limited =
    let high : length (f ∷ fs) ≤ 256 = leb-true (length (f ∷ fs)) 256 (both_true (leb 1 (length (f ∷ fs))) (leb (length (f ∷ fs)) 256) few).1 in
    let r = functions_run f fs before stage.Header None None 0 0 t (refl, refl, refl) refl (omega arith) (omega arith) rising canonical limited in
    let told = (r.2).tells in
    (runs_append before (flat_map function_lines (f ∷ fs)) (Line.end ∷ []) stage.Ended r.0 r.1 (length (f ∷ fs)) (sum_by label_count (f ∷ fs)) (r.2).fine
    (runs_one (back (flat_map function_lines (f ∷ fs)) before) Line.end stage.Ended r.0 r.1 (length (f ∷ fs)) (sum_by label_count (f ∷ fs))
    (ended_is (back (flat_map function_lines (f ∷ fs)) before) ∙ ap is_end_stage told.stage)
    (end_fine (back (flat_map function_lines (f ∷ fs)) before) r.0 r.1 (0 + length (f ∷ fs)) (0 + sum_by label_count (f ∷ fs)) told (omega arith))
    (record { stage = refl; first = told.first; at = told.at; functions = told.functions ∙ omega arith; labels = told.labels ∙ omega arith }))).fine

pub certificate_fine : (c : CertificateView) → IsCertificate c → AreFine [] (certificate_lines c)
certificate_fine c e =
    let both = both_true (is_canonical c) (is_limited c) e in
    let order = both_true (is_rising first_before c.functions) (list_all is_canonical_function c.functions) both.0 in
    let x = both_true _ (list_all is_limited_function c.functions) both.1 in
    let y = both_true _ (leb (sum_by label_count c.functions) 65536) x.0 in
    let z = both_true _ (is_from_to 1 256 (length c.functions)) y.0 in
    (refl, header_fine (header_of c) z.0, ended c.functions (header_line (header_of c) ∷ []) (header_tells (header_of c)) z.1 (leb-true (sum_by label_count c.functions) 65536 y.1) order.0 order.1 x.1)
