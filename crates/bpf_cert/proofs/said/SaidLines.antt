-- Fine lines up to `end` are a certificate's.
use Rattle.std.proofs.Common.{◌≡◌, ℕ, ◌+◌, ◌<◌, ◌≤◌, true, cond, not, ltb, List, [], ◌∷◌, ◌++◌, length, flat_map, None, refl, sym, ap, ◌∙◌, arith}
use Rattle.std.specs.Prelude.{count_by, sum_by}
use Rattle.std.specs.List.{list_all}
use Rattle.std.proofs.lemmas.Bool.{ltb-true, le-leb}
use Rattle.std.proofs.lemmas.List.Sums.{sum_by-cons}
use Rattle.bpf_cert.specs.Numeral.{is_from_to}
use Rattle.bpf_cert.specs.Line.{Line, Lengths, is_line}
use Rattle.bpf_cert.specs.Faults.{is_function, is_label, ends_bare, is_limited_place, is_limited_content}
use Rattle.bpf_cert.specs.View.{CertificateView, certificate_of}
use Rattle.bpf_cert.specs.Limits.{IsCertificate, label_count}
use Rattle.bpf_cert.specs.Spelling.{lines_from, label_lines, function_lines, certificate_lines}
use Rattle.bpf_cert.specs.code.Standing.{stage_of, is_start}
use Rattle.bpf_cert.proofs.Bools.{both_true}
use Rattle.bpf_cert.proofs.HeaderValues.{header_said, header_back}
use Rattle.bpf_cert.proofs.AfterLemmas.{IsFine}
use Rattle.bpf_cert.proofs.fine.FineLines.{AreFine}
use Rattle.bpf_cert.proofs.StandingLemmas.{stand_header}
use Rattle.bpf_cert.proofs.said.SaidSteps.{first_of, rises, not_both, Here, Said, said_end, said_entry, said_label, said_function, nothing}

-- nothing is fine behind `end`
not_behind : (before front : List Line) → AreFine (Line.end ∷ before) (front ++ Line.end ∷ []) → ⊥
not_behind before [] f = let no = f.0 in cc
not_behind before (l ∷ ls) f = let no = f.0 in cc

said : (front before : List Line) → AreFine before (front ++ Line.end ∷ []) → list_all is_line front ≡ true → Here before → Said before (front ++ Line.end ∷ [])
said [] before f form here = said_end before here f.1
said (Line.header lengths steps ∷ ls) before f form here = absurd (not_both (is_start (stage_of before)) (sym (stand_header before lengths steps) ∙ f.1.stands) here.going)
said (Line.function first depth ret ∷ ls) before f form here =
    let parts = both_true (is_line (Line.function first depth ret)) (list_all is_line ls) form in
    let fine = f.1 in
    let more : count_by is_function (Line.function first depth ret ∷ before) ≡ 1 + count_by is_function before = sum_by-cons (λ x. cond (is_function x) 1 0) (Line.function first depth ret) before in
    let few : count_by is_function before < 256 = ltb-true (count_by is_function before) 256 (both_true (ltb (count_by is_function before) 256) (not (ends_bare before)) fine.room).0 in
    said_function before (ls ++ Line.end ∷ []) first depth ret here fine parts.0 (said ls (Line.function first depth ret ∷ before) f.2 parts.1 (record { going = refl; functions = omega arith; labels = here.labels; place = tt }))
said (Line.label at base terms ∷ ls) before f form here =
    let parts = both_true (is_line (Line.label at base terms)) (list_all is_line ls) form in
    let fine = f.1 in
    let more : count_by is_label (Line.label at base terms ∷ before) ≡ 1 + count_by is_label before = sum_by-cons (λ x. cond (is_label x) 1 0) (Line.label at base terms) before in
    let few : count_by is_label before < 65536 = ltb-true (count_by is_label before) 65536 fine.room in
    said_label before (ls ++ Line.end ∷ []) at base terms here fine parts.0 (said ls (Line.label at base terms ∷ before) f.2 parts.1 (record { going = refl; functions = here.functions; labels = omega arith; place = tt }))
said (Line.entry p c ∷ ls) before f form here =
    let parts = both_true (is_line (Line.entry p c)) (list_all is_line ls) form in
    let fine = f.1 in
    let limited = both_true (is_limited_place p) (is_limited_content c) fine.limited in
    said_entry before (ls ++ Line.end ∷ []) p c here fine parts.0 (said ls (Line.entry p c ∷ before) f.2 parts.1 (record { going = refl; functions = here.functions; labels = here.labels; place = limited.0 }))
said (Line.end ∷ ls) before f form here = absurd (not_behind before ls f.2)

-- the certificate that fine lines are of
pub record AreOf (ls : List Line) (c : CertificateView) : Type 0 where
  pub valid : IsCertificate c
  pub same : certificate_lines c ≡ ls

behind_header : (lengths : Lengths) (steps : List ℕ) (ls : List Line) → IsFine [] (Line.header lengths steps) → is_line (Line.header lengths steps) ≡ true → Said (Line.header lengths steps ∷ []) ls → (c : CertificateView) × AreOf (Line.header lengths steps ∷ ls) c
behind_header lengths steps ls fine is s =
    let head = header_back lengths steps fine is in
    let none : s.entries ≡ [] = nothing s.entries s.places.long in
    let tail = flat_map function_lines s.functions ++ Line.end ∷ [] in
    let behind : ls ≡ tail = s.same ∙ ap (λ cs. lines_from 74 cs ++ (flat_map label_lines s.labels ++ tail)) none ∙ ap (λ xs. flat_map label_lines xs ++ tail) (s.header refl) in
    let most : 0 + length s.functions ≤ 256 = s.few_functions in
    let least : 0 < 0 + length s.functions = s.some_functions in
    let labels : 0 + (length s.labels + sum_by label_count s.functions) ≤ 65536 = s.few_labels in
    let sum : sum_by label_count s.functions ≤ 65536 = omega arith in
    let count : is_from_to 1 256 (length s.functions) ≡ true = rw (le-leb 1 (length s.functions) (omega arith), le-leb (length s.functions) 256 (omega arith)) refl in (
      certificate_of (header_said lengths steps) s.functions,
      record {
        valid = rw (rises first_of None s.functions s.firsts, s.canonical_functions, head.0, count, le-leb (sum_by label_count s.functions) 65536 sum, s.limited_functions) refl;
        same = ap (λ z. z ∷ tail) head.1 ∙ ap (λ z. Line.header lengths steps ∷ z) (sym behind);
      },
    )

pub lines_said : (front : List Line) → AreFine [] (front ++ Line.end ∷ []) → list_all is_line front ≡ true → (c : CertificateView) × AreOf (front ++ Line.end ∷ []) c
lines_said [] f form = let no = f.1.stands in cc
lines_said (Line.header lengths steps ∷ ls) f form =
    let parts = both_true (is_line (Line.header lengths steps)) (list_all is_line ls) form in
    behind_header lengths steps (ls ++ Line.end ∷ []) f.1 parts.0 (said ls (Line.header lengths steps ∷ []) f.2 parts.1 (record { going = refl; functions = omega arith; labels = omega arith; place = tt }))
lines_said (Line.function first depth ret ∷ ls) f form = let no = f.1.stands in cc
lines_said (Line.label at base terms ∷ ls) f form = let no = f.1.stands in cc
lines_said (Line.entry p c ∷ ls) f form = let no = f.1.stands in cc
lines_said (Line.end ∷ ls) f form = let no = f.1.stands in cc
