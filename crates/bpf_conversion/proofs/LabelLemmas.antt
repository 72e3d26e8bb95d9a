-- The labels, slot by slot.
use Rattle.std.proofs.Common.{◌≡◌, ℕ, suc, ◌+◌, ◌-◌, ◌<◌, ◌≤◌, List, [], ◌∷◌, ◌++◌, length, true, false, refl, sym, ap, ◌∙◌, arith, append_assoc}
use Rattle.std.specs.Prelude.{map, flat_map}
use Rattle.std.specs.List.{range_with_len}
use Rattle.std.proofs.lemmas.Bool.{cond-true, cond-false}
use Rattle.std.proofs.lemmas.List.{map-append}
use Rattle.bpf_cert.specs.View.{LabelView, label_view}
use Rattle.bpf_cert.specs.declared.certificate.Label.{Label}
use Rattle.bpf_insn.specs.Instruction.{slots}
use Rattle.bpf_classic.specs.Meaning.{Conversion}
use Rattle.bpf_conversion.specs.Claim.{IsConversion, wants_label, label_of, label_if, labels_of}
use Rattle.bpf_conversion.specs.Outline.{AreBegun}
use Rattle.bpf_conversion.proofs.LongestLemmas.{slots_are}
use Rattle.bpf_conversion.proofs.PartLemmas.{narrow, none_begun, begun_later}

-- the labels of the slots in front, and those that are left, are all
pub record LabelsTo (c : Conversion) (templates slot : ℕ) (labels : List Label) : Type 0 where
  pub begun : AreBegun c.starts templates slot
  pub so_far : map label_view labels ++ flat_map (label_if c.layout c.marked c.program.list) (range_with_len slot (length c.program.list - slot)) ≡ labels_of c.layout c.marked c.program.list

pub labels_first : (c : Conversion) → LabelsTo c 0 0 []
labels_first c = record {
  begun = none_begun c.starts 0;
  so_far = (let e : length c.program.list - 0 ≡ length c.program.list = omega arith in ap (λ n. flat_map (label_if c.layout c.marked c.program.list) (range_with_len 0 n)) e);
}

left_more : (c : Conversion) (slot : ℕ) → slot < length c.program.list
    → flat_map (label_if c.layout c.marked c.program.list) (range_with_len slot (length c.program.list - slot))
    ≡ label_if c.layout c.marked c.program.list slot ++ flat_map (label_if c.layout c.marked c.program.list) (range_with_len (slot + 1) (length c.program.list - (slot + 1)))
left_more c slot lt =
    let one : length c.program.list - slot ≡ suc (length c.program.list - (slot + 1)) = omega arith in
    ap (λ n. flat_map (label_if c.layout c.marked c.program.list) (range_with_len slot n)) one

-- a slot that wants no label has none
pub labels_same : (c : Conversion) (templates before slot : ℕ) (labels : List Label) → IsConversion c → slot < slots c.program.list → wants_label c.layout c.marked c.program.list slot ≡ false → AreBegun c.starts templates slot → LabelsTo c before slot labels
    → LabelsTo c templates (slot + 1) labels
labels_same c templates before slot labels is lt none begun h =
    let less : slot < length c.program.list = omega (arith, slots_are c.program.list (narrow c is)) in
    let rest : List LabelView = flat_map (label_if c.layout c.marked c.program.list) (range_with_len (slot + 1) (length c.program.list - (slot + 1))) in
    let nothing = cond-false (wants_label c.layout c.marked c.program.list slot) (label_of c.layout c.marked c.program.list slot ∷ []) [] none in
    record {
      begun = begun_later c.starts templates slot begun;
      so_far = ap (λ xs. map label_view labels ++ xs) (sym (left_more c slot less ∙ ap (λ xs. xs ++ rest) nothing)) ∙ h.so_far;
    }

pub labels_more : (c : Conversion) (templates before slot : ℕ) (labels : List Label) (label : Label) → IsConversion c → slot < slots c.program.list → wants_label c.layout c.marked c.program.list slot ≡ true → AreBegun c.starts templates slot
    → label_view label ≡ label_of c.layout c.marked c.program.list slot → LabelsTo c before slot labels → LabelsTo c templates (slot + 1) (labels ++ label ∷ [])
labels_more c templates before slot labels label is lt some begun here h =
    let less : slot < length c.program.list = omega (arith, slots_are c.program.list (narrow c is)) in
    let all : List LabelView = flat_map (label_if c.layout c.marked c.program.list) (range_with_len slot (length c.program.list - slot)) in
    let rest : List LabelView = flat_map (label_if c.layout c.marked c.program.list) (range_with_len (slot + 1) (length c.program.list - (slot + 1))) in
    let one = cond-true (wants_label c.layout c.marked c.program.list slot) (label_of c.layout c.marked c.program.list slot ∷ []) [] some in
    let next : all ≡ label_view label ∷ rest = left_more c slot less ∙ ap (λ xs. xs ++ rest) one ∙ ap (λ v. v ∷ rest) (sym here) in
    record {
      begun = begun_later c.starts templates slot begun;
      so_far =
          ap (λ xs. xs ++ rest) (map-append label_view labels (label ∷ []))
          ∙ append_assoc (map label_view labels) (label_view label ∷ []) rest
          ∙ ap (λ xs. map label_view labels ++ xs) (sym next)
          ∙ h.so_far;
    }

pub labels_all : (c : Conversion) (templates slot : ℕ) (labels : List Label) → IsConversion c → slots c.program.list ≤ slot → LabelsTo c templates slot labels → map label_view labels ≡ labels_of c.layout c.marked c.program.list
labels_all c templates slot labels is past h =
    let none : length c.program.list - slot ≡ 0 = omega (arith, slots_are c.program.list (narrow c is)) in
    sym (append_nil (map label_view labels)) ∙ ap (λ n. map label_view labels ++ flat_map (label_if c.layout c.marked c.program.list) (range_with_len slot n)) (sym none) ∙ h.so_far
  where
    append_nil : (xs : List LabelView) → xs ++ [] ≡ xs
    append_nil [] = refl
    append_nil (x ∷ xs) = ap (λ ys. x ∷ ys) (append_nil xs)
